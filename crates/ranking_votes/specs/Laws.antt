-- What the counters are, star by star, and how many votes there can be. Assumes nothing.
use Rattle.std.proofs.Math.Bool.{and-false}
use Rattle.std.specs.Prelude.{◌≡◌, refl, List, [], ◌∷◌, ◌++◌, ℕ, zero, suc, ◌*◌, ◌≤◌, ◌<◌, ℤ, length, get_or}
use Rattle.std.proofs.Common.{◌∙◌, not-suc-le-zero, arith, length-append, lt-ltb, le-ltb, eq-eqb}
use Rattle.std.proofs.Math.Decide.{ℕ_discrete}
use Rattle.std.proofs.Math.ListN.{get_or-append}
use Rattle.std.proofs.lemmas.List.{get_or_at}
use Rattle.lists.proofs.NumberLaws.{number-none, number-but, pairs-but}
use Rattle.vectors.specs.Triples.{triples}
use Rattle.ranking_votes.specs.Votes.{other, is_vote, votes_of, firsts, counters_of}

pub firsts-length : (n : ℕ) (f : ℕ → ℕ) → length (firsts n f) ≡ n
unfolding firsts
firsts-length zero f = refl
firsts-length (suc n) f = length-append (firsts n f) (f n ∷ []) ∙ rw (firsts-length n f) (omega arith)

pub firsts_at : (n : ℕ) (f : ℕ → ℕ) (k : ℕ) → k < n → get_or (firsts n f) k 0 ≡ f k
unfolding firsts
firsts_at zero f k h = absurd (not-suc-le-zero h)
firsts_at (suc n) f k h = go (firsts_at n f k) (ℕ_discrete k n)
  where
    go : (k < n → get_or (firsts n f) k 0 ≡ f k) → Dec (k ≡ n) → get_or (firsts n f ++ (f n ∷ [])) k 0 ≡ f k
    go i (yes e) = rw e (get_or_at (firsts n f) (f n) [] 0 n (firsts-length n f))
    go i (no d) =
        let l : k < n = omega arith in
        get_or-append (firsts n f) (f n ∷ []) 0 k (rw (firsts-length n f) l) ∙ i l

pub counters-length : (directions stars : List ℤ) (tolerance i : ℕ) → length (counters_of directions stars tolerance i) ≡ 512
unfolding counters_of
counters-length directions stars tolerance i = firsts-length 512 _

-- the counter of a star of the catalogue is its votes, one beyond the stars is zero
pub counter-within : (directions stars : List ℤ) (tolerance i a : ℕ) → a < triples stars → triples stars ≤ 512
    → get_or (counters_of directions stars tolerance i) a 0 ≡ votes_of directions stars tolerance i a
unfolding counters_of
counter-within directions stars tolerance i a h most = firsts_at 512 _ a (omega arith) ∙ rw (lt-ltb a (triples stars) h)

pub counter-beyond : (directions stars : List ℤ) (tolerance i a : ℕ) → triples stars ≤ a → a < 512 → get_or (counters_of directions stars tolerance i) a 0 ≡ 0
unfolding counters_of
counter-beyond directions stars tolerance i a h most = firsts_at 512 _ a most ∙ rw (le-ltb a (triples stars) h)

-- 7 other directions and 511 other stars
pub votes-most : (directions stars : List ℤ) (tolerance i a : ℕ) → i < triples directions → triples directions ≤ 8 → a < triples stars → triples stars ≤ 512
    → votes_of directions stars tolerance i a ≤ 7 * 511
unfolding votes_of
votes-most directions stars tolerance i a h m l n =
    omega (
      arith,
      pairs-but 7 (triples directions) (triples stars) (is_vote directions stars tolerance i a) a l
          (λ b. below (number-but (triples directions) (λ j. is_vote directions stars tolerance i a j b) i h (rw (eq-eqb i i refl))))
          (number-none (triples directions) (λ j. is_vote directions stars tolerance i a j a) (λ j k. rw (eq-eqb a a refl) (and-false (other j i)))),
    )
  where
    below : {k : ℕ} → k < triples directions → k ≤ 7
    below g = omega arith
