-- How the counters grow, star by star. Assumes nothing.
use Rattle.std.specs.Prelude.{cond, ◌≡◌, List, [], ℕ, zero, suc, ◌+◌, ◌*◌, ◌≤◌, ◌<◌, ltb, ℤ, pos, length, get_or, replicate}
use Rattle.std.proofs.Math.Bool.{and-false}
use Rattle.std.proofs.Math.Path.{refl}
use Rattle.std.proofs.Common.{sym, ap, ◌∙◌, arith, lt-ltb, le-ltb, ne_eqb, eq-eqb, ext_get_or}
use Rattle.std.proofs.Math.Nat.{le_trans}
use Rattle.std.proofs.Math.ListN.{get_or-eq_default}
use Rattle.vectors.specs.Triples.{triples, pair_dot}
use Rattle.vectors.specs.Laws.{pair_comm}
use Rattle.lists.specs.Number.{pairs}
use Rattle.lists.proofs.NumberLaws.{number-most, number-none, pairs_next, pairs-most, pairs-same}
use Rattle.ranking_votes.specs.Votes.{other, is_vote, votes_of, counters_of}
use Rattle.ranking_votes.specs.Laws.{firsts-length, firsts_at}
use Rattle.ranking_votes.specs.Progress.{Setting, setting, vote_by, from, between, so_far}

module _ (g : Setting) where
  pub from-none : (a : ℕ) → from g 0 a ≡ 0
  unfolding from pairs
  from-none a = refl

  pub between-comm : (a b : ℕ) → between g a b ≡ between g b a
  unfolding between
  between-comm a b = rw (pair_comm g.stars a b)

  -- another star adds what the pair gives, the star itself nothing
  pub from-other : (n a : ℕ) → (n ≡ a → ⊥) → from g (n + 1) a ≡ from g n a + between g a n
  unfolding from between
  from-other n a h = pairs_next g.count n (vote_by g a) ∙ rw (ne_eqb n a h)

  pub from-self : (a : ℕ) → from g (a + 1) a ≡ from g a a
  unfolding from
  from-self a =
      let z = number-none g.count (λ j. vote_by g a j a) (λ j l. rw (eq-eqb a a refl) (and-false (other j g.i))) in
      omega (arith, pairs_next g.count a (vote_by g a))

  pub from-most : (n a : ℕ) → g.count ≤ 8 → from g n a ≤ 8 * n
  unfolding from
  from-most n a h = pairs-most 8 g.count n (vote_by g a) (λ b. le_trans (number-most g.count _) h)

  pub between-most : (a b : ℕ) → between g a b ≤ g.count
  unfolding between
  between-most a b = number-most g.count _

  pub so-far-within : (n k : ℕ) → k < n → so_far g n k ≡ from g n k
  unfolding so_far
  so-far-within n k h = rw (lt-ltb k n h)

  pub so-far-beyond : (n k : ℕ) → n ≤ k → so_far g n k ≡ 0
  unfolding so_far
  so-far-beyond n k h = rw (le-ltb k n h)

pub at-zeros : {A : Type 0} (z : A) (n k : ℕ) → get_or (replicate n z) k z ≡ z
at-zeros z zero k = get_or-eq_default [] z {n = k} (omega arith)
at-zeros z (suc n) zero = refl
at-zeros z (suc n) (suc k) = at-zeros z n k

-- counters at zero, of which no star is counted
pub none-counted : (g : Setting) (k : ℕ) → get_or (replicate 512 0) k 0 ≡ so_far g 0 k
none-counted g k = at-zeros 0 512 k ∙ sym (so-far-beyond g 0 k (omega arith))

-- where all stars are counted by the products of direction i, the counters are the votes for it
pub all-counted : (directions stars products : List ℤ) (votes : List ℕ) (tolerance i : ℕ)
    → ((j : ℕ) → j < triples directions → get_or products j (pos 0) ≡ pair_dot directions i j)
    → length votes ≡ 512
    → ((k : ℕ) → get_or votes k 0 ≡ so_far (setting products (triples directions) i stars tolerance) (triples stars) k)
    → votes ≡ counters_of directions stars tolerance i
unfolding counters_of votes_of so_far from
all-counted directions stars products votes tolerance i h l e =
    ext_get_or 0 votes _ (l ∙ sym (firsts-length 512 _))
    (λ k n. e k ∙ ap (λ (v : ℕ). cond (ltb k (triples stars)) v 0) (same k) ∙ sym (firsts_at 512 _ k (omega arith)))
  where
    same : (k : ℕ) → pairs (triples directions) (triples stars) (vote_by (setting products (triples directions) i stars tolerance) k)
        ≡ pairs (triples directions) (triples stars) (is_vote directions stars tolerance i k)
    same k = pairs-same (triples directions) (triples stars) _ _ (λ j b m. rw (h j m))
