-- The votes of a part of the directions as a sum over them, and the two parts together. Assumes nothing.
use Rattle.std.proofs.Math.Bool.{Bool}
use Rattle.std.specs.Prelude.{true, false, cond, not, ◌&&◌, ◌≡◌, refl, List, ltb, ℤ, pos, negsuc, length, get_or}
use Rattle.std.proofs.Common.{sym, ◌∙◌, arith, eq-eqb, ne_eqb}
use Prim.Native.Nat.{ℕ, zero, suc, ◌+◌, ◌/◌, ◌≤◌, ◌<◌}
use Rattle.std.proofs.Math.Decide.{ℕ_discrete}
use Rattle.numbers.specs.Within.{Within}
use Rattle.vectors.specs.Triples.{triples, Listed, pair_dot}
use Rattle.vectors.specs.Agree.{agreeing}
use Rattle.lists.specs.Number.{one, number, pairs}
use Rattle.lists.proofs.NumberLaws.{number-none, number-most}
use Rattle.ranking_votes.specs.Votes.{other}
use Rattle.ranking_votes.specs.Progress.{Setting, vote_by, from, so_far}
use Rattle.catalogue_index.specs.records.Format.{high_at, encoded}
use Rattle.catalogue_index.specs.records.Order.{sorted}
use Rattle.catalogue_index.specs.records.Read.{Bytes, low-most}
use Rattle.catalogue_index.specs.Raised.{raised}
use Rattle.catalogue_index.specs.Index.{pairs_of}
use Rattle.catalogue_index.specs.IndexSteps.{pairs-most}
use Rattle.catalogue_index.specs.Check.{RecordOk}
use Rattle.catalogue_index.specs.CheckLaws.{index-size, ok-all}
use Rattle.ranking_by_index.specs.votes.Span.{sum_to, Usable}
use Rattle.ranking_by_index.specs.votes.Pair.{pair_votes, plain_votes, adds, votes_by}
use Rattle.ranking_by_index.specs.votes.SpanLaws.{sum-none, sum_bound}
use Rattle.ranking_by_index.specs.votes.Plain.{sum_same}

-- ---- numbers

pub raised-within : {z : ℤ} → Within 3000000000000000000 z → (6223372036854775808 ≤ raised z) × (raised z ≤ 12223372036854775808)
unfolding raised
raised-within {z = pos n} h = (omega (arith, h.within), omega (arith, h.within))
raised-within {z = negsuc n} h = (omega (arith, h.within), omega (arith, h.within))

-- ---- an index that is the catalogue's can be used

module _ (stars : List ℤ) (floor : ℕ) (bytes : List ℕ) (s : Listed 512 stars) (b : Bytes bytes)
    (e : bytes ≡ encoded (sorted (pairs_of stars floor (triples stars)))) where
  ok : (k : ℕ) → k < length bytes / 12 → RecordOk stars floor bytes k
  ok k h = ok-all stars floor bytes s b e k (omega (arith, index-size stars floor bytes s b e))

  rising : (j k : ℕ) → j ≤ k → k < length bytes / 12 → high_at bytes j ≤ high_at bytes k
  rising j zero h l = let d : j ≡ 0 = omega arith in rw d (omega arith)
  rising j (suc k) h l = go (ℕ_discrete j (suc k)) (λ m. rising j k m (omega arith))
    where
      go : Dec (j ≡ suc k) → (j ≤ k → high_at bytes j ≤ high_at bytes k) → high_at bytes j ≤ high_at bytes (suc k)
      go (yes d) f = rw d (omega arith)
      go (no d) f = omega (arith, f (omega arith), (ok (suc k) l).rises k refl, low-most bytes (suc k) b, low-most bytes k b)

  pub index-usable : Usable 512 bytes
  index-usable =
      record {
        first = λ k h. omega (arith, (ok k h).pair.order, (ok k h).pair.inside, s.few);
        second = λ k h. omega (arith, (ok k h).pair.inside, s.few);
        rising = rising;
      }

  pub index-few : length bytes / 12 ≤ 262144
  index-few = omega (arith, index-size stars floor bytes s b e, s.few, pairs-most stars floor (triples stars) s.few)

-- ---- the sum over the directions

sum-add : (n : ℕ) (f g : ℕ → ℕ) → sum_to n (λ k. f k + g k) ≡ sum_to n f + sum_to n g
unfolding sum_to
sum-add zero f g = refl
sum-add (suc n) f g = omega (arith, sum-add n f g)

sum-zero : (n : ℕ) → sum_to n (λ k. 0) ≡ 0
unfolding sum_to
sum-zero zero = refl
sum-zero (suc n) = omega (arith, sum-zero n)

number-sum : (n : ℕ) (test : ℕ → Bool) → number n test ≡ sum_to n (λ k. one (test k))
unfolding number sum_to
number-sum zero test = refl
number-sum (suc n) test = omega (arith, number-sum n test)

pairs-swap : (m n : ℕ) (test : ℕ → ℕ → Bool) → pairs m n test ≡ sum_to m (λ j. number n (test j))
unfolding pairs number
pairs-swap m zero test = sym (sum-zero m)
pairs-swap m (suc n) test =
    omega (arith, pairs-swap m n test, number-sum m (λ j. test j n), sum-add m (λ j. number n (test j)) (λ j. one (test j n)))

module _ (mine : ℤ → Bool) (q : ℤ) (stars : List ℤ) (tolerance i c j : ℕ) where
  pub adds-self : j ≡ i → adds mine q stars tolerance i c j ≡ 0
  unfolding adds
  adds-self e = rw (eq-eqb j i e)

  pub adds-passed : (j ≡ i → ⊥) → mine q ≡ true → adds mine q stars tolerance i c j ≡ plain_votes stars q tolerance c
  unfolding adds
  adds-passed d e = rw (ne_eqb j i d, e)

  pub adds-failed : (j ≡ i → ⊥) → mine q ≡ false → adds mine q stars tolerance i c j ≡ 0
  unfolding adds
  adds-failed d e = rw (ne_eqb j i d, e)

  -- it adds not many
  pub adds-most : triples stars ≤ 512 → adds mine q stars tolerance i c j ≤ 512
  unfolding adds plain_votes pair_votes
  adds-most h = go (other j i) (mine q) (ltb c (triples stars))
    where
      test : ℕ → Bool
      test b = other b c && agreeing q (pair_dot stars c b) tolerance

      go : (s t u : Bool) → cond s (cond t (cond u (number (triples stars) test) 0) 0) 0 ≤ 512
      go true true true = omega (arith, number-most (triples stars) test)
      go true true false = omega arith
      go true false u = omega arith
      go false t u = omega arith

module _ (mine : ℤ → Bool) (g : Setting) (c : ℕ) where
  -- the product of direction j
  abbrev product_at : ℕ → ℤ
  product_at j = get_or g.products j (pos 0)

  -- what direction j adds
  abbrev added : ℕ → ℕ
  added j = adds mine (product_at j) g.stars g.tolerance g.i c j

  -- the votes of a part are what its directions add
  pub by-sum : votes_by mine g c ≡ sum_to g.count added
  unfolding votes_by adds plain_votes pair_votes
  by-sum = go (ltb c (triples g.stars))
    where
      n : ℕ
      n = triples g.stars

      test : ℕ → ℕ → Bool
      test j b = other b c && agreeing (product_at j) (pair_dot g.stars c b) g.tolerance

      one-part : (j : ℕ) (s t : Bool) → number n (λ b. t && (s && test j b)) ≡ cond s (cond t (number n (test j)) 0) 0
      one-part j true true = refl
      one-part j true false = number-none n (λ b. false) (λ k h. refl)
      one-part j false true = number-none n (λ b. false) (λ k h. refl)
      one-part j false false = number-none n (λ b. false) (λ k h. refl)

      nothing : (s t : Bool) → ◌≡◌ {A = ℕ} (cond s (cond t 0 0) 0) 0
      nothing true true = refl
      nothing true false = refl
      nothing false t = refl

      go : (u : Bool) → cond u (pairs g.count n (λ j b. mine (product_at j) && vote_by g c j b)) 0
          ≡ sum_to g.count (λ j. cond (other j g.i) (cond (mine (product_at j)) (cond u (number n (test j)) 0) 0) 0)
      go true =
          pairs-swap g.count n (λ j b. mine (product_at j) && vote_by g c j b)
          ∙ sum_same g.count _ _ (λ j h. one-part j (other j g.i) (mine (product_at j)))
      go false = sym (sum-none g.count _ (λ j h. nothing (other j g.i) (mine (product_at j))))

  pub by_most : g.count ≤ 8 → triples g.stars ≤ 512 → votes_by mine g c ≤ 4096
  by_most h l = omega (arith, by-sum, sum_bound 512 g.count added (λ j m. adds-most mine (product_at j) g.stars g.tolerance g.i c j l))

-- ---- the two parts

number-split : (n : ℕ) (t f : ℕ → Bool) → number n (λ j. t j && f j) + number n (λ j. not (t j) && f j) ≡ number n f
unfolding number
number-split zero t f = refl
number-split (suc n) t f = omega (arith, number-split n t f, go (t n))
  where
    go : (b : Bool) → one (b && f n) + one (not b && f n) ≡ one (f n)
    go true = omega arith
    go false = omega arith

pairs-split : (m n : ℕ) (t : ℕ → Bool) (f : ℕ → ℕ → Bool) → pairs m n (λ j b. t j && f j b) + pairs m n (λ j b. not (t j) && f j b) ≡ pairs m n f
unfolding pairs
pairs-split m zero t f = refl
pairs-split m (suc n) t f = omega (arith, pairs-split m n t f, number-split m t (λ j. f j n))

-- a part and the rest together are all votes
pub both-parts : (mine : ℤ → Bool) (g : Setting) (c : ℕ) → votes_by mine g c + votes_by (λ q. not (mine q)) g c ≡ so_far g (triples g.stars) c
unfolding votes_by so_far from
both-parts mine g c = go (ltb c (triples g.stars))
  where
    go : (u : Bool) → cond u (pairs g.count (triples g.stars) (λ j b. mine (get_or g.products j (pos 0)) && vote_by g c j b)) 0
        + cond u (pairs g.count (triples g.stars) (λ j b. not (mine (get_or g.products j (pos 0))) && vote_by g c j b)) 0
        ≡ cond u (pairs g.count (triples g.stars) (vote_by g c)) 0
    go true = pairs-split g.count (triples g.stars) (λ j. mine (get_or g.products j (pos 0))) (vote_by g c)
    go false = refl
