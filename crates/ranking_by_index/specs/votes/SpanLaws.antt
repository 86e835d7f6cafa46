-- The votes of a span record by record. Assumes nothing.
use Rattle.std.specs.Prelude.{Bool, ◌&&◌, ◌≡◌, refl, List, ℕ, zero, suc, ◌+◌, ◌*◌, ◌/◌, ◌%◌, ◌≤◌, ◌<◌, eqb, ℤ, length, get_or, set}
use Rattle.std.proofs.Math.Bool.{true, false, cond, and-false}
use Rattle.std.proofs.Common.{◌∙◌, suc-mul, add-one, get_or-set_same, get_or-set_other}
use Rattle.std.proofs.Math.Decide.{ℕ_discrete}
use native.Mathlib.Omega.{arith}
use borrow.Author.Tests.{le-leb, lt-leb, eq-eqb, ne_eqb}
use Rattle.std.proofs.Math.Dec.{leb}
use Rattle.lists.specs.Number.{one}
use Rattle.lists.proofs.NumberLaws.{one-most}
use Rattle.vectors.specs.Triples.{pair_dot}
use Rattle.catalogue_index.specs.Raised.{raised}
use Rattle.ranking_by_index.specs.votes.Span.{named, given, sum_to, in_span, meets, row_votes}

pub sum-next : (n : ℕ) (f : ℕ → ℕ) → sum_to (n + 1) f ≡ sum_to n f + f n
unfolding sum_to
sum-next n f = rw add-one

pub sum-none : (n : ℕ) (f : ℕ → ℕ) → ((k : ℕ) → k < n → f k ≡ 0) → sum_to n f ≡ 0
unfolding sum_to
sum-none zero f h = refl
sum-none (suc n) f h = omega (arith, sum-none n f (λ k l. h k (omega arith)), h n (omega arith))

-- from m on none gives anything
pub sum-rest : (m n : ℕ) (f : ℕ → ℕ) → m ≤ n → ((k : ℕ) → m ≤ k → k < n → f k ≡ 0) → sum_to n f ≡ sum_to m f
unfolding sum_to
sum-rest m zero f l h = let e : m ≡ 0 = omega arith in rw e
sum-rest m (suc n) f l h = go (ℕ_discrete m (suc n)) (λ k. sum-rest m n f k (λ j p q. h j p (omega arith)))
  where
    go : Dec (m ≡ suc n) → (m ≤ n → sum_to n f ≡ sum_to m f) → sum_to (suc n) f ≡ sum_to m f
    go (yes e) i = rw e
    go (no d) i = omega (arith, i (omega arith), h n (omega arith) (omega arith))

pub sum-most : (n m : ℕ) (f : ℕ → ℕ) → ((k : ℕ) → f k ≤ 2) → sum_to n f ≤ n + n
unfolding sum_to
sum-most zero m f h = omega arith
sum-most (suc n) m f h = omega (arith, sum-most n m f h, h n)

module _ (lower upper c high ends : ℕ) where
  pub given-in : lower ≤ high → high ≤ upper → given lower upper c high ends ≡ named c ends
  unfolding given
  given-in p q = rw (le-leb lower high p, le-leb high upper q)

  pub given_below : high < lower → given lower upper c high ends ≡ 0
  unfolding given
  given_below p = rw (lt-leb lower high p)

  pub given_above : upper < high → given lower upper c high ends ≡ 0
  unfolding given
  given_above p = rw (lt-leb high upper p, and-false (leb lower high))

  pub named-most : named c ends ≤ 2
  unfolding named
  named-most = omega (arith, one-most (eqb c (ends / 65536)), one-most (eqb c (ends % 65536)))

  pub given-most : given lower upper c high ends ≤ 2
  unfolding given
  given-most = go (leb lower high && leb high upper)
    where
      go : (t : Bool) → cond t (named c ends) 0 ≤ 2
      go true = named-most
      go false = omega arith

-- one more at place a
pub raised_at : (l : List ℕ) (a c : ℕ) → a < length l → get_or (set l a (get_or l a 0 + 1)) c 0 ≡ get_or l c 0 + one (eqb c a)
raised_at l a c h = go (ℕ_discrete c a)
  where
    go : Dec (c ≡ a) → get_or (set l a (get_or l a 0 + 1)) c 0 ≡ get_or l c 0 + one (eqb c a)
    go (yes e) = rw (eq-eqb c a e, e) (get_or-set_same l a (get_or l a 0 + 1) 0 h)
    go (no d) = rw (ne_eqb c a d) (get_or-set_other l a c (get_or l a 0 + 1) 0 d ∙ omega arith)

pub sum_bound : (m n : ℕ) (f : ℕ → ℕ) → ((k : ℕ) → k < n → f k ≤ m) → sum_to n f ≤ n * m
unfolding sum_to
sum_bound m zero f h = omega arith
sum_bound m (suc n) f h = omega (arith, sum_bound m n f (λ k l. h k (omega arith)), h n (omega arith), suc-mul n m)

pub sum-empty : (x : ℕ) (f : ℕ → ℕ) → x ≡ x + sum_to 0 f
unfolding sum_to
sum-empty x f = omega arith

-- ---- one pair of stars

module _ (stars : List ℤ) (lower upper c b a : ℕ) where
  pub meets-below : raised (pair_dot stars a b) < lower → meets (in_span stars lower upper) c b a ≡ 0
  meets-below h = rw (lt-leb lower (raised (pair_dot stars a b)) h)

  pub meets-above : upper < raised (pair_dot stars a b) → meets (in_span stars lower upper) c b a ≡ 0
  meets-above h = rw (lt-leb (raised (pair_dot stars a b)) upper h, and-false (leb lower (raised (pair_dot stars a b))))

  pub meets-in : lower ≤ raised (pair_dot stars a b) → raised (pair_dot stars a b) ≤ upper → a < 65536 → b < 65536
      → named c (65536 * a + b) ≡ meets (in_span stars lower upper) c b a
  unfolding named
  meets-in h k p q =
      let x : (65536 * a + b) / 65536 ≡ a = omega arith in
      let y : (65536 * a + b) % 65536 ≡ b = omega arith in
      rw (le-leb lower (raised (pair_dot stars a b)) h, le-leb (raised (pair_dot stars a b)) upper k) (λ i. one (eqb c (x i)) + one (eqb c (y i)))

  pub meets-most : meets (in_span stars lower upper) c b a ≤ 2
  meets-most = go (in_span stars lower upper a b)
    where
      go : (t : Bool) → cond t (one (eqb c a) + one (eqb c b)) 0 ≤ 2
      go true = omega (arith, one-most (eqb c a), one-most (eqb c b))
      go false = omega arith

pub row-most : (stars : List ℤ) (lower upper c b : ℕ) → row_votes stars lower upper c b ≤ b * 2
unfolding row_votes
row-most stars lower upper c b = sum_bound 2 b _ (λ a h. meets-most stars lower upper c b a)
