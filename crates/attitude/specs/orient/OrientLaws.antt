-- Where at least two directions are assigned, the first and the second assigned direction are two of them. Assumes nothing.
use Rattle.std.specs.Prelude.{Bool, ◌&&◌, ◌≡◌, List, ltb}
use Rattle.std.proofs.Math.Bool.{true, false}
use Rattle.std.proofs.Math.Path.{refl}
use Rattle.std.proofs.Common.{sym, ◌∙◌, leb-true, le-leb, ltb-true}
use Prim.Native.Nat.{ℕ, zero, suc, ◌+◌, ◌≤◌, ◌<◌, zero-le}
use Rattle.std.proofs.Math.Decide.{dec_le}
use Rattle.std.proofs.Math.Numerals.{add-one}
use native.Mathlib.Omega.{arith}
use Rattle.std.proofs.Math.Dec.{leb}
use Rattle.lists.specs.Contradiction.{contradiction}
use Rattle.lists.specs.First.{First, first}
use Rattle.lists.proofs.First.{first-is}
use Rattle.search_theory.specs.Order.{at}
use Rattle.search_theory.specs.Problem.{one, assigned}
use Rattle.lists.specs.TestsLaws.{and_left, and_right}
use Rattle.attitude.specs.orient.Orient.{assigned_from, first_assigned, second_assigned}

module _ (words : List ℕ) (stars directions : ℕ) where
  abbrev taken : ℕ → ℕ → Bool
  taken from i = leb from i && ltb (at words i) stars

  is-first : (from : ℕ) → First (taken from) directions (assigned_from words stars directions from)
  unfolding assigned_from
  is-first from = first-is (taken from) directions

  -- what it finds has a star, from the place on
  pub from-taken : (from : ℕ) → assigned_from words stars directions from < directions → (from ≤ assigned_from words stars directions from)
      × (at words (assigned_from words stars directions from) < stars)
  from-taken from h =
      let r = assigned_from words stars directions from in
      let t = (is-first from).taken h in
      (leb-true from r (and_left (leb from r) (ltb (at words r) stars) t), ltb-true (at words r) stars (and_right (leb from r) (ltb (at words r) stars) t))

  -- where nothing from a place on has a star, the assigned ones stand before it
  none_after : (from n : ℕ) → from ≤ n → ((i : ℕ) → i < n → taken from i ≡ false) → assigned stars words n ≡ assigned stars words from
  unfolding assigned
  none_after from zero h f = let e : from ≡ 0 = omega arith in rw e
  none_after from (suc n) h f = go (dec_le from n) (none_after from n)
    where
      one_none : (a : Bool) (l : Bool) → a ≡ true → a && l ≡ false → one l ≡ 0
      one_none true true p e = contradiction (cc)
      one_none true false p e = refl
      one_none false l p e = contradiction (cc)

      go : Dec (from ≤ n) → (from ≤ n → ((i : ℕ) → i < n → taken from i ≡ false) → assigned stars words n ≡ assigned stars words from)
          → assigned stars words n + one (ltb (at words n) stars) ≡ assigned stars words from
      go (yes p) r = omega (arith, r p (λ i l. f i (omega arith)), one_none (leb from n) (ltb (at words n) stars) (le-leb from n p) (f n (omega arith)))
      go (no p) r = let e : from ≡ suc n = omega arith in rw e

  not_found : (from : ℕ) → from ≤ directions → assigned_from words stars directions from ≡ directions
      → assigned stars words directions ≡ assigned stars words from
  not_found from h e = none_after from directions h (λ i l. (is-first from).none i (rw e l))

  at_most_one : (b : Bool) → one b ≤ 1
  at_most_one true = omega arith
  at_most_one false = omega arith

  -- nothing before the first is assigned, so that it and what stands before it are at most one
  up-to-first : (n : ℕ) → n ≤ first_assigned words stars directions → assigned stars words n ≡ 0
  unfolding assigned
  up-to-first zero h = refl
  up-to-first (suc n) h = omega (arith, up-to-first n (omega arith), unset (ltb (at words n) stars) ((is-first 0).none n (omega arith)))
    where
      unset : (l : Bool) → leb 0 n && l ≡ false → one l ≡ 0
      unset true e = contradiction (cc (le-leb 0 n zero-le))
      unset false e = refl

  assigned-next : (n : ℕ) → assigned stars words (n + 1) ≡ assigned stars words n + one (ltb (at words n) stars)
  unfolding assigned
  assigned-next n = rw add-one

  past_first : assigned stars words (first_assigned words stars directions + 1) ≤ 1
  past_first = omega (
    arith,
    assigned-next (first_assigned words stars directions),
    up-to-first (first_assigned words stars directions) (omega arith),
    at_most_one (ltb (at words (first_assigned words stars directions)) stars),
  )

  pub first-within : 1 ≤ assigned stars words directions → first_assigned words stars directions < directions
  first-within h = by (dec_le directions (first_assigned words stars directions))
    where
      by : Dec (directions ≤ first_assigned words stars directions) → first_assigned words stars directions < directions
      by (yes l) = omega (arith, up-to-first directions l)
      by (no l) = omega arith

  pub second-within : 2 ≤ assigned stars words directions → second_assigned words stars directions < directions
  second-within h = by (dec_le directions (second_assigned words stars directions))
    where
      by : Dec (directions ≤ second_assigned words stars directions) → second_assigned words stars directions < directions
      by (yes l) =
          let f = first-within (omega arith) in
          let m = (is-first (first_assigned words stars directions + 1)).most in
          omega (arith, not_found (first_assigned words stars directions + 1) (omega arith) (omega arith), past_first)
      by (no l) = omega arith
