-- Lists whose numbers are within a bound: all zeros, and one number stored. And a part of a table that is filled with marks. Assumes nothing.
use mathlib.Core.Path.{◌≡◌, sym, ap, subst, ◌∙◌}
use mathlib.Core.List.{List, ◌++◌}
use Prim.Native.Nat.{ℕ, ◌+◌, ◌-◌, ◌≤◌, ◌<◌}
use native.Mathlib.Decide.{ℕ_discrete, dec_lt}
use native.Mathlib.Omega.{arith}
use lib.IntN.{ℤ, pos}
use lib.ListN.{length, get_or, set, replicate, take, drop}
use borrow.Rule.Slice.PartMut.{put_mid, post_of}
use Rattle.std.proofs.Common.{length-take-le}
use Rattle.std.proofs.lemmas.List.{length-replicate, get_or-append_right, get_or_append_left, get_or-take, get_or-drop, get_or-replicate}
use lib.Seq.{get_or-set_same, get_or-set_other}
use Rattle.numbers.specs.Within.{Within}
use Rattle.vectors.specs.Triples.{AllWithin}
use Rattle.ranking_votes.specs.ProgressLaws.{at-zeros}

pub within-zeros : (n b : ℕ) → AllWithin b (replicate n (pos 0))
within-zeros n b = record { at = λ k. subst (Within b) (sym (at-zeros (pos 0) n k)) (record { within = omega arith }) }

at_set : {b : ℕ} (l : List ℤ) (j k : ℕ) (x : ℤ) → j < length l → AllWithin b l → Within b x → Dec (k ≡ j) → Within b (get_or (set l j x) k (pos 0))
at_set {b} l j k x h all near (yes e) = subst (Within b) (sym (ap (λ (n : ℕ). get_or (set l j x) n (pos 0)) e ∙ get_or-set_same l j x (pos 0) h)) near
at_set {b} l j k x h all near (no d) = subst (Within b) (sym (get_or-set_other l j k x (pos 0) d)) (all.at k)

pub within-set : {b : ℕ} (l : List ℤ) (j : ℕ) (x : ℤ) → j < length l → AllWithin b l → Within b x → AllWithin b (set l j x)
within-set l j x h all near = record { at = λ k. at_set l j k x h all near (ℕ_discrete k j) }

-- ---- a part of a table that is filled with marks: k places from place a on

abbrev pub filled : List ℕ → ℕ → ℕ → List ℕ
filled near a k = put_mid a k near (replicate k 1)

module _ (near : List ℕ) (a k : ℕ) (inside : a + k ≤ length near) where
  front : length (take a near) ≡ a
  front = length-take-le a near (omega arith)

  pub filled_at : (m : ℕ) → a ≤ m → m < a + k → get_or (filled near a k) m 0 ≡ 1
  filled_at m low high =
      get_or-append_right (take a near) (replicate k 1 ++ post_of a k near) a m 0 front low
      ∙ get_or_append_left (replicate k 1) (post_of a k near) 0 (m - a) (omega (arith, length-replicate {A = ℕ} k 1))
      ∙ get_or-replicate k (m - a) 1 0 (omega arith)

  -- what is marked stays so
  pub still_marked : (m : ℕ) → get_or near m 0 ≡ 1 → get_or (filled near a k) m 0 ≡ 1
  still_marked m e = go (dec_lt m a) (dec_lt m (a + k))
    where
      go : Dec (m < a) → Dec (m < a + k) → get_or (filled near a k) m 0 ≡ 1
      go (yes l) d = get_or_append_left (take a near) (replicate k 1 ++ post_of a k near) 0 m (omega (arith, front)) ∙ get_or-take a near m 0 l ∙ e
      go (no n) (yes l) = filled_at m (omega arith) l
      go (no n) (no l) =
          get_or-append_right (take a near) (replicate k 1 ++ post_of a k near) a m 0 front (omega arith)
          ∙ get_or-append_right (replicate k 1) (post_of a k near) k (m - a) 0 (length-replicate {A = ℕ} k 1) (omega arith)
          ∙ get_or-drop k (drop a near) (m - a - k) 0
          ∙ get_or-drop a near (k + (m - a - k)) 0
          ∙ ap (λ (n : ℕ). get_or near n 0) (omega arith)
          ∙ e
