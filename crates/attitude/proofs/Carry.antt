-- The matrix carries the catalogue's first star to the direction in which the camera saw it, within 18 x 10^9 of 10^18 and what the star's length is off.
-- Assumes nothing.
use Rattle.std.specs.Prelude.{◌≡◌, ℕ, ◌+◌, ◌*◌, ◌≤◌, ℤ, pos, ◌-ℤ◌, ◌*ℤ◌}
use Rattle.std.proofs.Common.{ap, arith, lit<}
use Rattle.numbers.specs.Within.{Within, within-add, within-mul}
use Rattle.numbers.specs.Split.{within-as}
use Rattle.vectors.specs.declared.Vec3.{Vec3}
use Rattle.vectors.specs.Vectors.{Within3, dot_of}
use Rattle.vectors.specs.Laws.{dot-comm}
use Rattle.vectors.specs.Symbols.{mix_of}
use Rattle.vectors.specs.Unit.{NearlyUnit}
use Rattle.attitude.specs.Side.{axes_of}
use Rattle.attitude.specs.Entries.{row_by}
use Rattle.attitude.proofs.Bounds.{axes-within}
use Rattle.attitude.specs.Attitude.{matrix_of}
use Rattle.attitude.specs.Nearly.{Apart, Carries}
use Rattle.attitude.specs.Identities.{dot-mix}
use Rattle.attitude.specs.Upright.{over-near-from}
use Rattle.attitude.proofs.Upright.{second-upright, third-upright}

module _ {l : ℕ} (v w : Vec3) (h : Apart v w) (u : NearlyUnit l v) where
  abbrev one : ℤ
  one = pos 1000000000

  row_carries :
      {a b c : ℤ} →
      Within 1000000000 a → Within 1000000000 b → Within 2000000000 c → Within (l + 18000000000) (dot_of (row_by a b c (axes_of v w)) v -ℤ one *ℤ a)
  unfolding axes_of
  row_carries {a} {b} {c} i j k =
      let t = axes_of v w in
      within-as (ap (λ (s : ℤ). s -ℤ one *ℤ a) (dot-comm v (row_by a b c t)))
      (over-near-from (one *ℤ a) v (mix_of a b c t.t1 t.t2 t.t3) (lit< tt) h.first
      (within-as (dot-mix one a b c v t.t1 t.t2 t.t3)
      (within-add (within-add (within-mul i u.length) (within-mul j (second-upright v w h))) (within-mul k (third-upright v w h.first))))
      (omega arith))

pub carries : {l : ℕ} (v1 v2 w1 w2 : Vec3) → Within3 1000000000 v1 → Apart w1 w2 → NearlyUnit l w1 → Carries (l + 18000000000) (matrix_of v1 v2 w1 w2) w1 v1
unfolding matrix_of axes_of
carries v1 v2 w1 w2 i h u =
    let a = axes-within v1 v2 i in
    record {
      x = row_carries w1 w2 h u a.t1.x a.t2.x a.t3.x;
      y = row_carries w1 w2 h u a.t1.y a.t2.y a.t3.y;
      z = row_carries w1 w2 h u a.t1.z a.t2.z a.t3.z;
    }
