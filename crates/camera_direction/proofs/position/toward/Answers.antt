-- N is not 0, and each product fits. Assumes nothing.
use Rattle.std.specs.Prelude.{◌≡◌, ℕ, ◌<◌, ℤ, pos, nat_abs, ◌<ℤ◌}
use Rattle.std.proofs.Common.{ap, ◌∙◌, arith, w64, to_z, of_z}
use Rattle.numbers.specs.Abs.{positive-size}
use Rattle.numbers.specs.Within.{Within}
use Rattle.numbers.specs.Num.{Num, num, arg, lit, mul, quot, fits, back, divides}
use Rattle.camera_direction.specs.Position.{norm_of, toward_of}
use Rattle.camera_direction.specs.PositionLaws.{covers-f, norm-small}
use Rattle.camera_direction.proofs.position.toward.Goals as goal

module _ {x y f : ℤ} {n : ℕ} (p : Within 523776 x) (q : Within 523776 y) (r : Within 4194304 f)
    (e : n ≡ norm_of (to_z w64 (of_z w64 x)) (to_z w64 (of_z w64 y)) (to_z w64 (of_z w64 f))) where
  -- N
  abbrev N : Num w64
  N =
      let same = e ∙ (λ i. norm_of (back (arg {w = w64} p tt) i) (back (arg {w = w64} q tt) i) (back (arg {w = w64} r tt) i)) in
      num (ap pos same) (record { within = norm-small x y f p q r }) tt

  some : pos 0 <ℤ f → 0 < nat_abs N.z
  some h = omega (arith, covers-f x y f, positive-size h)

pub overflow_cast-n : goal.overflow_cast-n
overflow_cast-n c = let r = c.requires in fits (N r.within r.within_2 r.within_3 c.norm-n.ensures)

pub nonzero_div-result : goal.nonzero_div-result
nonzero_div-result c =
    let r = c.requires in
    let n = N r.within r.within_2 r.within_3 c.norm-n.ensures in
    divides (mul (lit (pos 256000000000) tt) (arg {w = w64} r.within tt) tt) n (some r.within r.within_2 r.within_3 c.norm-n.ensures r.pos_bound) tt

pub nonzero_div-result-2 : goal.nonzero_div-result-2
nonzero_div-result-2 c =
    let r = c.requires in
    let n = N r.within r.within_2 r.within_3 c.norm-n.ensures in
    divides (mul (lit (pos 256000000000) tt) (arg {w = w64} r.within_2 tt) tt) n (some r.within r.within_2 r.within_3 c.norm-n.ensures r.pos_bound) tt

pub nonzero_div-result-3 : goal.nonzero_div-result-3
nonzero_div-result-3 c =
    let r = c.requires in
    let n = N r.within r.within_2 r.within_3 c.norm-n.ensures in
    divides (mul (lit (pos 256000000000) tt) (arg {w = w64} r.within_3 tt) tt) n (some r.within r.within_2 r.within_3 c.norm-n.ensures r.pos_bound) tt

pub returns : goal.returns
unfolding toward_of
returns c =
    let r = c.requires in
    let n = N r.within r.within_2 r.within_3 c.norm-n.ensures in
    λ i. record {
      x = back (quot (mul (lit (pos 256000000000) tt) (arg {w = w64} r.within tt) tt) n tt) i;
      y = back (quot (mul (lit (pos 256000000000) tt) (arg {w = w64} r.within_2 tt) tt) n tt) i;
      z = back (quot (mul (lit (pos 256000000000) tt) (arg {w = w64} r.within_3 tt) tt) n tt) i;
    }
