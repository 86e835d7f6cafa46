-- EVERY DIRECTION IS NEARLY A UNIT: of every accepted position and lens, x² + y² + z² is within 5 x 10^11 of 10^18; and by the focal length F within k,
-- where k is at least 4 x 10^9 and F k at least 7,812,500 x 10^9. Assumes nothing.
use Rattle.std.specs.Prelude.{Bool, true, false, ◌≡◌, refl, ℕ, ◌*◌, ◌≤◌, ℤ, pos, ◌-ℤ◌}
use Rattle.std.proofs.Common.{sym, ◌∙◌, arith, lit≤}
use Rattle.lists.specs.Contradiction.{contradiction}
use Rattle.vectors.specs.declared.Vec3.{Vec3}
use Rattle.vectors.specs.Unit.{NearlyUnit}
use Rattle.camera_direction.specs.Settings.{position_ok}
use Rattle.camera_direction.specs.Position.{toward_of}
use Rattle.camera_direction.specs.Direction as whole
use Rattle.camera_direction.specs.Direction.{out_of_range}
use Rattle.camera_direction.proofs.DirectionLaws.{centre-out, position-out, in-range}
use Rattle.camera_direction.proofs.LengthLaws.{toward-unit-by}
use Rattle.camera_lens.specs.declared.Lens.{Lens}
use Rattle.camera_lens.specs.Lens.{lens_ok, focal_number}
use Rattle.camera_lens.proofs.Laws.{focal-range}
use Rattle.camera_direction.specs.camera.Camera.{direction_of, lens_out}
use Rattle.camera_direction.proofs.camera.Laws.{lens-out, by_whole}
use Rattle.std.specs.Prelude.{Ok}
use Rattle.refusal.specs.declared.Refusal.{Refusal}

module _ (cx cy : ℤ) (l : Lens) (x y : ℤ) (v : Vec3) (h : direction_of cx cy l x y ≡ Ok v) where
  abbrev f : ℕ
  f = focal_number l

  -- what is found is the direction of a position, through a lens in range
  found-toward : (lens_ok l ≡ true) × (v ≡ toward_of (x -ℤ cx) (y -ℤ cy) (pos f))
  found-toward = by (lens_ok l) (position_ok cx cy) (position_ok x y) refl refl refl
    where
      by : (t c p : Bool) → lens_ok l ≡ t → position_ok cx cy ≡ c → position_ok x y ≡ p → (lens_ok l ≡ true) × (v ≡ toward_of (x -ℤ cx) (y -ℤ cy) (pos f))
      by false c p e g k = let d : lens_out ≡ Ok v = sym (lens-out cx cy l x y e) ∙ h in contradiction (cc)
      by true false p e g k = let d : out_of_range ≡ Ok v = sym (by_whole cx cy l x y e ∙ centre-out cx cy (pos f) x y g) ∙ h in contradiction (cc)
      by true true false e g k = let d : out_of_range ≡ Ok v = sym (by_whole cx cy l x y e ∙ position-out cx cy (pos f) x y k) ∙ h in contradiction (cc)
      by true true true e g k =
          let d : Ok (toward_of (x -ℤ cx) (y -ℤ cy) (pos f)) ≡ Ok v = sym (by_whole cx cy l x y e ∙ in-range cx cy (pos f) x y g k) ∙ h in
          (e, cc)

  pub found-unit-by : (k : ℕ) → 4000000000 ≤ k → 7812500000000000 ≤ f * k → NearlyUnit k v
  found-unit-by k least long = rw found-toward.1 (toward-unit-by (x -ℤ cx) (y -ℤ cy) (pos f) k least long)

  pub found-unit : NearlyUnit 500000000000 v
  found-unit = let r = focal-range l found-toward.0 in found-unit-by 500000000000 (lit≤ tt) (omega (arith, r.0))
