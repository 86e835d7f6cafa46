-- What the direction of a position is: refusal 5 exactly where the centre or the position is out of range, else the direction, whose numbers
-- are within ±10^9. Assumes nothing.
use Rattle.std.specs.Prelude.{Bool, true, false, ◌&&◌, ◌≡◌, ℤ, ◌-ℤ◌}
use Rattle.std.proofs.Math.Bool.{not, and-false}
use Rattle.std.proofs.Math.Path.{refl, ap}
use Rattle.std.proofs.Common.{sym, subst, ◌∙◌}
use Rattle.lists.specs.Contradiction.{contradiction}
use Rattle.refusal.specs.declared.Refusal.{Refusal}
use Rattle.refusal.specs.Numbers.{settings}
use Rattle.refusal.specs.Table.{first_applying, answered}
use Rattle.refusal.specs.Laws.{Silent}
use Rattle.refusal.proofs.Laws.{applying-here, silent-accepted}
use Rattle.refusal.specs.AnswerLaws.{answer_by}
use Rattle.refusal.proofs.AnswerLaws.{answered-by}
use Rattle.vectors.specs.declared.Vec3.{Vec3}
use Rattle.vectors.specs.Vectors.{Within3}
use Rattle.camera_direction.specs.Settings.{position_ok}
use Rattle.camera_direction.specs.SettingsLaws.{Position, ok-position, position-ok}
use Rattle.camera_direction.specs.Position.{toward_of}
use Rattle.camera_direction.proofs.PositionLaws.{toward-within}
use Rattle.camera_direction.specs.Direction.{refusals_of, direction_of, out_of_range, direction_answer, answer_for}
use Rattle.std.specs.Prelude.{Result, Ok, Err}

module _ (cx cy f x y : ℤ) where
  given : {o : Result Unit Refusal} → first_applying (refusals_of cx cy x y) ≡ o → direction_of cx cy f x y ≡ answered Err (Ok (toward_of (x -ℤ cx) (y -ℤ cy) f)) o
  unfolding direction_of
  given e = ap (λ (o : Result Unit Refusal). answered Err (Ok (toward_of (x -ℤ cx) (y -ℤ cy) f)) o) e

  out : position_ok cx cy && position_ok x y ≡ false → direction_of cx cy f x y ≡ out_of_range
  unfolding refusals_of
  out e = given (applying-here _ _ (ap not e))

  pub centre-out : position_ok cx cy ≡ false → direction_of cx cy f x y ≡ out_of_range
  centre-out e = out (rw e)

  pub position-out : position_ok x y ≡ false → direction_of cx cy f x y ≡ out_of_range
  position-out e = out (rw (e, and-false))

  pub in-range : position_ok cx cy ≡ true → position_ok x y ≡ true → direction_of cx cy f x y ≡ Ok (toward_of (x -ℤ cx) (y -ℤ cy) f)
  unfolding refusals_of Silent
  in-range e g = given (silent-accepted _ (rw (e, g), tt))

  pub answers : direction_answer (direction_of cx cy f x y) ≡ answer_for cx cy f x y
  unfolding direction_of refusals_of answer_by
  answers = answered-by Err (Ok (toward_of (x -ℤ cx) (y -ℤ cy) f)) direction_answer _ (λ r. refl) refl (refusals_of cx cy x y)

  pub found : Position cx cy → Position x y → direction_of cx cy f x y ≡ Ok (toward_of (x -ℤ cx) (y -ℤ cy) f)
  found s p = in-range (position-ok cx cy s) (position-ok x y p)

  -- the two ways that it can go
  data Way : Type 0 where
    wrong : (Position cx cy → Position x y → ⊥) → direction_of cx cy f x y ≡ out_of_range → Way
    right : Position cx cy → Position x y → direction_of cx cy f x y ≡ Ok (toward_of (x -ℤ cx) (y -ℤ cy) f) → Way

  way : Way
  way = go (position_ok cx cy) (position_ok x y) refl refl
    where
      go : (a b : Bool) → position_ok cx cy ≡ a → position_ok x y ≡ b → Way
      go false b e g = wrong (λ s p. contradiction (sym e ∙ position-ok cx cy s)) (centre-out e)
      go true false e g = wrong (λ s p. contradiction (sym g ∙ position-ok x y p)) (position-out g)
      go true true e g = right (ok-position cx cy e) (ok-position x y g) (in-range e g)

  pub refused : (Position cx cy → Position x y → ⊥) → direction_of cx cy f x y ≡ out_of_range
  refused n = go way
    where
      go : Way → direction_of cx cy f x y ≡ out_of_range
      go (wrong _ e) = e
      go (right s p e) = absurd (n s p)

  pub refused-only : (r : Refusal) → direction_of cx cy f x y ≡ Err r → (Position cx cy → Position x y → ⊥) × (r ≡ record { number = settings; place = 0 })
  refused-only r h = go way
    where
      go : Way → (Position cx cy → Position x y → ⊥) × (r ≡ record { number = settings; place = 0 })
      go (wrong n e) = (n, cc)
      go (right s p e) = contradiction (cc)

  pub found-only : (v : Vec3) → direction_of cx cy f x y ≡ Ok v → Position cx cy × Position x y × (v ≡ toward_of (x -ℤ cx) (y -ℤ cy) f)
  found-only v h = go way
    where
      go : Way → Position cx cy × Position x y × (v ≡ toward_of (x -ℤ cx) (y -ℤ cy) f)
      go (wrong n e) = contradiction (cc)
      go (right s p e) = (s, p, cc)

  pub found_within : (v : Vec3) → direction_of cx cy f x y ≡ Ok v → Within3 1000000000 v
  found_within v h = subst (Within3 1000000000) (sym (found-only v h).2) (toward-within (x -ℤ cx) (y -ℤ cy) f)
