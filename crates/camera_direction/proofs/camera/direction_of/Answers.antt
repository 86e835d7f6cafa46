-- A lens that is not refused has a whole focal length, which has its own call.
use Rattle.std.proofs.Common.{sym, ◌∙◌, subst, w64}
use Rattle.numbers.specs.Num.{Num, param, arg, back}
use Rattle.camera_direction.specs.Settings.{Between}
use Rattle.camera_direction.specs.SettingsLaws.{between-within}
use Rattle.camera_direction.specs.Direction as whole
use Rattle.camera_direction.proofs.camera.Lens.{between, by_focal}
use Rattle.camera_direction.proofs.camera.direction_of.Goals as goal

pub direction_by_focal-requires : goal.direction_by_focal-requires
direction_by_focal-requires c =
    let g = between c.args.lens _ c.in_ok-focal.ensures.value in
    let f : Num w64 = arg (between-within _ _ g) tt in
    subst (Between 16384 4194304) (sym (back f)) g

pub returns-clause-value : goal.returns-clause-value
returns-clause-value c =
    let a = c.args in
    let r = c.ranges in
    let h = c.in_ok-focal.ensures.value in
    let f : Num w64 = arg (between-within _ _ (between a.lens _ h)) tt in
    c.direction_by_focal.ensures.value
    ∙ (λ i. whole.direction_of (back (param r.cx) i) (back (param r.cy) i) (back f i) (back (param r.x) i) (back (param r.y) i))
    ∙ by_focal a.lens a.cx a.cy a.x a.y _ h
