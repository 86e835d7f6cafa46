-- One guide more.
use Rattle.std.proofs.Common.{◌≡◌, refl, sym, ap, ◌∙◌, List, ℕ, ◌+◌, ◌*◌, ℤ, get_or, ◌<◌, length, take, length-take-le, add-one, arith}
use Rattle.std.proofs.lemmas.List.{get_or-take}
use Rattle.guider_rule.specs.declared.Guide.{Guide}
use Rattle.guider_rule.specs.Guider.{no_guide}
use Rattle.c_interface.specs.guide.Rooms.{with_guide, with_guides}
use Rattle.c_interface.proofs.guide.rooms.put_guides.Goals as goal

guides-next : (guides : List Guide) (i : ℕ) (room : List ℤ) → with_guides guides (i + 1) room ≡ with_guide (with_guides guides i room) (2 + 4 * i)
    (get_or guides i no_guide)
unfolding with_guides
guides-next guides i room = rw add-one refl

pub loop-i-init : goal.loop-i-init
unfolding with_guides
loop-i-init c = refl

pub loop-i-preserved : goal.loop-i-preserved
loop-i-preserved c =
    let guides = c.args.guides in
    let i = c.loop-i.i in
    let n : length (take c.args.n guides) ≡ c.args.n = length-take-le c.args.n guides (omega arith) in
    let h : i < c.args.n = omega arith in
    let e = get_or-take c.args.n guides i no_guide h in
    let before : c.loop-i.room ≡ with_guides guides i c.args.room.now = c.loop-i.invariant in
    c.put_guide.ensures
    ∙ (λ k. with_guide (before k) (2 + 4 * i) (e k))
    ∙ sym (guides-next guides i c.args.room.now)

pub returns : goal.returns
returns c =
    let n : length (take c.args.n c.args.guides) ≡ c.args.n = length-take-le c.args.n c.args.guides (omega arith) in
    let before : c.loop-i.room ≡ with_guides c.args.guides c.loop-i.i c.args.room.now = c.loop-i.invariant in
    let e : c.loop-i.i ≡ c.args.n = omega arith in
    before ∙ ap (λ (k : ℕ). with_guides c.args.guides k c.args.room.now) e
