-- `vectors::handedness::are_mirrored` is `mirrored` by its definition, where a test that decides ends it. Assumes nothing.
use Rattle.std.specs.Prelude.{◌≡◌, Bool, true, false, ◌&&◌, ◌||◌, ℤ}
use Rattle.std.proofs.Common.{sym, ap, ◌∙◌}
use mir.Syntax.{w64}
use mir.Val.{to_z, of_z, SFits}
use Rattle.numbers.specs.Num.{param, back}
use Rattle.vectors.specs.handedness.Handedness.{right, left, mirrored}
use Rattle.vectors.proofs.handedness.are_mirrored.Goals as goal
use Rattle.vectors.proofs.handedness.are_mirrored.Goals.{then-is_right, else-is_right}

-- a product as the calls read it
same : {p : ℤ} → SFits w64 p → to_z w64 (of_z w64 p) ≡ p
same fits = back (param {w = w64} fits)

-- `a || b` where a is true, and `a || l && r` where it is not
yes : {v a : Bool} (b : Bool) → v ≡ a → v ≡ true → v ≡ (a || b)
yes b e t = rw (sym e ∙ t) t

no : {v a : Bool} (l r : Bool) → v ≡ a → v ≡ false → (l && r) ≡ (a || (l && r))
no l r e t = rw (sym e ∙ t)

pub returns-then-is_left : goal.returns-then-is_left
unfolding mirrored
returns-then-is_left c =
    let p = same c.ranges.p in
    let q = same c.ranges.q in
    let e : c.if-is_right.value ≡ (right c.args.p && left c.args.q) =
    elim c.if-is_right.branch [
      | then-is_right w ↦ rw (sym (ap right p) ∙ sym c.is_right.ensures ∙ w.if-is_right.true) (w.value-is ∙ w.is_left.ensures ∙ ap left q)
      | else-is_right w ↦ rw (sym (ap right p) ∙ sym c.is_right.ensures ∙ w.if-is_right.false) (w.value-is ∙ w.if-is_right.false)
    ] in
    yes _ e c.if-is_left.true

pub returns-then-is_left-2 : goal.returns-then-is_left-2
unfolding mirrored
returns-then-is_left-2 c =
    let p = same c.ranges.p in
    let q = same c.ranges.q in
    let e : c.if-is_right.value ≡ (right c.args.p && left c.args.q) =
    elim c.if-is_right.branch [
      | then-is_right w ↦ rw (sym (ap right p) ∙ sym c.is_right.ensures ∙ w.if-is_right.true) (w.value-is ∙ w.is_left.ensures ∙ ap left q)
      | else-is_right w ↦ rw (sym (ap right p) ∙ sym c.is_right.ensures ∙ w.if-is_right.false) (w.value-is ∙ w.if-is_right.false)
    ] in
    let l : left c.args.p ≡ true = sym (ap left p) ∙ sym c.is_left-else-is_left.ensures ∙ c.if-is_left-2.true in
    c.is_right-then-is_left-2.ensures ∙ ap right q ∙ sym (ap (λ (b : Bool). b && right c.args.q) l) ∙ no (left c.args.p) (right c.args.q) e c.if-is_left.false

pub returns-else-is_left-2 : goal.returns-else-is_left-2
unfolding mirrored
returns-else-is_left-2 c =
    let p = same c.ranges.p in
    let q = same c.ranges.q in
    let e : c.if-is_right.value ≡ (right c.args.p && left c.args.q) =
    elim c.if-is_right.branch [
      | then-is_right w ↦ rw (sym (ap right p) ∙ sym c.is_right.ensures ∙ w.if-is_right.true) (w.value-is ∙ w.is_left.ensures ∙ ap left q)
      | else-is_right w ↦ rw (sym (ap right p) ∙ sym c.is_right.ensures ∙ w.if-is_right.false) (w.value-is ∙ w.if-is_right.false)
    ] in
    let l : left c.args.p ≡ false = sym (ap left p) ∙ sym c.is_left-else-is_left.ensures ∙ c.if-is_left-2.false in
    c.if-is_left-2.false ∙ sym (ap (λ (b : Bool). b && right c.args.q) l) ∙ no (left c.args.p) (right c.args.q) e c.if-is_left.false
