-- `numbers::root_in_passes`: what three steps leave is the root or one more, and the square tells which. Assumes nothing.
use Rattle.std.proofs.Common.{◌≡◌, ◌∙◌, ℕ, ◌<◌, ◌^◌, ap, arith, lit≤}
use Rattle.numbers.specs.Root.{root, root-of}
use Rattle.numbers.specs.Steps.{guess, steps, settle}
use Rattle.numbers.proofs.Word.{Settled, three, kept, lowered, root-of-none}
use Rattle.numbers.proofs.root_in_passes.Goals as goal

ended : {n x : ℕ} → 0 < n → n < 2 ^ 64 → x ≡ steps 3 n (guess n) → Settled n (root n) x
ended positive fits e = rw e (three positive fits)

pub returns-then-n-eq0 : goal.returns-then-n-eq0
returns-then-n-eq0 c = rw c.if-n-eq0.true (root-of (record { below = lit≤ tt; above = lit≤ tt }), root-of-none, lit≤ tt)

pub overflow_sub-x : goal.overflow_sub-x
overflow_sub-x c = (ended (omega arith) c.ranges.n.fits c.guess_after-x.ensures).positive

pub overflow_add-x : goal.overflow_add-x
overflow_add-x c = omega (arith, (ended (omega arith) c.ranges.n.fits c.guess_after-x.ensures).short)

pub overflow_mul-x : goal.overflow_mul-x
overflow_mul-x c = record { fits = (ended (omega arith) c.ranges.n.fits c.guess_after-x.ensures).square-held }

pub returns-then-x-n : goal.returns-then-x-n
returns-then-x-n c =
    let x = c.guess_after-x in
    let e = ended (omega arith) c.ranges.n.fits x.ensures in
    (root-of (e.is-root c.if-x-n.true), kept _ _ e.positive c.if-x-n.true ∙ ap (settle c.args.n) x.ensures, lit≤ tt)

pub returns-else-x-n : goal.returns-else-x-n
returns-else-x-n c =
    let x = c.guess_after-x in
    let e = ended (omega arith) c.ranges.n.fits x.ensures in
    (e.one_more c.if-x-n.false, lowered _ _ e.positive c.if-x-n.false ∙ ap (settle c.args.n) x.ensures, lit≤ tt)
