-- The length, the first row with a word that clashes, or none.
use Rattle.std.proofs.Common.{◌≡◌, ◌+◌, ◌*◌, ◌≤◌, length, ◌∙◌, arith}
use Rattle.search_backtrack.proofs.Rows.{row_fits}
use Rattle.search.proofs.Once.{rows_more, row-length, row-first, wrong-length, first-bad, all-good}
use Rattle.search.proofs.lent.check.Goals as goal

pub returns-then-ranking-dirs : goal.returns-then-ranking-dirs
returns-then-ranking-dirs c = wrong-length _ _ _ c.if-ranking-dirs.true

pub returns-in-Some : goal.returns-in-Some
returns-in-Some c =
    let i = c.loop-i.i in
    let words = c.args.ranking.now in
    let stars = c.args.stars in
    let inside : i * stars + stars ≤ length words = omega (arith, row_fits i c.args.dirs stars (omega arith)) in
    let e = c.in-Some.ensures in
    first-bad _ _ _ (omega arith) i _ (omega arith) c.loop-i.invariant (e.0 ∙ row-first words stars (i * stars) inside)
    (omega (arith, e.1, row-length words stars (i * stars) inside))

pub loop-i-preserved : goal.loop-i-preserved
loop-i-preserved c =
    let i = c.loop-i.i in
    let words = c.args.ranking.now in
    let stars = c.args.stars in
    let inside : i * stars + stars ≤ length words = omega (arith, row_fits i c.args.dirs stars (omega arith)) in
    rows_more _ _ i c.loop-i.invariant
    (omega (arith, c.in_default.ensures, row-first words stars (i * stars) inside, row-length words stars (i * stars) inside))

pub returns : goal.returns
returns c =
    let e : c.loop-i.i ≡ c.args.dirs = omega arith in
    all-good _ _ _ (omega arith) (λ q l. c.loop-i.invariant q (rw e l))
