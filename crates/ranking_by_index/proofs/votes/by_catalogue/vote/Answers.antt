-- `ranking_by_index::votes::by_catalogue::vote`: all pairs of the catalogue in the span give the plain rule's votes. Assumes nothing.
use Rattle.std.specs.Prelude.{ℕ, ◌+◌, ◌-◌, ◌<◌, not, pos, get_or}
use Rattle.std.proofs.Common.{sym, ap, ◌∙◌, arith, le-leb}
use Rattle.std.proofs.lemmas.Bool.{lt-leb}
use mir.Syntax.{w64}
use Rattle.numbers.specs.Num.{arg, back}
use Rattle.catalogue_index.specs.Raised.{raised}
use Rattle.ranking_by_index.specs.votes.Span.{all_votes}
use Rattle.ranking_by_index.specs.votes.Pair.{by_catalogue}
use Rattle.ranking_by_index.specs.votes.Plain.{all_plain}
use Rattle.ranking_by_index.specs.votes.Directions.{adds-self, adds-passed, adds-failed, raised-within}
use Rattle.ranking_by_index.proofs.votes.by_catalogue.vote.Goals as goal

pub returns-then-is_same : goal.returns-then-is_same
returns-then-is_same c =
    let x = c.args in
    let s = x.split.now in
    let q = get_or s.products.now x.j (pos 0) in
    λ k. omega (arith, adds-self (by_catalogue s.floor s.tolerance) q x.stars.now s.tolerance s.i k x.j c.if-is_same.true)

pub overflow_sub-lower : goal.overflow_sub-lower
overflow_sub-lower c =
    let w = c.args.split.now.all_within.at c.args.j in
    omega (arith, c.raise-product.ensures ∙ ap raised (back (arg {w = w64} w tt)), raised-within w, c.args.split.now.tolerance_bound)

pub overflow_add-product : goal.overflow_add-product
overflow_add-product c =
    let w = c.args.split.now.all_within.at c.args.j in
    omega (arith, c.raise-product.ensures ∙ ap raised (back (arg {w = w64} w tt)), raised-within w, c.args.split.now.tolerance_bound)

pub returns-then-is_indexed : goal.returns-then-is_indexed
returns-then-is_indexed c =
    let x = c.args in
    let s = x.split.now in
    let q = get_or s.products.now x.j (pos 0) in
    let lifted = c.raise-product.ensures ∙ ap raised (back (arg {w = w64} (c.args.split.now.all_within.at x.j) tt)) in
    λ k.
    omega (
      arith,
      adds-failed (by_catalogue s.floor s.tolerance) q x.stars.now s.tolerance s.i k x.j c.if-is_same.false
          (ap not (le-leb s.floor (raised q - s.tolerance) (omega (arith, lifted, c.if-is_indexed.true)))),
    )

pub returns : goal.returns
returns c =
    let x = c.args in
    let s = x.split.now in
    let q = get_or s.products.now x.j (pos 0) in
    let product = arg {w = w64} (c.args.split.now.all_within.at x.j) tt in
    let lifted = c.raise-product.ensures ∙ ap raised (back product) in
    let h : raised q - s.tolerance < s.floor = omega (arith, lifted, c.if-is_indexed.false) in
    λ k.
    c.vote_all.ensures k ∙ ap (λ (n : ℕ). get_or x.votes.now k 0 + n)
    ((λ u. all_votes x.stars.now (lifted u - s.tolerance) (lifted u + s.tolerance) k)
    ∙ all_plain x.stars.now q s.tolerance k c.requires.listed product.ok
    ∙ sym (adds-passed (by_catalogue s.floor s.tolerance) q x.stars.now s.tolerance s.i k x.j c.if-is_same.false
    (ap not (lt-leb s.floor (raised q - s.tolerance) h))))
