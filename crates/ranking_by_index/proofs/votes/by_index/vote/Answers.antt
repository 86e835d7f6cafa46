-- `ranking_by_index::votes::by_index::vote`: the records of the span give what all pairs of the catalogue in it give. Assumes nothing.
use Rattle.std.specs.Prelude.{ℕ, ◌+◌, ◌-◌, ◌≤◌, pos, get_or}
use Rattle.std.proofs.Common.{sym, ap, ◌∙◌, arith, le-leb}
use Rattle.std.proofs.lemmas.Bool.{lt-leb}
use mir.Syntax.{w64}
use Rattle.numbers.specs.Num.{arg, back}
use Rattle.catalogue_index.specs.Raised.{raised}
use Rattle.catalogue_index.specs.records.Read.{Bytes}
use Rattle.ranking_by_index.specs.votes.Span.{all_votes}
use Rattle.ranking_by_index.specs.votes.Pair.{by_index}
use Rattle.ranking_by_index.specs.votes.Plain.{span-all, all_plain}
use Rattle.ranking_by_index.specs.votes.Directions.{adds-self, adds-passed, adds-failed, raised-within}
use Rattle.ranking_by_index.proofs.votes.by_index.vote.Goals as goal

pub returns-then-is_same : goal.returns-then-is_same
returns-then-is_same c =
    let x = c.args in
    let s = x.split.now in
    let q = get_or s.products.now x.j (pos 0) in
    record { added = λ stars l e k. omega (arith, adds-self (by_index s.floor s.tolerance) q stars s.tolerance s.i k x.j c.if-is_same.true) }

pub overflow_sub-lower : goal.overflow_sub-lower
overflow_sub-lower c =
    let w = c.args.split.now.all_within.at c.args.j in
    omega (arith, c.raise-product.ensures ∙ ap raised (back (arg {w = w64} w tt)), raised-within w, c.args.split.now.tolerance_bound)

pub overflow_add-product : goal.overflow_add-product
overflow_add-product c =
    let w = c.args.split.now.all_within.at c.args.j in
    omega (arith, c.raise-product.ensures ∙ ap raised (back (arg {w = w64} w tt)), raised-within w, c.args.split.now.tolerance_bound)

pub returns-then-is_below : goal.returns-then-is_below
returns-then-is_below c =
    let x = c.args in
    let s = x.split.now in
    let q = get_or s.products.now x.j (pos 0) in
    let lifted = c.raise-product.ensures ∙ ap raised (back (arg {w = w64} (c.args.split.now.all_within.at x.j) tt)) in
    record {
      added = λ stars l e k.
          omega (
            arith,
            adds-failed (by_index s.floor s.tolerance) q stars s.tolerance s.i k x.j c.if-is_same.false
                (lt-leb s.floor (raised q - s.tolerance) (omega (arith, lifted, c.if-is_below.true))),
          );
    }

pub returns : goal.returns
returns c =
    let x = c.args in
    let s = x.split.now in
    let q = get_or s.products.now x.j (pos 0) in
    let product = arg {w = w64} (c.args.split.now.all_within.at x.j) tt in
    let lifted = c.raise-product.ensures ∙ ap raised (back product) in
    let b : Bytes x.index.now = λ n. (c.type_inv.index n).fits in
    let h : s.floor ≤ raised q - s.tolerance = omega (arith, lifted, c.if-is_below.false) in
    record {
      added = λ stars l e k.
          c.walk.ensures k ∙ ap (λ (n : ℕ). get_or x.votes.now k 0 + n)
          (span-all stars s.floor (c.raise-product.result - s.tolerance) (c.raise-product.result + s.tolerance) k l c.if-is_below.false x.index.now b e
          ∙ (λ u. all_votes stars (lifted u - s.tolerance) (lifted u + s.tolerance) k)
          ∙ all_plain stars q s.tolerance k l product.ok
          ∙ sym (adds-passed (by_index s.floor s.tolerance) q stars s.tolerance s.i k x.j c.if-is_same.false
          (le-leb s.floor (raised q - s.tolerance) h)));
    }
