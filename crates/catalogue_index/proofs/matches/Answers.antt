-- The stars and the floor are those that were handed in, the floor moved up as the dot products are.
use Rattle.std.proofs.Common.{◌≡◌, List, ℤ, ap, ◌∙◌, subst, w64}
use Rattle.std.proofs.lemmas.Int.{to_z-of_z}
use Rattle.vectors.specs.Triples.{triples}
use Rattle.catalogue_index.specs.records.Format.{encoded}
use Rattle.catalogue_index.specs.records.Order.{sorted}
use Rattle.catalogue_index.specs.Raised.{raised}
use Rattle.catalogue_index.specs.Index.{pairs_of}
use Rattle.catalogue_index.specs.Check.{Says}
use Rattle.catalogue_index.specs.CheckLaws.{says-index}
use Rattle.catalogue_index.proofs.matches.Goals as goal

pub returns : goal.returns
returns c =
    let x = c.args in
    let f = c.new.result.floor in
    let e = c.new.ensures.floor ∙ ap raised (to_z-of_z w64 x.floor c.ranges.floor) in
    says-index c.is_index.result x.stars.now x.floor x.index.now f e
    (subst (λ (l : List ℤ). Says c.is_index.result (x.index.now ≡ encoded (sorted (pairs_of l f (triples l))))) c.new.ensures.stars c.is_index.ensures)
