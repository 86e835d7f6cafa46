-- The part of the array that is lent is the frame file's samples.
use Rattle.std.proofs.Common.{sym, subst, List, ℕ, length-take-le}
use Rattle.files.specs.Samples.{lent-within, lent-samples}
use Rattle.text.specs.Written.{Wrote}
use Rattle.listing.specs.Listing.{chain_on}
use Rattle.listing.specs.Asked.{lines_of}
use Rattle.listing.proofs.listed.Goals as goal

pub slice_bounds-samples-end : goal.slice_bounds-samples-end
slice_bounds-samples-end c = lent-within _ _ _ _ c.read_samples-count.ensures.room_after

pub slice_bounds-input-end : goal.slice_bounds-input-end
slice_bounds-input-end c = sym (length-take-le _ _ (lent-within _ _ _ _ c.read_samples-count.ensures.room_after))

pub returns-clause-wrote : goal.returns-clause-wrote
returns-clause-wrote c =
    let a = c.args in
    let e = lent-samples _ _ _ _ _ _ c.read_samples-count.ensures.room_after c.read_samples-count.ensures.value in
    subst (λ (xs : List ℕ). Wrote a.room.now 0 (lines_of a.asked (chain_on xs a.catalogue.now a.settings)) c.lines_of.new.room c.lines_of.result) e
    c.lines_of.ensures.wrote
