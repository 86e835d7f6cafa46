-- The part of the room that is lent is our ranking.
use Rattle.std.proofs.Common.{sym, ◌∙◌, length-take-le, arith}
use Rattle.chain.specs.ChainLaws as laws
use Rattle.search_rival.specs.Contested.{contest_of}
use Rattle.chain.specs.rival.Chain.{our_contest}
use Rattle.chain.proofs.Lent.{words_are, room-long, ranking-is}
use Rattle.chain.proofs.rival.contested.Goals as goal

pub overflow_mul-words : goal.overflow_mul-words
overflow_mul-words c =
    let a = c.args in
    let e = words_are a.report a.directions.now a.bytes.now a.settings a.room.now c.records.result c.requires c.records.ensures in
    omega (arith, e, laws.words-most _ _ _ _ c.requires.ready)

pub slice_bounds-rival-end : goal.slice_bounds-rival-end
slice_bounds-rival-end c =
    let a = c.args in
    sym (length-take-le _ _ (room-long a.report a.directions.now a.bytes.now a.settings a.room.now c.records.result c.requires c.records.ensures))

pub returns : goal.returns
unfolding our_contest
returns c =
    let a = c.args in
    let r = ranking-is a.report a.directions.now a.bytes.now a.settings a.room.now c.records.result c.requires c.records.ensures in
    c.rival.ensures.1 ∙ (λ i. contest_of (c.requires.sights i) a.bytes.now a.settings.needed a.settings.tolerance (r i))
