-- The search is over our ranking, and the attitude is of what it finds.
use Rattle.std.proofs.Common.{◌≡◌, sym, ap, ◌∙◌, subst, List, ℕ, ℤ, length-take-le, arith}
use Rattle.search.specs.declared.Identification.{Identification}
use Rattle.search.specs.Identified.{Identified}
use Rattle.chain.specs.Chain.{sights_of, settled_of, located_of}
use Rattle.chain.specs.Ready.{Settles}
use Rattle.chain.specs.ChainLaws as laws
use Rattle.chain.specs.SettledLaws.{settled-named, settled-none}
use Rattle.chain.proofs.Lent.{words_are, room-long, ranking-is}
use Rattle.chain.proofs.locate.identified.Goals as goal

pub overflow_mul-words : goal.overflow_mul-words
overflow_mul-words c =
    let a = c.args in
    let e = words_are a.report a.directions.now a.bytes.now a.settings a.room.now c.records.result c.requires c.records.ensures in
    omega (arith, e, laws.words-most _ _ _ _ c.requires.ready)

pub slice_bounds-search-end : goal.slice_bounds-search-end
slice_bounds-search-end c =
    let a = c.args in
    sym (length-take-le _ _ (room-long a.report a.directions.now a.bytes.now a.settings a.room.now c.records.result c.requires c.records.ensures))

-- what is found is found for our own directions and ranking
found : (needed tolerance : ℕ) (bytes : List ℕ) (f : Identification) {directions sights : List ℤ} {words ours : List ℕ} → directions ≡ sights → words ≡ ours
    → Identified directions bytes needed tolerance words f → Identified sights bytes needed tolerance ours f
found needed tolerance bytes f {sights = sights} {words = words} d w h =
    subst (λ (ws : List ℕ). Identified sights bytes needed tolerance ws f) w
    (subst (λ (ds : List ℤ). Identified ds bytes needed tolerance words f) d h)

pub settle-requires : goal.settle-requires
settle-requires c =
    let a = c.args in
    let r = ranking-is a.report a.directions.now a.bytes.now a.settings a.room.now c.records.result c.requires c.records.ensures in
    let h = found a.settings.needed a.settings.tolerance a.bytes.now c.search-found.result c.requires.sights r c.search-found.ensures.0 in
    subst (λ (ds : List ℤ). Settles ds a.bytes.now c.search-found.result) (sym c.requires.sights)
    (laws.our-settles _ _ _ _ c.requires.ready c.search-found.result h)

pub returns-clause-value : goal.returns-clause-value
unfolding located_of
returns-clause-value c =
    let a = c.args in
    let f = c.search-found.result in
    let r = ranking-is a.report a.directions.now a.bytes.now a.settings a.room.now c.records.result c.requires c.records.ensures in
    let h = found a.settings.needed a.settings.tolerance a.bytes.now f c.requires.sights r c.search-found.ensures.0 in
    c.settle.ensures ∙ ap (λ (ds : List ℤ). settled_of a.report ds a.bytes.now f) c.requires.sights
    ∙ ap (settled_of a.report (sights_of a.report a.bytes.now a.settings) a.bytes.now) (laws.identification-is _ _ _ _ c.requires.ready f h)

pub returns-clause-names : goal.returns-clause-names
returns-clause-names c =
    let a = c.args in
    let f = c.search-found.result in
    let r = ranking-is a.report a.directions.now a.bytes.now a.settings a.room.now c.records.result c.requires c.records.ensures in
    let h = found a.settings.needed a.settings.tolerance a.bytes.now f c.requires.sights r c.search-found.ensures.0 in
    let e = c.settle.ensures ∙ ap (λ (ds : List ℤ). settled_of a.report ds a.bytes.now f) c.requires.sights in
    let sought = laws.our-search _ _ _ _ c.requires.ready f h in
    record {
      first = settled-named _ _ _ f c.settle.result e _ _ sought.first;
      none = settled-none _ _ _ f c.settle.result e _ _ sought.first;
    }
