-- The test's own answer decides, by the floor as it was handed in.
use Rattle.std.proofs.Common.{◌≡◌, sym, ap, ◌∙◌, Bool, List, ℕ, ℤ, w64, to_z, of_z}
use mir.Val.{SFits}
use mir.ValLaws.{to_z-of_z}
use Rattle.catalogue_index.specs.Check.{is_index}
use Rattle.chain_by_index.specs.Laws.{wrong-index, right-index}
use Rattle.chain_by_index.proofs.admit.index_outcome.Goals as goal

tested : (stars : List ℤ) (index : List ℕ) (floor : ℤ) {t b : Bool} → SFits w64 floor → t ≡ is_index stars (to_z w64 (of_z w64 floor)) index → t ≡ b
    → is_index stars floor index ≡ b
tested stars index floor f e h = ap (λ (z : ℤ). is_index stars z index) (sym (to_z-of_z w64 floor f)) ∙ sym e ∙ h

pub returns-then-not-matches : goal.returns-then-not-matches
returns-then-not-matches c =
    let a = c.args in
    c.plain.ensures ∙ sym (wrong-index _ _ _ (tested a.stars.now a.index.now a.floor c.ranges.floor c.matches.ensures c.if-not-matches.true))

pub returns : goal.returns
returns c =
    let a = c.args in
    sym (right-index _ _ _ (tested a.stars.now a.index.now a.floor c.ranges.floor c.matches.ensures c.if-not-matches.false))
