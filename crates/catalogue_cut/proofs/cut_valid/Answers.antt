-- The marks are those of the rule, so that as many records are moved as are kept. Assumes nothing.
use Rattle.std.specs.Prelude.{ℤ, List, ℕ, ◌≡◌, ◌-◌, ◌*◌, ◌≤◌, ◌++◌, length, take, replicate, Ok}
use Rattle.std.specs.Int.{w32, w64}
use Rattle.std.proofs.Common.{sym, ap, ◌∙◌, arith}
use mir.Val.{SFits, to_z, of_z}
use mir.ValLaws.{to_z-of_z}
use Rattle.catalogue.specs.Format.{record_size, records_in}
use Rattle.catalogue_cut.specs.Flight.{kept_in, freed}
use Rattle.catalogue_cut.specs.Shifted.{marked}
use Rattle.catalogue_cut.specs.marks.Judge.{Settled, settled-as}
use Rattle.catalogue_cut.proofs.Front.{flight-length, flight-most}
use Rattle.catalogue_cut.proofs.CutSteps.{marked-kept, moved-is, moved_none, moved-filled, none_from, none-buffer, some-from, some-buffer}
use Rattle.catalogue_cut.proofs.cut_valid.Goals as goal

module _ {bytes marks : List ℕ} {limit closeness : ℤ} (f : SFits w32 limit) (g : SFits w64 closeness)
    (s : Settled bytes (to_z w32 (of_z w32 limit)) (to_z w64 (of_z w64 closeness)) marks) where
  settled : Settled bytes limit closeness marks
  settled = settled-as (to_z-of_z w32 limit f) (to_z-of_z w64 closeness g) s

  module _ {n : ℕ} (e : n ≡ length (marked marks (records_in bytes))) where
    -- so many are kept
    count : n ≡ length (kept_in bytes limit closeness)
    count = e ∙ ap length (marked-kept bytes limit closeness marks settled)

    -- which is no more than there is room for
    fits : record_size * n ≤ length bytes
    fits = omega (arith, count, flight-length bytes limit closeness, flight-most bytes limit closeness)

pub returns-then-is_bare-clause-value : goal.returns-then-is_bare-clause-value
returns-then-is_bare-clause-value c =
    let x = c.args in
    let n = count c.ranges.limit c.ranges.closeness c.judge-marks.ensures c.forward-kept.ensures.value in
    sym (none_from x.bytes.now x.limit x.closeness (sym n ∙ c.if-is_bare.true))

pub returns-then-is_bare-clause-bytes_after : goal.returns-then-is_bare-clause-bytes_after
returns-then-is_bare-clause-bytes_after c =
    let x = c.args in
    let n = count c.ranges.limit c.ranges.closeness c.judge-marks.ensures c.forward-kept.ensures.value in
    let e = sym n ∙ c.if-is_bare.true in
    c.forward-kept.ensures.bytes_after
    ∙ moved-is x.bytes.now x.limit x.closeness _ (settled c.ranges.limit c.ranges.closeness c.judge-marks.ensures)
    ∙ moved_none x.bytes.now x.limit x.closeness e
    ∙ sym (none-buffer x.bytes.now x.limit x.closeness e)

pub overflow_mul-kept : goal.overflow_mul-kept
overflow_mul-kept c = omega (arith, fits c.ranges.limit c.ranges.closeness c.judge-marks.ensures c.forward-kept.ensures.value)

pub fill-requires : goal.fill-requires
fill-requires c = omega (arith, fits c.ranges.limit c.ranges.closeness c.judge-marks.ensures c.forward-kept.ensures.value, c.forward-kept.auto.bytes)

pub returns-clause-value : goal.returns-clause-value
returns-clause-value c =
    let x = c.args in
    let n = count c.ranges.limit c.ranges.closeness c.judge-marks.ensures c.forward-kept.ensures.value in
    ap Ok n ∙ sym (some-from x.bytes.now x.limit x.closeness (λ z. c.if-is_bare.false (n ∙ z)))

pub returns-clause-bytes_after : goal.returns-clause-bytes_after
returns-clause-bytes_after c =
    let x = c.args in
    let k = c.forward-kept in
    let n = count c.ranges.limit c.ranges.closeness c.judge-marks.ensures k.ensures.value in
    let front =
    k.ensures.bytes_after ∙ moved-is x.bytes.now x.limit x.closeness _ (settled c.ranges.limit c.ranges.closeness c.judge-marks.ensures) in
    c.fill.ensures
    ∙ (λ j. take (record_size * n j) (front j) ++ replicate (length k.new.bytes - record_size * n j) freed)
    ∙ moved-filled x.bytes.now x.limit x.closeness (length k.new.bytes) k.auto.bytes
    ∙ sym (some-buffer x.bytes.now x.limit x.closeness (λ z. c.if-is_bare.false (n ∙ z)))
