-- What the catalogue's own function gives is the record's identity. Assumes nothing.
use Rattle.std.specs.Prelude.{◌≡◌, List, ℕ, ◌<◌}
use Rattle.std.proofs.Common.{sym, ◌∙◌, arith, lt-ltb}
use Rattle.catalogue.specs.Format.{records_in}
use Rattle.catalogue.specs.Stars.{identity_for}
use Rattle.catalogue_compare.specs.Step.{next_of}
use Rattle.catalogue_compare.specs.Cut.{next-inside, next-behind}
use Rattle.catalogue_compare.proofs.step.next.Goals as goal

there : (bytes : List ℕ) (i : ℕ) → i < records_in bytes → identity_for bytes i ≡ next_of bytes i
unfolding identity_for
there bytes i h = rw (lt-ltb i (records_in bytes) h) (sym (next-inside bytes i h))

pub returns-then-i-records : goal.returns-then-i-records
returns-then-i-records c =
    let h : c.args.i < records_in c.args.bytes.now = omega arith in
    (h, omega arith, c.identity.ensures ∙ there c.args.bytes.now c.args.i h)

pub returns-else-i-records : goal.returns-else-i-records
returns-else-i-records c = (omega arith, next-behind c.args.bytes.now c.args.i (omega arith))
