-- A record that is there is within the limit where its magnitude is. Assumes nothing.
use Rattle.std.specs.Prelude.{Bool, true, false, List, ℕ, ◌<◌, ◌≡◌, ℤ}
use Rattle.std.specs.Int.{w32}
use Rattle.std.specs.Int.Signed.{le_z}
use Rattle.std.proofs.Common.{sym, ap, ◌∙◌, lt-ltb}
use Rattle.numbers.specs.Num.{param, held, tested_le}
use Rattle.catalogue.specs.Format.{records_in, magnitude_of}
use Rattle.catalogue.specs.Stars.{magnitude_for}
use Rattle.catalogue_cut.specs.Flight.{is_bright}
use Rattle.catalogue_cut.specs.marks.Marks.{faint_mark}
use Rattle.catalogue_cut.proofs.marks.by_magnitude.Goals as goal

-- the record is there
there : (bytes : List ℕ) (i : ℕ) → i < records_in bytes → magnitude_for bytes i ≡ magnitude_of bytes i
unfolding magnitude_for
there bytes i h = rw (lt-ltb i (records_in bytes) h)

-- what a test of its magnitude says
says : (bytes : List ℕ) (i : ℕ) (limit r : ℤ) (t : Bool) → i < records_in bytes → r ≡ magnitude_for bytes i → le_z r limit ≡ t
    → faint_mark t ≡ faint_mark (is_bright bytes limit i)
unfolding is_bright
says bytes i limit r t h e d = ap faint_mark (sym d ∙ ap (λ (z : ℤ). le_z z limit) (e ∙ there bytes i h))

pub returns-then-magnitude-limit : goal.returns-then-magnitude-limit
returns-then-magnitude-limit c =
    says c.args.bytes.now c.args.i c.args.limit c.magnitude.result true c.requires c.magnitude.ensures
    (tested_le (held {w = w32} c.magnitude.result c.magnitude.type_inv) (param c.ranges.limit) c.if-magnitude-limit.true)

pub returns-else-magnitude-limit : goal.returns-else-magnitude-limit
returns-else-magnitude-limit c =
    says c.args.bytes.now c.args.i c.args.limit c.magnitude.result false c.requires c.magnitude.ensures
    (tested_le (held {w = w32} c.magnitude.result c.magnitude.type_inv) (param c.ranges.limit) c.if-magnitude-limit.false)
