-- As the two ways in which a number is spelled.
use Rattle.std.proofs.Common.{List, [], ◌∷◌, ℕ, ◌+◌, ◌/◌, ◌%◌, ◌≤◌, Fits, w64, arith}
use Rattle.text.specs.Decimal.{digit, decimal}
use Rattle.text.specs.DecimalLaws.{decimal-small, decimal-large, decimal-length}
use Rattle.text.specs.Written.{Wrote}
use Rattle.text.specs.WrittenLaws.{wrote_then}
use Rattle.text.proofs.+number.Goals as goal

large : {a b c : List ℕ} {at to end : ℕ} (n : ℕ) → 10 ≤ n → Wrote a at (decimal (n / 10)) b to → Wrote b to (digit (n % 10) ∷ []) c end → Wrote a at (decimal n) c end
large n h p q = rw (decimal-large n h) (wrote_then p q)

-- a number of 64 bits has at most 20 digits
bounded : {a b : List ℕ} {at n to : ℕ} → Fits w64 n → Wrote a at (decimal n) b to → to ≤ at + 20
bounded {n = n} f p = omega (arith, f.fits, decimal-length 19 n (omega (arith, f.fits)), p.place)

pub returns-then-n-lt10-clause-wrote : goal.returns-then-n-lt10-clause-wrote
returns-then-n-lt10-clause-wrote t c = rw (decimal-small c.args.n c.if-n-lt10.true) c.byte.ensures

pub returns-clause-wrote : goal.returns-clause-wrote
returns-clause-wrote t c = large c.args.n c.if-n-lt10.false c.number-next.ensures.wrote c.byte-2.ensures

pub returns-clause-upper_bound : goal.returns-clause-upper_bound
returns-clause-upper_bound t c = bounded c.ranges.n (large c.args.n c.if-n-lt10.false c.number-next.ensures.wrote c.byte-2.ensures)
