-- A catalogue's refusals, 6 and 7 of document 01's table, and what the check of a catalogue gives. Assumes nothing.
use Rattle.std.specs.Prelude.{Bool, cond, not, ◌&&◌, List, [], ◌∷◌, ℕ, ◌/◌, ◌%◌, leb, ltb, eqb, pos, length}
use Rattle.refusal.specs.Numbers.{catalogue, record_rule}
use Rattle.refusal.specs.Table.{Row, row, row_at, first_applying}
use Rattle.refusal.specs.Answer.{Answer, refused_with, accepted_with}
use Rattle.refusal.specs.Counted.{counted_of}
use Rattle.catalogue.specs.Format.{record_size, most_records, records_in}
use Rattle.catalogue.specs.Rule.{record_ok}
use Rattle.lists.specs.First.{first}
use Rattle.std.specs.Prelude.{Result}
use Rattle.refusal.specs.declared.Refusal.{Refusal}

-- a multiple of a record's size, and 1 to 512 records
unfoldable pub length_ok : ℕ → Bool
length_ok n = eqb (n % record_size) 0 && leb 1 (n / record_size) && leb (n / record_size) most_records

-- the first record that breaks its rule, or the number of records where each keeps it
unfoldable pub broken_of : List ℕ → ℕ
broken_of bytes = first (λ i. not (record_ok bytes i)) (records_in bytes)

abbrev pub record_broken : List ℕ → Bool
record_broken bytes = ltb (broken_of bytes) (records_in bytes)

unfoldable pub refusals_of : List ℕ → List Row
refusals_of bytes = row (not (length_ok (length bytes))) catalogue ∷ row_at (record_broken bytes) record_rule (broken_of bytes) ∷ []

-- the refusal, or how many records there are
unfoldable pub checked_of : List ℕ → Result ℕ Refusal
checked_of bytes = counted_of (records_in bytes) (first_applying (refusals_of bytes))

-- ---- in document 01's own terms

-- the answer that a catalogue must have
abbrev pub answer_for : List ℕ → Answer
answer_for bytes =
    cond (not (length_ok (length bytes))) (refused_with 6 0)
    (cond (record_broken bytes) (refused_with 7 (broken_of bytes))
    (accepted_with (pos (records_in bytes) ∷ [])))
