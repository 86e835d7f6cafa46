-- Request T-05's tool: the line that says how many records the index has that was made. Assumes nothing.
use Rattle.std.specs.Prelude.{None, Some, List, ℕ, ◌*◌}
use Rattle.text.specs.Refused.{refusal_line}
use Rattle.text.specs.Room.{length_in}
use Rattle.desk_lines.specs.declared.file_line.Made.{Made}
use Rattle.desk_lines.specs.FileLine.{records_line}
use Rattle.std.specs.Prelude.{Result, Ok, Err}
use Rattle.refusal.specs.declared.Refusal.{Refusal}

abbrev pub built_line : Result ℕ Refusal → List ℕ
built_line (Err r) = refusal_line r
built_line (Ok n) = records_line n

-- 12 bytes a record; none where the call is refused. The line's length is that in the room.
abbrev pub indexed_of : Result ℕ Refusal → List ℕ → Made
indexed_of (Err r) room = record { bytes = None; line = length_in 128 room (refusal_line r) }
indexed_of (Ok n) room = record { bytes = Some (12 * n); line = length_in 128 room (records_line n) }
