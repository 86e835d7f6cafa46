-- Request T-13's tool: the line that says how many records are kept. Assumes nothing.
use Rattle.std.specs.Prelude.{None, Some, List, ℕ, ◌*◌}
use Rattle.catalogue.specs.Format.{record_size}
use Rattle.text.specs.Refused.{refusal_line}
use Rattle.text.specs.Room.{length_in}
use Rattle.desk_lines.specs.declared.file_line.Made.{Made}
use Rattle.desk_lines.specs.FileLine.{kept_line}
use Rattle.std.specs.Prelude.{Result, Ok, Err}
use Rattle.refusal.specs.declared.Refusal.{Refusal}

abbrev pub shortened_line : Result ℕ Refusal → ℕ → List ℕ
shortened_line (Err r) records = refusal_line r
shortened_line (Ok n) records = kept_line n records

-- the kept records alone are the file; none where the call is refused. The line's length is that in the room.
abbrev pub cutting_of : Result ℕ Refusal → ℕ → List ℕ → Made
cutting_of (Err r) records room = record { bytes = None; line = length_in 128 room (refusal_line r) }
cutting_of (Ok n) records room = record { bytes = Some (record_size * n); line = length_in 128 room (kept_line n records) }
