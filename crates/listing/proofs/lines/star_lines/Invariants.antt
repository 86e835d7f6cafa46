-- The lines of the stars passed stand in the room.
use Rattle.std.proofs.Common.{◌+◌, ◌*◌, ◌≤◌}
use Rattle.std.specs.Prelude.{is_some}
use Rattle.text.specs.Written.{Wrote}
use Rattle.listing.specs.lines.Given.{words_in}
use Rattle.listing.specs.lines.Lines.{shown_in, star_lines}
use Rattle.listing.proofs.lines.star_lines.Given as goal

abbrev pub invariant-loop-k : goal.invariant-loop-k
invariant-loop-k l =
    Wrote l.initial.room l.at (star_lines l.stars (shown_in (is_some l.words) l.catalogue (words_in l.words)) l.k) l.room l.next
    × (l.next ≤ l.at + 105 * l.k)
