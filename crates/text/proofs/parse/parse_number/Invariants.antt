-- What the word spells is what the rest spells behind the value so far.
use Rattle.std.proofs.Common.{◌≡◌, ◌<◌, drop}
use Rattle.text.specs.Parse.{parsed_from, parsed_of}
use Rattle.text.proofs.parse.parse_number.Given as goal

abbrev pub invariant-loop-byte : goal.invariant-loop-byte
invariant-loop-byte l = (l.value < 18446744073709551616) × (parsed_of l.word ≡ parsed_from l.value (drop l.byte-index l.word))
