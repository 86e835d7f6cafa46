-- The samples passed stand at the start of the part of the room that takes them, and the rest of it is as it was.
use Rattle.std.proofs.Common.{◌≡◌, ◌++◌, ◌*◌, ◌≤◌, length, drop}
use Rattle.files.specs.Samples.{samples_of}
use Rattle.files.proofs.read_samples.Given as goal

abbrev pub invariant-loop-i : goal.invariant-loop-i
invariant-loop-i l = (2 * l.count ≤ length l.bytes) × (l.sample-items ≡ samples_of l.bytes l.i ++ drop l.i l.initial.sample-items)
