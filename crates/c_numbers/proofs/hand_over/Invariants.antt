-- The room begins with the numbers passed, and the rest of it is as it was.
use Rattle.std.proofs.Common.{◌≡◌, ◌++◌, ◌≤◌, length, take, drop}
use Rattle.c_numbers.proofs.hand_over.Given as goal

abbrev pub invariant-loop-i : goal.invariant-loop-i
invariant-loop-i l =
    (64 ≤ length l.initial.out)
    × (length l.flat ≡ 64)
    × (length l.out ≡ length l.initial.out)
    × (l.out ≡ take l.i l.flat ++ drop l.i l.initial.out)
