-- Pixels that could be stars stand apart, on every frame: two different pixels within 3 rows and 3 columns of each other are not both edge, lone
-- or measured, for of the two the earlier is beaten where the later is larger, and the later where it is not. Assumes nothing.
use Rattle.std.specs.Prelude.{Bool}
use Rattle.std.proofs.Math.Bool.{true, false}
use Rattle.frame_verdict.specs.declared.Kind.{Kind}
use Rattle.frame_verdict.specs.declared.Kind.TheVariants.{Dark, Beaten, Edge, Lone, Measured}

-- the verdicts of a pixel that is neither dark nor beaten
abbrev pub is_peak : Kind → Bool
is_peak Dark = false
is_peak Beaten = false
is_peak Edge = true
is_peak Lone = true
is_peak (Measured c) = true
