-- The numbers of a position's direction: x, y and z. Assumes nothing.
use Rattle.std.specs.Prelude.{List, ℤ}
use Rattle.c_numbers.specs.Numbers.{refused_numbers, accepted_numbers, vector_numbers}
use Rattle.std.specs.Prelude.{Result, Ok, Err}
use Rattle.refusal.specs.declared.Refusal.{Refusal}
use Rattle.vectors.specs.declared.Vec3.{Vec3}

abbrev pub direction_numbers : Result Vec3 Refusal → List ℤ
direction_numbers (Err r) = refused_numbers r
direction_numbers (Ok v) = accepted_numbers (vector_numbers v)
