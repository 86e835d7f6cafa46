-- The numbers of a lens: its whole focal length. Assumes nothing.
use Rattle.std.specs.Prelude.{List, [], ◌∷◌, ℤ}
use Rattle.c_numbers.specs.Numbers.{refused_numbers, accepted_numbers}
use Rattle.std.specs.Prelude.{Result, Ok, Err}
use Rattle.refusal.specs.declared.Refusal.{Refusal}

abbrev pub focal_numbers : Result ℤ Refusal → List ℤ
focal_numbers (Err r) = refused_numbers r
focal_numbers (Ok f) = accepted_numbers (f ∷ [])
