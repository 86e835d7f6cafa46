-- The numbers of an answer: the refusal's number and place, or 0 and 0 and what the answer holds. Assumes nothing.
use Rattle.std.specs.Prelude.{List, [], ◌∷◌, ℕ, ◌+◌, get_or, set, ℤ, pos}
use Rattle.numbers.specs.TwosComplement.{signed_of}
use Rattle.refusal.specs.declared.Refusal.{Refusal}
use Rattle.vectors.specs.declared.Vec3.{Vec3}
use Rattle.c_numbers.specs.Room.{padded}
use Rattle.std.specs.Prelude.{Result, Ok, Err}

abbrev pub refused_numbers : Refusal → List ℤ
refused_numbers r = padded (signed_of r.number ∷ (signed_of r.place ∷ []))

-- a call that is accepted, with the answer's own numbers
abbrev pub accepted_numbers : List ℤ → List ℤ
accepted_numbers xs = padded (pos 0 ∷ (pos 0 ∷ xs))

-- the numbers of a call that is accepted, or those of its refusal
abbrev pub outcome_numbers : Result Unit Refusal → List ℤ → List ℤ
outcome_numbers (Ok _) numbers = numbers
outcome_numbers (Err r) numbers = refused_numbers r

-- a ranking hands over nothing more: the room is its answer
abbrev pub ranking_numbers : Result Unit Refusal → List ℤ
ranking_numbers outcome = outcome_numbers outcome (accepted_numbers [])

-- a count, or the refusal of the call that counts
abbrev pub counted_numbers : Result ℕ Refusal → List ℤ
counted_numbers (Err r) = refused_numbers r
counted_numbers (Ok n) = accepted_numbers (signed_of n ∷ [])

abbrev pub vector_numbers : Vec3 → List ℤ
vector_numbers v = v.x ∷ (v.y ∷ (v.z ∷ []))

-- the list with a vector's numbers from a place on
abbrev pub with_vector : List ℤ → ℕ → Vec3 → List ℤ
with_vector xs i v = set (set (set xs i v.x) (i + 1) v.y) (i + 2) v.z

-- three numbers of a list, from a place on
abbrev pub vector_at : List ℤ → ℕ → Vec3
vector_at xs i = record { x = get_or xs i (pos 0); y = get_or xs (i + 1) (pos 0); z = get_or xs (i + 2) (pos 0) }
