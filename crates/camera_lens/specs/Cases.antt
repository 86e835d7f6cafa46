-- Cases with numbers: the plate of source document 000, the ends of the range, and the smallest and largest floats. Assumes nothing.
use Rattle.std.specs.Prelude.{◌≡◌, true, false, pos, negsuc, refl, Float}
use Rattle.std.specs.Float.{fin}
use Rattle.std.specs.Float.Ieee.{of_int, round, mul, div, lt}
use Rattle.refusal.specs.Table.{first_applying}
use Rattle.camera_lens.specs.declared.Lens.TheVariants.{Millimetres, Pixels}
use Rattle.camera_lens.specs.Lens.{in_range, whole_of, lens_ok, focal_number, focal_of, out_of_range}
use Rattle.std.specs.Prelude.{Ok}

-- 12 mm at 7.5 micrometres
pub plate : focal_of (Millimetres (fin false 3 (pos 2)) (fin false 15 (negsuc 0))) ≡ Ok (pos 409600)
unfolding focal_of lens_ok focal_number first_applying in_range whole_of lt mul div of_int round
plate = refl

-- both below zero, the two signs would cancel
pub plate-below-zero : focal_of (Millimetres (fin true 3 (pos 2)) (fin true 15 (negsuc 0))) ≡ out_of_range
unfolding focal_of lens_ok first_applying lt
plate-below-zero = refl

-- ---- the ends of the range, of 256 q: 16,384 is taken, and the float before it is not

pub least-taken : focal_of (Pixels (fin false 1 (pos 6))) ≡ Ok (pos 16384)
unfolding focal_of lens_ok focal_number first_applying in_range whole_of lt
least-taken = refl

pub below-least : focal_of (Pixels (fin false 9007199254740991 (negsuc 46))) ≡ out_of_range
unfolding focal_of lens_ok first_applying in_range lt
below-least = refl

-- 4,194,304.5 is taken, as 4,194,304, and so is the last float before 4,194,305, which is not

pub half-above : focal_of (Pixels (fin false 8388609 (negsuc 8))) ≡ Ok (pos 4194304)
unfolding focal_of lens_ok focal_number first_applying in_range whole_of lt
half-above = refl

pub before-limit : focal_of (Pixels (fin false 4503600701112319 (negsuc 37))) ≡ Ok (pos 4194304)
unfolding focal_of lens_ok focal_number first_applying in_range whole_of lt
before-limit = refl

pub limit-refused : focal_of (Pixels (fin false 4194305 (negsuc 7))) ≡ out_of_range
unfolding focal_of lens_ok first_applying in_range lt
limit-refused = refl

-- ---- the smallest number above zero is too short a focal length, but over itself it makes 1,000 pixels

pub smallest : focal_of (Pixels (fin false 1 (negsuc 1073))) ≡ out_of_range
unfolding focal_of lens_ok first_applying in_range lt
smallest = refl

pub smallest-both : focal_of (Millimetres (fin false 1 (negsuc 1073)) (fin false 1 (negsuc 1073))) ≡ Ok (pos 256000)
unfolding focal_of lens_ok focal_number first_applying in_range whole_of lt mul div of_int round
smallest-both = refl

-- ---- the largest number: times 1,000 it is rounded to an infinity, also where the quotient alone would be in range

abbrev largest : Float
largest = fin false 9007199254740991 (pos 971)

pub largest-both : focal_of (Millimetres largest largest) ≡ out_of_range
unfolding focal_of lens_ok first_applying in_range lt mul div of_int round
largest-both = refl
