-- The numbers of the reason for a pixel's verdict. Assumes nothing.
use Rattle.std.specs.Prelude.{List, [], ◌∷◌, ℤ}
use Rattle.frame_reason.specs.declared.Reason.{Reason}
use Rattle.frame_reason.specs.declared.Values.{Values}
use Rattle.frame_reason.specs.Reason.{reason_number, values_in}
use Rattle.numbers.specs.TwosComplement.{signed_of}
use Rattle.c_numbers.specs.Numbers.{refused_numbers, accepted_numbers}
use Rattle.std.specs.Prelude.{Result, Ok, Err}
use Rattle.refusal.specs.declared.Refusal.{Refusal}

abbrev pub values_numbers : Values → List ℤ
values_numbers v = signed_of v.first ∷ (signed_of v.second ∷ (signed_of v.third ∷ []))

-- the kind's number, and what the reason names
abbrev pub reason_numbers : Reason → List ℤ
reason_numbers reason = accepted_numbers (signed_of (reason_number reason) ∷ values_numbers (values_in reason))

abbrev pub explanation_numbers : Result Reason Refusal → List ℤ
explanation_numbers (Err r) = refused_numbers r
explanation_numbers (Ok reason) = reason_numbers reason
