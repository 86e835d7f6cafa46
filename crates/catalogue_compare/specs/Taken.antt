-- The code's step as the definitions speak of it. Assumes nothing.
use Rattle.std.specs.Prelude.{ℕ, Option, Some, None}
use Rattle.catalogue_compare.specs.declared.step.Change.{Change}
use Rattle.catalogue_compare.specs.declared.step.Change.TheVariants.{Removed, Added, Changed}
use Rattle.catalogue_compare.specs.declared.step.Step.{Step as Taken}
use Rattle.catalogue_compare.specs.Step.{Step}

-- the number that a record of the list has for a change; 0 where nothing is listed
abbrev pub kind_number : Option Change → ℕ
kind_number None = 0
kind_number (Some Removed) = 1
kind_number (Some Added) = 2
kind_number (Some Changed) = 3

abbrev pub step_from : Taken → Step
step_from s = record { identity = s.identity; kind = kind_number s.change; first = s.first; second = s.second }
