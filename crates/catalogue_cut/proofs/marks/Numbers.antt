-- A mark as the number that the definitions speak of. Assumes nothing.
use Rattle.std.specs.Prelude.{Bool, true, false, not, List, ℕ, ◌≡◌, refl, length, get_or, set, eqb}
use Rattle.std.proofs.Common.{sym, ◌∙◌, eqb-true}
use Rattle.std.proofs.lemmas.Bool.{eqb-false, not-true, not-false}
use Rattle.std.proofs.Math.ListN.{get_or-map}
use Rattle.std.proofs.lemmas.List.{map-set, length-map}
use denote.Enum.Bare.{sameb}
use Rattle.catalogue_cut.specs.contracts.marks.Mark.{the_type}
use Rattle.catalogue_cut.specs.declared.marks.Mark.{Mark}
use Rattle.catalogue_cut.specs.declared.marks.Mark.TheVariants.{Kept, Crowded, Faint}
use Rattle.catalogue_cut.specs.marks.Number.{number_of, numbers_of}

pub numbers-length : (marks : List Mark) → length (numbers_of marks) ≡ length marks
numbers-length marks = length-map marks number_of

pub number-at : (marks : List Mark) (k : ℕ) → get_or (numbers_of marks) k 0 ≡ number_of (get_or marks k Kept)
number-at marks k = get_or-map number_of marks k Kept

pub numbers-set : (marks : List Mark) (k : ℕ) (m : Mark) → numbers_of (set marks k m) ≡ set (numbers_of marks) k (number_of m)
numbers-set marks k m = map-set number_of marks k m

-- ---- a mark that the code compares with another

pub faint-same : (m : Mark) → sameb the_type m Faint ≡ eqb (number_of m) 2
faint-same Kept = refl
faint-same Crowded = refl
faint-same Faint = refl

pub is-faint : (m : Mark) {t : Bool} → t ≡ sameb the_type m Faint → t ≡ true → number_of m ≡ 2
is-faint m e h = eqb-true (number_of m) 2 (sym (faint-same m) ∙ sym e ∙ h)

pub not-faint : (m : Mark) {t : Bool} → t ≡ sameb the_type m Faint → t ≡ false → number_of m ≡ 2 → ⊥
not-faint m e h = eqb-false (number_of m) 2 (sym (faint-same m) ∙ sym e ∙ h)

pub unequal-bright : (m : Mark) {t : Bool} → t ≡ not (sameb the_type m Faint) → t ≡ true → number_of m ≡ 2 → ⊥
unequal-bright m e h = eqb-false (number_of m) 2 (sym (faint-same m) ∙ not-true _ (sym e ∙ h))

pub unequal-faint : (m : Mark) {t : Bool} → t ≡ not (sameb the_type m Faint) → t ≡ false → number_of m ≡ 2
unequal-faint m e h = eqb-true (number_of m) 2 (sym (faint-same m) ∙ not-false _ (sym e ∙ h))
