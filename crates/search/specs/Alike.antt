-- Magnitudes have no say in the search: two valid catalogues with the same identities and directions get the same answer. Assumes nothing.
use Rattle.std.specs.Prelude.{◌≡◌, List, ◌++◌, ℕ, ℤ}
use Rattle.refusal.specs.Table.{first_applying, answered}
use Rattle.camera_direction.specs.ListLaws.{directions_in}
use Rattle.catalogue.specs.Alike.{Alike, stars-same, rows_same}
use Rattle.search_theory.specs.Run as run
use Rattle.search_fit.specs.Fit.{problem}
use Rattle.search.specs.Refusals.{rows_beside, refusals_of}
use Rattle.search.specs.Identified.{refused_with, found_of, identification_of}

pub search-same :
    {first second : List ℕ} → Alike first second → (directions : List ℤ) (needed tolerance : ℕ) (words : List ℕ) →
    identification_of directions first needed tolerance words ≡ identification_of directions second needed tolerance words
unfolding identification_of refusals_of
search-same a directions needed tolerance words =
    (λ j.
    answered refused_with
    (found_of (run.first_fit (problem (record { dirs = directions_in directions; stars = a.count j; needed = needed; tolerance = tolerance }) words directions
    (stars-same a j))))
    (first_applying (rows_same a j ++ rows_beside directions (a.count j) needed tolerance words)))
