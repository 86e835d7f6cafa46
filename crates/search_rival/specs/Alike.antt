-- Magnitudes have no say in the rivals of an identification: two valid catalogues with the same identities and directions get the same answer. Assumes nothing.
use Rattle.std.specs.Prelude.{◌≡◌, true, List, ℕ, ℤ}
use Rattle.refusal.specs.Table.{answered}
use Rattle.camera_direction.specs.ListLaws.{directions_in}
use Rattle.catalogue.specs.Alike.{Alike, stars-same}
use Rattle.search_theory.specs.Rival.{sought}
use Rattle.search_theory.specs.Run as run
use Rattle.search_fit.specs.Fit.{problem}
use Rattle.search.specs.Alike.{search-same}
use Rattle.search_rival.specs.Contested.{refused_with, found_of, contest_of}

pub rival-same :
    {first second : List ℕ} → Alike first second → (directions : List ℤ) (needed tolerance : ℕ) (words : List ℕ) →
    contest_of directions first needed tolerance words ≡ contest_of directions second needed tolerance words
unfolding contest_of
rival-same a directions needed tolerance words =
    let ours = search-same a directions needed tolerance words in
    (λ j.
    answered refused_with
    (found_of
    (run.first_fit
    (sought true (ours j).stars
    (problem (record { dirs = directions_in directions; stars = a.count j; needed = needed; tolerance = tolerance }) words directions (stars-same a j)))))
    (ours j).outcome)
