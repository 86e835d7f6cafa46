-- A look along the stars of a scene beside the first words. Assumes nothing.
use Rattle.std.specs.Prelude.{◌≡◌, ℕ, List, ℤ}
use Rattle.search_fit.specs.declared.Setup.{Setup}
use Rattle.search_fit.specs.declared.look.Look.{Look}
use Rattle.search_fit.specs.Fit.{NewestOf}

-- it goes by the scene's stars and tolerance, the words c and these dot products, and the newest star of the first i words
pub record LooksBeside (s : Setup) (list : List ℤ) (c : List ℕ) (dots : List ℤ) (i : ℕ) (l : Look) : Type 0 where
  pub stars : l.stars.now ≡ list
  pub count : l.count ≡ s.stars
  pub tolerance : l.tolerance ≡ s.tolerance
  pub words : l.chosen.now ≡ c
  pub products : l.dots.now ≡ dots
  pub newest : NewestOf list s.stars c dots i l.newest
