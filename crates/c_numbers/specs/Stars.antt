-- Stars among the numbers: those of a frame's list, and those that directions are. Assumes nothing.
use Rattle.std.specs.Prelude.{cond, List, [], ◌∷◌, ◌++◌, ℕ, zero, suc, ◌+◌, ◌*◌, leb, ℤ, pos, negsuc, get_or, set}
use Rattle.frame_centroid.specs.declared.Centroid.{Centroid}
use Rattle.frame_list.specs.Stars.{nought}
use Rattle.numbers.specs.TwosComplement.{signed_of}

-- f 0, f 1, … one after the other
unfoldable pub joined : (ℕ → List ℤ) → ℕ → List ℤ
joined f zero = []
joined f (suc n) = joined f n ++ f n

abbrev pub star_numbers : Centroid → List ℤ
star_numbers s = signed_of s.x ∷ (signed_of s.y ∷ (signed_of s.brightness ∷ []))

-- the eight stars of a frame's list
abbrev pub stars_numbers : List Centroid → List ℤ
stars_numbers stars = joined (λ (k : ℕ). star_numbers (get_or stars k nought)) 8

-- the star of direction i by its word: its record number, -1 for none, and 0 behind the directions
abbrev pub name_of : ℕ → ℕ → ℕ → ℕ → ℤ
name_of word directions stars i = cond (leb directions i) (pos 0) (cond (leb stars word) (negsuc 0) (signed_of word))

abbrev pub name_at : List ℕ → ℕ → ℕ → ℕ → ℤ
name_at words directions stars i = name_of (get_or words i 0) directions stars i

-- the stars of eight directions
abbrev pub names_numbers : List ℕ → ℕ → ℕ → List ℤ
names_numbers words directions stars = joined (λ (i : ℕ). name_at words directions stars i ∷ []) 8

-- ---- the same, stored one after the other

abbrev pub with_star : List ℤ → ℕ → Centroid → List ℤ
with_star xs i s = set (set (set xs i (signed_of s.x)) (i + 1) (signed_of s.y)) (i + 2) (signed_of s.brightness)

-- n stars from place 6 on
unfoldable pub with_stars : List Centroid → ℕ → List ℤ → List ℤ
with_stars stars zero xs = xs
with_stars stars (suc n) xs = with_star (with_stars stars n xs) (6 + 3 * n) (get_or stars n nought)

-- the stars of n directions from a place on
unfoldable pub with_names : ℕ → List ℕ → ℕ → ℕ → ℕ → List ℤ → List ℤ
with_names at words directions stars zero xs = xs
with_names at words directions stars (suc n) xs = set (with_names at words directions stars n xs) (at + n) (name_at words directions stars n)
