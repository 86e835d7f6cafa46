-- The marks by which records are judged: 0 where a star is kept as far as is known, 1 where another one within the limit is close to it, and 2 where it is
-- fainter than the limit. Assumes nothing.
use Rattle.std.specs.Prelude.{Bool, true, false, cond, not, ◌&&◌, ◌≡◌, List, ℕ, ◌+◌, ◌≤◌, ◌<◌, eqb, ℤ, get_or}
use Rattle.std.specs.Int.Signed.{le_z}
use Rattle.vectors.specs.Triples.{triples, pair_dot}

-- the mark by the magnitude alone
abbrev pub faint_mark : Bool → ℕ
faint_mark bright = cond bright 0 2

-- a star with this mark is not faint, and its dot product with another is at least the closeness
unfoldable pub meets_by : ℤ → ℤ → ℕ → Bool
meets_by closeness product mark = not (eqb mark 2) && le_z closeness product

-- star j is another one within the limit, and close to star k
pub record Meets (bright : ℕ → Bool) (stars : List ℤ) (closeness : ℤ) (k j : ℕ) : Type 0 where
  pub other : j ≡ k → ⊥
  pub within : bright j ≡ true
  pub near : le_z closeness (pair_dot stars k j) ≡ true

-- what the mark m of star k says once it was looked at with the stars below u
pub data Mark (bright : ℕ → Bool) (stars : List ℤ) (closeness : ℤ) (k u m : ℕ) : Type 0 where
  faint : bright k ≡ false → m ≡ 2 → Mark bright stars closeness k u m
  crowded : bright k ≡ true → (j : ℕ) → j < triples stars → Meets bright stars closeness k j → m ≡ 1 → Mark bright stars closeness k u m
  free : bright k ≡ true → ((j : ℕ) → j < u → Meets bright stars closeness k j → ⊥) → m ≡ 0 → Mark bright stars closeness k u m

-- the first a stars were looked at with each other, the others by their magnitudes alone
pub record Judged (bright : ℕ → Bool) (stars : List ℤ) (closeness : ℤ) (a : ℕ) (marks : List ℕ) : Type 0 where
  pub before : (k : ℕ) → k < a → Mark bright stars closeness k a (get_or marks k 0)
  pub behind : (k : ℕ) → k < triples stars → a ≤ k → Mark bright stars closeness k 0 (get_or marks k 0)

-- and so was star a, which is within the limit, with the first b of them: what is known of itself is `own`
pub record Row (bright : ℕ → Bool) (stars : List ℤ) (closeness : ℤ) (a b own : ℕ) (marks : List ℕ) : Type 0 where
  pub within : bright a ≡ true
  pub itself : Mark bright stars closeness a b own
  pub passed : (k : ℕ) → k < b → Mark bright stars closeness k (a + 1) (get_or marks k 0)
  pub left : (k : ℕ) → k < a → b ≤ k → Mark bright stars closeness k a (get_or marks k 0)
  pub behind : (k : ℕ) → k < triples stars → a < k → Mark bright stars closeness k 0 (get_or marks k 0)

-- every pair of stars was looked at, whichever stars are within the limit
abbrev pub AllLooked : List ℤ → ℤ → List ℕ → List ℕ → Type 0
AllLooked stars closeness marks after = (bright : ℕ → Bool) → Judged bright stars closeness 0 marks → Judged bright stars closeness (triples stars) after
