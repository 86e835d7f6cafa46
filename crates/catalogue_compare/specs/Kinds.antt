-- What is said of an identity, by who has it. Assumes nothing.
use Rattle.std.specs.Prelude.{true, false, ◌≡◌, List, ℕ}
use Rattle.catalogue_compare.specs.Changes.{place_of, has, differ, both_kind, kind_of}

module _ (first second : List ℕ) (x : ℕ) where
  pub kind-first : has first x ≡ true → has second x ≡ false → kind_of first second x ≡ 1
  unfolding kind_of
  kind-first a b = rw (a, b)

  pub kind-second : has first x ≡ false → has second x ≡ true → kind_of first second x ≡ 2
  unfolding kind_of
  kind-second a b = rw (a, b)

  pub kind-none : has first x ≡ false → has second x ≡ false → kind_of first second x ≡ 0
  unfolding kind_of
  kind-none a b = rw (a, b)

  pub kind-both : has first x ≡ true → has second x ≡ true → kind_of first second x ≡ both_kind first (place_of first x) second (place_of second x)
  unfolding kind_of
  kind-both a b = rw (a, b)

-- the ways that it can be
pub data Way (first second : List ℕ) (x : ℕ) : Type 0 where
  only-first : has first x ≡ true → has second x ≡ false → kind_of first second x ≡ 1 → Way first second x
  only-second : has first x ≡ false → has second x ≡ true → kind_of first second x ≡ 2 → Way first second x
  differing : has first x ≡ true → has second x ≡ true → differ first (place_of first x) second (place_of second x) ≡ true → kind_of first second x ≡ 3
      → Way first second x
  same : has first x ≡ true → has second x ≡ true → differ first (place_of first x) second (place_of second x) ≡ false → kind_of first second x ≡ 0
      → Way first second x
  neither : has first x ≡ false → has second x ≡ false → kind_of first second x ≡ 0 → Way first second x
