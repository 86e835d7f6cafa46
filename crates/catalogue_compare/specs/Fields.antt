-- A record's words and the numbers that they stand for: one differs where the other does. Assumes nothing.
use Rattle.std.specs.Prelude.{◌≡◌, List, ℕ, ◌+◌, ◌*◌, ◌<◌, get_or}
use Rattle.std.proofs.Common.{sym, ap, subst, ◌∙◌, arith, lt-ltb, le-ltb, to_z, of_z}
use Rattle.std.proofs.Math.Decide.{dec_lt}
use Rattle.std.specs.Int.{w32}
use mir.ValLaws.{of_z-to_z}
use Rattle.words.specs.NumberLaws.{number-most}
use Rattle.catalogue.specs.Format.{record_size, signed_of, component_of, magnitude_of}
use Rattle.catalogue.specs.Signed.{signed_low, signed_high}
use Rattle.catalogue_compare.specs.Changes.{fields, field_of}
use Rattle.catalogue_compare.specs.DifferLaws.{Other}

-- the number that a word stands for is the one that the machine reads in its bits
signed-bits : (w : ℕ) → w < 4294967296 → signed_of w ≡ to_z w32 w
signed-bits w h = go (dec_lt w 2147483648)
  where
    go : Dec (w < 2147483648) → signed_of w ≡ to_z w32 w
    go (yes l) = signed_low w l ∙ rw (lt-ltb w 2147483648 l)
    go (no l) = signed_high w (omega arith) ∙ rw (lt-ltb w 4294967296 h, le-ltb w 2147483648 (omega arith))

-- so two words that stand for one number are one word
signed-one : (v w : ℕ) → v < 4294967296 → w < 4294967296 → signed_of v ≡ signed_of w → v ≡ w
signed-one v w h k e =
    sym (of_z-to_z w32 v (record { fits = h })) ∙ ap (of_z w32) (sym (signed-bits v h) ∙ e ∙ signed-bits w k) ∙ of_z-to_z w32 w (record { fits = k })

module _ (first : List ℕ) (i : ℕ) (second : List ℕ) (j : ℕ) where
  -- record i of the one and record j of the other differ in x, y or z, or in the magnitude
  pub data Apart : Type 0 where
    component : (axis : ℕ) → axis < 3 → (component_of first i axis ≡ component_of second j axis → ⊥) → Apart
    magnitude : (magnitude_of first i ≡ magnitude_of second j → ⊥) → Apart

  -- the magnitude is the word behind x, y and z
  pub apart-field : Apart → Other first i second j
  unfolding component_of magnitude_of
  apart-field (component k h n) = record { k = k; inside = omega arith; apart = λ e. n (ap signed_of e) }
  apart-field (magnitude n) = record { k = 3; inside = omega arith; apart = λ e. n (ap signed_of e) }

  module _ (b : (n : ℕ) → get_or first n 0 < 256) (c : (n : ℕ) → get_or second n 0 < 256) where
    pub field_apart : (k : ℕ) → k < fields → (field_of first i k ≡ field_of second j k → ⊥) → Apart
    unfolding component_of magnitude_of
    field_apart k h n = go (dec_lt k 3)
      where
        one : (m : ℕ) → signed_of (field_of first i m) ≡ signed_of (field_of second j m) → field_of first i m ≡ field_of second j m
        one m e = signed-one _ _ (number-most first (record_size * i + (4 + 4 * m)) 4 b) (number-most second (record_size * j + (4 + 4 * m)) 4 c) e

        go : Dec (k < 3) → Apart
        go (yes l) = component k l (λ e. n (one k e))
        go (no l) = let q : k ≡ 3 = omega arith in magnitude (λ e. n (subst (λ (m : ℕ). field_of first i m ≡ field_of second j m) (sym q) (one 3 e)))
