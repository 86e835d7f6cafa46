-- The file's focal length is the lens's: the pixel form loses nothing, so that F is what it was as a whole number. Assumes nothing.
use Rattle.std.specs.Prelude.{List, ◌⊎◌, ◌≡◌, ℕ, ◌^◌, ◌≤◌, ◌<◌, pos, length, get_or}
use Rattle.std.proofs.Common.{lt_of_lt_of_le, eq-eqb, ne_eqb, lit≤}
use Rattle.words.specs.Number.{number_at}
use Rattle.words.specs.NumberLaws.{number-most}
use Rattle.camera_lens.specs.Lens.{focal_of, out_of_range}
use Rattle.camera_lens.proofs.StatedLaws.{settings-whole, settings-back, settings-refused}
use Rattle.files.specs.Settings.{settings_of, reading_answer, answer_for}
use Rattle.std.specs.Prelude.{Ok, Err}

module _ (bytes : List ℕ) where
  -- F as the file has it
  abbrev F : ℕ
  F = number_at bytes 16 4

  pub file-focal : 16384 ≤ F → F ≤ 4194304 → focal_of (settings_of bytes).lens ≡ Ok (pos F)
  unfolding settings_of
  file-focal a b = settings-back F a b

  pub file-refused : ((k : ℕ) → get_or bytes k 0 < 256) → (F < 16384) ⊎ (4194304 < F) → focal_of (settings_of bytes).lens ≡ out_of_range
  unfolding settings_of
  file-refused h = settings-refused F (lt_of_lt_of_le (number-most bytes 16 4 h) (lit≤ tt))

-- ---- in document 01's terms

module _ (bytes : List ℕ) where
  pub read_told : length bytes ≡ 32 → number_at bytes 16 4 < 2 ^ 53 → reading_answer (Ok (settings_of bytes)) ≡ answer_for bytes
  unfolding settings_of
  read_told e h = rw (eq-eqb (length bytes) 32 e, settings-whole (number_at bytes 16 4) h)

  pub length-told : (length bytes ≡ 32 → ⊥) → reading_answer (Err (record { number = 1; place = 0 })) ≡ answer_for bytes
  length-told k = rw (ne_eqb (length bytes) 32 k)
