-- Lenses stated by numbers of other kinds: that of the settings file, whose F over 256 is the pixel form, and that of a caller who has no enum. Assumes
-- nothing.
use Rattle.std.specs.Prelude.{ℕ, false, cond, pos, ◌==◌, Float}
use Rattle.std.specs.Float.{fin, binary64}
use Rattle.std.specs.Float.Ieee.{of_int, div}
use Rattle.camera_lens.specs.declared.Lens.{Lens}
use Rattle.camera_lens.specs.declared.Lens.TheVariants.{Millimetres, Pixels}

unfoldable pub settings_lens : ℕ → Lens
settings_lens f = Pixels (div binary64 (of_int binary64 (pos f)) (of_int binary64 (pos 256)))

-- a focal length of 0, which is refused
abbrev pub none : Lens
none = Pixels (fin false 0 (pos 0))

-- kind 0 is millimetres and 1 is pixels, which have one number; any other kind is none
unfoldable pub stated_lens : ℕ → Float → Float → Lens
stated_lens kind first second = cond (kind == 0) (Millimetres first second) (cond (kind == 1) (Pixels first) none)
