-- The numbers of the whole chain: the frame's list, the star of each listed direction, and the matrix by rows. Assumes nothing.
use Rattle.std.specs.Prelude.{List, ◌++◌, ℕ, ℤ}
use Rattle.camera_lens.specs.declared.Lens.{Lens}
use Rattle.chain.specs.declared.Settings.{Settings}
use Rattle.chain.specs.declared.Tracked.{Tracked}
use Rattle.c_numbers.specs.Numbers.{accepted_numbers, outcome_numbers}
use Rattle.c_numbers.specs.Stars.{names_numbers}
use Rattle.c_interface.specs.frame.Frame.{report_numbers}
use Rattle.c_numbers.specs.Matrix.{matrix_numbers}

abbrev pub settings_of : ℕ → ℕ → ℕ → ℤ → ℤ → Lens → ℕ → ℕ → Settings
settings_of width height threshold cx cy lens needed tolerance =
    record { width = width; height = height; threshold = threshold; needed = needed; cx = cx; cy = cy; lens = lens; tolerance = tolerance }

abbrev pub chain_numbers : ℕ → Tracked → List ℤ
chain_numbers stars t =
    outcome_numbers t.outcome
    (accepted_numbers (report_numbers t.report ++ (names_numbers t.stars t.report.count stars ++ matrix_numbers t.matrix)))
