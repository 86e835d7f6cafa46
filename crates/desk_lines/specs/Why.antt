-- Request T-01's tool: the line that says why a pixel is not a star. Assumes nothing.
use Rattle.std.specs.Prelude.{List, ◌++◌, ℕ, length}
use Rattle.frame_centroid.specs.declared.Centroid.{Centroid}
use Rattle.chain.specs.declared.Settings.{Settings}
use Rattle.files.specs.Settings.{reading_of}
use Rattle.files.specs.Samples.{sample_count, samples_of}
use Rattle.frame_reason.specs.declared.Side.{Side}
use Rattle.frame_reason.specs.declared.Side.TheVariants.{Left, Right, Top, Bottom}
use Rattle.frame_reason.specs.declared.Reason.{Reason}
use Rattle.frame_reason.specs.declared.Reason.TheVariants.{Dark, Beaten, Edge, Lone, Measured}
use Rattle.frame_reason.specs.Reason.{explanation_of}
use Rattle.text.specs.Ascii.{ascii}
use Rattle.text.specs.Decimal.{decimal, labelled}
use Rattle.text.specs.Refused.{refusal_line}
use Rattle.std.specs.Prelude.{Result, Ok, Err}
use Rattle.refusal.specs.declared.Refusal.{Refusal}

-- ---- the line

-- a word and two numbers
unfoldable pub pair_line : List ℕ → ℕ → ℕ → List ℕ
pair_line word a b = word ++ decimal a ++ labelled " " b ++ ascii "\n"

abbrev pub side_line : Side → List ℕ
side_line Left = ascii "edge left\n"
side_line Right = ascii "edge right\n"
side_line Top = ascii "edge top\n"
side_line Bottom = ascii "edge bottom\n"

-- the largest sample among the eight neighbours
unfoldable pub lone_line : ℕ → List ℕ
lone_line largest = labelled "lone " largest ++ ascii "\n"

-- position and brightness
unfoldable pub measured_line : Centroid → List ℕ
measured_line c = labelled "measured " c.x ++ labelled " " c.y ++ labelled " " c.brightness ++ ascii "\n"

abbrev pub reason_line : Reason → List ℕ
reason_line (Dark sample threshold) = pair_line (ascii "dark ") sample threshold
reason_line (Beaten row column) = pair_line (ascii "beaten ") row column
reason_line (Edge side) = side_line side
reason_line (Lone largest) = lone_line largest
reason_line (Measured c) = measured_line c

abbrev pub explanation_line : Result Reason Refusal → List ℕ
explanation_line (Err r) = refusal_line r
explanation_line (Ok reason) = reason_line reason

-- ---- the files

-- with settings that were read: a frame file of the wrong length, or of more than 32,000 samples, holds none, which the call refuses
unfoldable pub explained_with : List ℕ → ℕ → ℕ → Settings → Result Reason Refusal
explained_with frame row column s =
    explanation_of (samples_of frame (sample_count (length frame) s.width s.height)) s.width s.height s.threshold row column

abbrev pub explained : List ℕ → ℕ → ℕ → Result Settings Refusal → Result Reason Refusal
explained frame row column (Err r) = Err r
explained frame row column (Ok s) = explained_with frame row column s

-- the line for settings.bin, frame.bin, row and column
unfoldable pub why_text : List ℕ → List ℕ → ℕ → ℕ → List ℕ
why_text settings frame row column = explanation_line (explained frame row column (reading_of settings))
