-- What a verdict says of its pixel. Assumes nothing.
use Rattle.std.specs.Prelude.{List, ℕ, ◌≤◌, ◌<◌}
use Rattle.std.proofs.Math.Bool.{false}
use Rattle.std.proofs.Math.Path.{◌≡◌}
use Rattle.frame_window.specs.Window.{at, beaten}
use Rattle.frame_window.specs.neighbours.Neighbours.{half}
use Rattle.frame_window.specs.neighbours.Laws.{Beside, LitBy}
use Rattle.frame_centroid.specs.Centroid.{brightness, centroid_of}
use Rattle.frame_centroid.specs.declared.Centroid.{Centroid}
use Rattle.frame_verdict.specs.Inside.{Inside}

-- ---- a peak, or not

-- ---- a measured pixel

-- its sample reaches the threshold, no pixel beats it, it has 3 rows and columns on each side, a neighbour reaches half the threshold, it has some
-- brightness, and its centroid is the rule's
pub record MeasuredAs (samples : List ℕ) (width height threshold row column : ℕ) (c : Centroid) : Type 0 where
  pub bright : threshold ≤ at samples width row column
  pub unbeaten : beaten samples width height row column ≡ false
  pub room : Inside width height row column
  pub lit : LitBy samples width height threshold row column
  pub some : 0 < brightness samples width row column
  pub is : c ≡ centroid_of samples width row column

-- ---- a lone pixel

-- it would be measured, but none of its neighbours reaches half the threshold
pub record LoneAs (samples : List ℕ) (width height threshold row column : ℕ) : Type 0 where
  pub bright : threshold ≤ at samples width row column
  pub unbeaten : beaten samples width height row column ≡ false
  pub room : Inside width height row column
  pub alone : (r c : ℕ) → Beside width height row column r c → at samples width r c < half threshold
