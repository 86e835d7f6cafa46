-- What `beaten` says: some pixel of the frame, at most 3 rows and columns away, is earlier and at least as large, or is larger; and if none
-- is, the pixel is not beaten. Assumes nothing.
use Rattle.std.specs.Prelude.{◌&&◌, ◌≡◌, List, ℕ, ◌<◌}
use Rattle.std.proofs.Math.Bool.{true}
use Rattle.std.proofs.Common.{arith}
use Rattle.lists.specs.TestsLaws.{both_true}
use Rattle.frame_window.specs.Window.{near, beats, hits, row_hits, beaten}
use Rattle.frame_window.specs.Laws.{some-found, near_le, by-pixel, InWindow, Wins, beats-says, says-beats, BeatenBy}

module _ (samples : List ℕ) (width height row column : ℕ) where
  -- a hit is a pixel of the window that wins
  pub hit-says : (r c : ℕ) → r < height → c < width → hits samples width row column r c ≡ true → InWindow width height row column r c
      × Wins samples width row column r c
  hit-says r c p q e =
      let t = both_true (near row r && near column c) (beats samples width row column r c) e in
      let u = both_true (near row r) (near column c) t.0 in
      (record { in_row = p; in-column = q; rows = near_le row r u.0; columns = near_le column c u.1 }, beats-says samples width row column r c t.1)

  pub beaten-says : beaten samples width height row column ≡ true → BeatenBy samples width height row column
  unfolding beaten
  beaten-says e =
      let a = some-found height (λ r. row_hits samples width row column r) e in
      let b = some-found width (λ c. hits samples width row column a.0 c) a.2 in
      let h = hit-says a.0 b.0 a.1 b.1 b.2 in
      record { r = a.0; c = b.0; near_by = h.0; wins = h.1 }

  pub says-beaten : BeatenBy samples width height row column → beaten samples width height row column ≡ true
  says-beaten b =
      let w = b.near_by in
      by-pixel samples width height row column b.r b.c w.in_row w.in-column (omega arith) (omega arith) (omega arith) (omega arith)
      (says-beats samples width row column b.r b.c b.wins)
