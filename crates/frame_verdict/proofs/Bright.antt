-- What is measured has some brightness, on every frame. No pixel of its window beats it, so none there is larger; those of the top border are earlier,
-- so each of them is smaller. The border's 24 samples then come to less than 24 times its own, and its own weight is above 0. Assumes nothing.
use Rattle.std.specs.Prelude.{Bool, true, false, ◌≡◌, refl, List, ℕ, zero, suc, ◌+◌, ◌-◌, ◌*◌, ◌≤◌, ◌<◌, ltb}
use Rattle.std.proofs.Common.{inl, not-suc-le-zero, ltb-true, ltb-false}
use native.Mathlib.Omega.{arith}
use Rattle.frame_window.specs.Window.{at, beaten}
use Rattle.frame_window.specs.Laws.{InWindow}
use Rattle.frame_window.proofs.Unbeaten.{none-larger, earlier-smaller}
use Rattle.frame_centroid.specs.Sums.{sum_below}
use Rattle.frame_centroid.specs.Border.{border, border_sum, sampled, table-sum, row_below, column-below}
use Rattle.frame_centroid.specs.Centroid.{weight, brightness}
use Rattle.frame_verdict.specs.Inside.{Inside}
use Rattle.frame_verdict.specs.Bright.{sum_less}

-- one of them is at most the sum
sum_one : (n k : ℕ) (g : ℕ → ℕ) → k < n → g k ≤ sum_below n g
unfolding sum_below
sum_one zero k g l = absurd (not-suc-le-zero l)
sum_one (suc n) k g l = go (ltb k n) refl (sum_one n k g)
  where
    go : (b : Bool) → ltb k n ≡ b → (k < n → g k ≤ sum_below n g) → g k ≤ sum_below n g + g n
    go true e f = omega (arith, f (ltb-true k n e))
    go false e f = let s : k ≡ n = omega (arith, ltb-false k n e) in rw s (omega arith)

module _ (samples : List ℕ) (width height row column : ℕ) (unbeaten : beaten samples width height row column ≡ false) (room : Inside width height row column)
  where
    -- the place i, j from the window's top left
    placed : (i j : ℕ) → i < 7 → j < 7 → InWindow width height row column (row - 3 + i) (column - 3 + j)
    placed i j p q = record { in_row = omega arith; in-column = omega arith; rows = (omega arith, omega arith); columns = (omega arith, omega arith) }

    top-smaller : (j : ℕ) → j < 7 → at samples width (row - 3 + 0) (column - 3 + j) < at samples width row column
    top-smaller j q =
        earlier-smaller samples width height row column unbeaten (row - 3 + 0) (column - 3 + j) (placed 0 j (omega arith) q) (inl (omega arith))

    border-less : border_sum samples width row column < 24 * at samples width row column
    unfolding border
    border-less =
        rw (← table-sum samples width row column)
        (sum_less 23 (at samples width row column) (sampled samples width row column) (top-smaller 0 (omega arith))
        (λ k l. none-larger samples width height row column unbeaten _ _ (placed _ _ (row_below k) (column-below k))))

    -- THE LAW: brightness is above 0
    pub bright : 0 < brightness samples width row column
    unfolding brightness
    bright =
        let row-own = sum_one 5 2 (λ j. weight samples width row column 2 j) (omega arith) in
        let all-rows = sum_one 5 2 (λ i. sum_below 5 (λ j. weight samples width row column i j)) (omega arith) in
        let r : row - 2 + 2 ≡ row = omega arith in
        let c : column - 2 + 2 ≡ column = omega arith in
        let centre : at samples width (row - 2 + 2) (column - 2 + 2) ≡ at samples width row column = rw (r, c) in
        omega (arith, border-less)
