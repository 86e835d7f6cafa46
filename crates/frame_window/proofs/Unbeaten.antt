-- What the window of a pixel that is not beaten holds: nothing larger than the pixel, and no earlier pixel as large. Assumes nothing.
use Rattle.std.specs.Prelude.{Bool, true, false, ◌≡◌, refl, List, ℕ, ◌≤◌, ◌<◌, ltb}
use Rattle.std.proofs.Common.{inl, inr, ltb-true, ltb-false}
use Rattle.lists.specs.Contradiction.{contradiction}
use Rattle.frame_window.specs.Window.{at, beaten}
use Rattle.frame_window.specs.Laws.{Earlier, InWindow, Wins}
use Rattle.frame_window.proofs.Laws.{says-beaten}

module _ (samples : List ℕ) (width height row column : ℕ) (unbeaten : beaten samples width height row column ≡ false) where
  pub none-wins : (r c : ℕ) → InWindow width height row column r c → Wins samples width row column r c → ⊥
  none-wins r c i w =
      let b = says-beaten samples width height row column (record { r = r; c = c; near_by = i; wins = w }) in
      contradiction (cc)

  pub none-larger : (r c : ℕ) → InWindow width height row column r c → at samples width r c ≤ at samples width row column
  none-larger r c i = go (ltb (at samples width row column) (at samples width r c)) refl
    where
      go : (b : Bool) → ltb (at samples width row column) (at samples width r c) ≡ b → at samples width r c ≤ at samples width row column
      go true e = absurd (none-wins r c i (inr (ltb-true _ _ e)))
      go false e = ltb-false _ _ e

  pub earlier-smaller : (r c : ℕ) → InWindow width height row column r c → Earlier row column r c → at samples width r c < at samples width row column
  earlier-smaller r c i l = go (ltb (at samples width r c) (at samples width row column)) refl
    where
      go : (b : Bool) → ltb (at samples width r c) (at samples width row column) ≡ b → at samples width r c < at samples width row column
      go true e = ltb-true _ _ e
      go false e = absurd (none-wins r c i (inl (l, ltb-false _ _ e)))
