-- What `first_beating` names: the first pixel in row order of the window, cut to the frame, that beats another; and nothing exactly where the
-- pixel is not beaten. Assumes nothing.
use Rattle.std.specs.Prelude.{Bool, ◌≡◌, List, ℕ, ◌+◌, ◌-◌, ◌≤◌, ◌<◌, min, Option, Some, None}
use Rattle.std.proofs.Math.Bool.{true, false, cond}
use Rattle.std.proofs.Math.Path.{refl}
use Rattle.std.proofs.Common.{arith}
use Rattle.lists.specs.Contradiction.{contradiction}
use Rattle.lists.specs.First.{First}
use Rattle.lists.proofs.First.{first_of}
use Rattle.frame_window.specs.declared.Place.{Place}
use Rattle.frame_window.specs.Window.{beats, hits, row_hits, beaten, place_of, first_beating}
use Rattle.frame_window.specs.Laws.{some-here, hit, miss, row-misses, by-pixel, by-none, Earlier, InWindow, Wins}

-- ---- as a look in row order meets it

module _ (samples : List ℕ) (width height row column : ℕ) where
  pub none_first : ((r : ℕ) → r < min (row + 4) height → row - 3 ≤ r → (c : ℕ) → c < min (column + 4) width → column - 3 ≤ c
      → beats samples width row column r c ≡ false)
      → first_beating samples width height row column ≡ None
  unfolding first_beating
  none_first g = rw (by-none samples width height row column g)

  -- a pixel of the window that beats it, behind rows and behind pixels of its row that do not
  pub first-there : (r c : ℕ) → r < height → c < width → row - 3 ≤ r → r < row + 4 → column - 3 ≤ c → c < column + 4
      → beats samples width row column r c ≡ true
      → ((j : ℕ) → j < r → row - 3 ≤ j → (k : ℕ) → k < min (column + 4) width → column - 3 ≤ k → beats samples width row column j k ≡ false)
      → ((k : ℕ) → k < c → column - 3 ≤ k → beats samples width row column r k ≡ false)
      → first_beating samples width height row column ≡ Some (place_of r c)
  unfolding first_beating
  first-there r c p q s t u v e above left =
      let y = hit samples width row column r c s t u v e in
      let f : First (λ r. row_hits samples width row column r) height r =
      record {
        most = omega arith;
        none = λ j h. row-misses samples width height row column j (λ a b. above j h a);
        taken = λ _. some-here width c (λ c. hits samples width row column r c) q y;
      } in
      let g : First (λ c. hits samples width row column r c) width c =
      record { most = omega arith; none = λ k h. miss samples width row column r k (λ a b d z. left k h d); taken = λ _. y } in
      rw (
        by-pixel samples width height row column r c p q s t u v e,
        ← first_of (λ r. row_hits samples width row column r) height f,
        ← first_of (λ c. hits samples width row column r c) width g,
      )

-- ---- beaten, or not

module _ (samples : List ℕ) (width height row column : ℕ) where
  pub found-beaten : (r c : ℕ) → first_beating samples width height row column ≡ Some (place_of r c) → beaten samples width height row column ≡ true
  unfolding first_beating
  found-beaten r c = go _ (beaten samples width height row column)
    where
      go : (x : Option Place) (b : Bool) → cond b x None ≡ Some (place_of r c) → b ≡ true
      go x true e = refl
      go x false e = contradiction (cc)

  pub nothing-unbeaten : first_beating samples width height row column ≡ None → beaten samples width height row column ≡ false
  unfolding first_beating
  nothing-unbeaten = go _ _ (beaten samples width height row column)
    where
      go : (r c : ℕ) (b : Bool) → cond b (Some (place_of r c)) None ≡ None → b ≡ false
      go r c true e = contradiction (cc)
      go r c false e = refl

-- ---- in words, both ways

-- the pixel at r, c is of the window and wins, and no pixel of the window that stands before it does
pub record FirstAt (samples : List ℕ) (width height row column r c : ℕ) : Type 0 where
  pub near_by : InWindow width height row column r c
  pub wins : Wins samples width row column r c
  pub none_before : (j k : ℕ) → InWindow width height row column j k → Earlier r c j k → Wins samples width row column j k → ⊥
