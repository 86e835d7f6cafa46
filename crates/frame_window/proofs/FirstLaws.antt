-- What `first_beating` names: the first pixel in row order of the window, cut to the frame, that beats another; and nothing exactly where the
-- pixel is not beaten. Assumes nothing.
use Rattle.std.specs.Prelude.{Bool, ◌≡◌, List, ℕ, ◌<◌, Some}
use Rattle.std.proofs.Math.Bool.{true, false}
use Rattle.std.proofs.Math.Path.{refl}
use Rattle.std.proofs.Common.{ap, ◌∙◌, inl, inr, ⊎_elim, arith}
use Rattle.std.proofs.Math.Decide.{dec_lt}
use Rattle.lists.specs.Contradiction.{contradiction}
use Rattle.lists.specs.First.{First, first}
use Rattle.lists.proofs.First.{first-is}
use Rattle.frame_window.specs.declared.Place.{Place}
use Rattle.frame_window.specs.Window.{beats, hits, row_hits, beaten, beating_row, beating_column, place_of, first_beating}
use Rattle.frame_window.specs.Laws.{some-not, some-found, hit, beats-says, says-beats, Earlier, InWindow, Wins}
use Rattle.frame_window.proofs.Laws.{hit-says}
use Rattle.frame_window.specs.FirstLaws.{first-there, found-beaten, FirstAt}

-- a test that takes some number below n takes the first of them
first_below : (f : ℕ → Bool) (n k : ℕ) → k < n → f k ≡ true → (first f n < n) × (f (first f n) ≡ true)
first_below f n k h e =
    let l = go (dec_lt (first f n) n) in
    (l, (first-is f n).taken l)
  where
    go : Dec (first f n < n) → first f n < n
    go (yes l) = l
    go (no l) =
        let d = (first-is f n).none k (omega arith) in
        contradiction (cc)

module _ (samples : List ℕ) (width height row column : ℕ) where
  -- a winner of the window hits
  winner-hits : (j k : ℕ) → InWindow width height row column j k → Wins samples width row column j k → hits samples width row column j k ≡ true
  winner-hits j k i w = hit samples width row column j k (omega arith) (omega arith) (omega arith) (omega arith) (says-beats samples width row column j k w)

  differ : (b : Bool) → b ≡ true → b ≡ false → ⊥
  differ b x y = contradiction (cc)

  none-before-it : (r c : ℕ) → First (λ r. row_hits samples width row column r) height r → First (λ c. hits samples width row column r c) width c
      → (j k : ℕ) → InWindow width height row column j k → Earlier r c j k → Wins samples width row column j k → ⊥
  none-before-it r c f g j k i o w =
      let y = winner-hits j k i w in
      ⊎_elim
      (λ l. differ (hits samples width row column j k) y (some-not width k (λ c. hits samples width row column j c) (f.none j l) i.in-column))
      (λ l. differ (hits samples width row column j k) y (ap (λ (x : ℕ). hits samples width row column x k) l.0 ∙ g.none k l.1))
      o

  first-is-there : beaten samples width height row column ≡ true
      → let r = beating_row samples width height row column in
      FirstAt samples width height row column r (beating_column samples width row column r)
  unfolding beaten
  first-is-there e =
      let a = some-found height (λ r. row_hits samples width row column r) e in
      let p = first_below (λ r. row_hits samples width row column r) height a.0 a.1 a.2 in
      let r = beating_row samples width height row column in
      let b = some-found width (λ c. hits samples width row column r c) p.1 in
      let q = first_below (λ c. hits samples width row column r c) width b.0 b.1 b.2 in
      let h = hit-says samples width height row column r (beating_column samples width row column r) p.0 q.0 q.1 in
      record {
        near_by = h.0;
        wins = h.1;
        none_before =
            none-before-it r (beating_column samples width row column r)
            (first-is (λ r. row_hits samples width row column r) height) (first-is (λ c. hits samples width row column r c) width);
      }

  pub first_says : (r c : ℕ) → first_beating samples width height row column ≡ Some (place_of r c) → FirstAt samples width height row column r c
  unfolding first_beating
  first_says r c e =
      let b = found-beaten samples width height row column r c e in
      go _ _ (rw b at e) (first-is-there b)
    where
      go : (a b : ℕ) → Some (place_of a b) ≡ Some (place_of r c) → FirstAt samples width height row column a b → FirstAt samples width height row column r c
      go a b e f =
          let d : place_of a b ≡ place_of r c = cc in
          let p : a ≡ r = ap (λ (x : Place). x.row) d in
          let q : b ≡ c = ap (λ (x : Place). x.column) d in
          rw (← p, ← q) f

  pub says_first : (r c : ℕ) → FirstAt samples width height row column r c → first_beating samples width height row column ≡ Some (place_of r c)
  says_first r c f =
      let i = f.near_by in
      first-there samples width height row column r c i.in_row i.in-column (omega arith) (omega arith) (omega arith) (omega arith)
      (says-beats samples width row column r c f.wins)
      (λ j l a k p q. no-win j k (f.none_before j k (record {
        in_row = omega arith;
        in-column = omega arith;
        rows = (omega arith, omega arith);
        columns =
            (omega arith, omega arith);
      }) (inl l)))
      (λ k l a. no-win r k (f.none_before r k (record { in_row = i.in_row; in-column = omega arith; rows = i.rows; columns = (omega arith, omega arith) })
      (inr (refl, l))))
    where
      no-win : (j k : ℕ) → (Wins samples width row column j k → ⊥) → beats samples width row column j k ≡ false
      no-win j k n = by (beats samples width row column j k) refl
        where
          by : (b : Bool) → beats samples width row column j k ≡ b → b ≡ false
          by false e = refl
          by true e = absurd (n (beats-says samples width row column j k e))
