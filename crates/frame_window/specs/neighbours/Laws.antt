-- What `lone` and `largest_beside` say: a pixel is lone exactly if none of its neighbours reaches half the threshold; the largest is one of the
-- eight, none is larger, and of a lone pixel it is below half the threshold. Assumes nothing.
use Rattle.std.specs.Prelude.{Bool, false, not, ◌&&◌, ◌≡◌, refl, List, ℕ, ◌+◌, ◌-◌, ◌≤◌, ◌<◌, max, ltb, leb, eqb}
use Rattle.std.proofs.Math.Bool.{true}
use Rattle.std.proofs.Common.{sym, le_trans}
use Rattle.std.proofs.Math.Nat.{le-max_left, le-max_right}
use Rattle.std.proofs.Math.Decide.{dec_lt}
use native.Mathlib.Omega.{arith, max_cases}
use borrow.Author.Tests.{leb-true, le-leb, lt-ltb, le-ltb, eqb-true, eq-eqb, ne_eqb, not-true, not-false}
use Rattle.lists.specs.Contradiction.{contradiction}
use Rattle.lists.specs.TestsLaws.{both_true}
use Rattle.frame_window.specs.Window.{some_below, at}
use Rattle.frame_window.specs.Laws.{both_false, some-here, some-found}
use Rattle.frame_window.specs.neighbours.Neighbours.{adjacent, beside, half, lit, row_lit, lone, largest_of_three, largest_beside}

-- ---- a neighbour, in words

-- the pixel at r, c is of the frame, at most one row and one column off, and not the pixel itself
pub record Beside (width height row column r c : ℕ) : Type 0 where
  pub in_row : r < height
  pub in-column : c < width
  pub rows : (row ≤ r + 1) × (r ≤ row + 1)
  pub columns : (column ≤ c + 1) × (c ≤ column + 1)
  pub other : row ≡ r → column ≡ c → ⊥

-- a pixel that has all eight
pub record Amid (width height row column : ℕ) : Type 0 where
  pub left : 1 ≤ column
  pub right : column + 1 < width
  pub above : 1 ≤ row
  pub below : row + 1 < height

adjacent-says : (a b : ℕ) → adjacent a b ≡ true → (a ≤ b + 1) × (b ≤ a + 1)
adjacent-says a b e =
    let t = both_true (leb a (b + 1)) (leb b (a + 1)) e in
    (leb-true _ _ t.0, leb-true _ _ t.1)

says-adjacent : (a b : ℕ) → a ≤ b + 1 → b ≤ a + 1 → adjacent a b ≡ true
says-adjacent a b p q = rw (le-leb a (b + 1) p, le-leb b (a + 1) q)

module _ (width height row column r c : ℕ) where
  pub beside-says : r < height → c < width → beside row column r c ≡ true → Beside width height row column r c
  beside-says p q e =
      let t = both_true (adjacent row r && adjacent column c) (not (eqb row r && eqb column c)) e in
      let u = both_true (adjacent row r) (adjacent column c) t.0 in
      record {
        in_row = p;
        in-column = q;
        rows = adjacent-says row r u.0;
        columns = adjacent-says column c u.1;
        other =
            apart (not-true (eqb row r && eqb column c) t.1);
      }
    where
      apart : (eqb row r && eqb column c) ≡ false → row ≡ r → column ≡ c → ⊥
      apart f g h =
          let y : (eqb row r && eqb column c) ≡ true = rw (eq-eqb row r g, eq-eqb column c h) in
          contradiction (cc)

  pub says-beside : Beside width height row column r c → beside row column r c ≡ true
  says-beside b =
      rw (
        says-adjacent row r b.rows.0 b.rows.1,
        says-adjacent column c b.columns.0 b.columns.1,
        both_false (eqb row r) (eqb column c) (λ e. ne_eqb column c (b.other (eqb-true row r e))),
      )

-- ---- lone, in words

-- a neighbour that reaches half the threshold
pub record LitBy (samples : List ℕ) (width height threshold row column : ℕ) : Type 0 where
  pub r : ℕ
  pub c : ℕ
  pub near_by : Beside width height row column r c
  pub reaches : half threshold ≤ at samples width r c

module _ (samples : List ℕ) (width height threshold row column : ℕ) where
  -- not lone: some neighbour reaches it
  pub lit-says : lone samples width height threshold row column ≡ false → LitBy samples width height threshold row column
  unfolding lone
  lit-says e =
      let a = some-found height (λ r. row_lit samples width threshold row column r) (not-false (some_below height (λ r. row_lit samples width threshold row column r)) e)
      in
      let b = some-found width (λ c. lit samples width threshold row column a.0 c) a.2 in
      let t = both_true (beside row column a.0 b.0) (leb (half threshold) (at samples width a.0 b.0)) b.2 in
      record { r = a.0; c = b.0; near_by = beside-says width height row column a.0 b.0 a.1 b.1 t.0; reaches = leb-true _ _ t.1 }

  pub says-lit : LitBy samples width height threshold row column → lone samples width height threshold row column ≡ false
  unfolding lone
  says-lit b =
      let n = b.near_by in
      let t : lit samples width threshold row column b.r b.c ≡ true =
      rw (says-beside width height row column b.r b.c n, le-leb (half threshold) (at samples width b.r b.c) b.reaches) in
      rw (some-here height b.r (λ r. row_lit samples width threshold row column r) n.in_row
      (some-here width b.c (λ c. lit samples width threshold row column b.r c) n.in-column t))

  -- lone: none does
  pub lone-says : lone samples width height threshold row column ≡ true → (r c : ℕ) → Beside width height row column r c → at samples width r c < half threshold
  lone-says e r c b = go (dec_lt (at samples width r c) (half threshold))
    where
      go : Dec (at samples width r c < half threshold) → at samples width r c < half threshold
      go (yes h) = h
      go (no h) =
          let f = says-lit (record { r = r; c = c; near_by = b; reaches = omega arith }) in
          contradiction (cc)

  pub says-lone : ((r c : ℕ) → Beside width height row column r c → at samples width r c < half threshold)
      → lone samples width height threshold row column ≡ true
  says-lone h = go (lone samples width height threshold row column) refl
    where
      go : (b : Bool) → lone samples width height threshold row column ≡ b → b ≡ true
      go true e = refl
      go false e =
          let l = lit-says e in
          let m = h l.r l.c l.near_by in
          absurd (omega (arith, l.reaches))

-- ---- the largest of the eight

-- m is the sample of a neighbour
pub record OneBeside (samples : List ℕ) (width height row column m : ℕ) : Type 0 where
  pub r : ℕ
  pub c : ℕ
  pub near_by : Beside width height row column r c
  pub is : m ≡ at samples width r c

-- m is the sample of a neighbour, and no neighbour's is larger
pub record LargestBeside (samples : List ℕ) (width height row column m : ℕ) : Type 0 where
  pub one_of : OneBeside samples width height row column m
  pub most : (r c : ℕ) → Beside width height row column r c → at samples width r c ≤ m

three-most : (samples : List ℕ) (width row column c : ℕ) → column ≤ c + 1 → c ≤ column + 1 → at samples width row c ≤ largest_of_three samples width row column
three-most samples width row column c p q = go (dec_lt c column) (dec_lt column c)
  where
    go : Dec (c < column) → Dec (column < c) → at samples width row c ≤ largest_of_three samples width row column
    go (yes h) d = let e : c ≡ column - 1 = omega arith in rw e (omega arith)
    go (no h) (yes k) = let e : c ≡ column + 1 = omega arith in rw e (omega arith)
    go (no h) (no k) = let e : c ≡ column = omega arith in rw e (omega arith)

module _ (samples : List ℕ) (width height row column : ℕ) (room : Amid width height row column) where
  larger-one : (a b : ℕ) → OneBeside samples width height row column a → OneBeside samples width height row column b
      → OneBeside samples width height row column (max a b)
  larger-one a b p q = max_cases a b (OneBeside samples width height row column (max a b)) (λ h e. rw e q) (λ h e. rw e p)

  one : (r c : ℕ) → Beside width height row column r c → OneBeside samples width height row column (at samples width r c)
  one r c b = record { r = r; c = c; near_by = b; is = refl }

  -- three of the row above or below
  three : (r : ℕ) → r < height → row ≤ r + 1 → r ≤ row + 1 → (row ≡ r → ⊥) → OneBeside samples width height row column (largest_of_three samples width r column)
  three r h p q d =
      larger-one _ _ (one r (column - 1) (there (column - 1) (omega arith) (omega arith) (omega arith)))
      (larger-one _ _ (one r column (there column (omega arith) (omega arith) (omega arith)))
      (one r (column + 1) (there (column + 1) (omega arith) (omega arith) (omega arith))))
    where
      there : (c : ℕ) → c < width → column ≤ c + 1 → c ≤ column + 1 → Beside width height row column r c
      there c i j k = record { in_row = h; in-column = i; rows = (p, q); columns = (j, k); other = λ e f. d e }

  -- left and right of it
  side : (c : ℕ) → c < width → column ≤ c + 1 → c ≤ column + 1 → (column ≡ c → ⊥) → OneBeside samples width height row column (at samples width row c)
  side c h p q d = one row c (record { in_row = omega arith; in-column = h; rows = (omega arith, omega arith); columns = (p, q); other = λ e. d })

  none-larger : (r c : ℕ) → Beside width height row column r c → at samples width r c ≤ largest_beside samples width row column
  unfolding largest_beside
  none-larger r c b = go (dec_lt r row) (dec_lt row r) (dec_lt c column)
    where
      go : Dec (r < row) → Dec (row < r) → Dec (c < column) → at samples width r c ≤ largest_beside samples width row column
      go (yes h) d f =
          let e : r ≡ row - 1 = omega arith in
          rw e (le_trans (three-most samples width (row - 1) column c b.columns.0 b.columns.1) (le_trans (le-max_left _ _) (le-max_left _ _)))
      go (no h) (yes k) f =
          let e : r ≡ row + 1 = omega arith in
          rw e (le_trans (three-most samples width (row + 1) column c b.columns.0 b.columns.1) (le_trans (le-max_right _ _) (le-max_left _ _)))
      go (no h) (no k) (yes l) =
          let e : r ≡ row = omega arith in
          let f : c ≡ column - 1 = omega arith in
          rw (e, f) (le_trans (le-max_left _ _) (le-max_right _ _))
      go (no h) (no k) (no l) =
          let e : r ≡ row = omega arith in
          let f : c ≡ column + 1 = omega (arith, b.other (sym e)) in
          rw (e, f) (le_trans (le-max_right _ _) (le-max_right _ _))

  pub largest-is : LargestBeside samples width height row column (largest_beside samples width row column)
  unfolding largest_beside
  largest-is =
      record {
        one_of =
            larger-one _ _
            (larger-one _ _ (three (row - 1) (omega arith) (omega arith) (omega arith) (λ e. omega arith))
            (three (row + 1) (omega arith) (omega arith) (omega arith) (λ e. omega arith)))
            (larger-one _ _ (side (column - 1) (omega arith) (omega arith) (omega arith) (λ e. omega arith))
            (side (column + 1) (omega arith) (omega arith) (omega arith) (λ e. omega arith)));
        most = none-larger;
      }

  -- lone exactly if the largest is below half the threshold
  pub lone-largest : (threshold : ℕ) → lone samples width height threshold row column ≡ ltb (largest_beside samples width row column) (half threshold)
  lone-largest threshold = go (lone samples width height threshold row column) refl
    where
      go : (b : Bool) → lone samples width height threshold row column ≡ b → b ≡ ltb (largest_beside samples width row column) (half threshold)
      go true e =
          let o = largest-is.one_of in
          let l = lone-says samples width height threshold row column e o.r o.c o.near_by in
          sym (lt-ltb (largest_beside samples width row column) (half threshold) (omega (arith, o.is)))
      go false e =
          let l = lit-says samples width height threshold row column e in
          sym (le-ltb (largest_beside samples width row column) (half threshold) (omega (arith, l.reaches, none-larger l.r l.c l.near_by)))

  -- half of 1 is 0, which every sample reaches
  pub never-at-one : lone samples width height 1 row column ≡ false
  never-at-one = rw (lone-largest 1) (le-ltb (largest_beside samples width row column) 0 (omega arith))
