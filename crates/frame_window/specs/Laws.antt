-- What `beaten` says: some pixel of the frame, at most 3 rows and columns away, is earlier and at least as large, or is larger; and if none
-- is, the pixel is not beaten. Assumes nothing.
use Rattle.std.specs.Prelude.{Bool, ◌&&◌, ◌≡◌, ◌⊎◌, List, ℕ, zero, suc, ◌+◌, ◌-◌, ◌≤◌, ◌<◌, min, ltb, leb, eqb}
use Rattle.std.proofs.Math.Bool.{true, false, cond}
use Rattle.std.proofs.Math.Path.{refl}
use Rattle.std.proofs.Math.Logic.{inl, inr, ⊎_elim}
use Rattle.std.proofs.Common.{ap, not-suc-le-zero, arith}
use borrow.Author.Tests.{leb-true, le-leb, ltb-true, ltb-false, lt-ltb, le-ltb, eqb-true, eqb-false}
use Rattle.lists.specs.Contradiction.{contradiction}
use Rattle.lists.specs.TestsLaws.{both_true}
use Rattle.frame_window.specs.Window.{some_below, at, near, earlier, beats, hits, row_hits, beaten}

-- ---- a test of every number below a bound

pub some-here : (n k : ℕ) (p : ℕ → Bool) → k < n → p k ≡ true → some_below n p ≡ true
unfolding some_below
some-here zero k p l e = absurd (not-suc-le-zero l)
some-here (suc n) k p l e = go (p n) refl (eqb k n) refl (λ m. some-here n k p m e)
  where
    go : (b : Bool) → p n ≡ b → (d : Bool) → eqb k n ≡ d → (k < n → some_below n p ≡ true) → cond b true (some_below n p) ≡ true
    go true q d r f = refl
    go false q true r f =
        let s : p k ≡ p n = ap p (eqb-true k n r) in
        cc
    go false q false r f =
        let s = eqb-false k n r in
        f (omega arith)

pub some-none : (n : ℕ) (p : ℕ → Bool) → ((k : ℕ) → k < n → p k ≡ false) → some_below n p ≡ false
unfolding some_below
some-none zero p f = refl
some-none (suc n) p f = rw (f n (omega arith)) (some-none n p (λ k l. f k (omega arith)))

pub some-not : (n k : ℕ) (p : ℕ → Bool) → some_below n p ≡ false → k < n → p k ≡ false
some-not n k p e l = go (p k) refl
  where
    go : (b : Bool) → p k ≡ b → b ≡ false
    go false q = refl
    go true q = let t = some-here n k p l q in cc

pub some-found : (n : ℕ) (p : ℕ → Bool) → some_below n p ≡ true → (k : ℕ) × (k < n) × (p k ≡ true)
unfolding some_below
some-found zero p e = contradiction e
some-found (suc n) p e = go (p n) refl (λ d. some-found n p d) e
  where
    go : (b : Bool) → p n ≡ b → (some_below n p ≡ true → (k : ℕ) × (k < n) × (p k ≡ true)) → cond b true (some_below n p) ≡ true → (k : ℕ) × (k < suc n) × (p k ≡ true)
    go true q f d = (n, omega arith, q)
    go false q f d = let r = f d in (r.0, omega arith, r.2)

pub both_false : (a b : Bool) → (a ≡ true → b ≡ false) → a && b ≡ false
both_false true b f = f refl
both_false false b f = refl

pub near_le : (a b : ℕ) → near a b ≡ true → (a ≤ b + 3) × (b ≤ a + 3)
near_le a b e =
    let t = both_true (leb a (b + 3)) (leb b (a + 3)) e in
    (leb-true _ _ t.0, leb-true _ _ t.1)

le-near : (a b : ℕ) → a ≤ b + 3 → b ≤ a + 3 → near a b ≡ true
le-near a b p q = rw (le-leb a (b + 3) p, le-leb b (a + 3) q)

-- ---- a look through the window

module _ (samples : List ℕ) (width row column r c : ℕ) where
  pub hit : row - 3 ≤ r → r < row + 4 → column - 3 ≤ c → c < column + 4 → beats samples width row column r c ≡ true → hits samples width row column r c ≡ true
  hit s t u v e = rw (le-near row r (omega arith) (omega arith), le-near column c (omega arith) (omega arith), e)

  pub miss : (row - 3 ≤ r → r < row + 4 → column - 3 ≤ c → c < column + 4 → beats samples width row column r c ≡ false)
      → hits samples width row column r c ≡ false
  miss f =
      both_false (near row r && near column c) (beats samples width row column r c)
      (λ e.
      let t = both_true (near row r) (near column c) e in
      let u = near_le row r t.0 in
      let v = near_le column c t.1 in
      f (omega arith) (omega arith) (omega arith) (omega arith))

module _ (samples : List ℕ) (width height row column : ℕ) where
  -- a pixel of the window that beats it: it is beaten
  pub by-pixel : (r c : ℕ) → r < height → c < width → row - 3 ≤ r → r < row + 4 → column - 3 ≤ c → c < column + 4
      → beats samples width row column r c ≡ true → beaten samples width height row column ≡ true
  unfolding beaten
  by-pixel r c p q s t u v e =
      some-here height r (λ r. row_hits samples width row column r) p
      (some-here width c (λ c. hits samples width row column r c) q (hit samples width row column r c s t u v e))

  -- none of a row does
  pub row-misses : (r : ℕ) → (row - 3 ≤ r → r < row + 4 → (c : ℕ) → c < min (column + 4) width → column - 3 ≤ c → beats samples width row column r c ≡ false)
      → row_hits samples width row column r ≡ false
  row-misses r g =
      some-none width (λ c. hits samples width row column r c) (λ c q. miss samples width row column r c (λ s t u v. g s t c (omega arith) u))

  -- none of the window does: it is not
  pub by-none : ((r : ℕ) → r < min (row + 4) height → row - 3 ≤ r → (c : ℕ) → c < min (column + 4) width → column - 3 ≤ c
      → beats samples width row column r c ≡ false)
      → beaten samples width height row column ≡ false
  unfolding beaten
  by-none g = some-none height (λ r. row_hits samples width row column r) (λ r p. row-misses r (λ s t. g r (omega arith) s))

-- ---- in words, both ways

-- the pixel at r, c stands before the one at row, column in row order
abbrev pub Earlier : ℕ → ℕ → ℕ → ℕ → Type 0
Earlier row column r c = (r < row) ⊎ ((r ≡ row) × (c < column))

pub earlier-says : (row column r c : ℕ) → earlier row column r c ≡ true → Earlier row column r c
unfolding earlier
earlier-says row column r c = go (ltb r row) refl (ltb row r) refl
  where
    go : (a : Bool) → ltb r row ≡ a → (b : Bool) → ltb row r ≡ b → cond a true (cond b false (ltb c column)) ≡ true → Earlier row column r c
    go true p b q e = inl (ltb-true r row p)
    go false p true q e = contradiction (cc)
    go false p false q e =
        let l = ltb-false r row p in
        let m = ltb-false row r q in
        inr (omega arith, ltb-true c column e)

pub says-earlier : (row column r c : ℕ) → Earlier row column r c → earlier row column r c ≡ true
unfolding earlier
says-earlier row column r c s =
    ⊎_elim
    (λ l. rw (lt-ltb r row l))
    (λ l. rw (le-ltb r row (omega arith), le-ltb row r (omega arith)) (lt-ltb c column l.1))
    s

-- the pixel at r, c is of the frame and at most 3 rows and columns away from the one at row, column
pub record InWindow (width height row column r c : ℕ) : Type 0 where
  pub in_row : r < height
  pub in-column : c < width
  pub rows : (row ≤ r + 3) × (r ≤ row + 3)
  pub columns : (column ≤ c + 3) × (c ≤ column + 3)

-- it is earlier and at least as large, or is larger: a later one has to be larger, and an earlier one that is larger is at least as large
abbrev pub Wins : List ℕ → ℕ → ℕ → ℕ → ℕ → ℕ → Type 0
Wins samples width row column r c =
    (Earlier row column r c × (at samples width row column ≤ at samples width r c)) ⊎ (at samples width row column < at samples width r c)

module _ (samples : List ℕ) (width row column r c : ℕ) where
  pub beats-says : beats samples width row column r c ≡ true → Wins samples width row column r c
  unfolding beats
  beats-says = go (earlier row column r c) refl
    where
      go : (b : Bool) → earlier row column r c ≡ b → cond b (leb (at samples width row column) (at samples width r c)) (ltb (at samples width row column) (at samples width r c)) ≡ true
          → Wins samples width row column r c
      go true p q = inl (earlier-says row column r c p, leb-true _ _ q)
      go false p q = inr (ltb-true _ _ q)

  pub says-beats : Wins samples width row column r c → beats samples width row column r c ≡ true
  unfolding beats
  says-beats =
      ⊎_elim
      (λ l. rw (says-earlier row column r c l.0) (le-leb _ _ l.1))
      (λ l. go (earlier row column r c) l)
    where
      go : (e : Bool) → at samples width row column < at samples width r c
          → cond e (leb (at samples width row column) (at samples width r c)) (ltb (at samples width row column) (at samples width r c)) ≡ true
      go true l = le-leb (at samples width row column) (at samples width r c) (omega arith)
      go false l = lt-ltb _ _ l

pub record BeatenBy (samples : List ℕ) (width height row column : ℕ) : Type 0 where
  pub r : ℕ
  pub c : ℕ
  pub near_by : InWindow width height row column r c
  pub wins : Wins samples width row column r c
