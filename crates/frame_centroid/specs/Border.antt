-- The table of the border's offsets, its rule, and the sum of the border. Assumes nothing.
use Rattle.std.specs.Prelude.{Bool, true, false, cond, ◌&&◌, ◌||◌, ◌≡◌, refl, List, [], ◌∷◌, ℕ, zero, suc, ◌+◌, ◌-◌, ◌<◌, get_or, T, ltb, eqb}
use Rattle.std.proofs.Common.{not-suc-le-zero, arith, ltb→lt, eqb→eq, eqb-true}
use Rattle.std.proofs.lemmas.Bool.{eqb-false}
use Rattle.frame_window.specs.Window.{at}
use Rattle.frame_centroid.specs.Sums.{sum_below}

-- a place in a window: row and column from its top left
abbrev pub spot : ℕ → ℕ → List ℕ
spot i j = i ∷ j ∷ []

-- the fixed table of the border's 24 offsets
unfoldable pub border : List (List ℕ)
border =
    spot 0 0 ∷ spot 0 1 ∷ spot 0 2 ∷ spot 0 3 ∷ spot 0 4 ∷ spot 0 5 ∷ spot 0 6
    ∷ spot 1 0 ∷ spot 1 6 ∷ spot 2 0 ∷ spot 2 6 ∷ spot 3 0 ∷ spot 3 6 ∷ spot 4 0 ∷ spot 4 6 ∷ spot 5 0 ∷ spot 5 6
    ∷ spot 6 0 ∷ spot 6 1 ∷ spot 6 2 ∷ spot 6 3 ∷ spot 6 4 ∷ spot 6 5 ∷ spot 6 6 ∷ []

abbrev pub border_row : ℕ → ℕ
border_row k = get_or (get_or border k []) 0 0

abbrev pub border_column : ℕ → ℕ
border_column k = get_or (get_or border k []) 1 0

-- on the outer ring of a 7 x 7 window
abbrev pub on_ring : ℕ → ℕ → Bool
on_ring i j = eqb i 0 || (eqb i 6 || (eqb j 0 || eqb j 6))

-- S, the border's sum, of the window about row, column
unfoldable pub border_sum : List ℕ → ℕ → ℕ → ℕ → ℕ
border_sum samples width row column =
    sum_below 7 (λ i. sum_below 7 (λ j. cond (on_ring i j) (at samples width (row - 3 + i) (column - 3 + j)) 0))

-- ---- the table's rule, by tests over the whole table

both_left : (a b : Bool) → T (a && b) → T a
both_left true b t = tt
both_left false b t = t

both_right : (a b : Bool) → T (a && b) → T b
both_right true b t = t
both_right false b t = absurd t

abbrev every : (List ℕ → Bool) → List (List ℕ) → Bool
every p [] = true
every p (x ∷ xs) = p x && every p xs

below : (m n : ℕ) → 0 < n → (l : List (List ℕ)) → T (every (λ p. ltb (get_or p m 0) n) l) → (k : ℕ) → get_or (get_or l k []) m 0 < n
below m n z [] t k = z
below m n z (x ∷ xs) t zero = ltb→lt _ _ (both_left (ltb (get_or x m 0) n) (every (λ p. ltb (get_or p m 0) n) xs) t)
below m n z (x ∷ xs) t (suc k) = below m n z xs (both_right (ltb (get_or x m 0) n) (every (λ p. ltb (get_or p m 0) n) xs) t) k

-- each entry lies in the window
pub row_below : (k : ℕ) → border_row k < 7
unfolding border
row_below k = below 0 7 (omega arith) border tt k

pub column-below : (k : ℕ) → border_column k < 7
unfolding border
column-below k = below 1 7 (omega arith) border tt k

-- how often the place i, j stands in a table
abbrev pub occurs : ℕ → ℕ → List (List ℕ) → ℕ
occurs i j [] = 0
occurs i j (x ∷ xs) = cond (eqb i (get_or x 0 0) && eqb j (get_or x 1 0)) 1 0 + occurs i j xs

abbrev all-below : ℕ → (ℕ → Bool) → Bool
all-below zero p = true
all-below (suc n) p = p n && all-below n p

all-at : (n : ℕ) (p : ℕ → Bool) → T (all-below n p) → (k : ℕ) → k < n → T (p k)
all-at zero p t k l = absurd (not-suc-le-zero l)
all-at (suc n) p t k l = go (eqb k n) refl (both_left (p n) (all-below n p) t) (λ m. all-at n p (both_right (p n) (all-below n p) t) k m)
  where
    go : (d : Bool) → eqb k n ≡ d → T (p n) → (k < n → T (p k)) → T (p k)
    go true e h f = rw (eqb-true k n e) h
    go false e h f = let s = eqb-false k n e in f (omega arith)

-- the table is exactly the window's outer ring, each place once
pub border-ring : (i j : ℕ) → i < 7 → j < 7 → occurs i j border ≡ cond (on_ring i j) 1 0
unfolding border
border-ring i j p q =
    eqb→eq _ _
    (all-at 7 (λ j. eqb (occurs i j border) (cond (on_ring i j) 1 0))
    (all-at 7 (λ i. all-below 7 (λ j. eqb (occurs i j border) (cond (on_ring i j) 1 0))) tt i p) j q)

-- ---- the sum over the table is the sum over the ring

-- the samples at the table's places
abbrev pub sampled : List ℕ → ℕ → ℕ → ℕ → ℕ → ℕ
sampled samples width row column k = at samples width (row - 3 + border_row k) (column - 3 + border_column k)

pub table-sum : (samples : List ℕ) (width row column : ℕ) → sum_below 24 (sampled samples width row column) ≡ border_sum samples width row column
unfolding sum_below border border_sum
table-sum samples width row column = omega arith
