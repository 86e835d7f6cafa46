-- Strictly rising lists: each number stands once, and a list is known by what stands in it. Assumes nothing.
use Rattle.std.specs.Prelude.{◌≡◌, ℕ, zero, suc, ◌+◌, ◌<◌, ◌≤◌, List, [], ◌∷◌, ◌++◌, length, ◌≢◌, slice_index, slice_index_or, refl}
use Rattle.std.proofs.Common.{sym, not-suc-le-zero, arith, eq-eqb, ne_eqb}
use Rattle.std.proofs.Math.Decide.{ℕ_discrete}
use Rattle.lists.specs.Laws.{count, All, all_map}
use Rattle.catalogue_index.specs.records.OrderLaws.{Sorted, all-at}

-- each is less than all that stand after it
abbrev pub Rising : List ℕ → Type 0
Rising [] = Unit {0}
Rising (x ∷ xs) = All (λ y. x < y) xs × Rising xs

-- ---- counts

pub count-append : (k : ℕ) (xs ys : List ℕ) → count k (xs ++ ys) ≡ count k xs + count k ys
unfolding count
count-append k [] ys = omega arith
count-append k (x ∷ xs) ys = omega (arith, count-append k xs ys)

pub count_head : (k : ℕ) (xs : List ℕ) → 0 < count k (k ∷ xs)
unfolding count
count_head k xs = rw (eq-eqb k k refl) (omega arith)

pub count-tail : (k x : ℕ) (xs : List ℕ) → (k ≢ x) → count k (x ∷ xs) ≡ count k xs
unfolding count
count-tail k x xs d = rw (ne_eqb k x d) (omega arith)

pub count-later : (k x : ℕ) (xs : List ℕ) → count k xs ≤ count k (x ∷ xs)
unfolding count
count-later k x xs = omega arith

pub count_at : (xs : List ℕ) (i : ℕ) → i < length xs → 0 < count (slice_index xs i) xs
count_at [] i h = absurd (not-suc-le-zero h)
count_at (x ∷ xs) zero h = count_head x xs
count_at (x ∷ xs) (suc i) h = omega (arith, count_at xs i (omega arith), count-later (slice_index xs i) x xs)

-- where a number stands
pub record Place (k : ℕ) (xs : List ℕ) : Type 0 where
  pub i : ℕ
  pub inside : i < length xs
  pub at : slice_index_or xs i 0 ≡ k

pub place : (k : ℕ) (xs : List ℕ) → 0 < count k xs → Place k xs
unfolding count
place k [] h = absurd (not-suc-le-zero h)
place k (x ∷ xs) h = go (ℕ_discrete k x) (place k xs)
  where
    go : Dec (k ≡ x) → (0 < count k xs → Place k xs) → Place k (x ∷ xs)
    go (yes e) f = record { i = 0; inside = omega arith; at = sym e }
    go (no d) f =
        let p = f (omega (arith, count-tail k x xs d)) in
        record { i = suc p.i; inside = omega (arith, p.inside); at = p.at }

-- ---- sorted, and each at most once

above-all : (x : ℕ) (ys : List ℕ) → All (λ y. x ≤ y) ys → count x ys ≡ 0 → All (λ y. x < y) ys
unfolding count
above-all x [] h e = tt
above-all x (y ∷ ys) h e = (go (ℕ_discrete x y), above-all x ys h.1 (omega arith))
  where
    go : Dec (x ≡ y) → x < y
    go (yes d) = absurd (omega (arith, rw (eq-eqb x y d) at e))
    go (no d) = omega (arith, h.0)

once-only : (x : ℕ) (xs : List ℕ) → count x (x ∷ xs) ≤ 1 → count x xs ≡ 0
unfolding count
once-only x xs m = omega (arith, rw (eq-eqb x x refl) at m)

pub sorted-rising : (xs : List ℕ) → Sorted xs → ((k : ℕ) → count k xs ≤ 1) → Rising xs
sorted-rising [] h f = tt
sorted-rising (x ∷ xs) h f = (above-all x xs h.0 (once-only x xs (f x)), sorted-rising xs h.1 (λ k. omega (arith, f k, count-later k x xs)))

-- ---- from one to the next

rising-all : (x : ℕ) (xs : List ℕ) → (0 < length xs → x < slice_index xs 0) → ((k : ℕ) → suc k < length xs → slice_index xs k < slice_index xs (suc k)) → All (λ y. x < y) xs
rising-all x [] h f = tt
rising-all x (y ∷ ys) h f =
    let a = h (omega arith) in
    (a, rising-all x ys (λ m. omega (arith, f 0 (omega arith))) (λ k m. f (suc k) (omega arith)))

pub steps-rising : (xs : List ℕ) → ((k : ℕ) → suc k < length xs → slice_index xs k < slice_index xs (suc k)) → Rising xs
steps-rising [] f = tt
steps-rising (x ∷ xs) f = (rising-all x xs (λ m. f 0 (omega arith)) (λ k m. f (suc k) (omega arith)), steps-rising xs (λ k m. f (suc k) (omega arith)))

all_get_d : (P : ℕ → Type 0) (xs : List ℕ) → All P xs → (i : ℕ) → i < length xs → P (slice_index xs i)
all_get_d P [] h i l = absurd (not-suc-le-zero l)
all_get_d P (x ∷ xs) h zero l = h.0
all_get_d P (x ∷ xs) h (suc i) l = all_get_d P xs h.1 i (omega arith)

pub rising_step : (xs : List ℕ) → Rising xs → (k : ℕ) → suc k < length xs → slice_index xs k < slice_index xs (suc k)
rising_step [] h k l = absurd (not-suc-le-zero l)
rising_step (x ∷ xs) h zero l = all_get_d (λ y. x < y) xs h.0 0 (omega arith)
rising_step (x ∷ xs) h (suc k) l = rising_step xs h.1 k (omega arith)

-- ---- two rising lists, of which one has all of the other

-- what stands in the first stands in the second
abbrev pub Within : List ℕ → List ℕ → Type 0
Within xs ys = (k : ℕ) → 0 < count k xs → 0 < count k ys

later : (x : ℕ) (xs : List ℕ) → Rising (x ∷ xs) → (k : ℕ) → 0 < count k xs → x < k
later x xs h k c = all-at (λ y. x < y) k xs h.0 c

-- past a number that is less than all of the first
within-tail : (xs : List ℕ) (y : ℕ) (ys : List ℕ) → ((k : ℕ) → 0 < count k xs → y < k) → Within xs (y ∷ ys) → Within xs ys
within-tail xs y ys f w k c =
    let l = f k c in
    omega (arith, w k c, count-tail k y ys (λ e. omega arith))

below-head : (x : ℕ) (xs : List ℕ) (y : ℕ) (ys : List ℕ) → Rising (x ∷ xs) → Rising (y ∷ ys) → Within (x ∷ xs) (y ∷ ys) → y ≤ x
below-head x xs y ys h l w = all-at (λ z. y ≤ z) x (y ∷ ys) (omega arith, all_map (λ z. y < z) (λ z. y ≤ z) (λ z m. omega arith) ys l.0)
    (w x (count_head x xs))

heads-and : (x : ℕ) (xs : List ℕ) → Rising (x ∷ xs) → (y : ℕ) → y < x → (k : ℕ) → 0 < count k (x ∷ xs) → y < k
heads-and x xs h y l k c = all-at (λ z. y < z) k (x ∷ xs) (l, all_map (λ z. x < z) (λ z. y < z) (λ z m. omega arith) xs h.0) c

pub within-length : (xs ys : List ℕ) → Rising xs → Rising ys → Within xs ys → length xs ≤ length ys
unfolding count
within-length [] ys h l w = omega arith
within-length (x ∷ xs) [] h l w = absurd (omega (arith, w x (count_head x xs)))
within-length (x ∷ xs) (y ∷ ys) h l w = go (ℕ_discrete x y) (within-length (x ∷ xs) ys h l.1) (within-length xs ys h.1 l.1)
  where
    go : Dec (x ≡ y) → (Within (x ∷ xs) ys → length (x ∷ xs) ≤ length ys) → (Within xs ys → length xs ≤ length ys) → length (x ∷ xs) ≤ length (y ∷ ys)
    go (yes e) f g =
        omega (arith, g (within-tail xs y ys (λ k c. omega (arith, later x xs h k c)) (λ k c. w k (omega (arith, count-later k x xs)))))
    go (no d) f g =
        let b = below-head x xs y ys h l w in
        omega (arith, f (within-tail (x ∷ xs) y ys (heads-and x xs h y (omega arith)) w))

-- as long, they are one
pub within-one : (xs ys : List ℕ) → Rising xs → Rising ys → Within xs ys → length ys ≤ length xs → xs ≡ ys
unfolding count
within-one [] [] h l w m = refl
within-one [] (y ∷ ys) h l w m = absurd (omega arith)
within-one (x ∷ xs) [] h l w m = absurd (omega (arith, w x (count_head x xs)))
within-one (x ∷ xs) (y ∷ ys) h l w m = go (ℕ_discrete x y) (within-one xs ys h.1 l.1)
  where
    go : Dec (x ≡ y) → (Within xs ys → length ys ≤ length xs → xs ≡ ys) → x ∷ xs ≡ y ∷ ys
    go (yes e) g =
        let t = g (within-tail xs y ys (λ k c. omega (arith, later x xs h k c)) (λ k c. w k (omega (arith, count-later k x xs)))) (omega arith) in
        λ i. e i ∷ t i
    go (no d) g =
        let b = below-head x xs y ys h l w in
        absurd (omega (arith, within-length (x ∷ xs) ys h l.1 (within-tail (x ∷ xs) y ys (heads-and x xs h y (omega arith)) w)))
