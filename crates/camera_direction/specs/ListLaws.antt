-- What the rule of a direction list says in plain terms, and that the test says exactly that. Assumes nothing.
use Rattle.std.specs.Prelude.{true, ◌&&◌, ◌≡◌, refl, List, [], ◌∷◌, ℕ, zero, suc, ◌*◌, ◌/◌, ◌%◌, ◌≤◌, leb, ℤ, pos, nat_abs, length, get_or}
use Rattle.std.proofs.Math.Bool.{and-eq-true_iff}
use Rattle.std.proofs.Common.{zero-le, arith, leb-true, le-leb, eqb-true, eq-eqb}
use Rattle.numbers.specs.Within.{Within}
use Rattle.vectors.specs.Triples.{AllWithin}
use Rattle.camera_direction.specs.List.{largest, in_threes, at_most_eight, all_within, list_ok}

-- how many directions a list has
abbrev pub directions_in : List ℤ → ℕ
directions_in v = length v / 3

pub record Directions (v : List ℤ) : Type 0 where
  pub threes : length v ≡ 3 * directions_in v
  pub most : directions_in v ≤ 8
  pub within : AllWithin largest v

all-at : (b : ℕ) (v : List ℤ) → all_within b v ≡ true → (k : ℕ) → Within b (get_or v k (pos 0))
unfolding all_within
all-at b [] e k = record { within = zero-le }
all-at b (x ∷ xs) e zero = record { within = leb-true (nat_abs x) b ((and-eq-true_iff (leb (nat_abs x) b) (all_within b xs)).0 e).0 }
all-at b (x ∷ xs) e (suc k) = all-at b xs ((and-eq-true_iff (leb (nat_abs x) b) (all_within b xs)).0 e).1 k

at_all : (b : ℕ) (v : List ℤ) → ((k : ℕ) → Within b (get_or v k (pos 0))) → all_within b v ≡ true
unfolding all_within
at_all b [] h = refl
at_all b (x ∷ xs) h = rw (le-leb (nat_abs x) b (h 0).within) (at_all b xs (λ k. h (suc k)))

pub all-within : (b : ℕ) (v : List ℤ) → all_within b v ≡ true → AllWithin b v
all-within b v e = record { at = all-at b v e }

pub within_all : (b : ℕ) (v : List ℤ) → AllWithin b v → all_within b v ≡ true
within_all b v h = at_all b v h.at

pub ok-directions : (v : List ℤ) → list_ok v ≡ true → Directions v
unfolding list_ok
ok-directions v e =
    let p = (and-eq-true_iff (in_threes v && at_most_eight v) (all_within largest v)).0 e in
    let q = (and-eq-true_iff (in_threes v) (at_most_eight v)).0 p.0 in
    let t = eqb-true (length v % 3) 0 q.0 in
    let m = leb-true (length v) 24 q.1 in
    record { threes = omega arith; most = omega arith; within = all-within largest v p.1 }

pub directions-ok : (v : List ℤ) → Directions v → list_ok v ≡ true
unfolding list_ok
directions-ok v h =
    let t : length v % 3 ≡ 0 = omega (arith, h.threes) in
    let m : length v ≤ 24 = omega (arith, h.threes, h.most) in
    rw (eq-eqb (length v % 3) 0 t, le-leb (length v) 24 m) (within_all largest v h.within)
