-- A record's bytes are 80, and what is read from them is what was written. Assumes nothing.
use Rattle.std.specs.Prelude.{◌≡◌, refl, true, false, List, [], ◌∷◌, ◌++◌, ℕ, ◌+◌, ◌-◌, ◌*◌, ◌≤◌, ℤ, pos, negsuc, nat_abs, length}
use Rattle.std.proofs.Common.{sym, ◌∙◌, append_assoc, append-nil, ltb-true, length-append}
use Rattle.std.proofs.Math.Path.{ap}
use native.Mathlib.Omega.{arith}
use Rattle.std.proofs.lemmas.List.Edits.{sets}
use Rattle.std.specs.Int.Signed.{lt_z}
use mir.Syntax.{w64}
use mir.Val.{of_z}
use Rattle.words.specs.Bytes.{bytes_of}
use Rattle.words.specs.BytesLaws.{bytes-length, sets-append}
use Rattle.lists.specs.Contradiction.{contradiction}
use Rattle.vectors.specs.declared.Vec3.{Vec3}
use Rattle.attitude.specs.declared.Matrix.{Matrix}
use Rattle.attitude.specs.Attitude.{entries_of}
use Rattle.chain_burst.specs.records.Record.{Record, record3, signed_bytes, encoded}

-- ---- lengths

pub signed-length : (zs : List ℤ) → length (signed_bytes zs) ≡ 8 * length zs
unfolding signed_bytes
signed-length [] = refl
signed-length (z ∷ zs) = omega (arith, length-append (bytes_of 8 (of_z w64 z)) (signed_bytes zs), bytes-length 8 (of_z w64 z), signed-length zs)

pub encoded-length : (r : Record) → length (encoded r) ≡ 80
unfolding encoded
encoded-length r =
    let es = signed_bytes (entries_of r.matrix) in
    omega (
      arith,
      length-append (bytes_of 4 r.number) (bytes_of 4 r.place ++ es),
      length-append (bytes_of 4 r.place) es,
      bytes-length 4 r.number,
      bytes-length 4 r.place,
      signed-length (entries_of r.matrix),
    )

-- ---- reading

-- ---- writing

-- bytes stored behind n others
stored : (l xs ys : List ℕ) (at n : ℕ) → length xs ≡ n → sets (sets l at xs) (at + n) ys ≡ sets l at (xs ++ ys)
stored l xs ys at n e = ap (λ (k : ℕ). sets (sets l at xs) (at + k) ys) (sym e) ∙ sym (sets-append l xs ys at)

-- three signed numbers, one behind the other
pub row-stored : (l : List ℕ) (at : ℕ) (x y z : ℤ)
    → sets (sets (sets l at (bytes_of 8 (of_z w64 x))) (at + 8) (bytes_of 8 (of_z w64 y))) (at + 16) (bytes_of 8 (of_z w64 z))
    ≡ sets l at (signed_bytes (x ∷ (y ∷ (z ∷ []))))
unfolding signed_bytes
row-stored l at x y z =
    let a = bytes_of 8 (of_z w64 x) in
    let b = bytes_of 8 (of_z w64 y) in
    let c = bytes_of 8 (of_z w64 z) in
    let n : length (a ++ b) ≡ 16 = omega (arith, length-append a b, bytes-length 8 (of_z w64 x), bytes-length 8 (of_z w64 y)) in
    let e : (a ++ b) ++ c ≡ a ++ (b ++ (c ++ [])) = simp (append_assoc, append-nil) in
    ap (λ (m : List ℕ). sets m (at + 16) c) (stored l a b at 8 (bytes-length 8 (of_z w64 x))) ∙ stored l (a ++ b) c at 16 n ∙ ap (sets l at) e

signed-append : (xs ys : List ℤ) → signed_bytes (xs ++ ys) ≡ signed_bytes xs ++ signed_bytes ys
unfolding signed_bytes
signed-append [] ys = refl
signed-append (x ∷ xs) ys = ap (λ (l : List ℕ). bytes_of 8 (of_z w64 x) ++ l) (signed-append xs ys)
    ∙ sym (append_assoc (bytes_of 8 (of_z w64 x)) (signed_bytes xs) (signed_bytes ys))

abbrev pub row_of : Vec3 → List ℤ
row_of v = v.x ∷ (v.y ∷ (v.z ∷ []))

-- the five parts of a record, one behind the other
pub parts-stored : (l : List ℕ) (at n p : ℕ) (m : Matrix)
    → sets (sets (sets (sets (sets l at (bytes_of 4 n)) (at + 4) (bytes_of 4 p)) (at + 8) (signed_bytes (row_of m.row0))) (at + 32)
    (signed_bytes (row_of m.row1))) (at + 56) (signed_bytes (row_of m.row2))
    ≡ sets l at (encoded (record3 n p m))
unfolding encoded
parts-stored l at n p m =
    let a = bytes_of 4 n in
    let b = bytes_of 4 p in
    let r = signed_bytes (row_of m.row0) in
    let s = signed_bytes (row_of m.row1) in
    let t = signed_bytes (row_of m.row2) in
    let i : length a ≡ 4 = bytes-length 4 n in
    let j : length (a ++ b) ≡ 8 = omega (arith, length-append a b, bytes-length 4 p) in
    let k : length ((a ++ b) ++ r) ≡ 32 = omega (arith, length-append (a ++ b) r, signed-length (row_of m.row0)) in
    let o : length (((a ++ b) ++ r) ++ s) ≡ 56 = omega (arith, length-append ((a ++ b) ++ r) s, signed-length (row_of m.row1)) in
    let e : signed_bytes (entries_of m) ≡ r ++ (s ++ t) = signed-append (row_of m.row0) (row_of m.row1 ++ row_of m.row2)
    ∙ ap (λ (x : List ℕ). r ++ x) (signed-append (row_of m.row1) (row_of m.row2)) in
    let f : (((a ++ b) ++ r) ++ s) ++ t ≡ a ++ (b ++ (r ++ (s ++ t))) = simp append_assoc in
    ap (λ (x : List ℕ). sets (sets (sets x (at + 8) r) (at + 32) s) (at + 56) t) (stored l a b at 4 i)
    ∙ ap (λ (x : List ℕ). sets (sets x (at + 32) s) (at + 56) t) (stored l (a ++ b) r at 8 j)
    ∙ ap (λ (x : List ℕ). sets x (at + 56) t) (stored l ((a ++ b) ++ r) s at 32 k)
    ∙ stored l (((a ++ b) ++ r) ++ s) t at 56 o
    ∙ ap (sets l at) (f ∙ ap (λ (x : List ℕ). a ++ (b ++ x)) (sym e))

-- the 64 bits of a number, by its sign
pub bits_below : (x : ℤ) → lt_z x (pos 0) ≡ true → 18446744073709551615 - (nat_abs x - 1) ≡ of_z w64 x
bits_below (pos n) e = absurd (omega (arith, ltb-true n 0 e))
bits_below (negsuc n) e = omega arith

pub bits_above : (x : ℤ) → lt_z x (pos 0) ≡ false → nat_abs x ≡ of_z w64 x
bits_above (pos n) e = refl
bits_above (negsuc n) e = contradiction (cc)

pub size_below : (x : ℤ) → lt_z x (pos 0) ≡ true → 1 ≤ nat_abs x
size_below (pos n) e = absurd (omega (arith, ltb-true n 0 e))
size_below (negsuc n) e = omega arith
