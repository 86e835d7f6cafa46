-- A number that is written is read again, and its bytes are those of its two parts. Assumes nothing.
use Rattle.std.specs.Prelude.{List, [], ◌∷◌, ◌++◌, ◌⊎◌, ◌≡◌, refl, ℕ, zero, suc, ◌+◌, ◌*◌, ◌/◌, ◌%◌, ◌^◌, ◌≤◌, ◌<◌, length, set, get_or, take, drop}
use Rattle.std.proofs.Common.{append_assoc, append-nil, inl, inr, ⊎_elim, sym, ap, ◌∙◌, zero-add, add-zero, add-suc, mul_assoc, not-suc-le-zero, arith, length-append, length-set, length-drop, get_or-append-add, get_or-drop, get_or-set_same, get_or-set_other, take-suc}
use Rattle.std.proofs.Math.Nat.{pow-succ'}
use Rattle.std.proofs.Math.ListN.{get_or-append}
use Rattle.std.proofs.lemmas.List.Edits.{sets}
use Rattle.std.proofs.lemmas.List.{get_or_at}
use Rattle.words.specs.Number.{number_at}
use Rattle.words.specs.NumberLaws.{number_same}
use Rattle.words.specs.Bytes.{bytes_of}

pub bytes-length : (n v : ℕ) → length (bytes_of n v) ≡ n
unfolding bytes_of
bytes-length zero v = refl
bytes-length (suc n) v = length-append (bytes_of n (v / 256)) (v % 256 ∷ []) ∙ rw (bytes-length n (v / 256)) (omega arith)

-- the bytes of a number of two parts
pub bytes-join : (m n q r : ℕ) → r < 256 ^ n → bytes_of (m + n) (256 ^ n * q + r) ≡ bytes_of m q ++ bytes_of n r
unfolding bytes_of
bytes-join m zero q r h =
    let e : 1 * q + r ≡ q = omega arith in
    rw (add-zero, e, append-nil)
bytes-join m (suc n) q r h =
    let p : 256 ^ suc n * q ≡ 256 * (256 ^ n * q) = rw (pow-succ', mul_assoc) in
    let a : (256 ^ suc n * q + r) / 256 ≡ 256 ^ n * q + r / 256 = omega arith in
    let b : (256 ^ suc n * q + r) % 256 ≡ r % 256 = omega arith in
    let l : r / 256 < 256 ^ n = omega (arith, pow-succ' 256 n) in
    rw (add-suc, a, b, bytes-join m n q (r / 256) l) (append_assoc (bytes_of m q) (bytes_of n (r / 256)) (r % 256 ∷ []))

-- what is written in two parts, one behind the other
pub sets-append : (l xs ys : List ℕ) (at : ℕ) → sets l at (xs ++ ys) ≡ sets (sets l at xs) (at + length xs) ys
sets-append l [] ys at = rw add-zero
sets-append l (x ∷ xs) ys at =
    let e : suc at + length xs ≡ at + suc (length xs) = omega arith in
    sets-append (set l at x) xs ys (suc at) ∙ rw e

pub put-join : (l : List ℕ) (at m n q r : ℕ) → r < 256 ^ n → sets (sets l at (bytes_of m q)) (at + m) (bytes_of n r)
    ≡ sets l at (bytes_of (m + n) (256 ^ n * q + r))
put-join l at m n q r h =
    ap (λ (k : ℕ). sets (sets l at (bytes_of m q)) (at + k) (bytes_of n r)) (sym (bytes-length m q))
    ∙ sym (sets-append l (bytes_of m q) (bytes_of n r) at)
    ∙ ap (sets l at) (sym (bytes-join m n q r h))

-- n bytes hold every number below 256^n
pub number_of : (n v : ℕ) → v < 256 ^ n → number_at (bytes_of n v) 0 n ≡ v
unfolding number_at bytes_of
number_of zero v h = omega arith
number_of (suc n) v h =
    let front : number_at (bytes_of n (v / 256) ++ (v % 256 ∷ [])) 0 n ≡ number_at (bytes_of n (v / 256)) 0 n =
    number_same _ _ 0 0 n (λ k l. get_or-append (bytes_of n (v / 256)) (v % 256 ∷ []) 0 (0 + k) (rw bytes-length (omega arith))) in
    let last : get_or (bytes_of n (v / 256) ++ (v % 256 ∷ [])) (0 + n) 0 ≡ v % 256 =
    get_or_at (bytes_of n (v / 256)) (v % 256) [] 0 (0 + n) (bytes-length n (v / 256) ∙ omega arith) in
    omega (arith, number_of n (v / 256) (omega (arith, pow-succ' 256 n)))

-- the same of a number that stands first
pub number-front : (n v : ℕ) (rest : List ℕ) → v < 256 ^ n → number_at (bytes_of n v ++ rest) 0 n ≡ v
number-front n v rest h =
    number_same (bytes_of n v ++ rest) (bytes_of n v) 0 0 n (λ k l. get_or-append (bytes_of n v) rest 0 (0 + k) (rw bytes-length (omega arith)))
    ∙ number_of n v h

-- and of one behind other bytes
pub number_behind : (xs bytes : List ℕ) (at n : ℕ) → number_at (xs ++ bytes) (length xs + at) n ≡ number_at bytes at n
number_behind xs bytes at n =
    number_same (xs ++ bytes) bytes (length xs + at) at n
    (λ k l.
    let e : length xs + at + k ≡ length xs + (at + k) = omega arith in
    ap (λ (m : ℕ). get_or (xs ++ bytes) m 0) e ∙ get_or-append-add xs bytes (at + k) 0)

-- what stands before or behind the stores stays
sets-other : (l vs : List ℕ) (at j : ℕ) → (j < at) ⊎ (at + length vs ≤ j) → get_or (sets l at vs) j 0 ≡ get_or l j 0
sets-other l [] at j side = refl
sets-other l (v ∷ vs) at j side =
    sets-other (set l at v) vs (suc at) j (⊎_elim (λ h. inl (omega arith)) (λ h. inr (omega arith)) side)
    ∙ get_or-set_other l at j v 0 (⊎_elim (λ h e. omega arith) (λ h e. omega arith) side)

-- and the stores stand where they were put
sets-at : (l vs : List ℕ) (at k : ℕ) → at + length vs ≤ length l → k < length vs → get_or (sets l at vs) (at + k) 0 ≡ get_or vs k 0
sets-at l [] at k h q = absurd (not-suc-le-zero q)
sets-at l (v ∷ vs) at zero h q =
    rw add-zero (sets-other (set l at v) vs (suc at) at (inl (omega arith)) ∙ get_or-set_same l at v 0 (omega arith))
sets-at l (v ∷ vs) at (suc k) h q =
    let e : at + suc k ≡ suc at + k = omega arith in
    rw e (sets-at (set l at v) vs (suc at) k (rw length-set (omega arith)) (omega arith))

-- a number written at a place is read there
pub read_back : (l : List ℕ) (at n v : ℕ) → at + n ≤ length l → v < 256 ^ n → number_at (sets l at (bytes_of n v)) at n ≡ v
read_back l at n v h k =
    number_same (sets l at (bytes_of n v)) (bytes_of n v) at 0 n
    (λ j q. rw zero-add (sets-at l (bytes_of n v) at j (rw bytes-length h) (rw bytes-length q)))
    ∙ number_of n v k

-- and what stands beside it is read as before
pub read-beside : (l : List ℕ) (at n v to m : ℕ) → (to + m ≤ at) ⊎ (at + n ≤ to) → number_at (sets l at (bytes_of n v)) to m ≡ number_at l to m
read-beside l at n v to m side =
    number_same (sets l at (bytes_of n v)) l to to m
    (λ k q. sets-other l (bytes_of n v) at (to + k) (⊎_elim (λ (h : to + m ≤ at). inl (omega arith)) (λ (h : at + n ≤ to). inr (rw bytes-length (omega arith)))
    side))

-- ---- what is read is written again

pub write-back : (bytes : List ℕ) (at n : ℕ) → ((k : ℕ) → get_or bytes k 0 < 256) → at + n ≤ length bytes
    → bytes_of n (number_at bytes at n) ≡ take n (drop at bytes)
unfolding bytes_of number_at
write-back bytes at zero b h = refl
write-back bytes at (suc n) b h =
    let l = b (at + n) in
    let q : (256 * number_at bytes at n + get_or bytes (at + n) 0) / 256 ≡ number_at bytes at n = omega arith in
    let r : (256 * number_at bytes at n + get_or bytes (at + n) 0) % 256 ≡ get_or bytes (at + n) 0 = omega arith in
    let i = write-back bytes at n b (omega arith) in
    let m : n < length (drop at bytes) = rw length-drop (omega arith) in
    (λ j. bytes_of n (q j) ++ (r j ∷ []))
    ∙ (λ j. i j ++ (sym (get_or-drop at bytes n 0) j ∷ []))
    ∙ sym (take-suc (drop at bytes) n 0 m)
