-- The frame file: a sample has 2 bytes, high byte first; there are exactly width x height, and no more than 32,000. Assumes nothing.
use Rattle.std.specs.Prelude.{Bool, true, false, cond, ◌&&◌, List, [], ◌∷◌, ◌++◌, ◌≡◌, refl, ℕ, zero, suc, ◌+◌, ◌*◌, ◌≤◌, ◌<◌, leb, eqb, length, take, replicate}
use Rattle.std.proofs.Math.Bool.{and-eq-true_iff}
use Rattle.std.proofs.Common.{ap, ◌∙◌, leb-true, eqb-true, le-leb, arith, add-one, length-append, take_at}
use Rattle.std.proofs.lemmas.Bool.{lt-leb}
use Rattle.std.proofs.lemmas.List.{length-replicate}
use Rattle.words.specs.Number.{number_at}

-- how many samples a file of this length holds: none where the length is another, or where there are too many
unfoldable pub sample_count : ℕ → ℕ → ℕ → ℕ
sample_count len width height =
    cond (leb width 1024 && leb height 1024 && eqb len (2 * (width * height)) && leb (width * height) 32000) (width * height) 0

-- a room that is too short for all of them gets none
unfoldable pub taken_into : ℕ → ℕ → ℕ
taken_into room n = cond (leb n room) n 0

pub taken-whole : (room n : ℕ) → n ≤ room → taken_into room n ≡ n
unfolding taken_into
taken-whole room n h = rw (le-leb n room h)

pub taken_none : (room n : ℕ) → room < n → taken_into room n ≡ 0
unfolding taken_into
taken_none room n h = rw (lt-leb n room h)

-- the first n samples
unfoldable pub samples_of : List ℕ → ℕ → List ℕ
samples_of bytes zero = []
samples_of bytes (suc n) = samples_of bytes n ++ (number_at bytes (2 * n) 2 ∷ [])

pub samples-next : (bytes : List ℕ) (n : ℕ) → samples_of bytes (n + 1) ≡ samples_of bytes n ++ (number_at bytes (2 * n) 2 ∷ [])
unfolding samples_of
samples-next bytes n = rw add-one

pub samples-length : (bytes : List ℕ) (n : ℕ) → length (samples_of bytes n) ≡ n
unfolding samples_of
samples-length bytes zero = refl
samples-length bytes (suc n) = omega (arith, length-append (samples_of bytes n) (number_at bytes (2 * n) 2 ∷ []), samples-length bytes n)

-- what is taken stands in the file, and fits the room
counted : (p q : Bool) (len n : ℕ) → (p && eqb len (2 * n) && leb n 32000) ≡ q → (2 * cond q n 0 ≤ len) × (cond q n 0 ≤ 32000)
counted p false len n e = omega arith
counted p true len n e =
    let a = (and-eq-true_iff (p && eqb len (2 * n)) (leb n 32000)).0 e in
    let b = (and-eq-true_iff p (eqb len (2 * n))).0 a.0 in
    omega (arith, eqb-true len (2 * n) b.1, leb-true n 32000 a.1)

pub count_fits : (len width height : ℕ) → (2 * sample_count len width height ≤ len) × (sample_count len width height ≤ 32000)
unfolding sample_count
count_fits len width height = counted (leb width 1024 && leb height 1024) _ len (width * height) refl

-- a room whose front the samples fill: that part of it is theirs
pub lent-within : (room bytes rest : List ℕ) (n : ℕ) → room ≡ samples_of bytes n ++ rest → n ≤ length room
lent-within room bytes rest n e = omega (arith, ap length e, length-append (samples_of bytes n) rest, samples-length bytes n)

-- and a room of 32,000 takes every frame file's
pub lent-samples : (room bytes rest : List ℕ) (n width height : ℕ) → room ≡ samples_of bytes n ++ rest
    → n ≡ taken_into (length (replicate {A = ℕ} 32000 0)) (sample_count (length bytes) width height)
    → take n room ≡ samples_of bytes (sample_count (length bytes) width height)
lent-samples room bytes rest n width height e q =
    let count = sample_count (length bytes) width height in
    ap (take n) e
    ∙ take_at (samples_of bytes n) rest n (samples-length bytes n)
    ∙ ap (samples_of bytes) (q ∙ ap (λ (k : ℕ). taken_into k count) (length-replicate {A = ℕ} 32000 0)
    ∙ taken-whole 32000 count (count_fits (length bytes) width height).1)
