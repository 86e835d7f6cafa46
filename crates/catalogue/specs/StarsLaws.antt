-- Where each number of a star stands, and how the list grows in place. Assumes nothing.
use Rattle.std.specs.Prelude.{◌≡◌, refl, List, ◌++◌, ℕ, zero, suc, ◌+◌, ◌*◌, ◌/◌, ◌%◌, ◌<◌, pos, length, get_or}
use Rattle.std.proofs.Common.{sym, ap, ◌∙◌, not-suc-le-zero, arith, length-append, get_or-append-add}
use Rattle.std.proofs.Math.Decide.{dec_lt}
use Rattle.std.proofs.Math.ListN.{get_or-append}
use Rattle.catalogue.specs.Format.{component_of}
use Rattle.catalogue.specs.Stars.{stars_in, star_of, stars_to, stars_of}

pub to-length : (bytes : List ℕ) (n : ℕ) → length (stars_to bytes n) ≡ 3 * n
unfolding stars_to
to-length bytes zero = refl
to-length bytes (suc n) = omega (arith, length-append (stars_to bytes n) (star_of bytes n), to-length bytes n)

pub stars-length : (bytes : List ℕ) → length (stars_of bytes) ≡ 3 * stars_in bytes
unfolding stars_of
stars-length bytes = to-length bytes (stars_in bytes)

axis-at : (bytes : List ℕ) (i k : ℕ) → k < 3 → get_or (star_of bytes i) k (pos 0) ≡ component_of bytes i k
axis-at bytes i zero h = refl
axis-at bytes i (suc zero) h = refl
axis-at bytes i (suc (suc zero)) h = refl
axis-at bytes i (suc (suc (suc k))) h = absurd (omega arith)

-- number k of star i
pub to_at : (bytes : List ℕ) (n i k : ℕ) → i < n → k < 3 → get_or (stars_to bytes n) (3 * i + k) (pos 0) ≡ component_of bytes i k
unfolding stars_to
to_at bytes zero i k h l = absurd (not-suc-le-zero h)
to_at bytes (suc n) i k h l = go (dec_lt i n) (λ h'. to_at bytes n i k h' l)
  where
    go : Dec (i < n) → (i < n → get_or (stars_to bytes n) (3 * i + k) (pos 0) ≡ component_of bytes i k)
        → get_or (stars_to bytes n ++ star_of bytes n) (3 * i + k) (pos 0) ≡ component_of bytes i k
    go (yes p) f = get_or-append (stars_to bytes n) (star_of bytes n) (pos 0) (3 * i + k) (omega (arith, to-length bytes n)) ∙ f p
    go (no p) f =
        let e : i ≡ n = omega arith in
        let d : 3 * i + k ≡ length (stars_to bytes n) + k = omega (arith, to-length bytes n) in
        ap (λ (m : ℕ). get_or (stars_to bytes n ++ star_of bytes n) m (pos 0)) d ∙ get_or-append-add (stars_to bytes n) (star_of bytes n) k (pos 0)
        ∙ axis-at bytes n k l ∙ ap (λ (j : ℕ). component_of bytes j k) (sym e)

pub star-at : (bytes : List ℕ) (i k : ℕ) → i < stars_in bytes → k < 3 → get_or (stars_of bytes) (3 * i + k) (pos 0) ≡ component_of bytes i k
unfolding stars_of
star-at bytes = to_at bytes (stars_in bytes)

-- the same by the place in the list
pub number_at : (bytes : List ℕ) (m : ℕ) → m < 3 * stars_in bytes → get_or (stars_of bytes) m (pos 0) ≡ component_of bytes (m / 3) (m % 3)
number_at bytes m h =
    let e : m ≡ 3 * (m / 3) + m % 3 = omega arith in
    ap (λ (j : ℕ). get_or (stars_of bytes) j (pos 0)) e ∙ star-at bytes (m / 3) (m % 3) (omega arith) (omega arith)
