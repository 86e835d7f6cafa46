-- What agrees with a dot product lies in a span around it. Assumes nothing.
use Rattle.std.proofs.Common.{◌≡◌, ℕ, zero, suc, ◌+◌, ◌-◌, ◌*◌, ◌%◌, ◌≤◌, leb, ℤ, pos, negsuc, ◌+ℤ◌, ◌-ℤ◌, nat_abs, sym, ◌∙◌, arith, le-leb}
use native.Mathlib.Decide.{dec_le}
use borrow.Author.Tests.{lt-leb}
use Rattle.numbers.specs.Abs.{abs-sub}
use Rattle.numbers.specs.Within.{Within}
use Rattle.vectors.specs.Agree.{agreeing}
use Rattle.search_fit.specs.Span.{raised}

pub raised-within : {z : ℤ} → Within 3000000000000000000 z → (1000000000000000000 ≤ raised z) × (raised z ≤ 7000000000000000000)
unfolding raised
raised-within {z = pos n} h = (omega (arith, h.within), omega (arith, h.within))
raised-within {z = negsuc n} h = (omega (arith, h.within), omega (arith, h.within))

-- the sum is not negative
pub raised_is : (z : ℤ) → Within 3000000000000000000 z → nat_abs (z +ℤ pos 4000000000000000000) ≡ raised z
unfolding raised
raised_is (pos n) h = omega arith
raised_is (negsuc n) h = omega (arith, abs-sub 4000000000000000000 (suc n), h.within)

-- how far two are apart
apart : (x y : ℤ) → Within 3000000000000000000 x → Within 3000000000000000000 y → nat_abs (x -ℤ y) ≡ (raised x - raised y) + (raised y - raised x)
unfolding raised
apart (pos a) (pos zero) f g = omega arith
apart (pos a) (pos (suc b)) f g = omega (arith, abs-sub a (suc b))
apart (pos a) (negsuc b) f g = omega (arith, g.within)
apart (negsuc a) (pos zero) f g = omega (arith, abs-sub 0 (suc a), f.within)
apart (negsuc a) (pos (suc b)) f g = omega (arith, f.within)
apart (negsuc a) (negsuc b) f g = omega (arith, abs-sub (suc b) (suc a), f.within, g.within)

-- in the span, moved so that it begins at 0
moved : (a b half : ℕ) → a ≤ 7000000000000000000 → b ≤ 7000000000000000000 → 1000000000000000000 ≤ a → 1000000000000000000 ≤ b → half ≤ 6000000000000000000
    → leb ((b + (half + (18446744073709551616 - a)) % 18446744073709551616) % 18446744073709551616) (2 * half) ≡ leb ((a - b) + (b - a)) half
moved a b half la lb ga gb lh = by (dec_le ((a - b) + (b - a)) half)
  where
    n : ℕ
    n = (b + (half + (18446744073709551616 - a)) % 18446744073709551616) % 18446744073709551616

    by : Dec ((a - b) + (b - a) ≤ half) → leb n (2 * half) ≡ leb ((a - b) + (b - a)) half
    by (yes p) = le-leb n (2 * half) (omega arith) ∙ sym (le-leb ((a - b) + (b - a)) half p)
    by (no p) = lt-leb n (2 * half) (omega arith) ∙ sym (lt-leb ((a - b) + (b - a)) half (omega arith))

pub in_span : (x y : ℤ) (t half a b : ℕ) → Within 3000000000000000000 x → Within 3000000000000000000 y → half ≤ 6000000000000000000
    → ((d : ℕ) → d ≤ 6000000000000000000 → leb d half ≡ leb d t) → a ≡ raised x → b ≡ raised y
    → leb ((b + (half + (18446744073709551616 - a)) % 18446744073709551616) % 18446744073709551616) (2 * half) ≡ agreeing x y t
unfolding agreeing
in_span x y t half a b f g lh same ea eb =
    let v = raised-within f in
    let w = raised-within g in
    rw (ea, eb, apart x y f g) (moved (raised x) (raised y) half v.1 w.1 v.0 w.0 lh ∙ same _ (omega (arith, v.0, v.1, w.0, w.1)))
