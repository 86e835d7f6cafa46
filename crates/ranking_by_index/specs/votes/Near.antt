-- Agreement as a span: two dot products agree exactly where one, moved up, lies in the span around the other. Assumes nothing.
use Rattle.std.specs.Prelude.{◌&&◌, ◌≡◌, ℕ, zero, suc, ◌+◌, ◌-◌, ◌≤◌, leb, ℤ, pos, negsuc, nat_abs, ◌-ℤ◌}
use Rattle.std.proofs.Common.{sym, ◌∙◌, arith, le-leb, SFits}
use Rattle.std.proofs.Math.Decide.{dec_le}
use Rattle.std.proofs.lemmas.Bool.{lt-leb}
use Rattle.std.specs.Int.{w64}
use Rattle.numbers.specs.Abs.{abs-sub}
use Rattle.vectors.specs.Agree.{agreeing}
use Rattle.catalogue_index.specs.Raised.{raised}

-- how far two numbers are apart
pub apart : (x y : ℤ) → SFits w64 x → SFits w64 y → nat_abs (x -ℤ y) ≡ (raised x - raised y) + (raised y - raised x)
unfolding raised
apart (pos a) (pos zero) f g = omega arith
apart (pos a) (pos (suc b)) f g = omega (arith, abs-sub a (suc b))
apart (pos a) (negsuc b) f g = omega (arith, g.sfits)
apart (negsuc a) (pos zero) f g = omega (arith, abs-sub 0 (suc a), f.sfits)
apart (negsuc a) (pos (suc b)) f g = omega (arith, f.sfits)
apart (negsuc a) (negsuc b) f g = omega (arith, abs-sub (suc b) (suc a), f.sfits, g.sfits)

pub agree-span : (x y : ℤ) (t : ℕ) → SFits w64 x → SFits w64 y → agreeing x y t ≡ (leb (raised x - t) (raised y) && leb (raised y) (raised x + t))
unfolding agreeing
agree-span x y t f g = rw (apart x y f g) (go (raised x) (raised y))
  where
    go : (a b : ℕ) → leb ((a - b) + (b - a)) t ≡ (leb (a - t) b && leb b (a + t))
    go a b = by (dec_le (a - t) b) (dec_le b (a + t))
      where
        by : Dec (a - t ≤ b) → Dec (b ≤ a + t) → leb ((a - b) + (b - a)) t ≡ (leb (a - t) b && leb b (a + t))
        by (yes p) (yes q) = le-leb ((a - b) + (b - a)) t (omega arith) ∙ sym (rw (le-leb (a - t) b p, le-leb b (a + t) q))
        by (yes p) (no q) = lt-leb ((a - b) + (b - a)) t (omega arith) ∙ sym (rw (le-leb (a - t) b p, lt-leb b (a + t) (omega arith)))
        by (no p) q = lt-leb ((a - b) + (b - a)) t (omega arith) ∙ sym (rw (lt-leb (a - t) b (omega arith)))
