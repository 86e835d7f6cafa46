-- Agreement of two pairs: their dot products lie no further apart than the tolerance. Assumes nothing.
use Rattle.std.specs.Prelude.{◌≡◌, Bool, true, ℕ, ◌≤◌, leb, ℤ, nat_abs, ◌-ℤ◌}
use Rattle.std.proofs.Common.{leb-true, le-leb}

unfoldable pub agreeing : ℤ → ℤ → ℕ → Bool
agreeing p q tolerance = leb (nat_abs (p -ℤ q)) tolerance

-- the test says so exactly where it holds
pub agreeing-near : (p q : ℤ) (t : ℕ) → agreeing p q t ≡ true → nat_abs (p -ℤ q) ≤ t
unfolding agreeing
agreeing-near p q t = leb-true (nat_abs (p -ℤ q)) t

pub near-agreeing : (p q : ℤ) (t : ℕ) → nat_abs (p -ℤ q) ≤ t → agreeing p q t ≡ true
unfolding agreeing
near-agreeing p q t = le-leb (nat_abs (p -ℤ q)) t
