-- The settings file's F comes back: F over 256 is a float, and its focal length is F. A kind that is none is refused. Assumes nothing.
use borrow.Author.Tests.{le-leb, lt-leb, lt-ltb, le-ltb}
use Rattle.std.specs.Prelude.{◌≡◌, ℕ, ◌*◌, ◌/◌, ◌^◌, ◌<◌, ◌≤◌, Bool, true, ◌&&◌, ◌⊎◌, pos, nat_le, nat_lt}
use Rattle.std.proofs.Math.Bool.{and-false}
use Rattle.std.proofs.Common.{inl, inr, ◌∙◌, lt_of_le_of_lt, mul_comm, arith, lit<}
use Rattle.std.proofs.Math.Path.{ap}
use Rattle.std.proofs.Math.Nat.{mul-div_cancel}
use Rattle.camera_lens.specs.Lens.{lens_ok, focal_number, focal_of, out_of_range}
use Rattle.camera_lens.specs.Stated.{settings_lens}
use Rattle.camera_lens.specs.Range.{range-of, whole-of}
use Rattle.camera_lens.specs.Laws.{lens-in, lens-out}
use Rattle.camera_lens.proofs.Laws.{pixels-ok}
use Rattle.camera_lens.specs.StatedLaws.{pixels, settings-exact}
use Rattle.std.specs.Prelude.{Ok}

module _ (n : ℕ) (h : n < 2 ^ 53) where
  ok-is : lens_ok (settings_lens n) ≡ (nat_le (16384 * 256) (256 * n) && nat_lt (256 * n) (4194305 * 256))
  unfolding settings_lens
  ok-is = pixels-ok (pixels n) ∙ range-of (pixels n) n 256 (settings-exact n h) (lit< tt)

  -- F comes back, in range or not
  pub settings-whole : focal_number (settings_lens n) ≡ n
  unfolding settings_lens focal_number
  settings-whole =
      whole-of (pixels n) n 256 (settings-exact n h) (lit< tt)
      ∙ ap (λ (x : ℕ). x / 256) (mul_comm 256 n)
      ∙ mul-div_cancel n (lit< tt)

-- every F from 16,384 to 4,194,304 is taken, and comes back
module _ (n : ℕ) (a : 16384 ≤ n) (b : n ≤ 4194304) where
  small : n < 2 ^ 53
  small = lt_of_le_of_lt b (lit< tt)

  pub settings-ok : lens_ok (settings_lens n) ≡ true
  settings-ok = ok-is n small ∙ (λ i. le-leb (16384 * 256) (256 * n) (omega arith) i && lt-ltb (256 * n) (4194305 * 256) (omega arith) i)

  pub settings-number : focal_number (settings_lens n) ≡ n
  settings-number = settings-whole n small

  pub settings-back : focal_of (settings_lens n) ≡ Ok (pos n)
  settings-back = lens-in (settings_lens n) settings-ok ∙ ap (λ (k : ℕ). Ok (pos k)) settings-number

-- any other is refused
pub settings-refused : (n : ℕ) → n < 2 ^ 53 → (n < 16384) ⊎ (4194304 < n) → focal_of (settings_lens n) ≡ out_of_range
settings-refused n h (inl a) = lens-out (settings_lens n) (ok-is n h ∙ (λ i. lt-leb (16384 * 256) (256 * n) (omega arith) i && nat_lt (256 * n) (4194305 * 256)))
settings-refused n h (inr b) = lens-out (settings_lens n) (ok-is n h ∙ ap (λ (t : Bool). nat_le (16384 * 256) (256 * n) && t)
    (le-ltb (256 * n) (4194305 * 256) (omega arith)) ∙ and-false (nat_le (16384 * 256) (256 * n)))
