-- A quotient toward zero with what it leaves over, and a bound carried through the division. Assumes nothing.
use Rattle.std.specs.Prelude.{◌≡◌, ℕ, suc, ◌+◌, ◌*◌, ◌/◌, ◌%◌, ◌≤◌, ◌<◌, ℤ, pos, negsuc, neg_ℤ, ◌+ℤ◌, ◌*ℤ◌}
use Rattle.std.proofs.Common.{sym, ap, ◌∙◌, subst, le_refl, le_trans, le_of_lt, mod-lt, arith}
use Rattle.std.proofs.Math.Nat.{div-add-mod, le_of_mul-le-mul_left}
use Rattle.std.proofs.Math.IntN.{*ℤ_comm, neg_ℤ-+ℤ}
use Rattle.std.specs.Int.Signed.{quot_z}
use Rattle.numbers.specs.Abs.{abs_neg, abs-mul}
use Rattle.numbers.specs.Within.{Within}
use Rattle.numbers.specs.Ring.{neg-mul}

-- z is p q and a rest no larger than p
pub record Split (z : ℤ) (p : ℕ) (q : ℤ) : Type 0 where
  pub rest : ℤ
  pub is : z ≡ pos p *ℤ q +ℤ rest
  pub small : Within p rest

mul-neg : (a b : ℤ) → a *ℤ neg_ℤ b ≡ neg_ℤ (a *ℤ b)
mul-neg a b = *ℤ_comm a (neg_ℤ b) ∙ neg-mul b a ∙ ap neg_ℤ (*ℤ_comm b a)

neg-split : (p q r : ℕ) → neg_ℤ (pos (p * q + r)) ≡ pos p *ℤ neg_ℤ (pos q) +ℤ neg_ℤ (pos r)
neg-split p q r = neg_ℤ-+ℤ (pos (p * q)) (pos r) ∙ ap (λ (k : ℤ). k +ℤ neg_ℤ (pos r)) (sym (mul-neg (pos p) (pos q)))

pub split : {p : ℕ} → 0 < p → (z : ℤ) → Split z p (quot_z z (pos p))
split {p} h (pos a) = record { rest = pos (a % p); is = ap pos (sym (div-add-mod a p)); small = record { within = le_of_lt (mod-lt a h) } }
split {p} h (negsuc a) =
    record {
      rest = neg_ℤ (pos (suc a % p));
      is = ap (λ (k : ℕ). neg_ℤ (pos k)) (sym (div-add-mod (suc a) p)) ∙ neg-split p (suc a / p) (suc a % p);
      small = record { within = rw abs_neg (le_of_lt (mod-lt (suc a) h)) };
    }

-- ---- bounds

pub within-as : {b : ℕ} {x y : ℤ} → x ≡ y → Within b x → Within b y
within-as {b} e w = subst (Within b) e w

pub within_none : {x : ℤ} → x ≡ pos 0 → Within 0 x
within_none e = record { within = rw e (le_refl 0) }

-- p times z is within a, and a is at most p times b: then z is within b
pub cut : {a b p : ℕ} {x z : ℤ} → 0 < p → x ≡ pos p *ℤ z → Within a x → a ≤ p * b → Within b z
cut {p} {z} h e w k =
    record { within = le_of_mul-le-mul_left (le_trans (le_trans (omega (arith, abs-mul (pos p) z)) (within-as e w).within) k) h }

-- a numeral is within itself
pub within-pos : (n : ℕ) → Within n (pos n)
within-pos n = record { within = le_refl n }
