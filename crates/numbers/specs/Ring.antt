-- The whole numbers are a commutative ring: a product goes over a sum, and products may be grouped as one likes. Assumes nothing.
use Rattle.std.specs.Prelude.{◌≡◌, zero, suc, ℤ, pos, negsuc, neg_ℤ, ◌+ℤ◌, ◌-ℤ◌, ◌*ℤ◌}
use Rattle.std.proofs.Common.{sym, ap, ◌∙◌}
use Rattle.std.proofs.Math.IntN.{+ℤ_idl, +ℤ_idr, +ℤ_assoc, +ℤ_comm, +ℤ_invr, +ℤ_invl, neg_ℤ-+ℤ, zero-*ℤ, suc_ℤ-*ℤ, pred_ℤ-*ℤ, *ℤ_comm}

pub left_comm : (a b c : ℤ) → a +ℤ (b +ℤ c) ≡ b +ℤ (a +ℤ c)
left_comm a b c = sym (+ℤ_assoc a b c) ∙ ap (λ (x : ℤ). x +ℤ c) (+ℤ_comm a b) ∙ +ℤ_assoc b a c

-- (x + y) + (b + c) is (x + b) + (y + c)
pub exchange : (x y b c : ℤ) → x +ℤ y +ℤ (b +ℤ c) ≡ x +ℤ b +ℤ (y +ℤ c)
exchange x y b c = +ℤ_assoc x y (b +ℤ c) ∙ ap (λ (k : ℤ). x +ℤ k) (left_comm y b c) ∙ sym (+ℤ_assoc x b (y +ℤ c))

exchange-sub : (x y b c : ℤ) → x +ℤ y -ℤ (b +ℤ c) ≡ x -ℤ b +ℤ (y -ℤ c)
exchange-sub x y b c = ap (λ (k : ℤ). x +ℤ y +ℤ k) (neg_ℤ-+ℤ b c) ∙ exchange x y (neg_ℤ b) (neg_ℤ c)

-- the product over a sum
mul-add-zero : (b c : ℤ) → pos zero *ℤ (b +ℤ c) ≡ pos zero *ℤ b +ℤ pos zero *ℤ c
mul-add-zero b c = zero-*ℤ (b +ℤ c) ∙ (λ i. sym (zero-*ℤ b) i +ℤ sym (zero-*ℤ c) i)

pub mul-add : (a b c : ℤ) → a *ℤ (b +ℤ c) ≡ a *ℤ b +ℤ a *ℤ c
mul-add (pos zero) b c = mul-add-zero b c
mul-add (pos (suc n)) b c =
    suc_ℤ-*ℤ (pos n) (b +ℤ c) ∙ ap (λ (k : ℤ). k +ℤ (b +ℤ c)) (mul-add (pos n) b c) ∙ exchange (pos n *ℤ b) (pos n *ℤ c) b c
    ∙ (λ i. sym (suc_ℤ-*ℤ (pos n) b) i +ℤ sym (suc_ℤ-*ℤ (pos n) c) i)
mul-add (negsuc zero) b c =
    pred_ℤ-*ℤ (pos zero) (b +ℤ c) ∙ ap (λ (k : ℤ). k -ℤ (b +ℤ c)) (mul-add-zero b c) ∙ exchange-sub (pos zero *ℤ b) (pos zero *ℤ c) b c
    ∙ (λ i. sym (pred_ℤ-*ℤ (pos zero) b) i +ℤ sym (pred_ℤ-*ℤ (pos zero) c) i)
mul-add (negsuc (suc n)) b c =
    pred_ℤ-*ℤ (negsuc n) (b +ℤ c) ∙ ap (λ (k : ℤ). k -ℤ (b +ℤ c)) (mul-add (negsuc n) b c) ∙ exchange-sub (negsuc n *ℤ b) (negsuc n *ℤ c) b c
    ∙ (λ i. sym (pred_ℤ-*ℤ (negsuc n) b) i +ℤ sym (pred_ℤ-*ℤ (negsuc n) c) i)

pub add-mul : (a b c : ℤ) → (a +ℤ b) *ℤ c ≡ a *ℤ c +ℤ b *ℤ c
add-mul a b c = *ℤ_comm (a +ℤ b) c ∙ mul-add c a b ∙ (λ i. *ℤ_comm c a i +ℤ *ℤ_comm c b i)

pub neg-mul : (a b : ℤ) → neg_ℤ a *ℤ b ≡ neg_ℤ (a *ℤ b)
neg-mul a b =
    sym (+ℤ_idl (neg_ℤ a *ℤ b)) ∙ ap (λ (k : ℤ). k +ℤ neg_ℤ a *ℤ b) (sym (+ℤ_invl (a *ℤ b))) ∙ +ℤ_assoc (neg_ℤ (a *ℤ b)) (a *ℤ b) (neg_ℤ a *ℤ b)
    ∙ ap (λ (k : ℤ). neg_ℤ (a *ℤ b) +ℤ k) (sym (add-mul a (neg_ℤ a) b) ∙ ap (λ (k : ℤ). k *ℤ b) (+ℤ_invr a) ∙ zero-*ℤ b) ∙ +ℤ_idr (neg_ℤ (a *ℤ b))

sub-mul : (a b c : ℤ) → (a -ℤ b) *ℤ c ≡ a *ℤ c -ℤ b *ℤ c
sub-mul a b c = add-mul a (neg_ℤ b) c ∙ ap (λ (k : ℤ). a *ℤ c +ℤ k) (neg-mul b c)

mul-assoc-zero : (b c : ℤ) → pos zero *ℤ b *ℤ c ≡ pos zero *ℤ (b *ℤ c)
mul-assoc-zero b c = ap (λ (k : ℤ). k *ℤ c) (zero-*ℤ b) ∙ zero-*ℤ c ∙ sym (zero-*ℤ (b *ℤ c))

pub mul_assoc : (a b c : ℤ) → a *ℤ b *ℤ c ≡ a *ℤ (b *ℤ c)
mul_assoc (pos zero) b c = mul-assoc-zero b c
mul_assoc (pos (suc n)) b c =
    ap (λ (k : ℤ). k *ℤ c) (suc_ℤ-*ℤ (pos n) b) ∙ add-mul (pos n *ℤ b) b c ∙ ap (λ (k : ℤ). k +ℤ b *ℤ c) (mul_assoc (pos n) b c) ∙ sym (suc_ℤ-*ℤ (pos n) (b *ℤ c))
mul_assoc (negsuc zero) b c =
    ap (λ (k : ℤ). k *ℤ c) (pred_ℤ-*ℤ (pos zero) b) ∙ sub-mul (pos zero *ℤ b) b c ∙ ap (λ (k : ℤ). k -ℤ b *ℤ c) (mul-assoc-zero b c)
    ∙ sym (pred_ℤ-*ℤ (pos zero) (b *ℤ c))
mul_assoc (negsuc (suc n)) b c =
    ap (λ (k : ℤ). k *ℤ c) (pred_ℤ-*ℤ (negsuc n) b) ∙ sub-mul (negsuc n *ℤ b) b c ∙ ap (λ (k : ℤ). k -ℤ b *ℤ c) (mul_assoc (negsuc n) b c)
    ∙ sym (pred_ℤ-*ℤ (negsuc n) (b *ℤ c))
