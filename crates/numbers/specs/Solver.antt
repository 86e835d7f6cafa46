-- Identities of the whole numbers, proved by multiplying out. An identity is given by two expressions over the same list of numbers; their difference is
-- brought to a sum of products with equal products gathered, and where every coefficient is 0 the two sides are equal: `ring numbers left right tt`.
-- The solver computes on the expressions alone, so a wrong identity leaves `tt` without a type. Assumes nothing.
use Rattle.std.specs.Prelude.{◌≡◌, Bool, cond, not, ◌&&◌, ℕ, zero, suc, T, eqb, leb}
use Rattle.std.proofs.Math.Path.{sym, ap}
use Rattle.std.proofs.Common.{◌∙◌}
use Rattle.std.proofs.Math.Bool.{true, false}
use mathlib.Core.List.{List, [], ◌∷◌}
use lib.IntN.{ℤ, pos, negsuc, ◌+ℤ◌, ◌-ℤ◌, ◌*ℤ◌, +ℤ_idl, -ℤ-+ℤ_cancel}

-- ---- expressions; a number stands in one as its place in the list

infixl 6 ◌⊕◌ ◌⊖◌
infixl 7 ◌⊗◌
pub data Ex : Type 0 where
  var : ℕ → Ex
  num : ℤ → Ex
  ◌⊕◌ : Ex → Ex → Ex
  ◌⊖◌ : Ex → Ex → Ex
  ◌⊗◌ : Ex → Ex → Ex

abbrev pub at : List ℤ → ℕ → ℤ
at [] n = pos 0
at (x ∷ xs) zero = x
at (x ∷ xs) (suc n) = at xs n

abbrev pub meant : List ℤ → Ex → ℤ
meant xs (var i) = at xs i
meant xs (num z) = z
meant xs (a ⊕ b) = meant xs a +ℤ meant xs b
meant xs (a ⊖ b) = meant xs a -ℤ meant xs b
meant xs (a ⊗ b) = meant xs a *ℤ meant xs b

-- ---- what they are brought to: a sum of products, each a coefficient and the places of its factors in rising order

pub data Sum : Type 0 where
  none : Sum
  term : ℤ → List ℕ → Sum → Sum

abbrev pub same : List ℕ → List ℕ → Bool
same [] [] = true
same [] (w ∷ n) = false
same (v ∷ m) [] = false
same (v ∷ m) (w ∷ n) = eqb v w && same m n

abbrev pub put : ℕ → List ℕ → List ℕ
put v [] = v ∷ []
put v (w ∷ m) = cond (leb v w) (v ∷ (w ∷ m)) (w ∷ put v m)

abbrev pub join : List ℕ → List ℕ → List ℕ
join [] n = n
join (v ∷ m) n = put v (join m n)

abbrev pub gather : ℤ → List ℕ → Sum → Sum
gather c m none = term c m none
gather c m (term d n p) = let rest = gather c m p in cond (same m n) (term (c +ℤ d) n p) (term d n rest)

abbrev pub plus : Sum → Sum → Sum
plus none q = q
plus (term c m p) q = gather c m (plus p q)

-- q and c times the factors m times p
abbrev pub scaled : ℤ → List ℕ → Sum → Sum → Sum
scaled c m none q = q
scaled c m (term d n p) q = gather (c *ℤ d) (join m n) (scaled c m p q)

abbrev pub times : Sum → Sum → Sum
times none q = none
times (term c m p) q = scaled c m q (times p q)

abbrev pub gathered : Ex → Sum
gathered (var i) = term (pos 1) (i ∷ []) none
gathered (num z) = term z [] none
gathered (a ⊕ b) = plus (gathered a) (gathered b)
gathered (a ⊖ b) = scaled (negsuc 0) [] (gathered b) (gathered a)
gathered (a ⊗ b) = times (gathered a) (gathered b)

abbrev pub zeroℤ : ℤ → Bool
zeroℤ (pos n) = eqb n 0
zeroℤ (negsuc n) = false

abbrev pub vanishes : Sum → Bool
vanishes none = true
vanishes (term c m p) = zeroℤ c && vanishes p

-- ---- each step keeps the value

cond_ind : (c : Bool) (x y : ℤ) (z : ℤ) → (T c → x ≡ z) → (T (not c) → y ≡ z) → cond c x y ≡ z
cond_ind true x y z f g = f tt
cond_ind false x y z f g = g tt

-- no difference, so the same
pub sub-zero : {a b : ℤ} → a -ℤ b ≡ pos 0 → a ≡ b
sub-zero {a} {b} e = sym (-ℤ-+ℤ_cancel a b) ∙ ap (λ (k : ℤ). k +ℤ b) e ∙ +ℤ_idl b
