-- Identities of the whole numbers, proved by multiplying out. An identity is given by two expressions over the same list of numbers; their difference is
-- brought to a sum of products with equal products gathered, and where every coefficient is 0 the two sides are equal: `ring numbers left right tt`.
-- The solver computes on the expressions alone, so a wrong identity leaves `tt` without a type. Assumes nothing.
use Rattle.std.specs.Prelude.{◌≡◌, Bool, cond, ℕ, T, eqb, leb}
use Rattle.std.proofs.Math.Path.{refl, sym, ap}
use Rattle.std.proofs.Common.{◌∙◌, eqb→eq}
use Rattle.std.proofs.Math.Bool.{true, false}
use mathlib.Core.List.{List, [], ◌∷◌}
use Rattle.std.specs.Float.Ieee.Fits.{and_l, and_r}
use lib.IntN.{ℤ, pos, negsuc, neg_ℤ, ◌+ℤ◌, ◌-ℤ◌, ◌*ℤ◌, +ℤ_idl, +ℤ_idr, +ℤ_assoc, +ℤ_comm, +ℤ_invr, -ℤ-+ℤ_cancel, zero-*ℤ, *ℤ-zero, *ℤ_comm, *ℤ-one}
use Rattle.numbers.specs.Ring.{left_comm, mul-add, add-mul, neg-mul, mul_assoc}
use Rattle.numbers.specs.Solver.{Ex, var, num, ◌⊕◌, ◌⊖◌, ◌⊗◌, at, meant, Sum, none, term, same, put, join, gather, plus, scaled, times, gathered, zeroℤ, vanishes, sub-zero}

module _ (xs : List ℤ) where
  factors : List ℕ → ℤ
  factors [] = pos 1
  factors (v ∷ m) = at xs v *ℤ factors m

  total : Sum → ℤ
  total none = pos 0
  total (term c m p) = c *ℤ factors m +ℤ total p

one-mul : (a : ℤ) → pos 1 *ℤ a ≡ a
unfolding lib.IntN.one
one-mul a = *ℤ_comm (pos 1) a ∙ *ℤ-one a

same-eq : (m n : List ℕ) → T (same m n) → m ≡ n
same-eq [] [] t = refl
same-eq [] (w ∷ n) t = absurd t
same-eq (v ∷ m) [] t = absurd t
same-eq (v ∷ m) (w ∷ n) t = λ i. eqb→eq v w (and_l (eqb v w) (same m n) t) i ∷ same-eq m n (and_r (eqb v w) (same m n) t) i

swap_mul : (a b c : ℤ) → a *ℤ (b *ℤ c) ≡ b *ℤ (a *ℤ c)
swap_mul a b c = sym (mul_assoc a b c) ∙ ap (λ (k : ℤ). k *ℤ c) (*ℤ_comm a b) ∙ mul_assoc b a c

zero-eq : (c : ℤ) → T (zeroℤ c) → c ≡ pos 0
zero-eq (pos n) t = ap pos (eqb→eq n 0 t)
zero-eq (negsuc n) t = absurd t

module _ (xs : List ℤ) where
  put_if : (c : Bool) (v w : ℕ) (m n : List ℕ) → factors xs n ≡ at xs v *ℤ factors xs m
      → factors xs (cond c (v ∷ (w ∷ m)) (w ∷ n)) ≡ at xs v *ℤ (at xs w *ℤ factors xs m)
  unfolding factors
  put_if true v w m n e = refl
  put_if false v w m n e = ap (λ (k : ℤ). at xs w *ℤ k) e ∙ swap_mul (at xs w) (at xs v) (factors xs m)

  put_is : (v : ℕ) (m : List ℕ) → factors xs (put v m) ≡ at xs v *ℤ factors xs m
  unfolding factors
  put_is v [] = refl
  put_is v (w ∷ m) = put_if (leb v w) v w m (put v m) (put_is v m)

  join_is : (m n : List ℕ) → factors xs (join m n) ≡ factors xs m *ℤ factors xs n
  unfolding factors
  join_is [] n = sym (one-mul (factors xs n))
  join_is (v ∷ m) n = put_is v (join m n) ∙ ap (λ (k : ℤ). at xs v *ℤ k) (join_is m n) ∙ sym (mul_assoc (at xs v) (factors xs m) (factors xs n))

  gather-if :
      (s : Bool) (c d : ℤ) (m n : List ℕ) (p q : Sum) →
      (T s → m ≡ n) →
      total xs q ≡ c *ℤ factors xs m +ℤ total xs p →
      total xs (cond s (term (c +ℤ d) n p) (term d n q)) ≡ c *ℤ factors xs m +ℤ (d *ℤ factors xs n +ℤ total xs p)
  unfolding total
  gather-if true c d m n p q f e =
      ap (λ (k : ℤ). k +ℤ total xs p) (add-mul c d (factors xs n)) ∙ +ℤ_assoc (c *ℤ factors xs n) (d *ℤ factors xs n) (total xs p)
      ∙ ap (λ (k : List ℕ). c *ℤ factors xs k +ℤ (d *ℤ factors xs n +ℤ total xs p)) (sym (f tt))
  gather-if false c d m n p q f e = ap (λ (k : ℤ). d *ℤ factors xs n +ℤ k) e ∙ left_comm (d *ℤ factors xs n) (c *ℤ factors xs m) (total xs p)

  gather-is : (c : ℤ) (m : List ℕ) (p : Sum) → total xs (gather c m p) ≡ c *ℤ factors xs m +ℤ total xs p
  unfolding total
  gather-is c m none = refl
  gather-is c m (term d n p) = gather-if (same m n) c d m n p (gather c m p) (same-eq m n) (gather-is c m p)

  plus-is : (p q : Sum) → total xs (plus p q) ≡ total xs p +ℤ total xs q
  unfolding total
  plus-is none q = sym (+ℤ_idl (total xs q))
  plus-is (term c m p) q =
      gather-is c m (plus p q) ∙ ap (λ (k : ℤ). c *ℤ factors xs m +ℤ k) (plus-is p q) ∙ sym (+ℤ_assoc (c *ℤ factors xs m) (total xs p) (total xs q))

  -- (c m) (d n) is (c d) (m n)
  four : (c d m n : ℤ) → c *ℤ d *ℤ (m *ℤ n) ≡ c *ℤ m *ℤ (d *ℤ n)
  four c d m n = mul_assoc c d (m *ℤ n) ∙ ap (λ (k : ℤ). c *ℤ k) (swap_mul d m n) ∙ sym (mul_assoc c m (d *ℤ n))

  scaled-is : (c : ℤ) (m : List ℕ) (p q : Sum) → total xs (scaled c m p q) ≡ c *ℤ factors xs m *ℤ total xs p +ℤ total xs q
  unfolding total
  scaled-is c m none q = sym (+ℤ_idl (total xs q)) ∙ ap (λ (k : ℤ). k +ℤ total xs q) (sym (*ℤ-zero (c *ℤ factors xs m)))
  scaled-is c m (term d n p) q =
      gather-is (c *ℤ d) (join m n) (scaled c m p q)
      ∙ (λ i. (ap (λ (k : ℤ). c *ℤ d *ℤ k) (join_is m n) ∙ four c d (factors xs m) (factors xs n)) i +ℤ scaled-is c m p q i)
      ∙ sym (+ℤ_assoc (c *ℤ factors xs m *ℤ (d *ℤ factors xs n)) (c *ℤ factors xs m *ℤ total xs p) (total xs q))
      ∙ ap (λ (k : ℤ). k +ℤ total xs q) (sym (mul-add (c *ℤ factors xs m) (d *ℤ factors xs n) (total xs p)))

  times-is : (p q : Sum) → total xs (times p q) ≡ total xs p *ℤ total xs q
  unfolding total
  times-is none q = sym (zero-*ℤ (total xs q))
  times-is (term c m p) q =
      scaled-is c m q (times p q) ∙ ap (λ (k : ℤ). c *ℤ factors xs m *ℤ total xs q +ℤ k) (times-is p q)
      ∙ sym (add-mul (c *ℤ factors xs m) (total xs p) (total xs q))

  minus_one : (a b : ℤ) → negsuc 0 *ℤ pos 1 *ℤ b +ℤ a ≡ a -ℤ b
  minus_one a b = ap (λ (k : ℤ). k +ℤ a) (neg-mul (pos 1) b ∙ ap neg_ℤ (one-mul b)) ∙ +ℤ_comm (neg_ℤ b) a

  gathered-is : (e : Ex) → total xs (gathered e) ≡ meant xs e
  unfolding total factors
  gathered-is (var i) = +ℤ_idr (pos 1 *ℤ (at xs i *ℤ pos 1)) ∙ one-mul (at xs i *ℤ pos 1) ∙ *ℤ_comm (at xs i) (pos 1) ∙ one-mul (at xs i)
  gathered-is (num z) = +ℤ_idr (z *ℤ pos 1) ∙ *ℤ_comm z (pos 1) ∙ one-mul z
  gathered-is (a ⊕ b) = plus-is (gathered a) (gathered b) ∙ (λ i. gathered-is a i +ℤ gathered-is b i)
  gathered-is (a ⊖ b) =
      scaled-is (negsuc 0) [] (gathered b) (gathered a) ∙ minus_one (total xs (gathered a)) (total xs (gathered b)) ∙ (λ i. gathered-is a i -ℤ gathered-is b i)
  gathered-is (a ⊗ b) = times-is (gathered a) (gathered b) ∙ (λ i. gathered-is a i *ℤ gathered-is b i)

  vanishes-is : (p : Sum) → T (vanishes p) → total xs p ≡ pos 0
  unfolding total
  vanishes-is none t = refl
  vanishes-is (term c m p) t =
      (λ i. (ap (λ (k : ℤ). k *ℤ factors xs m) (zero-eq c (and_l (zeroℤ c) (vanishes p) t)) ∙ zero-*ℤ (factors xs m)) i
      +ℤ vanishes-is p (and_r (zeroℤ c) (vanishes p) t) i)

pub ring : (xs : List ℤ) (a b : Ex) → T (vanishes (gathered (a ⊖ b))) → meant xs a ≡ meant xs b
ring xs a b t = sub-zero (sym (gathered-is xs (a ⊖ b)) ∙ vanishes-is xs (gathered (a ⊖ b)) t)
