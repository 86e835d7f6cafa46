-- When two triple products are no mirror images of each other: where that of the stars is too small to have a say, or where the two lie nearer than its
-- size and 10^12. And how far a triple product moves with its vectors. Assumes nothing.
use Rattle.std.specs.Prelude.{Bool, true, false, ◌&&◌, ◌||◌, [], ◌∷◌, ◌≡◌, refl, ℕ, zero, suc, ◌+◌, ◌*◌, ◌≤◌, ◌<◌, leb, ℤ, pos, negsuc, nat_abs, ◌+ℤ◌, ◌-ℤ◌, ◌*ℤ◌}
use Rattle.std.proofs.Common.{◌∙◌, arith, leb-true, lit<}
use Rattle.std.specs.Int.Signed.{quot_z}
use Rattle.lists.specs.Contradiction.{contradiction}
use Rattle.numbers.specs.Within.{Within, wider, within-add, within-sub}
use Rattle.numbers.specs.Solver.{var, num, ◌⊕◌, ◌⊖◌, ◌⊗◌}
use Rattle.numbers.proofs.Solver.{ring}
use Rattle.numbers.specs.Split.{Split, split, within-as, cut}
use Rattle.vectors.specs.declared.Vec3.{Vec3}
use Rattle.vectors.specs.Vectors.{Within3}
use Rattle.vectors.specs.Laws.{dot-within, cross-within}
use Rattle.vectors.specs.Symbols.{less_of, det_of}
use Rattle.vectors.specs.Identities.{det-moved}
use Rattle.vectors.specs.handedness.Handedness.{thousandth_of, triple_of, right, left, mirrored}
use Rattle.vectors.specs.handedness.Laws.{thousandth-within}

neither : (a b c d : Bool) → (a ≡ true → b ≡ true → ⊥) → (c ≡ true → d ≡ true → ⊥) → (a && b) || (c && d) ≡ false
neither true true c d f g = absurd (f refl refl)
neither true false true true f g = absurd (g refl refl)
neither true false true false f g = refl
neither true false false d f g = refl
neither false b true true f g = absurd (g refl refl)
neither false b true false f g = refl
neither false b false d f g = refl

right-large : (p : ℤ) → right p ≡ true → 1000000000000 ≤ nat_abs p
right-large (pos n) e = leb-true 1000000000000 n e
right-large (negsuc n) e = contradiction e

left-large : (p : ℤ) → left p ≡ true → 1000000000000 ≤ nat_abs p
left-large (pos n) e = contradiction e
left-large (negsuc n) e = omega (arith, leb-true 999999999999 n e)

-- one to the right and the other to the left lie as far apart as their sizes together
across : (p q : ℤ) → right p ≡ true → left q ≡ true → nat_abs (p -ℤ q) ≡ nat_abs p + nat_abs q
across (pos a) (negsuc b) e f = refl
across (pos a) (pos b) e f = contradiction f
across (negsuc a) q e f = contradiction e

back : (p q : ℤ) → left p ≡ true → right q ≡ true → nat_abs (p -ℤ q) ≡ nat_abs p + nat_abs q
back (negsuc a) (pos zero) e f = contradiction f
back (negsuc a) (pos (suc b)) e f = omega arith
back (negsuc a) (negsuc b) e f = contradiction f
back (pos a) q e f = contradiction e

pub small-unmirrored : (p q : ℤ) → nat_abs q < 1000000000000 → mirrored p q ≡ false
unfolding mirrored
small-unmirrored p q h =
    neither (right p) (left q) (left p) (right q) (λ e f. absurd (omega (arith, left-large q f))) (λ e f. absurd (omega (arith, right-large q f)))

pub near-unmirrored : {m : ℕ} (p q : ℤ) → Within m (p -ℤ q) → m < nat_abs q + 1000000000000 → mirrored p q ≡ false
unfolding mirrored
near-unmirrored p q w h =
    neither (right p) (left q) (left p) (right q)
    (λ e f. absurd (omega (arith, w.within, across p q e f, right-large p e)))
    (λ e f. absurd (omega (arith, w.within, back p q e f, left-large p e)))

-- ---- how far a triple product moves

quotients : (q r q' r' : ℤ) → pos 1000 *ℤ q +ℤ r -ℤ (pos 1000 *ℤ q' +ℤ r') -ℤ (r -ℤ r') ≡ pos 1000 *ℤ (q -ℤ q')
quotients q r q' r' =
    let n = num (pos 1000) in
    ring (q ∷ (r ∷ (q' ∷ (r' ∷ [])))) (n ⊗ var 0 ⊕ var 1 ⊖ (n ⊗ var 2 ⊕ var 3) ⊖ (var 1 ⊖ var 3)) (n ⊗ (var 0 ⊖ var 2)) tt

thousandth-near : {e k : ℕ} (a b : ℤ) → Within e (a -ℤ b) → e + 2000 ≤ 1000 * k → Within k (quot_z a (pos 1000) -ℤ quot_z b (pos 1000))
thousandth-near a b w h =
    let i = split {p = 1000} (lit< tt) a in
    let j = split {p = 1000} (lit< tt) b in
    cut (lit< tt)
    ((λ t. i.is t -ℤ j.is t -ℤ (i.rest -ℤ j.rest)) ∙ quotients (quot_z a (pos 1000)) i.rest (quot_z b (pos 1000)) j.rest)
    (within-sub w (within-sub i.small j.small)) (omega arith)

det-within : {i j k : ℕ} {p q r : Vec3} → Within3 i p → Within3 j q → Within3 k r
    → Within (i * (j * k + j * k) + i * (j * k + j * k) + i * (j * k + j * k)) (det_of p q r)
det-within p q r = dot-within p (cross-within q r)

-- vectors that are off by at most e, where k is 3 more than e over 1,000
abbrev pub turned_by : ℕ → ℕ
turned_by k = 18000000000000 * k + 18000000 * (k * k) + 6 * (k * (k * k))

module _ {e : ℕ} (k : ℕ) (enough : e + 2000 ≤ 1000 * k) where
  apart : (a u : Vec3) → Within3 e (less_of a u) → Within3 k (less_of (thousandth_of a) (thousandth_of u))
  apart a u h =
      record {
        x = thousandth-near a.x u.x h.x enough;
        y = thousandth-near a.y u.y h.y enough;
        z = thousandth-near a.z u.z h.z enough;
      }

  pub triple-moved :
      (a b c u v w : Vec3) →
      Within3 e (less_of a u) → Within3 e (less_of b v) → Within3 e (less_of c w) → Within3 1000000000 u → Within3 1000000000 v → Within3 1000000000 w →
      Within (turned_by k) (triple_of a b c -ℤ triple_of u v w)
  unfolding triple_of
  triple-moved a b c u v w i j o f g h =
      let p = apart a u i in
      let q = apart b v j in
      let r = apart c w o in
      let x = thousandth-within f in
      let y = thousandth-within g in
      let z = thousandth-within h in
      within-as (det-moved (thousandth_of a) (thousandth_of b) (thousandth_of c) (thousandth_of u) (thousandth_of v) (thousandth_of w))
      (wider
      (within-add
      (within-add (within-add (within-add (det-within p y z) (det-within x q z)) (det-within x y r))
      (within-add (within-add (det-within p q z) (det-within p y r)) (det-within x q r)))
      (det-within p q r))
      (omega arith))
