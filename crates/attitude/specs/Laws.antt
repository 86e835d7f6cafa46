-- What the attitude of four vectors comes to: which of the two refusals is given, exactly when, and how large the entries of a matrix are.
-- Assumes nothing.
use Rattle.std.proofs.Common.{lt-ltb, le-ltb, ltb-true, ltb-false, true≢false, sym, ap, ◌∙◌, arith}
use Rattle.std.proofs.lemmas.Bool.{eqb-false, false≢true}
use Rattle.std.specs.Prelude.{Bool, ◌||◌, [], ◌∷◌, ◌↔◌, ◌⊎◌, ◌≡◌, ℕ, ◌^◌, ◌≤◌, ◌<◌, ltb, ℤ, pos, ◌-ℤ◌, ◌*ℤ◌}
use Rattle.std.proofs.Math.Bool.{true, false}
use Rattle.std.proofs.Math.Logic.{inl, inr}
use Rattle.std.proofs.Math.Path.{refl, subst}
use Rattle.std.proofs.Math.IntN.{*ℤ_comm, +ℤ_invr}
use Rattle.refusal.specs.Numbers.{directions, close}
use Rattle.refusal.specs.declared.Refusal.{Refusal}
use Rattle.refusal.specs.Table.{row, first_applying, answered}
use Rattle.refusal.specs.Laws.{Silent}
use Rattle.refusal.proofs.Laws.{accepted-silent}
use Rattle.refusal.specs.AnswerLaws.{answer_by}
use Rattle.refusal.proofs.AnswerLaws.{answered-by}
use Rattle.vectors.specs.declared.Vec3.{Vec3}
use Rattle.vectors.specs.Vectors.{Within3, cross_of}
use Rattle.vectors.specs.Laws.{wider3}
use Rattle.attitude.specs.declared.Matrix.{Matrix}
use Rattle.attitude.specs.Scale.{largest_of}
use Rattle.attitude.specs.Entries.{MatrixWithin}
use Rattle.attitude.specs.Attitude.{beyond, out_of_range, too_close, either_close, refusals_of, matrix_of, attitude_of, attitude_answer, answer_for}
use Rattle.attitude.specs.Bounds.{largest-within, product-within}
use Rattle.std.specs.Prelude.{Result, Ok, Err}

-- ---- the two conditions, in numbers

pub record InRange (camera1 camera2 sky1 sky2 : Vec3) : Type 0 where
  pub v1 : Within3 1000000000 camera1
  pub v2 : Within3 1000000000 camera2
  pub w1 : Within3 1000000000 sky1
  pub w2 : Within3 1000000000 sky2

-- no magnitude is above b exactly where each of the three is within b
pub largest-in : (b : ℕ) (v : Vec3) → (ltb b (largest_of v) ≡ false) ↔ Within3 b v
largest-in b v = (
  λ e. wider3 (largest-within v) (ltb-false b (largest_of v) e),
  λ h. le-ltb b (largest_of v) (omega (arith, h.x.within, h.y.within, h.z.within)),
)

-- neither of two tests holds
pub or-false : (a b : Bool) → ((a || b) ≡ false) ↔ ((a ≡ false) × (b ≡ false))
or-false true b = (λ e. absurd (true≢false e), λ h. h.0)
or-false false b = (λ e. (refl, e), λ h. h.1)

-- the two vectors of a side
pub pair-in-range : (v w : Vec3) → ((beyond v || beyond w) ≡ false) ↔ (Within3 1000000000 v × Within3 1000000000 w)
pair-in-range v w =
    let both = or-false (beyond v) (beyond w) in
    let first = largest-in 1000000000 v in
    let second = largest-in 1000000000 w in
    (λ e. (first.0 (both.0 e).0, second.0 (both.0 e).1), λ h. both.1 (first.1 h.0, second.1 h.1))

pub in-range : (v1 v2 w1 w2 : Vec3) → (out_of_range v1 v2 w1 w2 ≡ false) ↔ InRange v1 v2 w1 w2
in-range v1 v2 w1 w2 =
    let both = or-false (beyond v1 || beyond v2) (beyond w1 || beyond w2) in
    let camera = pair-in-range v1 v2 in
    let sky = pair-in-range w1 w2 in (
      λ e. let c = camera.0 (both.0 e).0 in let s = sky.0 (both.0 e).1 in record { v1 = c.0; v2 = c.1; w1 = s.0; w2 = s.1 },
      λ h. both.1 (camera.1 (h.v1, h.v2), sky.1 (h.w1, h.w2)),
    )

pub close-is : (v w : Vec3) → (too_close v w ≡ true) ↔ (largest_of (cross_of v w) < 2 ^ 30)
close-is v w = (ltb-true (largest_of (cross_of v w)) (2 ^ 30), lt-ltb (largest_of (cross_of v w)) (2 ^ 30))

-- neither side is too close
pub apart-is :
    (v1 v2 w1 w2 : Vec3) →
    (either_close v1 v2 w1 w2 ≡ false) ↔ ((2 ^ 30 ≤ largest_of (cross_of v1 v2)) × (2 ^ 30 ≤ largest_of (cross_of w1 w2)))
apart-is v1 v2 w1 w2 =
    let both = or-false (too_close v1 v2) (too_close w1 w2) in
    let v = largest_of (cross_of v1 v2) in
    let w = largest_of (cross_of w1 w2) in
    (λ e. (ltb-false v (2 ^ 30) (both.0 e).0, ltb-false w (2 ^ 30) (both.0 e).1), λ h. both.1 (le-ltb v (2 ^ 30) h.0, le-ltb w (2 ^ 30) h.1))

-- ---- which answer is given

-- the answer by the two conditions alone
abbrev pub given : Bool → Bool → Matrix → Result Matrix Refusal
given a b m = answered Err (Ok m) (first_applying (row a directions ∷ (row b close ∷ [])))

abbrev pub refused_as : ℕ → Result Matrix Refusal
refused_as n = Err (record { number = n; place = 0 })

-- ---- one direction twice is too close

cancelled : (a b : ℤ) → a *ℤ b -ℤ b *ℤ a ≡ pos 0
cancelled a b = ap (λ (z : ℤ). a *ℤ b -ℤ z) (*ℤ_comm b a) ∙ +ℤ_invr (a *ℤ b)

pub same-close : (v : Vec3) → too_close v v ≡ true
same-close v =
    ap (λ (c : Vec3). ltb (largest_of c) (2 ^ 30))
    (λ i. record { x = cancelled v.y v.z i; y = cancelled v.z v.x i; z = cancelled v.x v.y i })

pub same-refused : (v w1 w2 : Vec3) → InRange v v w1 w2 → attitude_of v v w1 w2 ≡ refused_as close
unfolding attitude_of first_applying
same-refused v w1 w2 h = rw ((in-range v v w1 w2).1 h, same-close v)
