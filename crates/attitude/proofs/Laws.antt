-- What the attitude of four vectors comes to: which of the two refusals is given, exactly when, and how large the entries of a matrix are.
-- Assumes nothing.
use Rattle.std.proofs.Common.{lt-ltb, le-ltb, ltb-true, ltb-false, true≢false, sym, ap, ◌∙◌, arith}
use Rattle.std.proofs.lemmas.Bool.{eqb-false, false≢true}
use Rattle.std.specs.Prelude.{Bool, ◌||◌, [], ◌∷◌, ◌↔◌, ◌⊎◌, ◌≡◌, ℕ, ◌^◌, ◌≤◌, ◌<◌, ltb, ℤ, pos, ◌-ℤ◌, ◌*ℤ◌}
use Rattle.std.proofs.Math.Bool.{true, false}
use Rattle.std.proofs.Math.Logic.{inl, inr}
use Rattle.std.proofs.Math.Path.{refl, subst}
use Rattle.std.proofs.Math.IntN.{*ℤ_comm, +ℤ_invr}
use Rattle.refusal.specs.Numbers.{directions, close}
use Rattle.refusal.specs.declared.Refusal.{Refusal}
use Rattle.refusal.specs.Table.{row, first_applying, answered}
use Rattle.refusal.specs.Laws.{Silent}
use Rattle.refusal.proofs.Laws.{accepted-silent}
use Rattle.refusal.specs.AnswerLaws.{answer_by}
use Rattle.refusal.proofs.AnswerLaws.{answered-by}
use Rattle.vectors.specs.declared.Vec3.{Vec3}
use Rattle.vectors.specs.Vectors.{Within3, cross_of}
use Rattle.vectors.specs.Laws.{wider3}
use Rattle.attitude.specs.declared.Matrix.{Matrix}
use Rattle.attitude.specs.Scale.{largest_of}
use Rattle.attitude.specs.Entries.{MatrixWithin}
use Rattle.attitude.specs.Attitude.{beyond, out_of_range, too_close, either_close, refusals_of, matrix_of, attitude_of, attitude_answer, answer_for}
use Rattle.attitude.specs.Bounds.{largest-within, product-within}
use Rattle.attitude.proofs.Bounds.{axes-within}
use Rattle.attitude.specs.Laws.{InRange, in-range, apart-is, given, refused_as}
use Rattle.std.specs.Prelude.{Result, Ok, Err}

module _ (m : Matrix) where
  eight : (a b : Bool) → ((attitude_answer (given a b m)).number ≡ 8) ↔ (a ≡ true)
  unfolding first_applying
  eight true b = (λ e. refl, λ e. refl)
  eight false true = (λ e. absurd (eqb-false 14 8 refl e), λ e. absurd (false≢true e))
  eight false false = (λ e. absurd (eqb-false 0 8 refl e), λ e. absurd (false≢true e))

  fourteen : (a b : Bool) → ((attitude_answer (given a b m)).number ≡ 14) ↔ ((a ≡ false) × (b ≡ true))
  unfolding first_applying
  fourteen true b = (λ e. absurd (eqb-false 8 14 refl e), λ e. absurd (true≢false e.0))
  fourteen false true = (λ e. (refl, refl), λ e. refl)
  fourteen false false = (λ e. absurd (eqb-false 0 14 refl e), λ e. absurd (false≢true e.1))

  found : (a b : Bool) → ((attitude_answer (given a b m)).number ≡ 0) ↔ ((a ≡ false) × (b ≡ false))
  unfolding first_applying
  found true b = (λ e. absurd (eqb-false 8 0 refl e), λ e. absurd (true≢false e.0))
  found false true = (λ e. absurd (eqb-false 14 0 refl e), λ e. absurd (true≢false e.1))
  found false false = (λ e. (refl, refl), λ e. refl)

  close-or-found : (b : Bool) → (given false b m ≡ refused_as close) ⊎ (given false b m ≡ Ok m)
  unfolding first_applying
  close-or-found true = inl refl
  close-or-found false = inr refl

  within-if : (a b : Bool) (n : Matrix) → given a b m ≡ Ok n → (a ≡ false → MatrixWithin 6000000000 m) → MatrixWithin 6000000000 n
  unfolding first_applying
  within-if true b n e h = absurd (eqb-false 8 0 refl (ap (λ (r : Result Matrix Refusal). (attitude_answer r).number) e))
  within-if false true n e h = absurd (eqb-false 14 0 refl (ap (λ (r : Result Matrix Refusal). (attitude_answer r).number) e))
  within-if false false n e h = let same : m ≡ n = cc in subst (MatrixWithin 6000000000) same (h refl)

module _ (v1 v2 w1 w2 : Vec3) where
  pub answers : attitude_answer (attitude_of v1 v2 w1 w2) ≡ answer_for v1 v2 w1 w2
  unfolding attitude_of answer_by
  answers = answered-by Err (Ok (matrix_of v1 v2 w1 w2)) attitude_answer _ (λ r. refl) refl (refusals_of v1 v2 w1 w2)

  pub refused-8 : ((attitude_answer (attitude_of v1 v2 w1 w2)).number ≡ 8) ↔ (out_of_range v1 v2 w1 w2 ≡ true)
  unfolding attitude_of
  refused-8 = eight (matrix_of v1 v2 w1 w2) (out_of_range v1 v2 w1 w2) (either_close v1 v2 w1 w2)

  pub refused-14 :
      ((attitude_answer (attitude_of v1 v2 w1 w2)).number ≡ 14) ↔ ((out_of_range v1 v2 w1 w2 ≡ false) × (either_close v1 v2 w1 w2 ≡ true))
  unfolding attitude_of
  refused-14 = fourteen (matrix_of v1 v2 w1 w2) (out_of_range v1 v2 w1 w2) (either_close v1 v2 w1 w2)

  pub not-refused :
      ((attitude_answer (attitude_of v1 v2 w1 w2)).number ≡ 0) ↔ ((out_of_range v1 v2 w1 w2 ≡ false) × (either_close v1 v2 w1 w2 ≡ false))
  unfolding attitude_of
  not-refused = found (matrix_of v1 v2 w1 w2) (out_of_range v1 v2 w1 w2) (either_close v1 v2 w1 w2)

  -- as the code meets them: the outcome of the rows first, then the matrix
  module _ {o : Result Unit Refusal} (rows : o ≡ first_applying (refusals_of v1 v2 w1 w2)) where
    pub by-refusal : {r : Refusal} → o ≡ Err r → attitude_of v1 v2 w1 w2 ≡ Err r
    unfolding attitude_of
    by-refusal e = rw (← rows, e)

    pub by-acceptance : o ≡ Ok tt → attitude_of v1 v2 w1 w2 ≡ Ok (matrix_of v1 v2 w1 w2)
    unfolding attitude_of
    by-acceptance e = rw (← rows, e)

    pub acceptable : o ≡ Ok tt → InRange v1 v2 w1 w2 × ((2 ^ 30 ≤ largest_of (cross_of v1 v2)) × (2 ^ 30 ≤ largest_of (cross_of w1 w2)))
    unfolding Silent
    acceptable e =
        let s = accepted-silent (refusals_of v1 v2 w1 w2) (sym rows ∙ e) in
        ((in-range v1 v2 w1 w2).0 s.0, (apart-is v1 v2 w1 w2).0 s.1.0)

  -- four vectors in range are not refused by 8
  pub in-range-answer :
      InRange v1 v2 w1 w2 →
      (attitude_of v1 v2 w1 w2 ≡ refused_as close) ⊎ (attitude_of v1 v2 w1 w2 ≡ Ok (matrix_of v1 v2 w1 w2))
  unfolding attitude_of
  in-range-answer h = rw ((in-range v1 v2 w1 w2).1 h) (close-or-found (matrix_of v1 v2 w1 w2) (either_close v1 v2 w1 w2))

  matrix-within : InRange v1 v2 w1 w2 → MatrixWithin 6000000000 (matrix_of v1 v2 w1 w2)
  unfolding matrix_of
  matrix-within h = product-within (axes-within v1 v2 h.v1) (axes-within w1 w2 h.w1)

  -- every entry of a matrix is within 6 * 10^9
  pub entries-within : (m : Matrix) → attitude_of v1 v2 w1 w2 ≡ Ok m → MatrixWithin 6000000000 m
  unfolding attitude_of
  entries-within m e =
      within-if (matrix_of v1 v2 w1 w2) (out_of_range v1 v2 w1 w2) (either_close v1 v2 w1 w2) m e (λ f. matrix-within ((in-range v1 v2 w1 w2).0 f))
