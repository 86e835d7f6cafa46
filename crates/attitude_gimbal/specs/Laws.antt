-- When a matrix is refused, and that none of document 01's is. Assumes nothing.
use Rattle.std.proofs.lemmas.Bool.{eqb-false, false≢true}
use Rattle.std.specs.Prelude.{Bool, [], ◌∷◌, ◌↔◌, ◌≡◌}
use Rattle.std.proofs.Math.Bool.{true, false}
use Rattle.std.proofs.Math.Path.{refl}
use Rattle.std.proofs.Common.{sym, ◌∙◌, lit≤}
use Rattle.refusal.specs.Numbers.{entry}
use Rattle.refusal.specs.declared.Refusal.{Refusal}
use Rattle.refusal.specs.Table.{row, first_applying, answered}
use Rattle.refusal.specs.Laws.{Silent}
use Rattle.refusal.proofs.Laws.{accepted-silent}
use Rattle.refusal.specs.AnswerLaws.{answer_by}
use Rattle.refusal.proofs.AnswerLaws.{answered-by}
use Rattle.vectors.specs.declared.Vec3.{Vec3}
use Rattle.vectors.specs.Laws.{wider3}
use Rattle.attitude.specs.declared.Matrix.{Matrix}
use Rattle.attitude.specs.Entries.{MatrixWithin}
use Rattle.attitude.specs.Attitude.{attitude_of}
use Rattle.attitude.specs.Laws.{largest-in, or-false}
use Rattle.attitude.proofs.Laws.{entries-within}
use Rattle.attitude_gimbal.specs.declared.Cosines.{Cosines}
use Rattle.attitude_gimbal.specs.Cosines.{rows_of, beyond, out_of_range, refusals_of, gimbal_of, gimbal_answer, answer_for}
use Rattle.std.specs.Prelude.{Result, Ok, Err}

-- the condition, in numbers: no entry lies beyond ±8 * 10^9
pub matrix-in : (m : Matrix) → (out_of_range m ≡ false) ↔ MatrixWithin 8000000000 m
matrix-in m =
    let first = or-false (beyond m.row0) _ in
    let rest = or-false (beyond m.row1) (beyond m.row2) in
    let row0 = largest-in 8000000000 m.row0 in
    let row1 = largest-in 8000000000 m.row1 in
    let row2 = largest-in 8000000000 m.row2 in (
      λ e. let h = first.0 e in let k = rest.0 h.1 in record { row0 = row0.0 h.0; row1 = row1.0 k.0; row2 = row2.0 k.1 },
      λ h. first.1 (row0.1 h.row0, rest.1 (row1.1 h.row1, row2.1 h.row2)),
    )

-- ---- which answer is given

abbrev given : Bool → Cosines → Result Cosines Refusal
given a rows = answered Err (Ok rows) (first_applying (row a entry ∷ []))

abbrev pub refused : Result Cosines Refusal
refused = Err (record { number = entry; place = 0 })

module _ (rows : Cosines) where
  number-23 : (a : Bool) → ((gimbal_answer (given a rows)).number ≡ 23) ↔ (a ≡ true)
  unfolding first_applying
  number-23 true = (λ e. refl, λ e. refl)
  number-23 false = (λ e. absurd (eqb-false 0 23 refl e), λ e. absurd (false≢true e))

  accepted : (a : Bool) → a ≡ false → given a rows ≡ Ok rows
  unfolding first_applying
  accepted a e = rw e

module _ (m : Matrix) where
  pub answers : gimbal_answer (gimbal_of m) ≡ answer_for m
  unfolding gimbal_of answer_by
  answers = answered-by Err (Ok (rows_of m)) gimbal_answer _ (λ r. refl) refl (refusals_of m)

  -- 23 is given exactly where an entry lies beyond ±8 * 10^9
  pub refused-23 : ((gimbal_answer (gimbal_of m)).number ≡ 23) ↔ (out_of_range m ≡ true)
  unfolding gimbal_of
  refused-23 = number-23 (rows_of m) (out_of_range m)

  -- a matrix in range has its rows
  pub in-range : MatrixWithin 8000000000 m → gimbal_of m ≡ Ok (rows_of m)
  unfolding gimbal_of
  in-range h = accepted (rows_of m) (out_of_range m) ((matrix-in m).1 h)

  -- as the code meets them
  module _ {o : Result Unit Refusal} (rows : o ≡ first_applying (refusals_of m)) where
    pub by-refusal : {r : Refusal} → o ≡ Err r → gimbal_of m ≡ Err r
    unfolding gimbal_of
    by-refusal e = rw (← rows, e)

    pub by-acceptance : o ≡ Ok tt → gimbal_of m ≡ Ok (rows_of m)
    unfolding gimbal_of
    by-acceptance e = rw (← rows, e)

    pub acceptable : o ≡ Ok tt → MatrixWithin 8000000000 m
    unfolding Silent
    acceptable e = (matrix-in m).0 (accepted-silent (refusals_of m) (sym rows ∙ e)).0

-- no matrix that the attitude gives is refused: its entries are within 6 * 10^9
pub attitude-accepted : (v1 v2 w1 w2 : Vec3) (m : Matrix) → attitude_of v1 v2 w1 w2 ≡ Ok m → gimbal_of m ≡ Ok (rows_of m)
attitude-accepted v1 v2 w1 w2 m e =
    let h = entries-within v1 v2 w1 w2 m e in
    in-range m (record { row0 = wider3 h.row0 (lit≤ tt); row1 = wider3 h.row1 (lit≤ tt); row2 = wider3 h.row2 (lit≤ tt) })
