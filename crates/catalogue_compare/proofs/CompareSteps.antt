-- What comparing two catalogues gives, one row at a time, as the code meets them. Assumes nothing.
use Rattle.std.specs.Prelude.{◌≡◌, refl, List, [], ◌∷◌, ℕ, ◌*◌, ◌≤◌, ◌<◌, length}
use Rattle.std.proofs.Common.{sym, ◌∙◌, arith}
use Rattle.std.proofs.Math.Path.{ap}
use borrow.Author.Tests.{lt-ltb, le-ltb, ltb-false}
use Rattle.refusal.specs.declared.Refusal.{Refusal}
use Rattle.refusal.specs.Numbers as number
use Rattle.refusal.specs.Table.{refusal_of, row, first_applying, answered, otherwise}
use Rattle.refusal.specs.Laws.{Silent, otherwise-accepted}
use Rattle.refusal.proofs.Laws.{applying-append, applying-behind, applying-here, silent-accepted, last-accepted}
use Rattle.refusal.specs.AnswerLaws.{answer_by}
use Rattle.refusal.specs.Counted.{counted_of, count_answer}
use Rattle.refusal.specs.CountedLaws.{count-accepted}
use Rattle.refusal.proofs.CountedLaws.{count_by}
use Rattle.catalogue.specs.Check as catalogue
use Rattle.catalogue.specs.CheckLaws.{valid-accepted, accepted-valid}
use Rattle.catalogue.specs.Valid.{Valid}
use Rattle.catalogue_compare.specs.Changes.{listed, changes_of}
use Rattle.catalogue_compare.specs.Encoded.{changes-length}
use Rattle.words.specs.Front.{at_front}
use Rattle.catalogue_compare.specs.Compare.{room_short, catalogues_refused, refusals_of, compared_of, room_after, answer_for}
use Rattle.std.specs.Prelude.{Result, Ok, Err}

module _ (first second : List ℕ) where
  -- ---- the two catalogues

  pub first-refused : (r : Refusal) → first_applying (catalogue.refusals_of first) ≡ Err r
      → first_applying (catalogues_refused first second) ≡ Err r
  first-refused r e = applying-behind (catalogue.refusals_of first) (catalogue.refusals_of second) e

  pub then-second : Valid first → {o : Result Unit Refusal} → first_applying (catalogue.refusals_of second) ≡ o → first_applying (catalogues_refused first second) ≡ o
  then-second v e = applying-behind (catalogue.refusals_of first) (catalogue.refusals_of second) (valid-accepted first v) ∙ e

  pub both-valid : first_applying (catalogues_refused first second) ≡ Ok tt → Valid first × Valid second
  both-valid e =
      let p = otherwise-accepted _ _ (sym (applying-append (catalogue.refusals_of first) (catalogue.refusals_of second)) ∙ e) in
      (accepted-valid first p.0, accepted-valid second p.1)

  -- ---- the call

  module _ (size : ℕ) where
    pub compared : {o : Result Unit Refusal} → first_applying (refusals_of first second size) ≡ o → compared_of first second size ≡ counted_of (length (listed first second)) o
    unfolding compared_of
    compared e = ap (counted_of (length (listed first second))) e

    -- in the documents' terms
    pub answers : count_answer (compared_of first second size) ≡ answer_for first second size
    unfolding compared_of refusals_of catalogue.refusals_of answer_by
    answers = count_by (length (listed first second)) (refusals_of first second size)

    rest : {o : Result Unit Refusal} → first_applying (catalogues_refused first second) ≡ o
        → first_applying (refusals_of first second size) ≡ otherwise o (first_applying (row (room_short first second size) number.changes_room ∷ []))
    unfolding refusals_of
    rest e = applying-behind (catalogues_refused first second) (row (room_short first second size) number.changes_room ∷ []) e

    pub refused : (r : Refusal) → first_applying (catalogues_refused first second) ≡ Err r
        → first_applying (refusals_of first second size) ≡ Err r
    refused r e = rest e

    module _ (e : first_applying (catalogues_refused first second) ≡ Ok tt) where
      pub too_short : size < 8 * length (listed first second) → first_applying (refusals_of first second size) ≡ refusal_of number.changes_room 0
      too_short h = rest e ∙ applying-here _ _ (lt-ltb size (length (changes_of first second)) (omega (arith, changes-length first second)))

      pub long-enough : 8 * length (listed first second) ≤ size → first_applying (refusals_of first second size) ≡ Ok tt
      unfolding Silent
      long-enough h = rest e ∙ silent-accepted _ (le-ltb size (length (changes_of first second)) (omega (arith, changes-length first second)), tt)

  pub room_after_lem : (room : List ℕ) {o : Result Unit Refusal} → first_applying (refusals_of first second (length room)) ≡ o
      → room_after first second room ≡ answered (λ _. room) (at_front (changes_of first second) room) o
  unfolding room_after
  room_after_lem room e = ap (λ (o : Result Unit Refusal). answered (λ _. room) (at_front (changes_of first second) room) o) e

  -- ---- an accepted call

  module _ (room : List ℕ) (n : ℕ) (e : compared_of first second (length room) ≡ Ok n) where
    by : (first_applying (refusals_of first second (length room)) ≡ Ok tt) × (n ≡ length (listed first second))
    by = count-accepted (length (listed first second)) n (first_applying (refusals_of first second (length room))) (sym (compared (length room) refl) ∙ e)

    -- the list has so many records
    pub records-are : length (changes_of first second) ≡ 8 * n
    records-are = omega (arith, changes-length first second, by.1)

    -- it lies in the room
    pub records-fit : 8 * n ≤ length room
    unfolding refusals_of
    records-fit =
        let short = (last-accepted (catalogues_refused first second) (room_short first second (length room)) number.changes_room by.0).1 in
        omega (arith, records-are, ltb-false (length room) (length (changes_of first second)) short)

    -- and stands at its front
    pub records-there : room_after first second room ≡ at_front (changes_of first second) room
    records-there = room_after_lem room by.0
