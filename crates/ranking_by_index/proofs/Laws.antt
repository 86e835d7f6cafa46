-- What the ranking by an index is for: with the right index it is the plain ranking, and any other is refused. Assumes nothing.
use Rattle.std.specs.Prelude.{Bool, true, false, ◌≡◌, List, ◌++◌, ℕ, ◌*◌, length, drop}
use Rattle.std.proofs.Math.Path.{refl, sym, ap}
use Rattle.std.proofs.Common.{◌∙◌, arith}
use Rattle.lists.specs.Contradiction.{contradiction}
use Rattle.refusal.specs.Numbers as number
use Rattle.refusal.specs.Table.{refusal_of, first_applying, answered, otherwise}
use Rattle.refusal.specs.Answer.{answer_of}
use Rattle.refusal.specs.AnswerLaws.{answer_by}
use Rattle.refusal.proofs.AnswerLaws.{outcome-by}
use Rattle.catalogue.specs.Format.{records_in}
use Rattle.catalogue.specs.Check as catalogue
use Rattle.catalogue.specs.CheckLaws.{accepted-valid, valid-accepted}
use Rattle.catalogue.specs.Stars.{stars_of}
use Rattle.catalogue.specs.Valid.{Valid}
use Rattle.catalogue.specs.ValidStars.{valid-length}
use Rattle.vectors.specs.Triples.{triples}
use Rattle.ranking.specs.Ranking.{ranking_of}
use Rattle.ranking.specs.Refusals.{rows_beside}
use Rattle.ranking.specs.RefusalSteps as plain-steps
use Rattle.ranking.specs.Room as plain
use Rattle.ranking.specs.Room.{rank_outcome_of}
use Rattle.ranking.specs.RoomLaws as plain-laws
use Rattle.catalogue_index.specs.Index.{index_of}
use Rattle.catalogue_index.specs.Check.{is_index}
use Rattle.catalogue_index.specs.CheckLaws.{is-index, index-true, no_index}
use Rattle.ranking_by_index.specs.Call.{Call, rows_behind, refusals_of, outcome_of, room_after, answer_for}
use Rattle.ranking_by_index.specs.Stars.{room_from}
use Rattle.ranking_by_index.specs.Steps.{wrong-index, right-index, written_from, refused-from}
use Rattle.ranking_by_index.proofs.StepLaws.{joined, refused-room, valid-outcome}
use Rattle.std.specs.Prelude.{Result, Ok, Err}
use Rattle.refusal.specs.declared.Refusal.{Refusal}

module _ (c : Call) where
  abbrev test : Bool
  test = is_index (stars_of c.catalogue) c.floor c.index

  abbrev plain_outcome : Result Unit Refusal
  plain_outcome = rank_outcome_of c.directions c.catalogue c.tolerance c.room

  abbrev plain_room : List ℕ
  plain_room = plain.room_after c.directions c.catalogue c.tolerance c.room

  -- the outcome in document 01's terms
  pub answers : answer_of (outcome_of c) ≡ answer_for c
  unfolding outcome_of refusals_of rows_behind rows_beside catalogue.refusals_of answer_by
  answers = outcome-by (refusals_of c)

  -- ---- the right index

  test-outcome : test ≡ true → outcome_of c ≡ plain_outcome
  unfolding rank_outcome_of
  test-outcome t =
      joined c refl
      ∙ ap (otherwise (first_applying (catalogue.refusals_of c.catalogue)))
      (right-index c.directions (stars_of c.catalogue) (records_in c.catalogue) c.index c.floor c.tolerance (length c.room) t)
      ∙ sym (plain-steps.outcome-joined c.directions c.catalogue c.tolerance (length c.room) refl)

  -- the answer is the plain ranking's, refused or not
  pub right-outcome : c.index ≡ index_of (stars_of c.catalogue) c.floor → outcome_of c ≡ plain_outcome
  right-outcome e = test-outcome (is-index (stars_of c.catalogue) c.floor c.index e)

  -- and so is the room
  pub right-room : c.index ≡ index_of (stars_of c.catalogue) c.floor → room_after c ≡ plain_room
  unfolding room_after
  right-room e = ap (answered (λ _. c.room) plain_room) (right-outcome e) ∙ by plain_outcome refl
    where
      by : (o : Result Unit Refusal) → plain_outcome ≡ o → answered (λ _. c.room) plain_room o ≡ plain_room
      by (Err r) k = sym (plain-laws.room-kept c.directions c.catalogue c.tolerance c.room r k)
      by (Ok _) k = refl

  -- ---- any index

  by-test : (t : Bool) → test ≡ t → Valid c.catalogue → outcome_of c ≡ Ok tt → test ≡ true
  by-test true k v e = k
  by-test false k v e =
      let d = sym (joined c (valid-accepted c.catalogue v) ∙ wrong-index c.directions (stars_of c.catalogue) (records_in c.catalogue) c.index
      c.floor c.tolerance (length c.room) k) ∙ e in
      contradiction (cc)

  accepted-catalogue : outcome_of c ≡ Ok tt → Valid c.catalogue
  accepted-catalogue e = go (first_applying (catalogue.refusals_of c.catalogue)) refl
    where
      go : (o : Result Unit Refusal) → first_applying (catalogue.refusals_of c.catalogue) ≡ o → Valid c.catalogue
      go (Ok _) k = accepted-valid c.catalogue k
      go (Err r) k = let d : Err r ≡ (Ok tt) = sym (joined c k) ∙ e in contradiction (cc)

  -- an accepted call was handed the right one
  pub accepted-right : outcome_of c ≡ Ok tt → c.index ≡ index_of (stars_of c.catalogue) c.floor
  accepted-right e = index-true (stars_of c.catalogue) c.floor c.index (by-test test refl (accepted-catalogue e) e)

  -- any other is 17, whatever the directions, the tolerance and the room are
  pub wrong-refused : Valid c.catalogue → (c.index ≡ index_of (stars_of c.catalogue) c.floor → ⊥) → outcome_of c ≡ refusal_of number.index 0
  wrong-refused v f =
      joined c (valid-accepted c.catalogue v)
      ∙ wrong-index c.directions (stars_of c.catalogue) (records_in c.catalogue) c.index c.floor c.tolerance (length c.room)
      (no_index (stars_of c.catalogue) c.floor c.index f)

  -- ---- the room, as the code leaves it

  pub valid-room : Valid c.catalogue → room_after c ≡ room_from c.directions (stars_of c.catalogue) c.index c.floor c.tolerance c.room
  valid-room v = go (outcome_of c) refl
    where
      counted : triples (stars_of c.catalogue) ≡ records_in c.catalogue
      counted = omega (arith, valid-length c.catalogue v)

      go : (o : Result Unit Refusal) → outcome_of c ≡ o → room_after c ≡ room_from c.directions (stars_of c.catalogue) c.index c.floor c.tolerance c.room
      go (Err r) e = refused-room c r e ∙ sym (refused-from c.directions (stars_of c.catalogue) c.index c.floor c.tolerance c.room r
          (sym (valid-outcome c v) ∙ e))
      go (Ok _) e =
          right-room (accepted-right e)
          ∙ plain-laws.room-written c.directions c.catalogue c.tolerance c.room (sym (right-outcome (accepted-right e)) ∙ e)
          ∙ ap (λ (n : ℕ). ranking_of c.directions (stars_of c.catalogue) c.tolerance ++ drop (triples c.directions * n) c.room) (sym counted)
          ∙ sym (written_from c.directions (stars_of c.catalogue) c.index c.floor c.tolerance c.room (sym (valid-outcome c v) ∙ e))
