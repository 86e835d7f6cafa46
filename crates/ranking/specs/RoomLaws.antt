-- What the call that ranks is for: when it is accepted, and what it leaves in the room. Assumes nothing.
use Rattle.std.specs.Prelude.{◌≡◌, refl, List, ◌++◌, ℕ, ◌*◌, ◌≤◌, ℤ, length, take, drop}
use Rattle.std.proofs.Common.{sym, ap, subst, ◌∙◌, arith, leb-true, ltb-false, take_at, drop_at}
use Rattle.std.proofs.lemmas.Bool.{not-false}
use Rattle.lists.specs.Contradiction.{contradiction}
use Rattle.refusal.specs.declared.Refusal.{Refusal}
use Rattle.refusal.specs.Table.{first_applying}
use Rattle.refusal.specs.Laws.{Silent}
use Rattle.refusal.proofs.Laws.{accepted-silent}
use Rattle.refusal.specs.Answer.{answer_of}
use Rattle.refusal.specs.AnswerLaws.{answer_by}
use Rattle.refusal.proofs.AnswerLaws.{outcome-by}
use Rattle.camera_direction.specs.List.{list_ok}
use Rattle.camera_direction.specs.ListLaws.{directions_in, Directions, ok-directions, directions-ok}
use Rattle.catalogue.specs.Format.{records_in}
use Rattle.catalogue.specs.Check as catalogue
use Rattle.catalogue.specs.CheckLaws.{accepted-valid, valid-accepted}
use Rattle.catalogue.specs.Stars.{stars_of}
use Rattle.catalogue.specs.Valid.{Valid}
use Rattle.catalogue.specs.ValidStars.{valid-length, valid-within}
use Rattle.vectors.specs.Triples.{triples, Listed}
use Rattle.ranking.specs.Ranking.{ranking_of}
use Rattle.ranking.specs.Laws.{Ranks, ranks}
use Rattle.ranking.specs.Refusals.{tolerance_ok, rows_beside, refusals_of}
use Rattle.ranking.specs.RefusalSteps.{none-refused, outcome-joined}
use Rattle.ranking.specs.Room.{rank_outcome_of, room_after, answer_for}
use Rattle.std.specs.Prelude.{Result, Ok, Err}

-- the call keeps every rule
pub record Sound (directions : List ℤ) (bytes : List ℕ) (tolerance words : ℕ) : Type 0 where
  pub catalogue : Valid bytes
  pub list : Directions directions
  pub near : tolerance ≤ 10000000000000000
  pub room : directions_in directions * records_in bytes ≤ words

-- none of 8, 9 and 10 applies
pub beside-sound : (directions : List ℤ) (stars tolerance words : ℕ) → first_applying (rows_beside directions stars tolerance words) ≡ Ok tt
    → Directions directions × (tolerance ≤ 10000000000000000) × (directions_in directions * stars ≤ words)
unfolding rows_beside Silent
beside-sound directions stars tolerance words e =
    let s = accepted-silent (rows_beside directions stars tolerance words) e in (
      ok-directions directions (not-false (list_ok directions) s.0),
      leb-true tolerance 10000000000000000 (not-false (tolerance_ok tolerance) s.1.0),
      ltb-false words (directions_in directions * stars) s.1.1.0,
    )

module _ (directions : List ℤ) (bytes : List ℕ) (tolerance words : ℕ) where
  -- accepted exactly where it does
  pub accepted-sound : first_applying (refusals_of directions bytes tolerance words) ≡ Ok tt → Sound directions bytes tolerance words
  accepted-sound h = go (first_applying (catalogue.refusals_of bytes)) refl
    where
      go : (o : Result Unit Refusal) → first_applying (catalogue.refusals_of bytes) ≡ o → Sound directions bytes tolerance words
      go (Ok _) e =
          let b = beside-sound directions (records_in bytes) tolerance words (sym (outcome-joined directions bytes tolerance words e) ∙ h) in
          record { catalogue = accepted-valid bytes e; list = b.0; near = b.1; room = b.2 }
      go (Err r) e =
          let d : Err r ≡ (Ok tt) = sym (outcome-joined directions bytes tolerance words e) ∙ h in
          contradiction (cc)

  pub sound-accepted : Sound directions bytes tolerance words → first_applying (refusals_of directions bytes tolerance words) ≡ Ok tt
  sound-accepted s =
      outcome-joined directions bytes tolerance words (valid-accepted bytes s.catalogue)
      ∙ none-refused directions (records_in bytes) tolerance words (directions-ok directions s.list) s.near s.room

  -- what the stars and the directions of such a call are
  module _ (s : Sound directions bytes tolerance words) where
    pub stars-counted : triples (stars_of bytes) ≡ records_in bytes
    stars-counted = omega (arith, valid-length bytes s.catalogue)

    pub stars-listed : Listed 512 (stars_of bytes)
    stars-listed = record { few = omega (arith, stars-counted, s.catalogue.size.most); near = valid-within bytes s.catalogue }

    pub directions-listed : Listed 8 directions
    directions-listed = record { few = s.list.most; near = s.list.within }

module _ (directions : List ℤ) (bytes : List ℕ) (tolerance : ℕ) (room : List ℕ) where
  -- the outcome in document 01's terms
  pub answers : answer_of (rank_outcome_of directions bytes tolerance room) ≡ answer_for directions bytes tolerance room
  unfolding rank_outcome_of refusals_of rows_beside catalogue.refusals_of answer_by
  answers = outcome-by (refusals_of directions bytes tolerance (length room))

  -- a refusal leaves the room as found
  pub room-kept : (r : Refusal) → rank_outcome_of directions bytes tolerance room ≡ Err r → room_after directions bytes tolerance room ≡ room
  unfolding room_after
  room-kept r e = rw e

  -- an accepted call leaves the ranking, and the words behind it as found
  pub room-written : rank_outcome_of directions bytes tolerance room ≡ Ok tt
      → room_after directions bytes tolerance room ≡ ranking_of directions (stars_of bytes) tolerance ++ drop (directions_in directions * records_in bytes) room
  unfolding room_after
  room-written e = rw e

  module _ (e : rank_outcome_of directions bytes tolerance room ≡ Ok tt) where
    call-sound : Sound directions bytes tolerance (length room)
    unfolding rank_outcome_of
    call-sound = accepted-sound directions bytes tolerance (length room) e

    -- each row of it names each star exactly once
    pub written-ranks : Ranks (directions_in directions) (records_in bytes) (ranking_of directions (stars_of bytes) tolerance)
    written-ranks =
        subst (λ (n : ℕ). Ranks (directions_in directions) n (ranking_of directions (stars_of bytes) tolerance))
        (stars-counted directions bytes tolerance (length room) call-sound) (ranks directions (stars_of bytes) tolerance)

    pub room-front : take (directions_in directions * records_in bytes) (room_after directions bytes tolerance room) ≡ ranking_of directions (stars_of bytes)
        tolerance
    room-front = ap (take (directions_in directions * records_in bytes)) (room-written e)
        ∙ take_at (ranking_of directions (stars_of bytes) tolerance) _ _ written-ranks.sized

    pub room-rest : drop (directions_in directions * records_in bytes) (room_after directions bytes tolerance room)
        ≡ drop (directions_in directions * records_in bytes) room
    room-rest = ap (drop (directions_in directions * records_in bytes)) (room-written e)
        ∙ drop_at (ranking_of directions (stars_of bytes) tolerance) _ _ written-ranks.sized
