-- The call's answer and room step by step, as the code meets them. Assumes nothing.
use Rattle.std.specs.Prelude.{true, false, ◌≡◌, List, ℕ, ℤ, length}
use Rattle.std.proofs.Common.{sym, ◌∙◌, arith}
use Rattle.std.proofs.Math.Path.{ap}
use Rattle.refusal.specs.declared.Refusal.{Refusal}
use Rattle.refusal.specs.Numbers as number
use Rattle.refusal.specs.Table.{refusal_of, first_applying, otherwise}
use Rattle.refusal.proofs.Laws.{applying-append}
use Rattle.catalogue.specs.Format.{records_in}
use Rattle.catalogue.specs.Check as catalogue
use Rattle.catalogue.specs.CheckLaws.{valid-accepted}
use Rattle.catalogue.specs.Stars.{stars_of}
use Rattle.catalogue.specs.Valid.{Valid}
use Rattle.catalogue.specs.ValidStars.{valid-length}
use Rattle.vectors.specs.Triples.{triples}
use Rattle.ranking.specs.Refusals.{rows_beside}
use Rattle.catalogue_index.specs.Check.{is_index}
use Rattle.ranking_by_index.specs.Call.{Call, rows_behind, refusals_of, outcome_of, room_after}
use Rattle.ranking_by_index.specs.Stars.{outcome_from}
use Rattle.ranking_by_index.specs.Steps.{wrong-index, right-index}
use Rattle.std.specs.Prelude.{Result, Err}

module _ (directions stars : List ℤ) (index : List ℕ) (floor : ℤ) (tolerance words : ℕ) where
  pub wrong-from : is_index stars floor index ≡ false → outcome_from directions stars index floor tolerance words ≡ refusal_of number.index 0
  unfolding outcome_from
  wrong-from e = wrong-index directions stars (triples stars) index floor tolerance words e

  pub right-from : is_index stars floor index ≡ true → outcome_from directions stars index floor tolerance words
      ≡ first_applying (rows_beside directions (triples stars) tolerance words)
  unfolding outcome_from
  right-from e = right-index directions stars (triples stars) index floor tolerance words e

module _ (c : Call) where
  abbrev behind : Result Unit Refusal
  behind = first_applying (rows_behind c.directions (stars_of c.catalogue) (records_in c.catalogue) c.index c.floor c.tolerance
      (length c.room))

  -- the catalogue's outcome first
  pub joined : {o : Result Unit Refusal} → first_applying (catalogue.refusals_of c.catalogue) ≡ o → outcome_of c ≡ otherwise o behind
  unfolding outcome_of refusals_of
  joined e = applying-append (catalogue.refusals_of c.catalogue) _ ∙ ap (λ (o : Result Unit Refusal). otherwise o behind) e

  pub refused-room : (r : Refusal) → outcome_of c ≡ Err r → room_after c ≡ c.room
  unfolding room_after
  refused-room r e = rw e

  -- a valid one: the rest is as of its stars
  module _ (v : Valid c.catalogue) where
    counted : triples (stars_of c.catalogue) ≡ records_in c.catalogue
    counted = omega (arith, valid-length c.catalogue v)

    pub valid-outcome : outcome_of c ≡ outcome_from c.directions (stars_of c.catalogue) c.index c.floor c.tolerance (length c.room)
    unfolding outcome_from
    valid-outcome =
        joined (valid-accepted c.catalogue v)
        ∙ ap (λ (n : ℕ). first_applying (rows_behind c.directions (stars_of c.catalogue) n c.index c.floor c.tolerance (length c.room)))
        (sym counted)
