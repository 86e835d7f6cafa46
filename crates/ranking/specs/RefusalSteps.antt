-- The ranking's refusals one row at a time, as the code meets them. Assumes nothing.
use Rattle.std.specs.Prelude.{true, false, ◌≡◌, List, ℕ, ◌*◌, ◌≤◌, ◌<◌, ℤ}
use Rattle.std.proofs.Math.Bool.{not}
use Rattle.std.proofs.Common.{ap, ◌∙◌, lt-ltb, le-ltb, le-leb}
use Rattle.std.proofs.lemmas.Bool.{lt-leb}
use Rattle.refusal.specs.Numbers as number
use Rattle.refusal.specs.Table.{refusal_of, first_applying, answered}
use Rattle.refusal.specs.Laws.{Silent}
use Rattle.refusal.proofs.Laws.{applying-here, applying-next, applying-append, silent-accepted}
use Rattle.camera_direction.specs.List.{list_ok}
use Rattle.camera_direction.specs.ListLaws.{directions_in}
use Rattle.catalogue.specs.Format.{records_in}
use Rattle.catalogue.specs.Check as catalogue
use Rattle.ranking.specs.Refusals.{rows_beside, refusals_of}
use Rattle.std.specs.Prelude.{Result, Ok, Err}
use Rattle.refusal.specs.declared.Refusal.{Refusal}

module _ (directions : List ℤ) (stars tolerance words : ℕ) where
  pub list-refused : list_ok directions ≡ false → first_applying (rows_beside directions stars tolerance words) ≡ refusal_of number.directions 0
  unfolding rows_beside
  list-refused e = applying-here _ _ (ap not e)

  module _ (e : list_ok directions ≡ true) where
    pub tolerance-refused : 10000000000000000 < tolerance → first_applying (rows_beside directions stars tolerance words) ≡ refusal_of number.demand 0
    unfolding rows_beside
    tolerance-refused h = applying-next _ _ (ap not e) ∙ applying-here _ _ (ap not (lt-leb _ _ h))

    module _ (t : tolerance ≤ 10000000000000000) where
      pub room-refused : words < directions_in directions * stars → first_applying (rows_beside directions stars tolerance words) ≡ refusal_of number.room 0
      unfolding rows_beside
      room-refused h = applying-next _ _ (ap not e) ∙ applying-next _ _ (ap not (le-leb _ _ t)) ∙ applying-here _ _ (lt-ltb _ _ h)

      pub none-refused : directions_in directions * stars ≤ words → first_applying (rows_beside directions stars tolerance words) ≡ Ok tt
      unfolding rows_beside Silent
      none-refused h = silent-accepted _ (ap not e, (ap not (le-leb _ _ t), (le-ltb _ _ h, tt)))

-- the catalogue's outcome first
pub outcome-joined : (directions : List ℤ) (bytes : List ℕ) (tolerance words : ℕ) {o : Result Unit Refusal} → first_applying (catalogue.refusals_of bytes) ≡ o
    → first_applying (refusals_of directions bytes tolerance words) ≡ answered Err (first_applying (rows_beside directions (records_in bytes) tolerance words)) o
unfolding refusals_of
outcome-joined directions bytes tolerance words e =
    applying-append (catalogue.refusals_of bytes) (rows_beside directions (records_in bytes) tolerance words)
    ∙ ap (answered Err (first_applying (rows_beside directions (records_in bytes) tolerance words))) e
