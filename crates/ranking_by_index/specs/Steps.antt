-- The call's answer and room step by step, as the code meets them. Assumes nothing.
use Rattle.std.specs.Prelude.{true, false, ◌≡◌, List, ◌++◌, ℕ, ◌*◌, ℤ, length, drop}
use Rattle.std.proofs.Math.Bool.{not}
use Rattle.std.proofs.Math.Path.{ap}
use Rattle.refusal.specs.declared.Refusal.{Refusal}
use Rattle.refusal.specs.Numbers as number
use Rattle.refusal.specs.Table.{refusal_of, first_applying}
use Rattle.refusal.proofs.Laws.{applying-here, applying-next}
use Rattle.vectors.specs.Triples.{triples}
use Rattle.ranking.specs.Ranking.{ranking_of}
use Rattle.ranking.specs.Refusals.{rows_beside}
use Rattle.catalogue_index.specs.Check.{is_index}
use Rattle.ranking_by_index.specs.Call.{rows_behind}
use Rattle.ranking_by_index.specs.Stars.{outcome_from, room_from}
use Rattle.std.specs.Prelude.{Ok, Err}

-- ---- 17 and the rows behind it

module _ (directions stars : List ℤ) (records : ℕ) (index : List ℕ) (floor : ℤ) (tolerance words : ℕ) where
  pub wrong-index : is_index stars floor index ≡ false → first_applying (rows_behind directions stars records index floor tolerance words)
      ≡ refusal_of number.index 0
  unfolding rows_behind
  wrong-index e = applying-here _ _ (ap not e)

  pub right-index : is_index stars floor index ≡ true → first_applying (rows_behind directions stars records index floor tolerance words)
      ≡ first_applying (rows_beside directions records tolerance words)
  unfolding rows_behind
  right-index e = applying-next _ _ (ap not e)

-- ---- of decoded stars

module _ (directions stars : List ℤ) (index : List ℕ) (floor : ℤ) (tolerance : ℕ) (room : List ℕ) where
  pub refused-from : (r : Refusal) → outcome_from directions stars index floor tolerance (length room) ≡ Err r
      → room_from directions stars index floor tolerance room ≡ room
  unfolding room_from
  refused-from r e = rw e

  pub written_from : outcome_from directions stars index floor tolerance (length room) ≡ Ok tt
      → room_from directions stars index floor tolerance room ≡ ranking_of directions stars tolerance ++ drop (triples directions * triples stars) room
  unfolding room_from
  written_from e = rw e

-- ---- of the catalogue's bytes
