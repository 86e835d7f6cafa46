-- How large the parts of the chain's answer are: the refusal's number and place, and the entries of the matrix. Assumes nothing.
use Rattle.std.specs.Prelude.{◌≡◌, refl, List}
use Prim.Native.Nat.{ℕ, ◌≤◌, zero-le}
use Rattle.refusal.specs.declared.Refusal.{Refusal}
use Rattle.refusal.specs.Table.{first_applying, answered}
use Rattle.refusal.specs.Answer.{answer_of}
use Rattle.vectors.specs.Vectors.{Within3}
use Rattle.frame_list.specs.declared.Report.{Report}
use Rattle.catalogue.specs.Stars.{stars_of}
use Rattle.attitude.specs.declared.Matrix.{Matrix}
use Rattle.attitude.specs.Entries.{MatrixWithin}
use Rattle.attitude.proofs.Laws.{entries-within}
use Rattle.chain.specs.declared.Settings.{Settings}
use Rattle.attitude.specs.orient.Orient.{orientation_of}
use Rattle.chain.specs.Chain.{Call, listed, zeros, refused_with, oriented, settled_of, sights_of, our_identification, located_of, refusals_of, tracked_of}
use Rattle.std.specs.Prelude.{Result, Ok, Err}

-- ---- number and place

-- a number that the chain can give, and a place in a frame of 1,024 x 1,024 or in a catalogue
pub record Low (o : Result Unit Refusal) : Type 0 where
  pub number : (answer_of o).number ≤ 19
  pub place : (answer_of o).place ≤ 1048576

-- ---- the matrix

zeros_within : Within3 6000000000 zeros
zeros_within = record { x = record { within = zero-le }; y = record { within = zero-le }; z = record { within = zero-le } }

refused-within : (r : Refusal) → MatrixWithin 6000000000 (refused_with r).matrix
refused-within r = record { row0 = zeros_within; row1 = zeros_within; row2 = zeros_within }

oriented-within : (report : Report) (words : List ℕ) (a : Result Matrix Refusal) → ((m : Matrix) → a ≡ Ok m → MatrixWithin 6000000000 m)
    → MatrixWithin 6000000000 (oriented report words a).matrix
oriented-within report words (Err r) h = refused-within r
oriented-within report words (Ok m) h = h m refl

located-within : (report : Report) (bytes : List ℕ) (s : Settings) → MatrixWithin 6000000000 (located_of report bytes s).matrix
unfolding located_of settled_of orientation_of
located-within report bytes s = by (our_identification report bytes s).outcome
  where
    by : (o : Result Unit Refusal) → MatrixWithin 6000000000 (answered refused_with (oriented report (our_identification report bytes s).stars
        (orientation_of (sights_of report bytes s) (stars_of bytes) (our_identification report bytes s).stars)) o).matrix
    by (Err r) = refused-within r
    by (Ok _) = oriented-within report _ _ (entries-within _ _ _ _)

-- every entry of an answer's matrix is within 6 * 10^9, also where it is refused
pub tracked-within : (c : Call) → MatrixWithin 6000000000 (tracked_of c).matrix
unfolding tracked_of
tracked-within c = by (first_applying (refusals_of c))
  where
    by : (o : Result Unit Refusal) → MatrixWithin 6000000000 (answered refused_with (located_of (listed c).report c.catalogue c.settings) o).matrix
    by (Err r) = refused-within r
    by (Ok _) = located-within (listed c).report c.catalogue c.settings
