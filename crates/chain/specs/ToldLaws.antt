-- The chain's tests give document 01's numbers and places. Assumes nothing.
use Rattle.std.specs.Prelude.{◌≡◌, List, ℕ}
use Rattle.refusal.specs.Table.{first_applying}
use Rattle.refusal.specs.Answer.{answer_of}
use Rattle.refusal.specs.AnswerLaws.{answer_by, in-terms}
use Rattle.refusal.proofs.AnswerLaws.{outcome-by}
use Rattle.catalogue.specs.Check.{refusals_of as catalogue_rows}
use Rattle.chain.specs.Admit.{catalogue_answer}
use Rattle.std.specs.Prelude.{Result}
use Rattle.refusal.specs.declared.Refusal.{Refusal}

pub catalogue-told : (bytes : List ℕ) {o : Result Unit Refusal} → o ≡ first_applying (catalogue_rows bytes) → (o ≡ first_applying (catalogue_rows bytes))
    × (answer_of o ≡ catalogue_answer bytes)
unfolding catalogue_rows answer_by
catalogue-told bytes e = in-terms answer_of e (outcome-by (catalogue_rows bytes))
