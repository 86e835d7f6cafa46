-- What the check of a catalogue gives, one row at a time, as the code meets them. Assumes nothing.
use Rattle.std.specs.Prelude.{true, false, ◌≡◌, List, [], ◌∷◌, ℕ, ◌≤◌, ◌<◌, length}
use Rattle.std.proofs.Math.Bool.{not}
use Rattle.std.proofs.Math.Path.{ap}
use Rattle.std.proofs.Common.{◌∙◌, lt-ltb, le-ltb}
use Rattle.refusal.specs.Numbers.{catalogue, record_rule}
use Rattle.refusal.specs.Table.{refusal_of, row_at, first_applying}
use Rattle.refusal.specs.Laws.{Silent}
use Rattle.refusal.proofs.Laws.{applying-here, applying-next, silent-accepted}
use Rattle.refusal.specs.AnswerLaws.{answer_by}
use Rattle.refusal.specs.Counted.{counted_of, count_answer}
use Rattle.refusal.proofs.CountedLaws.{count_by}
use Rattle.catalogue.specs.Format.{records_in}
use Rattle.catalogue.specs.Check.{length_ok, broken_of, record_broken, refusals_of, checked_of, answer_for}
use Rattle.std.specs.Prelude.{Result, Ok}
use Rattle.refusal.specs.declared.Refusal.{Refusal}

module _ (bytes : List ℕ) where
  -- what the check gives for an outcome
  pub checked : {o : Result Unit Refusal} → first_applying (refusals_of bytes) ≡ o → checked_of bytes ≡ counted_of (records_in bytes) o
  unfolding checked_of
  checked e = ap (counted_of (records_in bytes)) e

  -- and in document 01's terms
  pub answers : count_answer (checked_of bytes) ≡ answer_for bytes
  unfolding checked_of refusals_of answer_by
  answers = count_by (records_in bytes) (refusals_of bytes)

  pub wrong-length : length_ok (length bytes) ≡ false → first_applying (refusals_of bytes) ≡ refusal_of catalogue 0
  unfolding refusals_of
  wrong-length e = applying-here _ _ (ap not e)

  module _ (e : length_ok (length bytes) ≡ true) where
    next : {o : Result Unit Refusal} → first_applying (row_at (record_broken bytes) record_rule (broken_of bytes) ∷ []) ≡ o → first_applying (refusals_of bytes) ≡ o
    unfolding refusals_of
    next h = applying-next _ _ (ap not e) ∙ h

    pub one-broken : broken_of bytes < records_in bytes → first_applying (refusals_of bytes) ≡ refusal_of record_rule (broken_of bytes)
    one-broken h = next (applying-here _ _ (lt-ltb _ _ h))

    pub none-broken : records_in bytes ≤ broken_of bytes → first_applying (refusals_of bytes) ≡ Ok tt
    unfolding Silent
    none-broken h = next (silent-accepted _ (le-ltb _ _ h, tt))
