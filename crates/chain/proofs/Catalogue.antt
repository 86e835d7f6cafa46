-- What the check of a catalogue says, as the chain's refusals.
use Rattle.std.specs.Prelude.{◌≡◌, List, ℕ, Result, Ok, Err}
use Rattle.std.proofs.Common.{sym}
use Rattle.refusal.specs.declared.Refusal.{Refusal}
use Rattle.refusal.specs.Table.{first_applying}
use Rattle.refusal.specs.Answer.{answer_of}
use Rattle.catalogue.specs.Check.{refusals_of, checked_of}
use Rattle.catalogue.specs.CheckLaws.{checked_refused, checked-valid, valid-accepted}
use Rattle.chain.specs.Admit.{catalogue_answer}
use Rattle.chain.specs.ToldLaws.{catalogue-told}

module _ (bytes : List ℕ) where
  pub refused_as : (r : Refusal) → Err r ≡ checked_of bytes → Err r ≡ first_applying (refusals_of bytes)
  refused_as r h = sym (checked_refused bytes r (sym h))

  pub accepted_as : (n : ℕ) → Ok n ≡ checked_of bytes → Ok tt ≡ first_applying (refusals_of bytes)
  accepted_as n h = sym (valid-accepted bytes (checked-valid bytes n (sym h)).0)

  pub told_as : (o : Result Unit Refusal) → o ≡ first_applying (refusals_of bytes) → answer_of o ≡ catalogue_answer bytes
  told_as o h = (catalogue-told bytes h).1
