-- The text by the chain's outcome.
use Rattle.std.proofs.Common.{◌≡◌, sym, ap, ◌∙◌, subst, List, ℕ}
use Rattle.std.specs.Prelude.{true, Result, Ok, Err}
use Rattle.refusal.specs.declared.Refusal.{Refusal}
use Rattle.refusal.specs.Table.{answered}
use Rattle.chain.specs.declared.Tracked.{Tracked}
use Rattle.chain.specs.Chain.{Call, tracked_of}
use Rattle.text.specs.Written.{Wrote}
use Rattle.text.specs.WrittenLaws.{wrote_then}
use Rattle.listing.specs.lines.Lines.{shown_in, report_lines, matrix_lines}
use Rattle.listing.specs.Listing.{chain_on, accepted_text, refused_text, answer_text}
use Rattle.listing.proofs.answer.Goals as goal

module _ (c : Call) {t : Tracked} (e : t ≡ tracked_of c) where
  outcome-is : {o : Result Unit Refusal} → t.outcome ≡ o → (tracked_of c).outcome ≡ o
  outcome-is h = sym (ap (λ (x : Tracked). x.outcome) e) ∙ h

  refused-answer : (r : Refusal) {a b : List ℕ} {end : ℕ} → t.outcome ≡ Err r → Wrote a 0 (refused_text c r) b end → Wrote a 0 (answer_text c) b end
  unfolding answer_text
  refused-answer r h p = rw (outcome-is h) p

  -- the matrix behind the report
  accepted-answer : {a b d : List ℕ} {to end : ℕ} → t.outcome ≡ Ok tt → Wrote a 0 (report_lines t.report (shown_in true c.catalogue t.stars)) b to
      → Wrote b to (matrix_lines t.matrix) d end → Wrote a 0 (answer_text c) d end
  unfolding answer_text accepted_text
  accepted-answer {a = a} {d = d} {end = end} h p q =
      let text = ap (accepted_text c.catalogue) e
      ∙ sym (ap (answered (refused_text c) (accepted_text c.catalogue (tracked_of c))) (outcome-is h)) in
      subst (λ (x : List ℕ). Wrote a 0 x d end) text (wrote_then p q)

pub returns-in-Err-clause-wrote : goal.returns-in-Err-clause-wrote
returns-in-Err-clause-wrote c =
    let i = c.args.input in
    refused-answer (chain_on i.samples.now i.catalogue.now i.settings) c.track-tracked.ensures.value _ c.in-Err.is c.refused.ensures.wrote

pub returns-in-Ok-clause-wrote : goal.returns-in-Ok-clause-wrote
returns-in-Ok-clause-wrote c =
    let i = c.args.input in
    accepted-answer (chain_on i.samples.now i.catalogue.now i.settings) c.track-tracked.ensures.value c.in-Ok.is c.report-next.ensures.wrote c.matrix.ensures.wrote
