-- The text by the refusal's number.
use Rattle.std.proofs.Common.{◌≡◌, sym, ◌∙◌, subst, List, ◌++◌, ℕ, eq-eqb, ne_eqb}
use Rattle.std.specs.Prelude.{true, false}
use Rattle.refusal.specs.declared.Refusal.{Refusal}
use Rattle.frame_list.specs.declared.Report.{Report}
use Rattle.chain.specs.Chain.{Call, listed}
use Rattle.text.specs.Refused.{refusal_line}
use Rattle.text.specs.Written.{Wrote}
use Rattle.text.specs.WrittenLaws.{wrote_then}
use Rattle.listing.specs.lines.Lines.{shown_in, report_lines}
use Rattle.listing.specs.Listing.{named, nobody, found, early, refused_text, chain_on}
use Rattle.listing.proofs.refused.Goals as goal

module _ (c : Call) (r : Refusal) where
  alone-text : early r.number ≡ true → refused_text c r ≡ refusal_line r
  unfolding refused_text
  alone-text h = rw h

  named-text : early r.number ≡ false → r.number ≡ 14 → refused_text c r ≡ report_lines (listed c).report (named c.catalogue (found c)) ++ refusal_line r
  unfolding refused_text
  named-text h e = rw (h, eq-eqb r.number 14 e)

  nobody-text : early r.number ≡ false → (r.number ≡ 14 → ⊥) → refused_text c r ≡ report_lines (listed c).report nobody ++ refusal_line r
  unfolding refused_text
  nobody-text h e = rw (h, ne_eqb r.number 14 e)

  module _ {a b d : List ℕ} {to end : ℕ} (report : Report) (same : report ≡ (listed c).report) where
    with-names : (words : List ℕ) → words ≡ found c → early r.number ≡ false → r.number ≡ 14
        → Wrote a 0 (report_lines report (shown_in true c.catalogue words)) b to → Wrote b to (refusal_line r) d end → Wrote a 0 (refused_text c r) d end
    with-names words e h k p q = subst (λ (t : List ℕ). Wrote a 0 t d end) ((λ i. report_lines (same i) (shown_in true c.catalogue (e i)) ++ refusal_line r)
        ∙ sym (named-text h k)) (wrote_then p q)

    without-names : early r.number ≡ false → (r.number ≡ 14 → ⊥) → Wrote a 0 (report_lines report nobody) b to → Wrote b to (refusal_line r) d end
        → Wrote a 0 (refused_text c r) d end
    without-names h k p q = subst (λ (t : List ℕ). Wrote a 0 t d end) ((λ i. report_lines (same i) nobody ++ refusal_line r) ∙ sym (nobody-text h k))
        (wrote_then p q)

pub returns-then-is_early-clause-wrote : goal.returns-then-is_early-clause-wrote
returns-then-is_early-clause-wrote c =
    let i = c.args.input in
    rw (alone-text (chain_on i.samples.now i.catalogue.now i.settings) c.args.refusal (sym c.is_early.ensures ∙ c.if-is_early.true)) c.refused.ensures.wrote

pub returns-then-refusal-eq-CLOSE-clause-wrote : goal.returns-then-refusal-eq-CLOSE-clause-wrote
returns-then-refusal-eq-CLOSE-clause-wrote c =
    let i = c.args.input in
    with-names (chain_on i.samples.now i.catalogue.now i.settings) c.args.refusal _ c.report-report.ensures _ c.found-words.ensures
    (sym c.is_early.ensures ∙ c.if-is_early.false) c.if-refusal-eq-CLOSE.true c.report-next.ensures.wrote c.refused-then-refusal-eq-CLOSE.ensures.wrote

pub returns-clause-wrote : goal.returns-clause-wrote
returns-clause-wrote c =
    let i = c.args.input in
    without-names (chain_on i.samples.now i.catalogue.now i.settings) c.args.refusal _ c.report-report.ensures
    (sym c.is_early.ensures ∙ c.if-is_early.false) c.if-refusal-eq-CLOSE.false c.report-next-2.ensures.wrote c.refused-2.ensures.wrote
