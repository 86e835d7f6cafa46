-- A word that names a record, and one that names none.
use Rattle.std.proofs.Common.{◌≡◌, List, [], ◌∷◌, ℕ, ◌≤◌, ◌<◌, lt-ltb, le-ltb, arith}
use Rattle.std.specs.Prelude.{Option, Some, is_some}
use Rattle.catalogue.specs.Format.{records_in}
use Rattle.catalogue.specs.Stars.{identity_for}
use Rattle.text.specs.Decimal.{decimal}
use Rattle.text.specs.Written.{Wrote}
use Rattle.listing.specs.lines.Given.{word_in}
use Rattle.listing.specs.lines.Lines.{shown, name_of}
use Rattle.listing.proofs.lines.name.Goals as goal

module _ {a b : List ℕ} {at to : ℕ} {given : Option ℕ} (catalogue : List ℕ) (word : ℕ) (e : given ≡ Some word) where
  nameless : records_in catalogue ≤ word → Wrote a at (45 ∷ []) b to → Wrote a at (shown (is_some given) catalogue (word_in given)) b to
  unfolding name_of
  nameless k p = rw e (rw (le-ltb word (records_in catalogue) k) p)

  identified : {n : ℕ} → word < records_in catalogue → n ≡ identity_for catalogue word → Wrote a at (decimal n) b to
      → Wrote a at (shown (is_some given) catalogue (word_in given)) b to
  unfolding name_of
  identified k f p = rw e (rw (lt-ltb word (records_in catalogue) k, ← f) p)

pub returns-then-records-i-clause-wrote : goal.returns-then-records-i-clause-wrote
returns-then-records-i-clause-wrote c = nameless _ _ c.in-Some.is (omega (arith, c.records.ensures, c.if-records-i.true)) c.word-then-records-i.ensures

pub returns-clause-wrote : goal.returns-clause-wrote
returns-clause-wrote c =
    identified _ _ c.in-Some.is (omega (arith, c.records.ensures, c.if-records-i.false)) c.identity.ensures c.number.ensures.wrote
