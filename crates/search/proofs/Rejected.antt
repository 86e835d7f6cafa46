-- What it takes for none of the refusals 6 to 12 to apply. Assumes nothing.
use mathlib.Core.Path.{◌≡◌, refl, sym, ◌∙◌, ap}
use mathlib.Core.Bool.{true, false}
use mathlib.Core.List.{List}
use Prim.Native.Nat.{ℕ, ◌≤◌, ◌<◌}
use lib.IntN.{ℤ}
use borrow.Author.Tests.{lt-ltb, le-ltb, ltb-false, not-false}
use Rattle.lists.specs.Contradiction.{contradiction}
use Rattle.refusal.specs.declared.Refusal.{Refusal}
use Rattle.refusal.specs.Numbers as number
use Rattle.refusal.specs.Table.{Row, refusal_of, first_applying, answered}
use Rattle.refusal.specs.Laws.{Silent}
use Rattle.refusal.proofs.Laws.{accepted-silent, applying-append}
use Rattle.search_theory.specs.Order.{Ranked}
use Rattle.search_theory.proofs.Tests as tests
use Rattle.camera_direction.specs.List.{list_ok}
use Rattle.camera_direction.specs.ListLaws.{directions_in}
use Rattle.catalogue.specs.Format.{records_in}
use Rattle.catalogue.specs.Check as catalogue
use Rattle.search_fit.specs.Fit.{ranking_of}
use Rattle.search.specs.Once.{lent_of}
use Rattle.search.specs.Refusals.{demand_ok, is_bad, rows_beside, refusals_of}
use Rattle.search.proofs.Once.{good-ranked}
use Rattle.std.specs.Prelude.{Result, Ok, Err}

good_of : (j : Result Unit ℕ) → is_bad j ≡ false → j ≡ Ok tt
good_of (Ok _) e = refl
good_of (Err q) e = tests.never (sym e)

-- none of 8, 9, 11 and 12 applies
pub record Asked (directions : List ℤ) (stars needed tolerance : ℕ) (words : List ℕ) : Type 0 where
  pub list : list_ok directions ≡ true
  pub demand : demand_ok needed tolerance ≡ true
  pub good : lent_of words (directions_in directions) stars ≡ Ok tt
  pub enough : needed ≤ directions_in directions

module _ (directions : List ℤ) (stars needed tolerance : ℕ) (words : List ℕ) where
  -- the rows one after the other
  pub not_listed : list_ok directions ≡ false → first_applying (rows_beside directions stars needed tolerance words) ≡ refusal_of number.directions 0
  unfolding rows_beside first_applying
  not_listed e = rw e

  module _ (listed : list_ok directions ≡ true) where
    pub not-in-range : demand_ok needed tolerance ≡ false → first_applying (rows_beside directions stars needed tolerance words) ≡ refusal_of number.demand 0
    unfolding rows_beside first_applying
    not-in-range e = rw (listed, e)

    module _ (demand : demand_ok needed tolerance ≡ true) where
      pub not-once : (q : ℕ) → lent_of words (directions_in directions) stars ≡ Err q → first_applying (rows_beside directions stars needed tolerance words)
          ≡ refusal_of number.ranking q
      unfolding rows_beside first_applying
      not-once q e = rw (listed, demand, e)

      module _ (good : lent_of words (directions_in directions) stars ≡ Ok tt) where
        pub too_few : directions_in directions < needed → first_applying (rows_beside directions stars needed tolerance words) ≡ refusal_of number.few 0
        unfolding rows_beside first_applying
        too_few l = rw (listed, demand, good, lt-ltb (directions_in directions) needed l)

        pub none-applies : needed ≤ directions_in directions → first_applying (rows_beside directions stars needed tolerance words) ≡ Ok tt
        unfolding rows_beside first_applying
        none-applies l = rw (listed, demand, good, le-ltb (directions_in directions) needed l)

  pub beside-asked : first_applying (rows_beside directions stars needed tolerance words) ≡ Ok tt → Asked directions stars needed tolerance words
  unfolding rows_beside Silent
  beside-asked e =
      let s = accepted-silent (rows_beside directions stars needed tolerance words) e in
      record {
        list = not-false (list_ok directions) s.0;
        demand = not-false (demand_ok needed tolerance) s.1.0;
        good = good_of (lent_of words (directions_in directions) stars) s.1.1.0;
        enough = ltb-false (directions_in directions) needed s.1.1.1.0;
      }

module _ (directions : List ℤ) (bytes : List ℕ) (needed tolerance : ℕ) (words : List ℕ) where
  pub catalogue-refused : (r : Refusal) → first_applying (catalogue.refusals_of bytes) ≡ Err r
      → first_applying (refusals_of directions bytes needed tolerance words) ≡ Err r
  unfolding refusals_of
  catalogue-refused r e = applying-append (catalogue.refusals_of bytes) _
      ∙ ap (answered Err (first_applying (rows_beside directions (records_in bytes) needed tolerance words))) e

  pub catalogue-valid : first_applying (catalogue.refusals_of bytes) ≡ Ok tt → first_applying (refusals_of directions bytes needed tolerance words)
      ≡ first_applying (rows_beside directions (records_in bytes) needed tolerance words)
  unfolding refusals_of
  catalogue-valid e = applying-append (catalogue.refusals_of bytes) _ ∙ ap
      (answered Err (first_applying (rows_beside directions (records_in bytes) needed tolerance words))) e

  -- none of 6 to 12 applies: neither the catalogue's nor the rest
  pub all-accepted : first_applying (refusals_of directions bytes needed tolerance words) ≡ Ok tt → (first_applying (catalogue.refusals_of bytes) ≡ Ok tt)
      × Asked directions (records_in bytes) needed tolerance words
  unfolding refusals_of
  all-accepted e = by (first_applying (catalogue.refusals_of bytes)) refl (sym (applying-append (catalogue.refusals_of bytes) rest) ∙ e)
    where
      rest : List Row
      rest = rows_beside directions (records_in bytes) needed tolerance words

      by : (o : Result Unit Refusal) → first_applying (catalogue.refusals_of bytes) ≡ o → answered Err (first_applying rest) o ≡ Ok tt
          → (first_applying (catalogue.refusals_of bytes) ≡ Ok tt) × Asked directions (records_in bytes) needed tolerance words
      by (Ok _) q h = (q, beside-asked directions (records_in bytes) needed tolerance words h)
      by (Err r) q h = contradiction (cc)

  pub accepted-ranked : first_applying (refusals_of directions bytes needed tolerance words) ≡ Ok tt
      → Ranked (ranking_of (directions_in directions) (records_in bytes) words)
  accepted-ranked e = (good-ranked words (directions_in directions) (records_in bytes) (all-accepted e).1.good).1
