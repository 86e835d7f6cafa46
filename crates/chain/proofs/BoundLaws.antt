-- How large the parts of the chain's answer are: the refusal's number and place, and the entries of the matrix. Assumes nothing.
use Rattle.std.specs.Prelude.{Bool, true, false, ◌≡◌, refl, List, [], ◌∷◌, length}
use Rattle.std.proofs.Common.{sym, ap, arith, ltb-true, eqb-true}
use Rattle.std.proofs.Math.Path.{subst}
use Rattle.std.proofs.Math.Logic.{⊎_elim}
use Prim.Native.Nat.{ℕ, ◌*◌, ◌≤◌, zero-le}
use Rattle.std.proofs.lemmas.Bool.{not-false}
use Rattle.refusal.specs.declared.Refusal.{Refusal}
use Rattle.refusal.specs.Table.{Row, row_at, first_applying, answered, otherwise}
use Rattle.frame_list.specs.declared.Report.{Report}
use Rattle.frame_list.specs.input.Input.{first_over, frame_rows}
use Rattle.frame_list.specs.input.InputLaws.{size-most}
use Rattle.frame_list.specs.ListingLaws.{listing-outcome}
use Rattle.catalogue.specs.Check as catalogue
use Rattle.catalogue.specs.Check.{length_ok, broken_of, refusals_of as catalogue_rows}
use Rattle.catalogue.specs.Format.{records_in}
use Rattle.catalogue.specs.RuleLaws.{ok-length}
use Rattle.catalogue.specs.Stars.{stars_of}
use Rattle.search.specs.Identified as sought
use Rattle.attitude.specs.declared.Matrix.{Matrix}
use Rattle.attitude.proofs.Laws.{in-range-answer}
use Rattle.chain.specs.declared.Settings.{Settings}
use Rattle.attitude.specs.orient.Orient.{orientation_of}
use Rattle.chain.specs.Chain.{Call, listed, refused_with, oriented, settled_of, sights_of, our_identification, located_of, settings_rows, demand_rows, refusals_of, tracked_of}
use Rattle.chain.specs.Ready.{Ready}
use Rattle.chain.specs.AdmitLaws.{refusals-joined}
use Rattle.chain.proofs.ReadyLaws.{ready}
use Rattle.chain.specs.NeverLaws.{search-known, in-range}
use Rattle.chain.specs.BoundLaws.{Low}
use Rattle.std.specs.Prelude.{Result, Ok, Err}

accepted-low : Low (Ok tt)
accepted-low = record { number = zero-le; place = zero-le }

none-low : Low (first_applying [])
unfolding first_applying
none-low = accepted-low

row_low : (c : Bool) (n p : ℕ) (rows : List Row) → n ≤ 19 → (c ≡ true → p ≤ 1048576) → (c ≡ false → Low (first_applying rows))
    → Low (first_applying (row_at c n p ∷ rows))
unfolding first_applying
row_low true n p rows h f g = record { number = h; place = f refl }
row_low false n p rows h f g = g refl

otherwise-low : (a b : Result Unit Refusal) → Low a → Low b → Low (otherwise a b)
otherwise-low (Ok _) b h k = k
otherwise-low (Err r) b h k = h

frame-low : (samples : List ℕ) (width height threshold : ℕ) → Low (first_applying (frame_rows samples width height threshold))
frame-low samples width height threshold =
    row_low _ 1 0 _ (omega arith) (λ _. zero-le) (λ size.
    row_low _ 2 0 _ (omega arith) (λ _. zero-le) (λ whole.
    row_low _ 3 0 _ (omega arith) (λ _. zero-le) (λ _.
    row_low _ 4 (first_over samples) [] (omega arith)
    (λ over. omega (
      arith,
      ltb-true (first_over samples) (length samples) over,
      eqb-true (length samples) (width * height) (not-false _ whole),
      size-most width height size,
    ))
    (λ _. none-low))))

-- a row that names no place
plain-low : (c : Bool) (n : ℕ) (rows : List Row) → n ≤ 19 → Low (first_applying rows) → Low (first_applying (row_at c n 0 ∷ rows))
plain-low c n rows h k = row_low c n 0 rows h (λ _. zero-le) (λ _. k)

catalogue-low : (bytes : List ℕ) → Low (first_applying (catalogue.refusals_of bytes))
unfolding catalogue_rows
catalogue-low bytes =
    row_low _ 6 0 _ (omega arith) (λ _. zero-le) (λ right.
    row_low _ 7 (broken_of bytes) [] (omega arith)
    (λ broken. omega (arith, ltb-true (broken_of bytes) (records_in bytes) broken, (ok-length bytes (not-false (length_ok (length bytes)) right)).most))
    (λ _. none-low))

rows-low : (c : Call) → Low (first_applying (refusals_of c))
unfolding settings_rows demand_rows
rows-low c =
    let s = c.settings in
    subst Low (sym (refusals-joined c))
    (otherwise-low (listed c).outcome _ (rw (listing-outcome c.samples s.width s.height s.threshold)
    (frame-low c.samples s.width s.height s.threshold))
    (otherwise-low _ _ (plain-low _ 19 _ (omega arith) (plain-low _ 5 [] (omega arith) none-low))
    (otherwise-low _ _ (catalogue-low c.catalogue)
    (plain-low _ 9 _ (omega arith) (plain-low _ 10 _ (omega arith) (plain-low _ 12 [] (omega arith) none-low))))))

-- behind the list only 13 and 14 are given, with the place 0
module _ (report : Report) (bytes : List ℕ) (s : Settings) (room : List ℕ) (h : Ready report bytes s room) where
  abbrev turned : Result Matrix Refusal
  turned = orientation_of (sights_of report bytes s) (stars_of bytes) (our_identification report bytes s).stars

  abbrev by-search : Result Unit Refusal → Result Unit Refusal
  by-search o = (answered refused_with (oriented report (our_identification report bytes s).stars turned) o).outcome

  abbrev by-attitude : Result Matrix Refusal → Result Unit Refusal
  by-attitude a = (oriented report (our_identification report bytes s).stars a).outcome

  located-low : Low (located_of report bytes s).outcome
  unfolding located_of settled_of orientation_of
  located-low =
      ⊎_elim
      (λ (k : (our_identification report bytes s).outcome ≡ Ok tt).
      subst Low (sym (ap by-search k))
      (⊎_elim
      (λ t. subst Low (sym (ap by-attitude t)) (record { number = omega arith; place = zero-le }))
      (λ t. subst Low (sym (ap by-attitude t)) accepted-low)
      (in-range-answer _ _ _ _ (in-range report bytes s room h _ _ _ _))))
      (λ (k : (our_identification report bytes s).outcome ≡ Err sought.no_fit).
      subst Low (sym (ap by-search k)) (record { number = omega arith; place = zero-le }))
      (search-known report bytes s room h)

pub tracked-low : (c : Call) → Low (tracked_of c).outcome
unfolding tracked_of
tracked-low c = by (first_applying (refusals_of c)) refl
  where
    by : (o : Result Unit Refusal) → first_applying (refusals_of c) ≡ o → Low (answered refused_with (located_of (listed c).report c.catalogue c.settings) o).outcome
    by (Err r) e = subst Low e (rows-low c)
    by (Ok _) e = located-low (listed c).report c.catalogue c.settings c.room (ready c e)
