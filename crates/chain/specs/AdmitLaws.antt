-- The refusals that the chain gives before it writes anything, one row at a time. Assumes nothing.
use Rattle.std.specs.Prelude.{true, false, ◌≡◌, ◌++◌, ℕ, ◌≤◌, ◌<◌, length}
use Rattle.std.proofs.Common.{ap, ◌∙◌}
use borrow.Author.Tests.{lt-ltb, le-ltb}
use Rattle.refusal.specs.Numbers as number
use Rattle.refusal.specs.Table.{refusal_of, first_applying, otherwise}
use Rattle.refusal.proofs.Laws.{applying-append}
use Rattle.frame_list.specs.input.Input.{frame_rows}
use Rattle.frame_list.specs.ListingLaws.{listing-outcome}
use Rattle.camera_lens.specs.Lens.{lens_ok}
use Rattle.camera_direction.specs.Settings.{position_ok}
use Rattle.catalogue.specs.Check as catalogue
use Rattle.search.specs.Refusals.{demand_ok}
use Rattle.chain.specs.declared.Settings.{Settings}
use Rattle.chain.specs.Chain.{Call, listed, settings_rows, demand_rows, refusals_of}
use Rattle.std.specs.Prelude.{Ok}

module _ (s : Settings) where
  pub lens-refused : lens_ok s.lens ≡ false → first_applying (settings_rows s) ≡ refusal_of number.lens 0
  unfolding settings_rows first_applying
  lens-refused e = rw e

  pub settings-refused : lens_ok s.lens ≡ true → position_ok s.cx s.cy ≡ false → first_applying (settings_rows s) ≡ refusal_of number.settings 0
  unfolding settings_rows first_applying
  settings-refused e k = rw (e, k)

  pub settings-passed : lens_ok s.lens ≡ true → position_ok s.cx s.cy ≡ true → first_applying (settings_rows s) ≡ Ok tt
  unfolding settings_rows first_applying
  settings-passed e k = rw (e, k)

  module _ (words count : ℕ) where
    pub demand-refused : demand_ok s.needed s.tolerance ≡ false → first_applying (demand_rows s words count) ≡ refusal_of number.demand 0
    unfolding demand_rows first_applying
    demand-refused e = rw e

    pub room-refused : demand_ok s.needed s.tolerance ≡ true → words < 4096 → first_applying (demand_rows s words count) ≡ refusal_of number.room 0
    unfolding demand_rows first_applying
    room-refused e h = rw (e, lt-ltb words 4096 h)

    pub few-refused : demand_ok s.needed s.tolerance ≡ true → 4096 ≤ words → count < s.needed
        → first_applying (demand_rows s words count) ≡ refusal_of number.few 0
    unfolding demand_rows first_applying
    few-refused e h k = rw (e, le-ltb words 4096 h, lt-ltb count s.needed k)

    pub demand-passed : demand_ok s.needed s.tolerance ≡ true → 4096 ≤ words → s.needed ≤ count → first_applying (demand_rows s words count) ≡ Ok tt
    unfolding demand_rows first_applying
    demand-passed e h k = rw (e, le-ltb words 4096 h, le-ltb count s.needed k)

-- the first of the four parts that refuses
pub refusals-joined : (c : Call) → first_applying (refusals_of c) ≡ otherwise (listed c).outcome
    (otherwise (first_applying (settings_rows c.settings)) (otherwise (first_applying (catalogue.refusals_of c.catalogue))
    (first_applying (demand_rows c.settings (length c.room) (listed c).report.count))))
unfolding refusals_of
refusals-joined c =
    let s = c.settings in
    let f = frame_rows c.samples s.width s.height s.threshold in
    let k = catalogue.refusals_of c.catalogue in
    let d = demand_rows s (length c.room) (listed c).report.count in
    rw (listing-outcome c.samples s.width s.height s.threshold)
    (applying-append f (settings_rows s ++ (k ++ d)) ∙ ap (otherwise (first_applying f)) (applying-append (settings_rows s) (k ++ d)
    ∙ ap (otherwise (first_applying (settings_rows s))) (applying-append k d)))
