-- Where none of 1 to 12 and 19 applies, the steps behind the frame's list have what they ask for; and no other number is given before them. Assumes nothing.
use Rattle.std.specs.Prelude.{true, ◌&&◌, ◌≡◌, refl, ◌++◌, ℕ, ◌≤◌, leb, length}
use Rattle.std.proofs.Math.Bool.{and-eq-true_iff}
use Rattle.std.proofs.Common.{sym, ◌∙◌, leb-true, ltb-false}
use Rattle.std.proofs.lemmas.Bool.{not-false}
use Rattle.refusal.specs.declared.Refusal.{Refusal}
use Rattle.refusal.specs.Table.{first_applying, otherwise}
use Rattle.refusal.specs.Laws.{Silent, otherwise-accepted, Every, every_append}
use Rattle.refusal.proofs.Laws.{accepted-silent, applying-every}
use Rattle.frame_list.specs.input.Input.{frame_rows}
use Rattle.catalogue.specs.Check as catalogue
use Rattle.catalogue.specs.Check.{refusals_of as catalogue_rows}
use Rattle.catalogue.specs.CheckLaws.{accepted-valid}
use Rattle.search.specs.Refusals.{demand_ok}
use Rattle.chain.specs.declared.Settings.{Settings}
use Rattle.chain.specs.Chain.{Call, listed, settings_rows, demand_rows, refusals_of}
use Rattle.chain.specs.AdmitLaws.{refusals-joined}
use Rattle.chain.specs.Ready.{Ready}
use Rattle.chain.specs.ReadyLaws.{listing-sighted, Early, is_early, early}
use Rattle.std.specs.Prelude.{Ok, Err}

demand-says : (needed tolerance : ℕ) → demand_ok needed tolerance ≡ true → (3 ≤ needed) × (needed ≤ 8) × (tolerance ≤ 10000000000000000)
unfolding demand_ok
demand-says needed tolerance e =
    let a = (and-eq-true_iff (leb 3 needed && leb needed 8) (leb tolerance 10000000000000000)).0 e in
    let b = (and-eq-true_iff (leb 3 needed) (leb needed 8)).0 a.0 in
    (leb-true 3 needed b.0, leb-true needed 8 b.1, leb-true tolerance 10000000000000000 a.1)

demand-rows : (s : Settings) (words count : ℕ) → first_applying (demand_rows s words count) ≡ Ok tt → (demand_ok s.needed s.tolerance ≡ true)
    × (4096 ≤ words) × (s.needed ≤ count)
unfolding demand_rows Silent
demand-rows s words count e =
    let a = accepted-silent (demand_rows s words count) e in
    (not-false (demand_ok s.needed s.tolerance) a.0, ltb-false words 4096 a.1.0, ltb-false count s.needed a.1.1.0)

pub ready : (c : Call) → first_applying (refusals_of c) ≡ Ok tt → Ready (listed c).report c.catalogue c.settings c.room
ready c e =
    let s = c.settings in
    let stars = first_applying (catalogue.refusals_of c.catalogue) in
    let demand = first_applying (demand_rows s (length c.room) (listed c).report.count) in
    let a = otherwise-accepted (listed c).outcome (otherwise (first_applying (settings_rows s)) (otherwise stars demand)) (sym (refusals-joined c) ∙ e) in
    let b = otherwise-accepted (first_applying (settings_rows s)) (otherwise stars demand) a.1 in
    let k = otherwise-accepted stars demand b.1 in
    let d = demand-rows s (length c.room) (listed c).report.count k.1 in
    let q = demand-says s.needed s.tolerance d.0 in
    let v = listing-sighted c.samples s.width s.height s.threshold in
    record {
      few = v.few;
      placed = v.placed;
      size = v.size;
      catalogue = accepted-valid c.catalogue k.0;
      least = q.0;
      most = q.1;
      near = q.2;
      enough = d.2;
      long = d.1;
    }

refusals-early : (c : Call) → Every Early (refusals_of c)
unfolding refusals_of settings_rows demand_rows catalogue_rows Every is_early
refusals-early c =
    let s = c.settings in
    let f = frame_rows c.samples s.width s.height s.threshold in
    let k = catalogue.refusals_of c.catalogue in
    let d = demand_rows s (length c.room) (listed c).report.count in
    every_append Early f (settings_rows s ++ (k ++ d)) (early 1 refl, (early 2 refl, (early 3 refl, (early 4 refl, tt))))
    (every_append Early (settings_rows s) (k ++ d) (early 19 refl, (early 5 refl, tt))
    (every_append Early k d (early 6 refl, (early 7 refl, tt)) (early 9 refl, (early 10 refl, (early 12 refl, tt)))))

pub refused-early : (c : Call) (q : Refusal) → first_applying (refusals_of c) ≡ Err q → Early q.number
refused-early c = applying-every Early (refusals_of c) (refusals-early c)
