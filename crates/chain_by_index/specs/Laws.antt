-- What the chain by an index is for: with the right index it is the plain chain, and whichever it is handed it keeps demand 3. Assumes nothing.
use Rattle.std.specs.Prelude.{Bool, true, false, not, ◌≡◌, List, ◌++◌, ℕ, ℤ, length}
use Rattle.std.proofs.Math.Path.{refl, sym, ap}
use Rattle.std.proofs.Common.{subst, ◌∙◌}
use Rattle.lists.specs.Contradiction.{contradiction}
use Rattle.refusal.specs.declared.Refusal.{Refusal}
use Rattle.refusal.specs.Numbers as number
use Rattle.refusal.specs.Table.{refusal_of, first_applying, answered, otherwise}
use Rattle.refusal.specs.Laws.{otherwise-accepted, Every, every_append}
use Rattle.refusal.proofs.Laws.{applying-here, applying-append, applying-every}
use Rattle.frame_list.specs.input.Input.{frame_rows}
use Rattle.frame_list.specs.ListingLaws.{listing-outcome}
use Rattle.catalogue.specs.Check as catalogue
use Rattle.catalogue.specs.Check.{refusals_of as catalogue_rows}
use Rattle.catalogue.specs.Stars.{stars_of}
use Rattle.catalogue_index.specs.Index.{index_of}
use Rattle.catalogue_index.specs.Check.{is_index}
use Rattle.catalogue_index.specs.CheckLaws.{is-index, index-true}
use Rattle.chain.specs.Chain as plain
use Rattle.chain.specs.Chain.{refused_with, settings_rows, demand_rows, listed}
use Rattle.chain.specs.AdmitLaws as plain-laws
use Rattle.chain.specs.declared.Tracked.{Tracked}
use Rattle.chain.specs.Ready.{Tracks}
use Rattle.chain.specs.ReadyLaws.{Early, is_early, early}
use Rattle.chain.specs.NamesLaws as names
use Rattle.chain.proofs.NamesLaws as names-laws
use Rattle.chain_by_index.specs.Chain.{Call, index_rows, stars_rows, refusals_of, tracked_of, room_after}
use Rattle.std.specs.Prelude.{Result, Ok, Err}

-- ---- 17

module _ (stars : List ℤ) (index : List ℕ) (floor : ℤ) where
  pub wrong-index : is_index stars floor index ≡ false → first_applying (index_rows stars index floor) ≡ refusal_of number.index 0
  wrong-index e = applying-here _ _ (ap not e)

  pub right-index : is_index stars floor index ≡ true → first_applying (index_rows stars index floor) ≡ Ok tt
  unfolding first_applying
  right-index e = rw e

  pub index-accepted : first_applying (index_rows stars index floor) ≡ Ok tt → is_index stars floor index ≡ true
  index-accepted h = go (is_index stars floor index) refl
    where
      go : (t : Bool) → is_index stars floor index ≡ t → is_index stars floor index ≡ true
      go true e = e
      go false e = let d : refusal_of number.index 0 ≡ (Ok tt) = sym (wrong-index e) ∙ h in contradiction (cc)

-- the catalogue's outcome, and then the index's
pub stars-joined : (bytes index : List ℕ) (floor : ℤ) {o : Result Unit Refusal} → first_applying (catalogue.refusals_of bytes) ≡ o
    → first_applying (stars_rows bytes index floor) ≡ otherwise o (first_applying (index_rows (stars_of bytes) index floor))
unfolding stars_rows
stars-joined bytes index floor e =
    applying-append (catalogue.refusals_of bytes) (index_rows (stars_of bytes) index floor)
    ∙ ap (λ (o : Result Unit Refusal). otherwise o (first_applying (index_rows (stars_of bytes) index floor))) e

-- ---- the call

module _ (c : Call) where
  abbrev stars : Result Unit Refusal
  stars = first_applying (stars_rows c.chain.catalogue c.index c.floor)

  abbrev demand : Result Unit Refusal
  demand = first_applying (demand_rows c.chain.settings (length c.chain.room) (listed c.chain).report.count)

  -- the first of the four parts that refuses
  pub refusals-joined : first_applying (refusals_of c) ≡ otherwise (listed c.chain).outcome
      (otherwise (first_applying (settings_rows c.chain.settings)) (otherwise stars demand))
  unfolding refusals_of
  refusals-joined =
      let s = c.chain.settings in
      let f = frame_rows c.chain.samples s.width s.height s.threshold in
      let k = stars_rows c.chain.catalogue c.index c.floor in
      let d = demand_rows s (length c.chain.room) (listed c.chain).report.count in
      rw (listing-outcome c.chain.samples s.width s.height s.threshold)
      (applying-append f (settings_rows s ++ (k ++ d)) ∙ ap (otherwise (first_applying f)) (applying-append (settings_rows s) (k ++ d)
      ∙ ap (otherwise (first_applying (settings_rows s))) (applying-append k d)))

  -- with the right index the refusals are the plain chain's
  test-refusals : is_index (stars_of c.chain.catalogue) c.floor c.index ≡ true
      → first_applying (refusals_of c) ≡ first_applying (plain.refusals_of c.chain)
  test-refusals t =
      refusals-joined
      ∙ ap (λ (o : Result Unit Refusal). otherwise (listed c.chain).outcome (otherwise (first_applying (settings_rows c.chain.settings)) (otherwise o demand))) same
      ∙ sym (plain-laws.refusals-joined c.chain)
    where
      same : stars ≡ first_applying (catalogue.refusals_of c.chain.catalogue)
      same = stars-joined c.chain.catalogue c.index c.floor refl ∙ go (first_applying (catalogue.refusals_of c.chain.catalogue))
        where
          go : (o : Result Unit Refusal) → otherwise o (first_applying (index_rows (stars_of c.chain.catalogue) c.index c.floor)) ≡ o
          go (Ok _) = right-index (stars_of c.chain.catalogue) c.index c.floor t
          go (Err r) = refl

  module _ (e : c.index ≡ index_of (stars_of c.chain.catalogue) c.floor) where
    pub right-refusals : first_applying (refusals_of c) ≡ first_applying (plain.refusals_of c.chain)
    right-refusals = test-refusals (is-index (stars_of c.chain.catalogue) c.floor c.index e)

    -- the answer is the plain chain's, refused or not
    pub right-tracked : tracked_of c ≡ plain.tracked_of c.chain
    unfolding tracked_of plain.tracked_of
    right-tracked = ap (answered refused_with (plain.tracked_of c.chain)) right-refusals ∙ go (first_applying (plain.refusals_of c.chain)) refl
      where
        go : (o : Result Unit Refusal) → first_applying (plain.refusals_of c.chain) ≡ o → answered refused_with (plain.tracked_of c.chain) o ≡ plain.tracked_of c.chain
        go (Ok _) k = refl
        go (Err r) k = sym (ap (answered refused_with (plain.located_of (listed c.chain).report c.chain.catalogue c.chain.settings)) k)

    -- and so is the room
    pub right-room : room_after c ≡ plain.room_after c.chain
    unfolding room_after plain.room_after
    right-room = ap (answered (λ (r : Refusal). c.chain.room) (plain.room_after c.chain)) right-refusals
        ∙ go (first_applying (plain.refusals_of c.chain)) refl
      where
        go : (o : Result Unit Refusal) → first_applying (plain.refusals_of c.chain) ≡ o → answered (λ (r : Refusal). c.chain.room) (plain.room_after c.chain) o
            ≡ plain.room_after c.chain
        go (Ok _) k = refl
        go (Err r) k = sym (ap (answered (λ (q : Refusal). c.chain.room)
            (plain.ranked_room (listed c.chain).report c.chain.catalogue c.chain.settings c.chain.room)) k)

  -- a call that is not refused before it writes was handed the right index, and the plain chain is not refused there either
  module _ (h : first_applying (refusals_of c) ≡ Ok tt) where
    pub accepted-right : c.index ≡ index_of (stars_of c.chain.catalogue) c.floor
    accepted-right =
        let a = otherwise-accepted (listed c.chain).outcome (otherwise (first_applying (settings_rows c.chain.settings)) (otherwise stars demand))
        (sym refusals-joined ∙ h) in
        let b = otherwise-accepted (first_applying (settings_rows c.chain.settings)) (otherwise stars demand) a.1 in
        let d = otherwise-accepted stars demand b.1 in
        let i = first_applying (index_rows (stars_of c.chain.catalogue) c.index c.floor) in
        let f = otherwise-accepted (first_applying (catalogue.refusals_of c.chain.catalogue)) i
        (sym (stars-joined c.chain.catalogue c.index c.floor refl) ∙ d.0) in
        index-true (stars_of c.chain.catalogue) c.floor c.index (index-accepted (stars_of c.chain.catalogue) c.index c.floor f.1)

    pub accepted-plain : first_applying (plain.refusals_of c.chain) ≡ Ok tt
    accepted-plain = sym (right-refusals accepted-right) ∙ h

    pub accepted-tracked : tracked_of c ≡ plain.located_of (listed c.chain).report c.chain.catalogue c.chain.settings
    unfolding plain.tracked_of
    accepted-tracked = right-tracked accepted-right ∙ ap (answered refused_with
        (plain.located_of (listed c.chain).report c.chain.catalogue c.chain.settings)) accepted-plain

    pub accepted-room : room_after c ≡ plain.ranked_room (listed c.chain).report c.chain.catalogue c.chain.settings c.chain.room
    unfolding plain.room_after
    accepted-room = right-room accepted-right ∙ ap (answered (λ (r : Refusal). c.chain.room)
        (plain.ranked_room (listed c.chain).report c.chain.catalogue c.chain.settings c.chain.room)) accepted-plain

  -- a refusal before the writing
  module _ (q : Refusal) (h : first_applying (refusals_of c) ≡ Err q) where
    pub refused-tracked : tracked_of c ≡ refused_with q
    unfolding tracked_of
    refused-tracked = ap (answered refused_with (plain.tracked_of c.chain)) h

    pub refused-room : room_after c ≡ c.chain.room
    unfolding room_after
    refused-room = ap (answered (λ (r : Refusal). c.chain.room) (plain.room_after c.chain)) h

-- ---- demand 3, whichever index is lent

-- what is given before the ranking is none of 8, 11, 13 and 14
refusals-early : (c : Call) → Every Early (refusals_of c)
unfolding refusals_of stars_rows settings_rows demand_rows catalogue_rows Every is_early
refusals-early c =
    let s = c.chain.settings in
    let f = frame_rows c.chain.samples s.width s.height s.threshold in
    let k = catalogue.refusals_of c.chain.catalogue in
    let i = index_rows (stars_of c.chain.catalogue) c.index c.floor in
    let d = demand_rows s (length c.chain.room) (listed c.chain).report.count in
    every_append Early f (settings_rows s ++ ((k ++ i) ++ d)) (early 1 refl, (early 2 refl, (early 3 refl, (early 4 refl, tt))))
    (every_append Early (settings_rows s) ((k ++ i) ++ d) (early 19 refl, (early 5 refl, tt))
    (every_append Early (k ++ i) d (every_append Early k i (early 6 refl, (early 7 refl, tt)) (early 17 refl, tt))
    (early 9 refl, (early 10 refl, (early 12 refl, tt)))))

module _ (c : Call) where
  -- the plain chain's answer, or a refusal before the ranking
  by_index : (P : Tracked → Type 0) → (first_applying (refusals_of c) ≡ Ok tt → P (plain.tracked_of c.chain))
      → ((q : Refusal) → Early q.number → P (refused_with q)) → P (tracked_of c)
  by_index P accepted refused = go (first_applying (refusals_of c)) refl
    where
      go : (o : Result Unit Refusal) → first_applying (refusals_of c) ≡ o → P (tracked_of c)
      go (Ok _) e = subst P (sym (right-tracked c (accepted-right c e))) (accepted e)
      go (Err q) e = subst P (sym (refused-tracked c q e)) (refused q (applying-every Early (refusals_of c) (refusals-early c) q e))

  pub tracked-names : Tracks c.chain (tracked_of c)
  tracked-names =
      by_index (Tracks c.chain) (λ _. names-laws.tracked-names c.chain)
      (λ q a. names-laws.refused-names (listed c.chain).report c.chain.catalogue c.chain.settings q a.no-13)

  pub tracked-numbered : (q : Refusal) → (tracked_of c).outcome ≡ Err q → names.Numbered q
  tracked-numbered q =
      by_index (λ (t : Tracked). t.outcome ≡ Err q → names.Numbered q) (λ _. names-laws.tracked-numbered c.chain q)
      (λ r a e. let d : r ≡ q = cc in subst names.Numbered d (names.early-numbered r a))

  pub tracked-whole : (tracked_of c).outcome ≡ Ok tt → names.Whole c.chain (tracked_of c)
  tracked-whole =
      by_index (λ (t : Tracked). t.outcome ≡ Ok tt → names.Whole c.chain t) (λ _. names-laws.tracked-whole c.chain) (λ q a e. contradiction (cc))
