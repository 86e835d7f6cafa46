-- The numbers of a frame's list do for the list: the guider looks at how many stars there are and where, and at nothing else; so the list of
-- `mnemathor_list` is never the cause of 22. Assumes nothing.
use Rattle.std.proofs.Math.Bool.{Bool, false, cond, not}
use Rattle.std.specs.Prelude.{true, ◌&&◌, ◌≡◌, ℤ}
use Rattle.std.proofs.Math.Path.{refl, ap, subst}
use Rattle.std.proofs.Common.{sym, ◌∙◌}
use mathlib.Core.List.{List, ◌++◌}
use Prim.Native.Nat.{ℕ, zero, suc, ◌*◌, ◌≤◌, ◌<◌}
use Rattle.std.proofs.Math.Decide.{dec_lt}
use native.Mathlib.Omega.{arith}
use borrow.Author.Tests.{ne_eqb}
use Rattle.std.proofs.Math.Dec.{eqb, leb}
use Rattle.std.proofs.Math.ListN.{length, set, replicate, length-append, length-take, length-replicate, get_or-eq_default}
use Rattle.lists.specs.First.{first}
use Rattle.lists.specs.Number.{number}
use Rattle.lists.specs.Tests.{all, some}
use Rattle.refusal.specs.declared.Refusal.{Refusal}
use Rattle.refusal.specs.Table.{first_applying}
use Rattle.refusal.specs.Laws.{Every}
use Rattle.refusal.proofs.Laws.{applying-every}
use Rattle.frame_centroid.specs.declared.Centroid.{Centroid}
use Rattle.frame_list.specs.input.Input.{frame_rows}
use Rattle.frame_list.specs.input.InputLaws.{accepted-valid}
use Rattle.frame_list.specs.declared.Report.{Report}
use Rattle.frame_list.specs.declared.Listing.{Listing}
use Rattle.frame_list.specs.Stars.{nought, measured_of, report_of}
use Rattle.frame_list.specs.Calls.{listing_of}
use Rattle.frame_list.specs.CallsLaws.{star-range, zeros-behind}
use Rattle.guider_rule.specs.declared.Guider.{Guider}
use Rattle.guider_rule.specs.declared.Guided.{Guided}
use Rattle.guider_rule.specs.Guider.{guide_at, star_at, live, apart, missed, shared, follows, guide_after, guides_after, guider_after}
use Rattle.guider_rule.specs.Rule.{on_frame, guider_ok, list_ok}
use Rattle.guider_rule.specs.Calls.{refused_with, seen_by, guided_of}
use Rattle.guider_rule.proofs.FrameLaws.{own-frame}
use Rattle.numbers.specs.TwosComplement.{signed_of}
use Rattle.c_numbers.specs.Stars.{joined}
use Rattle.c_interface.specs.frame.Frame.{listing_numbers}
use Rattle.c_interface.specs.guide.Rooms.{size, unsigned_of, number_in, guider_in, outcome_in, report_in, listing_in}
use Rattle.c_interface.specs.guide.Guider.{framed_in, frame_room, frame_outcome}
use Rattle.c_interface.specs.guide.ReadLaws.{signed_back}
use Rattle.c_interface.proofs.guide.ReadLaws.{frame-read}
use Rattle.std.specs.Prelude.{Result, Ok, Err}

-- ---- the guider looks at positions alone

module _ (g : Guider) (a b : Report) (count : a.count ≡ b.count) (across : (k : ℕ) → (star_at a k).x ≡ (star_at b k).x)
    (down : (k : ℕ) → (star_at a k).y ≡ (star_at b k).y) where
  same-guide : (i : ℕ) → guide_after g a i ≡ guide_after g b i
  unfolding guide_after follows shared
  same-guide i =
      λ j.
      let guide = guide_at g i in
      let inside : ℕ → Bool = λ k. leb (apart guide.x (across k j)) g.half && leb (apart guide.y (down k j)) g.half in
      let x = across (first inside (count j)) j in
      let y = down (first inside (count j)) j in
      cond (live guide)
      (cond (eqb (number (count j) inside) 1
      && not (some g.count (λ m. not (eqb m i) && (live (guide_at g m) &&
      (leb (apart (guide_at g m).x x) g.half && leb (apart (guide_at g m).y y) g.half)))))
      (record { identity = guide.identity; x = x; y = y; misses = 0 }) (missed guide))
      guide

  same-guides : (n : ℕ) → guides_after g a n ≡ guides_after g b n
  unfolding guides_after
  same-guides zero = refl
  same-guides (suc n) = λ j. set (same-guides n j) n (same-guide n j)

  same_after : guider_after g a ≡ guider_after g b
  unfolding guider_after
  same_after = λ j. record { half = g.half; count = g.count; guides = same-guides g.count j }

  same-list : list_ok a ≡ list_ok b
  unfolding list_ok
  same-list = λ j. leb (count j) 8 && all (count j) (λ k. on_frame (across k j) (down k j))

  same_seen : seen_by g a (Ok tt) ≡ seen_by g b (Ok tt)
  same_seen = λ j. cond (same-list j) (record { outcome = Ok tt; guider = same_after j }) (refused_with g)

-- ---- the list that a frame gives

few-rows : (samples : List ℕ) (width height threshold : ℕ) → Every (λ n. (1 ≤ n) × (n ≤ 4)) (frame_rows samples width height threshold)
unfolding Every
few-rows samples width height threshold = (
  (omega arith, omega arith),
  (
    (omega arith, omega arith),
    ((omega arith, omega arith), ((omega arith, omega arith), tt)),
  ),
)

module _ (samples : List ℕ) (width height threshold : ℕ) where
  abbrev listing : Listing
  listing = listing_of samples width height threshold

  abbrev numbers : List ℤ
  numbers = listing_numbers listing

  module _ (e : first_applying (frame_rows samples width height threshold) ≡ Ok tt) where
    abbrev report : Report
    report = report_of samples width height threshold (height * width)

    report-size : length report.stars ≡ 8
    unfolding report_of
    report-size =
        let stars = measured_of samples width height threshold (height * width) in
        omega (arith, length-take 8 (stars ++ replicate 8 nought), length-append stars (replicate 8 nought), length-replicate 8 nought)

    report-few : report.count ≤ 8
    unfolding report_of
    report-few = omega arith

    -- each place of the list is on the frame, or empty
    placed : (k : ℕ) → k < 8 → ((star_at report k).x ≤ 261888) × ((star_at report k).y ≤ 261888)
    placed k h = by (dec_lt k report.count)
      where
        by : Dec (k < report.count) → ((star_at report k).x ≤ 261888) × ((star_at report k).y ≤ 261888)
        by (yes l) =
            let v = accepted-valid samples width height threshold e in
            let s = star-range samples width height threshold (height * width) v.wide.1 v.high.1 k l in
            (s.0, s.1)
        by (no l) =
            let z = zeros-behind samples width height threshold (height * width) k (omega arith) h in
            (omega (arith, ap (λ (c : Centroid). c.x) z), omega (arith, ap (λ (c : Centroid). c.y) z))

    -- the report that the numbers are read as has its count and positions
    numbers-are : numbers ≡ listing_numbers (record { outcome = Ok tt; report = report })
    unfolding listing_of
    numbers-are = rw e refl

    read_count : (report_in numbers).count ≡ report.count
    read_count = ap (λ (xs : List ℤ). number_in xs 2) numbers-are ∙ signed_back report.count (omega (arith, report-few))

    read-placed : (k : ℕ) → ((star_at (report_in numbers) k).x ≡ (star_at report k).x) × ((star_at (report_in numbers) k).y ≡ (star_at report k).y)
    unfolding joined
    read-placed k = subst (λ (xs : List ℤ). ((star_at (report_in xs) k).x ≡ (star_at report k).x) × ((star_at (report_in xs) k).y ≡ (star_at report k).y))
        (sym numbers-are) (at k)
      where
        back : (k : ℕ) → k < 8 → (unsigned_of (signed_of (star_at report k).x) ≡ (star_at report k).x)
            × (unsigned_of (signed_of (star_at report k).y) ≡ (star_at report k).y)
        back k h = let p = placed k h in (signed_back (star_at report k).x (omega (arith, p.0)), signed_back (star_at report k).y (omega (arith, p.1)))

        at : (k : ℕ) → ((star_at (report_in (listing_numbers (record { outcome = Ok tt; report = report }))) k).x ≡ (star_at report k).x)
            × ((star_at (report_in (listing_numbers (record { outcome = Ok tt; report = report }))) k).y ≡ (star_at report k).y)
        at zero = back 0 (omega arith)
        at (suc zero) = back 1 (omega arith)
        at (suc (suc zero)) = back 2 (omega arith)
        at (suc (suc (suc zero))) = back 3 (omega arith)
        at (suc (suc (suc (suc zero)))) = back 4 (omega arith)
        at (suc (suc (suc (suc (suc zero))))) = back 5 (omega arith)
        at (suc (suc (suc (suc (suc (suc zero)))))) = back 6 (omega arith)
        at (suc (suc (suc (suc (suc (suc (suc zero))))))) = back 7 (omega arith)
        at (suc (suc (suc (suc (suc (suc (suc (suc k)))))))) =
            let z : star_at report (suc (suc (suc (suc (suc (suc (suc (suc k)))))))) ≡ nought =
            get_or-eq_default report.stars nought (omega (arith, report-size)) in
            (sym (ap (λ (c : Centroid). c.x) z), sym (ap (λ (c : Centroid). c.y) z))

    accepted-seen : (g : Guider) → seen_by g (report_in numbers) (outcome_in (number_in numbers 0)) ≡ seen_by g listing.report listing.outcome
    unfolding listing_of
    accepted-seen g =
        ap (λ (xs : List ℤ). seen_by g (report_in numbers) (outcome_in (number_in xs 0))) numbers-are
        ∙ ap (λ (n : ℕ). seen_by g (report_in numbers) (outcome_in n)) (signed_back 0 (omega arith))
        ∙ same_seen g (report_in numbers) report read_count (λ k. (read-placed k).0) (λ k. (read-placed k).1)
        ∙ rw e refl

  refused-seen : (q : Refusal) → first_applying (frame_rows samples width height threshold) ≡ Err q → (g : Guider)
      → seen_by g (report_in numbers) (outcome_in (number_in numbers 0)) ≡ seen_by g listing.report listing.outcome
  unfolding listing_of
  refused-seen q e g =
      let n = applying-every (λ n. (1 ≤ n) × (n ≤ 4)) (frame_rows samples width height threshold) (few-rows samples width height threshold) q e in
      let r : number_in numbers 0 ≡ q.number = rw e (signed_back q.number (omega (arith, n.1))) in
      let z : eqb (number_in numbers 0) 0 ≡ false = ne_eqb (number_in numbers 0) 0 (λ h. omega (arith, n.0)) in
      rw (z, e) refl

  -- THE LAW: whatever the guider, the numbers that the list's call hands over do for the list
  pub own-list-read : (g : Guider) → guided_of g (listing_in numbers) ≡ guided_of g listing
  unfolding guided_of
  own-list-read g = ap (λ (x : Guided). cond (guider_ok g) x (refused_with g)) (by (first_applying (frame_rows samples width height threshold)) refl)
    where
      by : (o : Result Unit Refusal) → first_applying (frame_rows samples width height threshold) ≡ o
          → seen_by g (report_in numbers) (outcome_in (number_in numbers 0)) ≡ seen_by g listing.report listing.outcome
      by (Ok _) e = accepted-seen e g
      by (Err q) e = refused-seen q e g

  list_full : length numbers ≡ 64
  unfolding listing_of joined
  list_full = by (first_applying (frame_rows samples width height threshold))
    where
      by : (o : Result Unit Refusal) → length (listing_numbers (record { outcome = o; report = listing.report })) ≡ 64
      by (Ok _) = refl
      by (Err q) = refl

  module _ (room : List ℤ) (fits : length room ≡ size) where
    -- a frame's call leaves the room of the guider that the rule gives for the frame
    pub own-frame-read : guider_in (frame_room room numbers) ≡ (guided_of (guider_in room) listing).guider
    own-frame-read = frame-read room numbers fits list_full ∙ ap (λ (x : Guided). x.guider) (own-list-read (guider_in room))

    -- and a guider that keeps its rule is not refused with it: the list is never the cause of 22
    pub own-list-taken : guider_ok (guider_in room) ≡ true → frame_outcome room numbers ≡ Ok tt
    unfolding frame_outcome framed_in
    own-list-taken ok = rw (fits, list_full) (ap (λ (x : Guided). x.outcome) (own-list-read (guider_in room))
        ∙ own-frame samples width height threshold (guider_in room) ok)
