-- Which sample `first_over` names, and that a call is accepted exactly when its inputs are as document 01 has them. Assumes nothing.
use Rattle.std.specs.Prelude.{true, false, not, ◌≡◌, ℕ, ◌*◌, ◌≤◌, ◌<◌, get_or, ltb, leb}
use Rattle.std.proofs.Common.{ap, ◌∙◌, mul-le-mul, lt_irrefl, arith}
use mathlib.Core.List.{List, [], ◌∷◌}
use Rattle.std.proofs.Math.Nat.{mul_comm}
use Rattle.std.proofs.Math.ListN.{length}
use borrow.Author.Tests.{lt-ltb, le-ltb, ltb-true, ltb-false, leb-true, leb-false, le-leb, eqb-true, eq-eqb, not-false}
use Rattle.lists.specs.First.{First}
use Rattle.lists.proofs.First.{first-is, first_of}
use Rattle.lists.specs.TestsLaws.{both_true, neither-true}
use Rattle.refusal.specs.Numbers as numbers
use Rattle.refusal.specs.Table.{row, refusal_of, first_applying, otherwise}
use Rattle.refusal.specs.Answer.{accepted_with, answer_of}
use Rattle.refusal.specs.AnswerLaws.{answer_by, in-terms}
use Rattle.refusal.proofs.AnswerLaws.{outcome-by}
use Rattle.refusal.specs.Laws.{Silent}
use Rattle.refusal.proofs.Laws.{accepted-silent, applying-here, applying-next, applying-append}
use Rattle.refusal.specs.declared.Refusal.{Refusal}
use Rattle.frame_list.specs.input.Input.{within, size_out, length_out, threshold_out, first_over, sample_out, pixel_out, frame_rows, pixel_rows, frame_answer, pixel_answer}
use Rattle.std.specs.Prelude.{Result, Ok, Err}

-- ---- tests taken apart

pub within-says : (least most x : ℕ) → within least most x ≡ true → (least ≤ x) × (x ≤ most)
within-says least most x e =
    let t = both_true (leb least x) (leb x most) e in
    (leb-true least x t.0, leb-true x most t.1)

-- both sides are in range
pub size-says : (width height : ℕ) → size_out width height ≡ false → ((7 ≤ width) × (width ≤ 1024)) × ((7 ≤ height) × (height ≤ 1024))
size-says width height e =
    let a = neither-true (not (within 7 1024 width)) (not (within 7 1024 height)) e in
    (within-says 7 1024 width (not-false _ a.0), within-says 7 1024 height (not-false _ a.1))

-- and so a frame has at most 2^20 samples
pub size-most : (width height : ℕ) → size_out width height ≡ false → width * height ≤ 1048576
size-most width height e =
    let s = size-says width height e in
    mul-le-mul {n₁ = width} {m₁ = height} {n₂ = 1024} {m₂ = 1024} s.0.1 s.1.1

-- ---- the first sample that is too large

module _ (l : List ℕ) where
  over-is : First (λ k. ltb 4095 (get_or l k 0)) (length l) (first_over l)
  unfolding first_over
  over-is = first-is _ _

  -- whatever is above 4,095, with none before it, is the first
  pub over-here : (i : ℕ) → i < length l → ((k : ℕ) → k < i → get_or l k 0 ≤ 4095) → 4095 < get_or l i 0 → i ≡ first_over l
  unfolding first_over
  over-here i h f g = first_of _ _ (record { most = omega arith; none = λ k p. le-ltb 4095 (get_or l k 0) (f k p); taken = λ _. lt-ltb 4095 (get_or l i 0) g })

  -- it is above 4,095, and none before it is
  pub first-over : first_over l < length l → (4095 < get_or l (first_over l) 0) × ((k : ℕ) → k < first_over l → get_or l k 0 ≤ 4095)
  first-over h = (ltb-true 4095 _ (over-is.taken h), λ k p. ltb-false 4095 _ (over-is.none k p))

  -- none is above 4,095 exactly where the first is past the end
  none_over : length l ≤ first_over l → (k : ℕ) → k < length l → get_or l k 0 ≤ 4095
  none_over h k p = ltb-false 4095 _ (over-is.none k (omega arith))

  pub over-end : ((k : ℕ) → k < length l → get_or l k 0 ≤ 4095) → length l ≡ first_over l
  unfolding first_over
  over-end f = first_of _ _ (record { most = omega arith; none = λ k p. le-ltb 4095 (get_or l k 0) (f k p); taken = λ h. absurd (lt_irrefl _ h) })

over_none : (l : List ℕ) → ((k : ℕ) → k < length l → get_or l k 0 ≤ 4095) → sample_out l ≡ false
over_none l f = le-ltb (first_over l) (length l) (omega (arith, over-end l f))

-- ---- an accepted call

-- the inputs of a frame, as document 01 has them
pub record Valid (samples : List ℕ) (width height threshold : ℕ) : Type 0 where
  pub wide : (7 ≤ width) × (width ≤ 1024)
  pub high : (7 ≤ height) × (height ≤ 1024)
  pub whole : length samples ≡ height * width
  pub reached : (1 ≤ threshold) × (threshold ≤ 4095)
  pub small : (k : ℕ) → k < length samples → get_or samples k 0 ≤ 4095

module _ (samples : List ℕ) (width height threshold : ℕ) where
  valid : size_out width height ≡ false → length_out samples width height ≡ false → threshold_out threshold ≡ false → sample_out samples ≡ false
      → Valid samples width height threshold
  valid p q r s =
      let a = size-says width height p in
      record {
        wide = a.0;
        high = a.1;
        whole = eqb-true (length samples) (width * height) (not-false _ q) ∙ mul_comm width height;
        reached = within-says 1 4095 threshold (not-false _ r);
        small = none_over samples (ltb-false (first_over samples) (length samples) s);
      }

  pub accepted-valid : first_applying (frame_rows samples width height threshold) ≡ Ok tt → Valid samples width height threshold
  unfolding Silent
  accepted-valid e =
      let s = accepted-silent (frame_rows samples width height threshold) e in
      valid s.0 s.1.0 s.1.1.0 s.1.1.1.0

  -- and a call with such inputs is accepted
  pub valid-accepted : Valid samples width height threshold → first_applying (frame_rows samples width height threshold) ≡ Ok tt
  unfolding first_applying
  valid-accepted v =
      let e : length samples ≡ width * height = v.whole ∙ mul_comm height width in
      rw (
        le-leb 7 width v.wide.0,
        le-leb width 1024 v.wide.1,
        le-leb 7 height v.high.0,
        le-leb height 1024 v.high.1,
        eq-eqb (length samples) (width * height) e,
        le-leb 1 threshold v.reached.0,
        le-leb threshold 4095 v.reached.1,
        over_none samples v.small,
      )

  -- with a pixel that lies in the frame
  pub accepted-pixel : (r c : ℕ) → first_applying (pixel_rows samples width height threshold r c) ≡ Ok tt → Valid samples width height threshold × (r < height)
      × (c < width)
  unfolding Silent
  accepted-pixel r c e =
      let s = accepted-silent (pixel_rows samples width height threshold r c) e in
      let a = neither-true (leb height r) (leb width c) s.1.1.1.1.0 in
      (valid s.0 s.1.0 s.1.1.0 s.1.1.1.0, leb-false height r a.0, leb-false width c a.1)

-- ---- the pixel's row behind the frame's

module _ (samples : List ℕ) (width height threshold r c : ℕ) where
  -- the frame's refusal, or the pixel's
  pixel-joined : {o : Result Unit Refusal} → first_applying (frame_rows samples width height threshold) ≡ o
      → first_applying (pixel_rows samples width height threshold r c) ≡ otherwise o (first_applying (row (pixel_out width height r c) numbers.pixel ∷ []))
  pixel-joined e =
      applying-append (frame_rows samples width height threshold) (row (pixel_out width height r c) numbers.pixel ∷ [])
      ∙ ap (λ (o : Result Unit Refusal). otherwise o (first_applying (row (pixel_out width height r c) numbers.pixel ∷ []))) e

  pub pixel-refused : (f : Refusal) → first_applying (frame_rows samples width height threshold) ≡ Err f
      → first_applying (pixel_rows samples width height threshold r c) ≡ Err f
  pixel-refused f e = pixel-joined e

  pub pixel-outside : first_applying (frame_rows samples width height threshold) ≡ Ok tt → pixel_out width height r c ≡ true
      → first_applying (pixel_rows samples width height threshold r c) ≡ refusal_of numbers.pixel 0
  pixel-outside e t = pixel-joined e ∙ applying-here (row (pixel_out width height r c) numbers.pixel) [] t

  pub pixel-inside : first_applying (frame_rows samples width height threshold) ≡ Ok tt → pixel_out width height r c ≡ false
      → first_applying (pixel_rows samples width height threshold r c) ≡ Ok tt
  unfolding first_applying
  pixel-inside e t = pixel-joined e ∙ applying-next (row (pixel_out width height r c) numbers.pixel) [] t

-- ---- an outcome that goes by the rows has document 01's number and place

pub frame-told : (samples : List ℕ) (width height threshold : ℕ) {o : Result Unit Refusal} → o ≡ first_applying (frame_rows samples width height threshold)
    → (o ≡ first_applying (frame_rows samples width height threshold)) × (answer_of o ≡ frame_answer samples width height threshold (accepted_with []))
unfolding answer_by
frame-told samples width height threshold e = in-terms answer_of e (outcome-by (frame_rows samples width height threshold))

pub pixel-told : (samples : List ℕ) (width height threshold r c : ℕ) {o : Result Unit Refusal} → o ≡ first_applying (pixel_rows samples width height threshold r c)
    → (o ≡ first_applying (pixel_rows samples width height threshold r c)) × (answer_of o ≡ pixel_answer samples width height threshold r c (accepted_with []))
unfolding answer_by
pixel-told samples width height threshold r c e = in-terms answer_of e (outcome-by (pixel_rows samples width height threshold r c))
