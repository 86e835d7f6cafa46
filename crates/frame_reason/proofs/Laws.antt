-- The reason is the true one: its kind is the verdict's on every input, and what it names did decide. Assumes nothing.
use Rattle.std.specs.Prelude.{Bool, ◌≡◌, List, ℕ, ◌<◌}
use Rattle.std.proofs.Math.Bool.{true, false, cond}
use Rattle.std.proofs.Math.Path.{refl}
use Rattle.std.proofs.Common.{sym, ap, ◌∙◌}
use native.Mathlib.Omega.{arith}
use borrow.Author.Tests.{ltb-true}
use Rattle.lists.specs.Contradiction.{contradiction}
use Rattle.refusal.specs.Table.{first_applying, answered}
use Rattle.frame_window.specs.declared.Place.{Place}
use Rattle.frame_window.specs.Window.{place_of}
use Rattle.std.specs.Prelude.{Option, Some, None}
use Rattle.frame_window.specs.Window.{at, beaten, first_beating}
use Rattle.frame_window.specs.FirstLaws.{FirstAt, found-beaten, nothing-unbeaten}
use Rattle.frame_window.proofs.FirstLaws.{first_says}
use Rattle.frame_window.specs.neighbours.Neighbours.{half, lone, largest_beside}
use Rattle.frame_window.specs.neighbours.Laws.{LargestBeside, largest-is}
use Rattle.frame_centroid.specs.Centroid.{centroid_of}
use Rattle.frame_centroid.specs.declared.Centroid.{Centroid}
use Rattle.frame_verdict.specs.declared.Kind.TheVariants as kinds
use Rattle.frame_verdict.specs.Verdict.{dark, edge, peak_kind, kind_of, verdict_of}
use Rattle.frame_verdict.specs.Inside.{inside, amid}
use Rattle.frame_verdict.specs.Laws.{MeasuredAs}
use Rattle.frame_verdict.proofs.Laws.{measured-as, lone-as}
use Rattle.frame_list.specs.input.Input.{pixel_rows}
use Rattle.frame_list.specs.Calls.{judgement_of}
use Rattle.frame_reason.specs.declared.Side.{Side}
use Rattle.frame_reason.specs.declared.Reason.{Reason}
use Rattle.frame_reason.specs.declared.Reason.TheVariants.{Dark, Beaten, Edge, Lone, Measured}
use Rattle.frame_reason.specs.Side.{first_side}
use Rattle.frame_reason.specs.Reason.{peak_reason, unless_beaten, reason_of, explanation_of, kind_in}
use Rattle.frame_reason.specs.Laws.{judgement_in, FirstSide, side-says}
use Rattle.std.specs.Prelude.{Result, Ok, Err}
use Rattle.refusal.specs.declared.Refusal.{Refusal}

module _ (samples : List ℕ) (width height threshold row column : ℕ) where
  pub peak-kind-is : kind_in (peak_reason samples width height threshold row column) ≡ peak_kind samples width height threshold row column
  unfolding peak_reason peak_kind
  peak-kind-is = go (edge width height row column) (lone samples width height threshold row column)
    where
      go : (a l : Bool)
          → kind_in (cond a (Edge (first_side width height row column)) (cond l (Lone (largest_beside samples width row column))
          (Measured (centroid_of samples width row column))))
          ≡ cond a kinds.Edge (cond l kinds.Lone (kinds.Measured (centroid_of samples width row column)))
      go true l = refl
      go false true = refl
      go false false = refl

  pub kind-is : kind_in (reason_of samples width height threshold row column) ≡ kind_of samples width height threshold row column
  unfolding reason_of kind_of
  kind-is = by-dark (dark samples width threshold row column)
    where
      by-look : (b : Option Place) → first_beating samples width height row column ≡ b
          → kind_in (unless_beaten (peak_reason samples width height threshold row column) b) ≡ cond (beaten samples width height row column) kinds.Beaten
          (peak_kind samples width height threshold row column)
      by-look (Some p) e = rw (found-beaten samples width height row column p.row p.column e)
      by-look None e = rw (nothing-unbeaten samples width height row column e) peak-kind-is

      by-dark : (d : Bool)
          → kind_in (cond d (Dark (at samples width row column) threshold) (unless_beaten (peak_reason samples width height threshold row column) (first_beating samples width height row column)))
          ≡ cond d kinds.Dark (cond (beaten samples width height row column) kinds.Beaten (peak_kind samples width height threshold row column))
      by-dark true = refl
      by-dark false = by-look (first_beating samples width height row column) refl

-- the same call, the same refusals, the same kind: on every input
pub judgement-is : (samples : List ℕ) (width height threshold row column : ℕ)
    → judgement_in row column (explanation_of samples width height threshold row column) ≡ judgement_of samples width height threshold row column
unfolding explanation_of judgement_of
judgement-is samples width height threshold row column = go (first_applying (pixel_rows samples width height threshold row column))
  where
    go : (o : Result Unit Refusal)
        → judgement_in row column (answered Err (Ok (reason_of samples width height threshold row column)) o)
        ≡ answered Err (Ok (verdict_of samples width height threshold row column)) o
    go (Ok _) = rw (kind-is samples width height threshold row column)
    go (Err r) = refl

module _ (samples : List ℕ) (width height threshold row column : ℕ) where
  -- case by case: what holds of each reason under what decides for it holds of the rule's
  by-case : (P : Reason → Type 0)
      → (dark samples width threshold row column ≡ true → P (Dark (at samples width row column) threshold))
      → ((r c : ℕ) → first_beating samples width height row column ≡ Some (place_of r c) → P (Beaten r c))
      → (edge width height row column ≡ true → P (Edge (first_side width height row column)))
      → (edge width height row column ≡ false → P (Lone (largest_beside samples width row column)))
      → P (Measured (centroid_of samples width row column))
      → P (reason_of samples width height threshold row column)
  unfolding reason_of peak_reason
  by-case P d b e l m =
      go (dark samples width threshold row column) refl (first_beating samples width height row column) refl (edge width height row column) refl
      (lone samples width height threshold row column)
    where
      go : (a : Bool) → dark samples width threshold row column ≡ a → (k : Option Place) → first_beating samples width height row column ≡ k
          → (x : Bool) → edge width height row column ≡ x → (y : Bool)
          → P (cond a (Dark (at samples width row column) threshold)
          (unless_beaten
          (cond x (Edge (first_side width height row column)) (cond y (Lone (largest_beside samples width row column))
          (Measured (centroid_of samples width row column)))) k))
      go true p k q x r y = d p
      go false p (Some at) q x r y = b at.row at.column q
      go false p None q true r y = e r
      go false p None q false r true = l r
      go false p None q false r false = m

  -- the sample and the threshold: the one does not reach the other
  pub dark-says : (s t : ℕ) → reason_of samples width height threshold row column ≡ Dark s t → (s ≡ at samples width row column) × (t ≡ threshold) × (s < t)
  dark-says s t =
      by-case (λ x. x ≡ Dark s t → (s ≡ at samples width row column) × (t ≡ threshold) × (s < t))
      (λ d e.
      let p : at samples width row column ≡ s = cc in
      let q : threshold ≡ t = cc in
      (sym p, sym q, omega (arith, ltb-true (at samples width row column) threshold d)))
      (λ r c f e. contradiction (cc))
      (λ f e. contradiction (cc))
      (λ f e. contradiction (cc))
      (λ e. contradiction (cc))

  -- the pixel that beats it first
  pub beaten-says : (r c : ℕ) → reason_of samples width height threshold row column ≡ Beaten r c → FirstAt samples width height row column r c
  beaten-says r c =
      by-case (λ x. x ≡ Beaten r c → FirstAt samples width height row column r c)
      (λ d e. contradiction (cc))
      (λ j k f e.
      let p : Some (place_of j k) ≡ Some (place_of r c) = cc in
      first_says samples width height row column r c (f ∙ p))
      (λ f e. contradiction (cc))
      (λ f e. contradiction (cc))
      (λ e. contradiction (cc))

  -- the side that is broken first
  pub edge-says : (side : Side) → reason_of samples width height threshold row column ≡ Edge side → FirstSide width height row column side
  edge-says side =
      by-case (λ x. x ≡ Edge side → FirstSide width height row column side)
      (λ d e. contradiction (cc))
      (λ r c f e. contradiction (cc))
      (λ f e.
      let p : first_side width height row column ≡ side = cc in
      rw (← p) (side-says width height row column f))
      (λ f e. contradiction (cc))
      (λ e. contradiction (cc))

  -- the largest sample among the eight, which is below half the threshold
  pub lone-says : (m : ℕ) → reason_of samples width height threshold row column ≡ Lone m → LargestBeside samples width height row column m × (m < half threshold)
  lone-says m e =
      let a = lone-as samples width height threshold row column (sym (kind-is samples width height threshold row column) ∙ ap kind_in e) in
      let l = largest e in
      let o = l.one_of in
      (l, omega (arith, o.is, a.alone o.r o.c o.near_by))
    where
      largest : reason_of samples width height threshold row column ≡ Lone m → LargestBeside samples width height row column m
      largest =
          by-case (λ x. x ≡ Lone m → LargestBeside samples width height row column m)
          (λ d e. contradiction (cc))
          (λ r c f e. contradiction (cc))
          (λ f e. contradiction (cc))
          (λ f e.
          let p : largest_beside samples width row column ≡ m = cc in
          rw (← p) (largest-is samples width height row column (amid width height row column (inside width height row column f))))
          (λ e. contradiction (cc))

  -- the centroid of its window
  pub measured-says : (c : Centroid) → reason_of samples width height threshold row column ≡ Measured c → MeasuredAs samples width height threshold row column c
  measured-says c e = measured-as samples width height threshold row column c (sym (kind-is samples width height threshold row column) ∙ ap kind_in e)
