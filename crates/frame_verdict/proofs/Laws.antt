-- What a verdict says of its pixel. Assumes nothing.
use Rattle.std.specs.Prelude.{Bool, ◌&&◌, List, ℕ, ◌≤◌}
use Rattle.std.proofs.Math.Bool.{true, false, cond, not}
use Rattle.std.proofs.Math.Path.{◌≡◌, refl, ap}
use Rattle.std.proofs.Common.{sym, ◌∙◌, arith}
use borrow.Author.Tests.{ltb-false}
use Rattle.lists.specs.Contradiction.{contradiction}
use Rattle.frame_window.specs.Window.{at, beaten}
use Rattle.frame_window.specs.neighbours.Neighbours.{lone}
use Rattle.frame_window.specs.neighbours.Laws.{lone-says, lit-says, never-at-one}
use Rattle.frame_centroid.specs.Centroid.{brightness, centroid_of}
use Rattle.frame_centroid.specs.Range.{x-close, y-close}
use Rattle.frame_centroid.specs.declared.Centroid.{Centroid}
use Rattle.frame_verdict.specs.declared.Kind.TheVariants.{Dark, Beaten, Edge, Lone, Measured}
use Rattle.frame_verdict.specs.Verdict.{dark, edge, peak, peak_kind, kind_of}
use Rattle.frame_verdict.specs.Inside.{inside, amid}
use Rattle.frame_verdict.proofs.Bright as light
use Rattle.frame_verdict.specs.Laws.{MeasuredAs, LoneAs}

module _ (samples : List ℕ) (width height threshold row column : ℕ) where
  -- no pixel beats a peak
  pub peak-unbeaten : peak samples width height threshold row column ≡ true → beaten samples width height row column ≡ false
  unfolding peak
  peak-unbeaten = go (dark samples width threshold row column) (beaten samples width height row column)
    where
      go : (a b : Bool) → not a && not b ≡ true → b ≡ false
      go a false e = refl
      go false true e = let z : ◌≡◌ {A = Bool} false true = e in cc
      go true true e = let z : ◌≡◌ {A = Bool} false true = e in cc

  pub peak-is : peak samples width height threshold row column ≡ true → kind_of samples width height threshold row column
      ≡ peak_kind samples width height threshold row column
  unfolding peak kind_of
  peak-is = go (dark samples width threshold row column) (beaten samples width height row column)
    where
      go : (a b : Bool) → not a && not b ≡ true → cond a Dark (cond b Beaten (peak_kind samples width height threshold row column))
          ≡ peak_kind samples width height threshold row column
      go false false e = refl
      go false true e = let z : ◌≡◌ {A = Bool} false true = e in cc
      go true b e = let z : ◌≡◌ {A = Bool} false true = e in cc

module _ (samples : List ℕ) (width height threshold row column : ℕ) (c : Centroid) where
  pub measured-as : kind_of samples width height threshold row column ≡ Measured c → MeasuredAs samples width height threshold row column c
  unfolding kind_of peak_kind
  measured-as = go (dark samples width threshold row column) refl (beaten samples width height row column) refl (edge width height row column) refl
      (lone samples width height threshold row column) refl
    where
      go : (a : Bool) → dark samples width threshold row column ≡ a → (b : Bool) → beaten samples width height row column ≡ b
          → (d : Bool) → edge width height row column ≡ d → (l : Bool) → lone samples width height threshold row column ≡ l
          → cond a Dark (cond b Beaten (cond d Edge (cond l Lone (Measured (centroid_of samples width row column))))) ≡ Measured c
          → MeasuredAs samples width height threshold row column c
      go true p b q d r l s m = contradiction (cc)
      go false p true q d r l s m = contradiction (cc)
      go false p false q true r l s m = contradiction (cc)
      go false p false q false r true s m = contradiction (cc)
      go false p false q false r false s m =
          let i = inside width height row column r in
          record {
            bright = ltb-false (at samples width row column) threshold p;
            unbeaten = q;
            room = i;
            lit = lit-says samples width height threshold row column s;
            some = light.bright samples width height row column q i;
            is = cc;
          }

  -- "0 to 261,888" is the range of a position that is handed on, and 1 the least brightness
  pub measured-range : width ≤ 1024 → height ≤ 1024 → kind_of samples width height threshold row column ≡ Measured c
      → (c.x ≤ 261888) × (c.y ≤ 261888) × (1 ≤ c.brightness)
  unfolding centroid_of
  measured-range w h e =
      let m = measured-as e in
      let i = m.room in
      let p = x-close samples width row column (omega arith) in
      let q = y-close samples width row column (omega arith) in
      let u : c.x ≡ (centroid_of samples width row column).x = ap (λ (s : Centroid). s.x) m.is in
      let v : c.y ≡ (centroid_of samples width row column).y = ap (λ (s : Centroid). s.y) m.is in
      let b : c.brightness ≡ brightness samples width row column = ap (λ (s : Centroid). s.brightness) m.is in
      (omega (arith, p.most, i.right), omega (arith, q.most, i.below), omega (arith, m.some))

module _ (samples : List ℕ) (width height threshold row column : ℕ) where
  -- of a peak: it is no edge, and none of its neighbours reaches half the threshold
  pub peak-lone : peak_kind samples width height threshold row column ≡ Lone → (edge width height row column ≡ false)
      × (lone samples width height threshold row column ≡ true)
  unfolding peak_kind
  peak-lone = go (edge width height row column) (lone samples width height threshold row column)
    where
      go : (d l : Bool) → cond d Edge (cond l Lone (Measured (centroid_of samples width row column))) ≡ Lone → (d ≡ false) × (l ≡ true)
      go true l e = contradiction (cc)
      go false true e = (refl, refl)
      go false false e = contradiction (cc)

  lone-peak : kind_of samples width height threshold row column ≡ Lone
      → (dark samples width threshold row column ≡ false) × (beaten samples width height row column ≡ false)
      × (peak_kind samples width height threshold row column ≡ Lone)
  unfolding kind_of
  lone-peak = go (dark samples width threshold row column) (beaten samples width height row column)
    where
      go : (a b : Bool) → cond a Dark (cond b Beaten (peak_kind samples width height threshold row column)) ≡ Lone
          → (a ≡ false) × (b ≡ false) × (peak_kind samples width height threshold row column ≡ Lone)
      go true b e = contradiction (cc)
      go false true e = contradiction (cc)
      go false false e = (refl, refl, e)

  pub lone-as : kind_of samples width height threshold row column ≡ Lone → LoneAs samples width height threshold row column
  lone-as e =
      let p = lone-peak e in
      let t = peak-lone p.2 in
      record {
        bright = ltb-false (at samples width row column) threshold p.0;
        unbeaten = p.1;
        room = inside width height row column t.0;
        alone = lone-says samples width height threshold row column t.1;
      }

-- with threshold 1 nothing is lone
pub none-lone-at-one : (samples : List ℕ) (width height row column : ℕ) → kind_of samples width height 1 row column ≡ Lone → ⊥
none-lone-at-one samples width height row column e =
    let t = peak-lone samples width height 1 row column (lone-peak samples width height 1 row column e).2 in
    let n = never-at-one samples width height row column (amid width height row column (inside width height row column t.0)) in
    contradiction (sym n ∙ t.1)
