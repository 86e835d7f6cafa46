-- `ranking_votes::near::mark`: the place of a product that agrees with q is one of those that are filled. Assumes nothing.
use Rattle.std.proofs.Common.{◌≡◌, ◌∙◌, ℕ, ℤ, ◌+◌, ◌-◌, ◌/◌, ◌≤◌, ap, arith, length, get_or, take, drop, List, subst, sym}
use Rattle.std.proofs.Math.ListN.{replicate}
use borrow.Rule.Slice.PartMut.{put_mid}
use borrow.Rule.Slice.PartAt.{part_count}
use mir.Val.{SFits, to_z, of_z}
use Rattle.numbers.specs.Within.{Within}
use mir.Syntax.{w64}
use Rattle.numbers.specs.Num.{param, back}
use Rattle.ranking_votes.specs.Near.{lifted_of, place_of}
use Rattle.ranking_votes.specs.NearLaws.{near-lifted, lifted-most}
use Rattle.ranking_votes.proofs.Store.{filled, filled_at, still_marked}
use Rattle.ranking_votes.proofs.near.mark.Goals as goal

-- q lifted, as the body holds it
height : {q : ℤ} {n : ℕ} → Within 3000000000000000000 q → SFits w64 q → n ≡ lifted_of (to_z w64 (of_z w64 q)) → (n ≡ lifted_of q) × (n ≤ 6000000000000000000)
height h f e = let s = e ∙ ap lifted_of (back (param {w = w64} f)) in (s, omega (arith, s, lifted-most h))

-- the places that are filled lie in the table
record Inside (first last : ℕ) : Type 0 where
  order : first ≤ last + 1
  most : last + 1 ≤ 5330

inside :
    {lifted low high first last : ℕ} (t : ℕ) → lifted ≤ 6000000000000000000 → low ≡ lifted - t → first ≡ low / 1125899906842624 → high ≤ 6000000000000000000
    → ((n : ℕ) → n ≤ 6000000000000000000 → n ≤ lifted + t → n ≤ high)
    → last ≡ high / 1125899906842624
    → Inside first last
inside {low = low} t h l f g by k = let b = by low (omega arith) (omega arith) in record { order = omega arith; most = omega arith }

pub slice_bounds-fill-count : goal.slice_bounds-fill-count
slice_bounds-fill-count c =
    let h = height c.requires.within c.ranges.q c.lift-lifted.ensures in
    let g = c.greatest.ensures in
    (inside c.args.tolerance h.1 c.least.ensures c.place-first.ensures g.upper_bound g.by_index c.place-last.ensures).order

pub slice_bounds-fill-start : goal.slice_bounds-fill-start
slice_bounds-fill-start c =
    let h = height c.requires.within c.ranges.q c.lift-lifted.ensures in
    let g = c.greatest.ensures in
    (inside c.args.tolerance h.1 c.least.ensures c.place-first.ensures g.upper_bound g.by_index c.place-last.ensures).order

-- the table afterwards
made :
    (near filling : List ℕ) (a e : ℕ) → a ≤ e → e ≤ length near → (((y : ℕ) → y ≡ 1 → y ≡ 1) → filling ≡ replicate (length (take (e - a) (drop a near))) 1)
    → put_mid a (e - a) near filling ≡ filled near a (e - a)
made near filling a e low high f =
    ap (λ (l : List ℕ). put_mid a (e - a) near l) (f (λ y h. h) ∙ ap (λ (n : ℕ). replicate n 1) (sym (part_count near a e (low, high))))

pub returns-clause-by_index : goal.returns-clause-by_index
returns-clause-by_index c =
    let near = c.args.near.now in
    let first = c.place-first.result in
    let last = c.place-last.result in
    let h = height c.requires.within c.ranges.q c.lift-lifted.ensures in
    let g = c.greatest.ensures in
    let i = inside c.args.tolerance h.1 c.least.ensures c.place-first.ensures g.upper_bound g.by_index c.place-last.ensures in
    λ k e.
    subst (λ (l : List ℕ). get_or l k 0 ≡ 1)
    (sym (made near c.fill.new.self first (last + 1) i.order (omega (arith, i.most)) c.fill.ensures.after))
    (still_marked near first (last + 1 - first) (omega (arith, i)) k e)

pub returns-clause-marks : goal.returns-clause-marks
returns-clause-marks c =
    let x = c.args in
    let near = x.near.now in
    let first = c.place-first.result in
    let last = c.place-last.result in
    let h = height c.requires.within c.ranges.q c.lift-lifted.ensures in
    let g = c.greatest.ensures in
    let i = inside c.args.tolerance h.1 c.least.ensures c.place-first.ensures g.upper_bound g.by_index c.place-last.ensures in
    record {
      marked = λ p w e.
          let n = near-lifted p x.q x.tolerance e in
          let b = g.by_index (lifted_of p) (lifted-most w) (omega (arith, h, n)) in
          subst (λ (l : List ℕ). get_or l (place_of p) 0 ≡ 1)
          (sym (made near c.fill.new.self first (last + 1) i.order (omega (arith, i.most)) c.fill.ensures.after))
          (filled_at near first (last + 1 - first) (omega (arith, i)) (place_of p)
          (omega (arith, c.place-first.ensures, c.least.ensures, h, n)) (omega (arith, c.place-last.ensures, b, i)));
    }
