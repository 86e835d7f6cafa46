-- One star more: where it lies in the box it is the first there, or a second.
use Rattle.std.proofs.Common.{◌≡◌, refl, sym, ap, subst, ◌∙◌, Bool, true, false, ℕ, ◌+◌, ◌<◌, Option, Some, None, length, take, length-take-le, arith}
use Rattle.std.specs.Prelude.{MatchOption, is_some}
use Rattle.std.proofs.lemmas.List.{get_or-take}
use Rattle.lists.specs.First.{first}
use Rattle.lists.proofs.First.{first-is}
use Rattle.lists.specs.Number.{one, number}
use Rattle.lists.proofs.NumberLaws.{number-next}
use Rattle.lists.proofs.One.{first_counted, only_one, counted-twice}
use Rattle.frame_centroid.specs.declared.Centroid.{Centroid}
use Rattle.frame_list.specs.declared.Report.{Report}
use Rattle.frame_list.specs.Stars.{nought}
use Rattle.guider_rule.specs.declared.Guide.{Guide}
use Rattle.guider_rule.specs.Guider.{star_at, in_box}
use Rattle.guider.specs.boxes.Single.{holds, Alone, IsSingle}
use Rattle.guider.proofs.boxes.single.Goals as goal
use Rattle.guider.proofs.boxes.single.Goals.{then-in_box+else-is_some, else-in_box}

-- the only one is the first
the-only : (n : ℕ) (test : ℕ → Bool) (k : ℕ) → number n test ≡ 1 → k < n → test k ≡ true → k ≡ first test n
the-only n test k e h t =
    let l = first_counted n test (omega arith) in
    only_one n test e k (first test n) h l t ((first-is test n).taken l)

module _ (half : ℕ) (guide : Guide) (r : Report) (k : ℕ) where
  abbrev Passed : Option Centroid → ℕ → Type 0
  Passed single n = MatchOption single (number n (holds half guide r) ≡ 0) (Alone half guide r n)

  -- the first that lies in the box
  found : number k (holds half guide r) ≡ 0 → holds half guide r k ≡ true → Alone half guide r (k + 1) (star_at r k)
  found z t =
      let f : ℕ → Bool = holds half guide r in
      let e : number (k + 1) f ≡ 1 = omega (arith, number-next k f, ap one t) in
      record { one = e; this = ap (λ (m : ℕ). star_at r m) (the-only (k + 1) f k e (omega arith) t) }

  -- one that does not
  passed : (single : Option Centroid) → holds half guide r k ≡ false → Passed single k → Passed single (k + 1)
  passed None t z = omega (arith, number-next k (holds half guide r), ap one t)
  passed (Some star) t a =
      let f : ℕ → Bool = holds half guide r in
      let e : number (k + 1) f ≡ 1 = omega (arith, number-next k f, ap one t, a.one) in
      let l : first f k < k = first_counted k f (omega (arith, a.one)) in
      record { one = e; this = a.this ∙ ap (λ (m : ℕ). star_at r m) (the-only (k + 1) f (first f k) e (omega arith) ((first-is f k).taken l)) }

  none_yet : (single : Option Centroid) → is_some single ≡ false → Passed single k → number k (holds half guide r) ≡ 0
  none_yet None e z = z
  none_yet (Some star) e a = cc

  -- a second
  second : (single : Option Centroid) → is_some single ≡ true → Passed single k → (n : ℕ) → k < n → holds half guide r k ≡ true
      → number n (holds half guide r) ≡ 1 → ⊥
  second None e a n h t o = cc
  second (Some star) e a n h t o =
      let f : ℕ → Bool = holds half guide r in
      let l : first f k < k = first_counted k f (omega (arith, a.one)) in
      omega (arith, counted-twice n f (first f k) k l h ((first-is f k).taken l) t)

  -- behind the last
  told : (single : Option Centroid) → Passed single k → IsSingle half guide r k single
  told None z = λ o. omega arith
  told (Some star) a = a

pub loop-star-init : goal.loop-star-init
unfolding number
loop-star-init c = refl

pub returns-then-is_some : goal.returns-then-is_some
returns-then-is_some c =
    let r = c.args.boxes.now.report in
    let k = c.loop-star.star-index in
    let n : length (take r.count r.stars) ≡ r.count = length-take-le r.count r.stars (omega (arith, c.args.boxes.now.few)) in
    let h : k < r.count = omega arith in
    let e = get_or-take r.count r.stars k nought h in
    second c.args.boxes.now.guider.half c.args.guide r k c.loop-star.single (sym c.is_some.ensures ∙ c.if-is_some.true) c.loop-star.invariant r.count h
    (ap (in_box c.args.boxes.now.guider.half c.args.guide) (sym e) ∙ sym c.in_box.ensures ∙ c.if-in_box.true)

pub loop-star-preserved : goal.loop-star-preserved
loop-star-preserved c =
    let half = c.args.boxes.now.guider.half in
    let guide = c.args.guide in
    let r = c.args.boxes.now.report in
    let k = c.loop-star.star-index in
    let n : length (take r.count r.stars) ≡ r.count = length-take-le r.count r.stars (omega (arith, c.args.boxes.now.few)) in
    let h : k < r.count = omega arith in
    let e = get_or-take r.count r.stars k nought h in
    let b : holds half guide r k ≡ c.in_box.result = ap (in_box half guide) (sym e) ∙ sym c.in_box.ensures in
    elim c.if-in_box.branch [
      | then-in_box+else-is_some w ↦
          (subst (λ (s : Option Centroid). Passed half guide r k s (k + 1)) (sym (w.single-is ∙ ap Some e))
          (found half guide r k (none_yet half guide r k c.loop-star.single (sym w.is_some.ensures ∙ w.if-is_some.false) c.loop-star.invariant) (b ∙ w.if-in_box.true)))
      | else-in_box w ↦
          (subst (λ (s : Option Centroid). Passed half guide r k s (k + 1)) (sym w.single-is)
          (passed half guide r k c.loop-star.single (b ∙ w.if-in_box.false) c.loop-star.invariant))
    ]

pub returns : goal.returns
returns c =
    let half = c.args.boxes.now.guider.half in
    let guide = c.args.guide in
    let r = c.args.boxes.now.report in
    let n : length (take r.count r.stars) ≡ r.count = length-take-le r.count r.stars (omega (arith, c.args.boxes.now.few)) in
    let e : c.loop-star.star-index ≡ r.count = omega arith in
    subst (λ (k : ℕ). IsSingle half guide r k c.loop-star.single) e (told half guide r c.loop-star.star-index c.loop-star.single c.loop-star.invariant)
