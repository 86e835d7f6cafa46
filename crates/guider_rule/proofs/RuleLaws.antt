-- The rule of a guider and of a frame's list in plain terms: each test says just that. Assumes nothing.
use Rattle.std.specs.Prelude.{true, ◌≡◌, ℕ, ◌≤◌, ◌<◌, eqb}
use Rattle.std.proofs.Math.Bool.{not}
use Rattle.std.proofs.Common.{sym}
use Rattle.std.proofs.Math.Path.{ap}
use Rattle.std.proofs.Math.Decide.{dec_lt}
use native.Mathlib.Omega.{arith}
use Rattle.std.proofs.Math.Dec.{leb}
use borrow.Author.Tests.{leb-true, le-leb, eqb-false, ne_eqb, not-true}
use Rattle.lists.specs.TestsLaws.{all_true, all_of, and_left, and_right, and_both}
use Rattle.frame_list.specs.declared.Report.{Report}
use Rattle.guider_rule.specs.declared.Guider.{Guider}
use Rattle.guider_rule.specs.Guider.{guide_at, star_at}
use Rattle.guider_rule.specs.Rule.{widest, farthest, on_frame, new_identity, guide_ok, guider_ok, list_ok}
use Rattle.guider_rule.specs.RuleLaws.{OnFrame, GuiderRule, ListRule}

on-frame : (x y : ℕ) → on_frame x y ≡ true → OnFrame x y
on-frame x y e = record { across = leb-true x farthest (and_left _ _ e); down = leb-true y farthest (and_right (leb x farthest) _ e) }

frame_on : (x y : ℕ) → OnFrame x y → on_frame x y ≡ true
frame_on x y h = and_both _ _ (le-leb x farthest h.across) (le-leb y farthest h.down)

-- of two that differ one comes first
one_of : (i j : ℕ) → (i < j → ⊥) → (j < i → ⊥) → i ≡ j
one_of i j a b = go (dec_lt i j) (dec_lt j i)
  where
    go : Dec (i < j) → Dec (j < i) → i ≡ j
    go (yes h) q = absurd (a h)
    go (no f) (yes h) = absurd (b h)
    go (no f) (no h) = omega arith

module _ (g : Guider) where
  parts : (i : ℕ) → guide_ok g i ≡ true → OnFrame (guide_at g i).x (guide_at g i).y × ((guide_at g i).misses ≤ 5) × (new_identity g i ≡ true)
  unfolding guide_ok
  parts i e =
      let m = leb (guide_at g i).misses 5 in
      let t = and_right (on_frame (guide_at g i).x (guide_at g i).y) _ e in
      (on-frame _ _ (and_left _ _ e), leb-true _ 5 (and_left m _ t), and_right m _ t)

  differ : (i j : ℕ) → i < j → new_identity g j ≡ true → (guide_at g i).identity ≡ (guide_at g j).identity → ⊥
  differ i j h e q =
      let t = all_true j (λ m. not (eqb (guide_at g m).identity (guide_at g j).identity)) e i h in
      eqb-false _ _ (not-true (eqb (guide_at g i).identity (guide_at g j).identity) t) q

  pub guider-keeps : guider_ok g ≡ true → GuiderRule g
  unfolding guider_ok
  guider-keeps e =
      let t = and_right (leb g.half widest) _ e in
      let k = all_true g.count (guide_ok g) (and_right (leb g.count 4) _ t) in
      record {
        narrow = leb-true _ _ (and_left _ _ e);
        few = leb-true _ _ (and_left _ _ t);
        places = λ i h. (parts i (k i h)).0;
        believed = λ i h. (parts i (k i h)).1;
        once = λ i j h l q. one_of i j (λ b. differ i j b (parts j (k j l)).2 q) (λ b. differ j i b (parts i (k i h)).2 (sym q));
      }

  pub guider-ok : GuiderRule g → guider_ok g ≡ true
  unfolding guider_ok guide_ok
  guider-ok r =
      and_both _ _ (le-leb _ _ r.narrow)
      (and_both _ _ (le-leb _ _ r.few)
      (all_of g.count _
      (λ i h. and_both _ _ (frame_on _ _ (r.places i h))
      (and_both _ _ (le-leb _ 5 (r.believed i h))
      (all_of i _ (λ j l. ap not (ne_eqb _ _ (λ q. absurd (apart j i l (r.once j i (omega arith) h q))))))))))
    where
      apart : (j i : ℕ) → j < i → j ≡ i → ⊥
      apart j i l q = omega arith

module _ (r : Report) where
  pub list-keeps : list_ok r ≡ true → ListRule r
  unfolding list_ok
  list-keeps e =
      record {
        few = leb-true _ _ (and_left _ _ e);
        places = λ k h. on-frame _ _ (all_true r.count (λ m. on_frame (star_at r m).x (star_at r m).y) (and_right (leb r.count 8) _ e) k h);
      }

  pub list-ok : ListRule r → list_ok r ≡ true
  unfolding list_ok
  list-ok h = and_both _ _ (le-leb _ _ h.few) (all_of r.count _ (λ k l. frame_on _ _ (h.places k l)))
