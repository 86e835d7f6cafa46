-- The step from a cut of both catalogues: it takes the first_applying identity from there on, tells of it what the list does, and leaves both cut behind it.
-- Assumes nothing.
use Rattle.std.specs.Prelude.{◌≡◌, refl, List, ℕ, ◌+◌, ◌≤◌, ◌<◌}
use Rattle.std.proofs.Common.{sym, subst, ◌∙◌, arith}
use Rattle.std.proofs.Math.Decide.{dec_lt}
use Rattle.catalogue.specs.Format.{records_in}
use Rattle.catalogue_compare.specs.Changes.{both_kind, kind_of}
use Rattle.catalogue_compare.specs.Places.{Rises}
use Rattle.catalogue_compare.specs.Kinds.{kind-first, kind-second, kind-none, kind-both}
use Rattle.catalogue_compare.specs.Step.{next_of, step_of}
use Rattle.catalogue_compare.specs.Cut.{Cut, next-behind, next-below, cut-none, cut-past, cut-reached, cut-place, cut_has, cut-next}
use Rattle.catalogue_compare.specs.StepLaws.{step-first, step-second, step_both, Stepped}

module _ {first second : List ℕ} (r : Rises first) (q : Rises second) (i j b : ℕ) (c : Cut first i b) (d : Cut second j b)
    (h : i + j < records_in first + records_in second) where
  abbrev one : ℕ
  one = next_of first i

  abbrev other : ℕ
  other = next_of second j

  none_between : (x : ℕ) → b ≤ x → x < one → x < other → kind_of first second x ≡ 0
  none_between x l m n = kind-none first second x (cut-none r c x l m) (cut-none q d x l n)

  lower-first : one < 4294967296 → one < other → Stepped first second i j b (step_of first second i j)
  lower-first n l =
      let t = cut-reached r c one n refl in
      subst (Stepped first second i j b) (sym (step-first first second i j l))
      (record {
        reached = t;
        narrow = n;
        skipped = λ x k m. none_between x k m (omega arith);
        told = sym (kind-first first second one (cut_has r c one n refl) (cut-none q d one t l));
        cut-first = cut-next r c one n refl;
        cut-second = cut-past q d one t l;
        further = omega arith;
      })

  lower-second : other < 4294967296 → other < one → Stepped first second i j b (step_of first second i j)
  lower-second n l =
      let t = cut-reached q d other n refl in
      subst (Stepped first second i j b) (sym (step-second first second i j l))
      (record {
        reached = t;
        narrow = n;
        skipped = λ x k m. none_between x k (omega arith) m;
        told = sym (kind-second first second other (cut-none r c other t l) (cut_has q d other n refl));
        cut-first = cut-past r c other t l;
        cut-second = cut-next q d other n refl;
        further = omega arith;
      })

  same : one < 4294967296 → other ≡ one → Stepped first second i j b (step_of first second i j)
  same n e =
      let t = cut-reached r c one n refl in
      let p = cut-place r c one n refl in
      let u = cut-place q d one n e in
      subst (Stepped first second i j b) (sym (step_both first second i j (sym e)))
      (record {
        reached = t;
        narrow = n;
        skipped = λ x k m. none_between x k m (omega arith);
        told = sym (kind-both first second one (cut_has r c one n refl) (cut_has q d one n e) ∙ (λ k. both_kind first (p k) second (u k)));
        cut-first = cut-next r c one n refl;
        cut-second = cut-next q d one n e;
        further = omega arith;
      })

  -- one of the two has a record left
  pub stepped : Stepped first second i j b (step_of first second i j)
  stepped = go (dec_lt one other) (dec_lt other one) (dec_lt i (records_in first))
    where
      most-of : {bytes : List ℕ} → Rises bytes → (k : ℕ) → next_of bytes k ≤ 4294967296
      most-of {bytes} w k = by (dec_lt k (records_in bytes))
        where
          by : Dec (k < records_in bytes) → next_of bytes k ≤ 4294967296
          by (yes l) = omega (arith, next-below w k l)
          by (no l) = omega (arith, next-behind bytes k (omega arith))

      go : Dec (one < other) → Dec (other < one) → Dec (i < records_in first) → Stepped first second i j b (step_of first second i j)
      go (yes l) _ _ = lower-first (omega (arith, most-of q j)) l
      go (no l) (yes m) _ = lower-second (omega (arith, most-of r i)) m
      go (no l) (no m) (yes k) = same (next-below r i k) (omega arith)
      go (no l) (no m) (no k) = same (omega (arith, next-below q j (omega arith))) (omega arith)
