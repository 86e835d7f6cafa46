-- The walk over two catalogues: behind each step stands the list of all identities that are passed, and at the end all of it. Assumes nothing.
use Rattle.std.specs.Prelude.{◌≡◌, List, [], ◌∷◌, ◌++◌, ℕ, suc, ◌+◌, ◌≤◌, ◌<◌, eqb, length}
use Rattle.std.proofs.Math.Bool.{not}
use Rattle.std.proofs.Math.Path.{sym, ap}
use Rattle.std.proofs.Common.{subst, ◌∙◌, arith, length-append}
use Rattle.lists.specs.Order.{pick}
use Rattle.catalogue.specs.Format.{records_in}
use Rattle.catalogue_compare.specs.Changes.{kind_of, is_listed, listed}
use Rattle.catalogue_compare.specs.Places.{Rises}
use Rattle.catalogue_compare.specs.Kinds.{kind-none}
use Rattle.lists.proofs.Below.{below_next, below-skip, below_more}
use Rattle.catalogue_compare.specs.Step.{Step, step_of}
use Rattle.catalogue_compare.specs.Cut.{next-behind, cut-none}
use Rattle.catalogue_compare.specs.StepLaws.{Stepped}
use Rattle.catalogue_compare.proofs.StepLaws.{stepped}
use Rattle.catalogue_compare.specs.Walk.{told, told-most, Walked, so_far, Counted}

module _ {first second : List ℕ} (r : Rises first) (q : Rises second) {i j : ℕ} (w : Walked first second i j) where
  pub so-far-part : length (so_far w) ≤ length (listed first second)
  unfolding listed
  so-far-part = below_more (is_listed first second) w.b 4294967296 w.most

  module _ (h : i + j < records_in first + records_in second) (s : Step) (e : s ≡ step_of first second i j) where
    done : Stepped first second i j w.b s
    done = subst (Stepped first second i j w.b) (sym e) (stepped r q i j w.b w.cut-first w.cut-second h)

    pub walk-next : Walked first second s.first s.second
    walk-next = record { b = suc s.identity; most = done.narrow; cut-first = done.cut-first; cut-second = done.cut-second }

    pub walk-further : i + j < s.first + s.second
    walk-further = done.further

    pub walk-kind : s.kind ≡ kind_of first second s.identity
    walk-kind = done.told

    pub so-far-next : so_far walk-next ≡ so_far w ++ told s
    unfolding walk-next
    so-far-next =
        let a = below-skip (is_listed first second) w.b s.identity done.reached (λ x l m. ap (λ (n : ℕ). not (eqb n 0)) (done.skipped x l m)) in
        below_next (is_listed first second) s.identity
        ∙ (λ k. a k ++ pick (not (eqb (sym done.told k) 0)) (s.identity ∷ []) [])

  -- at the end of both, nothing is left out
  pub so-far-all : records_in first + records_in second ≤ i + j → so_far w ≡ listed first second
  unfolding listed
  so-far-all h =
      let a : i ≡ records_in first = omega (arith, w.cut-first.most, w.cut-second.most) in
      let c : j ≡ records_in second = omega (arith, w.cut-first.most, w.cut-second.most) in
      let m = next-behind first i (omega arith) in
      let n = next-behind second j (omega arith) in
      sym
      (below-skip (is_listed first second) w.b 4294967296 w.most
      (λ x k l. ap (λ (y : ℕ). not (eqb y 0)) (kind-none first second x (cut-none r w.cut-first x k (omega arith))
      (cut-none q w.cut-second x k (omega arith)))))

module _ {first second : List ℕ} (r : Rises first) (q : Rises second) {i j found : ℕ} (w : Counted first second i j found) where
  pub counted_next : (h : i + j < records_in first + records_in second) (s : Step) → s ≡ step_of first second i j → {next : ℕ} → next ≡ found + length (told s)
      → Counted first second s.first s.second next
  counted_next h s e n =
      record {
        walked = walk-next r q w.walked h s e;
        is = omega (arith, w.is, ap length (so-far-next r q w.walked h s e), length-append (so_far w.walked) (told s));
        few = omega (arith, w.few, told-most s, walk-further r q w.walked h s e);
      }

  pub counted-all : records_in first + records_in second ≤ i + j → found ≡ length (listed first second)
  counted-all h = w.is ∙ ap length (so-far-all r q w.walked h)
