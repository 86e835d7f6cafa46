-- The list's bytes at the front of a room, to which a step adds. Assumes nothing.
use Rattle.std.specs.Prelude.{Bool, true, false, not, ◌≡◌, refl, ℕ, ◌+◌, ◌*◌, ◌≤◌, ◌<◌, eqb}
use Rattle.std.proofs.Math.Path.{sym, ap}
use Rattle.std.proofs.Common.{◌∙◌, arith, length-append}
use mathlib.Core.List.{List, [], ◌∷◌, append-nil}
use Rattle.std.proofs.Math.ListN.{length}
use Rattle.std.proofs.lemmas.List.Edits.{sets}
use Rattle.lists.specs.Order.{pick}
use Rattle.words.specs.Front.{at_front, front-more}
use Rattle.catalogue.specs.Format.{records_in}
use Rattle.catalogue_compare.specs.Changes.{kind_of, listed, record_of, encoded, changes_of}
use Rattle.catalogue_compare.specs.Places.{Rises}
use Rattle.catalogue_compare.specs.Encoded.{encoded-length, encoded-append}
use Rattle.catalogue_compare.specs.Step.{Step, step_of}
use Rattle.catalogue_compare.specs.Walk.{told, so_far}
use Rattle.catalogue_compare.proofs.WalkLaws.{so-far-part, walk-next, walk-kind, so-far-next, so-far-all}
use Rattle.catalogue_compare.specs.Written.{told_bytes, Written}

told-bytes : (kind : ℕ → ℕ) (s : Step) → s.kind ≡ kind s.identity → told_bytes s ≡ encoded kind (told s)
unfolding encoded
told-bytes kind s e = by (not (eqb s.kind 0))
  where
    by : (t : Bool) → pick t (record_of s.identity s.kind) [] ≡ encoded kind (pick t (s.identity ∷ []) [])
    by true = ap (record_of s.identity) e ∙ sym (append-nil (record_of s.identity (kind s.identity)))
    by false = refl

module _ {first second : List ℕ} (r : Rises first) (q : Rises second) {i j found : ℕ} {before room : List ℕ} (w : Written first second i j found before room)
  where
    module _
        (h : i + j < records_in first + records_in second) (s : Step) (e : s ≡ step_of first second i j)
        (long : 8 * length (listed first second) ≤ length before) where
      -- there is room for what the step adds
      pub written-room : 8 * (found + length (told s)) ≤ length before
      written-room =
          omega (
            arith,
            w.is,
            ap length (so-far-next r q w.walked h s e),
            length-append (so_far w.walked) (told s),
            so-far-part r q (walk-next r q w.walked h s e),
          )

      pub written_next : {next : ℕ} {after : List ℕ} → next ≡ found + length (told s) → after ≡ sets room (8 * found) (told_bytes s)
          → Written first second s.first s.second next before after
      written_next {next} {after} a b =
          let kind = kind_of first second in
          let t = told-bytes kind s (walk-kind r q w.walked h s e) in
          let old = encoded kind (so_far w.walked) in
          let n = so-far-next r q w.walked h s e in
          let l : 8 * found ≡ length old = omega (arith, w.is, encoded-length kind (so_far w.walked)) in
          record {
            walked = walk-next r q w.walked h s e;
            is = omega (arith, w.is, ap length n, length-append (so_far w.walked) (told s));
            front = b
                ∙ (λ k. sets (w.front k) (l k) (t k))
                ∙ front-more old (encoded kind (told s)) before (omega (arith, written-room, encoded-length kind (told s)))
                ∙ sym (ap (λ (xs : List ℕ). at_front xs before) (ap (encoded kind) n ∙ encoded-append kind (so_far w.walked) (told s)));
          }

    -- at the end it is the whole list
    pub written_all : records_in first + records_in second ≤ i + j → room ≡ at_front (changes_of first second) before
    unfolding changes_of
    written_all h = w.front ∙ ap (λ (xs : List ℕ). at_front (encoded (kind_of first second) xs) before) (so-far-all r q w.walked h)
