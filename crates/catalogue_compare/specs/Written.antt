-- The list's bytes at the front of a room, to which a step adds. Assumes nothing.
use Rattle.std.specs.Prelude.{not, ◌≡◌, ℕ, ◌+◌, ◌<◌, eqb}
use Rattle.std.proofs.Math.Path.{sym, ap}
use Rattle.std.proofs.Common.{◌∙◌, eq-eqb, ne_eqb}
use mathlib.Core.List.{List, []}
use Rattle.std.proofs.Math.ListN.{length}
use Rattle.std.proofs.lemmas.List.Edits.{sets}
use Rattle.lists.specs.Order.{pick}
use Rattle.words.specs.Bytes.{bytes_of}
use Rattle.words.specs.BytesLaws.{bytes-join, put-join}
use Rattle.words.specs.Front.{at_front}
use Rattle.catalogue_compare.specs.Changes.{kind_of, record_of, encoded}
use Rattle.catalogue_compare.specs.Step.{Step}
use Rattle.catalogue_compare.specs.Walk.{Walked, so_far, walk_start, so-far-none}

-- a record written in two parts
pub parts-written : (room : List ℕ) (at identity kind : ℕ) → kind < 4294967296
    → sets (sets room at (bytes_of 4 identity)) (at + 4) (bytes_of 4 kind) ≡ sets room at (record_of identity kind)
unfolding record_of
parts-written room at identity kind h =
    put-join room at 4 4 identity kind h ∙ ap (sets room at) (bytes-join 4 4 identity kind h)

-- ---- what a step adds

-- its bytes: a record, or none where nothing is said
abbrev pub told_bytes : Step → List ℕ
told_bytes s = pick (not (eqb s.kind 0)) (record_of s.identity s.kind) []

pub bytes-none : (s : Step) → s.kind ≡ 0 → told_bytes s ≡ []
bytes-none s e = rw (eq-eqb s.kind 0 e)

pub bytes_one : (s : Step) → (s.kind ≡ 0 → ⊥) → told_bytes s ≡ record_of s.identity s.kind
bytes_one s d = rw (ne_eqb s.kind 0 d)

-- ---- the walk that writes

-- the list so far stands at the front of the room
pub record Written (first second : List ℕ) (i j found : ℕ) (before room : List ℕ) : Type 0 where
  pub walked : Walked first second i j
  pub is : found ≡ length (so_far walked)
  pub front : room ≡ at_front (encoded (kind_of first second) (so_far walked)) before

module _ (first second before : List ℕ) where
  pub written_start : Written first second 0 0 0 before before
  unfolding encoded
  written_start =
      let e = so-far-none first second in
      record {
        walked = walk_start first second;
        is = sym (ap length e);
        front =
            sym (ap (λ (xs : List ℕ). at_front (encoded (kind_of first second) xs) before) e);
      }
