-- Records moved to the front, and room that is filled: what stands where on the way. Assumes nothing.
use Rattle.std.specs.Prelude.{◌≡◌, ℕ, ◌+◌, ◌*◌, ◌-◌, ◌≤◌, ◌<◌, eqb, get_or, set, replicate}
use Rattle.std.proofs.Math.Path.{sym, ap}
use Rattle.std.proofs.Common.{◌∙◌, add-one, arith, drop_of_length-le, take_all}
use mathlib.Core.List.{List, [], ◌++◌, append-nil}
use Rattle.std.proofs.Math.ListN.{length, take}
use Rattle.std.proofs.lemmas.List.{length-replicate, get_or-replicate}
use Rattle.std.proofs.lemmas.List.Edits.{length-paste}
use Rattle.std.proofs.Math.Seq.{paste, paste-suc}
use Rattle.lists.specs.Order.{pick, ordered}
use Rattle.words.specs.Front.{at_front}
use Rattle.catalogue.specs.Format.{record_size}
use Rattle.catalogue_cut.specs.Flight.{record_at, records_at, freed}

-- the records below n whose mark is 0, in their order
abbrev pub marked : List ℕ → ℕ → List ℕ
marked marks n = ordered (λ k. eqb (get_or marks k 0) 0) (λ _. 0) n

-- ---- a record copied a byte at a time

-- the first k bytes of record i are copied over those of an earlier one
abbrev pub copied : List ℕ → ℕ → ℕ → ℕ → List ℕ
copied bytes i to k = paste bytes (record_size * to) (record_at bytes i) k

-- ---- the records one after the other

-- what a record adds to those before it
abbrev pub added : List ℕ → ℕ → ℕ → List ℕ
added bytes mark i = pick (eqb mark 0) (record_at bytes i) []

-- of the first i records those with a mark of 0 stand at the front
pub record Moved (bytes marks : List ℕ) (i kept : ℕ) (room : List ℕ) : Type 0 where
  pub few : kept ≤ i
  pub is : kept ≡ length (marked marks i)
  pub front : room ≡ at_front (records_at bytes (marked marks i)) bytes

-- ---- room that is filled

-- its first k bytes are filled
abbrev pub filled : List ℕ → ℕ → ℕ → List ℕ
filled bytes from k = paste bytes from (replicate (length bytes - from) freed) k

module _ (bytes : List ℕ) (from : ℕ) (h : from ≤ length bytes) where
  abbrev count : ℕ
  count = length bytes - from

  pub filled_next : (k : ℕ) → k < count → set (filled bytes from k) (from + k) freed ≡ filled bytes from (k + 1)
  filled_next k l =
      ap (set (filled bytes from k) (from + k)) (sym (get_or-replicate count k freed 0 l))
      ∙ paste-suc bytes from (replicate count freed) k 0 (omega arith) (omega (arith, length-replicate count freed))
      ∙ ap (filled bytes from) (sym (add-one k))

  pub filled-length : (k : ℕ) → k ≤ count → length (filled bytes from k) ≡ length bytes
  filled-length k l = length-paste bytes from (replicate count freed) k (omega arith) (omega (arith, length-replicate count freed))

  pub filled-all : filled bytes from count ≡ take from bytes ++ replicate count freed
  filled-all =
      (λ j. take from bytes ++ take_all count (replicate count freed) (omega (arith, length-replicate count freed)) j
      ++ drop_of_length-le bytes {i = from + count} (omega arith) j)
      ∙ append-nil (take from bytes ++ replicate count freed)
