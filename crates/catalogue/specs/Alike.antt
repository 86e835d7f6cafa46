-- Two valid catalogues with the same identities and directions, whatever their magnitudes. Their decoded stars are the same, and so is all else that a call
-- sees of a catalogue: its refusals, its number of records and its identities. Assumes nothing.
use Rattle.std.specs.Prelude.{true, not, ◌≡◌, List, [], ◌∷◌, ◌++◌, ltb}
use Rattle.std.proofs.Math.Bool.{cond}
use Rattle.std.proofs.Math.Path.{refl}
use Rattle.std.proofs.Common.{sym, ap, ◌∙◌, arith}
use Prim.Native.Nat.{ℕ, zero, suc, ◌≤◌, ◌<◌, min}
use Rattle.std.proofs.Math.Decide.{dec_lt}
use borrow.Author.Tests.{le-ltb}
use Rattle.refusal.specs.Numbers.{catalogue, record_rule}
use Rattle.refusal.specs.Table.{Row, row, row_at, first_applying}
use Rattle.refusal.specs.Counted.{counted_of}
use Rattle.catalogue.specs.Format.{most_records, records_in, identity_of, component_of}
use Rattle.catalogue.specs.Check.{refusals_of, checked_of}
use Rattle.catalogue.specs.Stars.{stars_in, stars_to, stars_of, identity_for}
use Rattle.catalogue.specs.Valid.{Valid}
use Rattle.catalogue.specs.RuleLaws.{length-ok}
use Rattle.catalogue.specs.CheckLaws.{broken-none}

pub record Alike (first second : List ℕ) : Type 0 where
  pub valid : Valid first
  pub other : Valid second
  pub count : records_in first ≡ records_in second
  pub identity : (i : ℕ) → i < records_in first → identity_of first i ≡ identity_of second i
  pub direction : (i k : ℕ) → i < records_in first → k < 3 → component_of first i k ≡ component_of second i k

-- the rows of a valid catalogue say nothing of its bytes but how many records there are
abbrev silent : ℕ → List Row
silent n = row (not true) catalogue ∷ row_at (ltb n n) record_rule n ∷ []

valid-rows : (bytes : List ℕ) → Valid bytes → refusals_of bytes ≡ silent (records_in bytes)
unfolding refusals_of
valid-rows bytes v =
    let l = length-ok bytes v.size in
    let b = broken-none bytes v in
    (λ j. row (not (l j)) catalogue ∷ row_at (ltb (b j) (records_in bytes)) record_rule (b j) ∷ [])

module _ {first second : List ℕ} (a : Alike first second) where
  to_same : (n : ℕ) → n ≤ records_in first → stars_to first n ≡ stars_to second n
  unfolding stars_to
  to_same zero h = refl
  to_same (suc n) h =
      let d : (k : ℕ) → k < 3 → component_of first n k ≡ component_of second n k = λ k l. a.direction n k (omega arith) l in
      let x = d 0 (omega arith) in
      let y = d 1 (omega arith) in
      let z = d 2 (omega arith) in
      (λ j. to_same n (omega arith) j ++ (x j ∷ y j ∷ z j ∷ []))

  -- the decoded stars
  pub stars-same : stars_of first ≡ stars_of second
  unfolding stars_of
  stars-same = to_same (stars_in first) (omega arith) ∙ (λ j. stars_to second (min (a.count j) most_records))

  -- the refusals
  pub rows_same : refusals_of first ≡ refusals_of second
  rows_same = valid-rows first a.valid ∙ ap silent a.count ∙ sym (valid-rows second a.other)

  -- the answer of the check
  pub checked-same : checked_of first ≡ checked_of second
  unfolding checked_of
  checked-same = (λ j. counted_of (a.count j) (first_applying (rows_same j)))

  -- the identities
  pub identity-same : (i : ℕ) → identity_for first i ≡ identity_for second i
  unfolding identity_for
  identity-same i = go (dec_lt i (records_in first))
    where
      go : Dec (i < records_in first) → cond (ltb i (records_in first)) (identity_of first i) 0 ≡ cond (ltb i (records_in second)) (identity_of second i) 0
      go (yes h) = (λ j. cond (ltb i (a.count j)) (a.identity i h j) 0)
      go (no h) = rw (le-ltb i (records_in first) (omega arith), le-ltb i (records_in second) (omega (arith, a.count)))
