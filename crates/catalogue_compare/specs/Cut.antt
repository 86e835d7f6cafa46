-- A catalogue cut at an identity: so many records are below it, and all others are not. Assumes nothing.
use Rattle.std.specs.Prelude.{true, false, ◌≡◌, List, ℕ, suc, ◌+◌, ◌≤◌, ◌<◌}
use Rattle.std.proofs.Common.{sym, ap, ◌∙◌, le_refl, not-suc-le-zero, arith, lt-ltb, le-ltb}
use Rattle.std.proofs.Math.Decide.{dec_lt, ℕ_discrete}
use Rattle.catalogue.specs.Format.{records_in, identity_of}
use Rattle.catalogue_compare.specs.Changes.{place_of, has}
use Rattle.catalogue_compare.specs.Places.{Rises, place_is, place_none, place-has}
use Rattle.catalogue_compare.specs.Step.{next_of}

-- i records have an identity below b
pub record Cut (bytes : List ℕ) (i b : ℕ) : Type 0 where
  pub most : i ≤ records_in bytes
  pub below : (k : ℕ) → k < i → identity_of bytes k < b
  pub above : (k : ℕ) → i ≤ k → k < records_in bytes → b ≤ identity_of bytes k

pub cut-start : (bytes : List ℕ) → Cut bytes 0 0
cut-start bytes = record { most = omega arith; below = λ k h. absurd (not-suc-le-zero h); above = λ k h l. omega arith }

-- ---- the next record

module _ (bytes : List ℕ) (i : ℕ) where
  pub next-inside : i < records_in bytes → next_of bytes i ≡ identity_of bytes i
  unfolding next_of
  next-inside h = rw (lt-ltb i (records_in bytes) h)

  pub next-behind : records_in bytes ≤ i → next_of bytes i ≡ 4294967296
  unfolding next_of
  next-behind h = rw (le-ltb i (records_in bytes) h)

  -- an identity is there exactly where a record is
  pub next_here : next_of bytes i < 4294967296 → i < records_in bytes
  next_here l = go (dec_lt i (records_in bytes))
    where
      go : Dec (i < records_in bytes) → i < records_in bytes
      go (yes h) = h
      go (no h) = absurd (omega (arith, next-behind (omega arith)))

-- ---- of a catalogue that is cut

module _ {bytes : List ℕ} (r : Rises bytes) where
  pub next-below : (i : ℕ) → i < records_in bytes → next_of bytes i < 4294967296
  next-below i h = omega (arith, next-inside bytes i h, r.narrow i)

  next-least : (i k : ℕ) → i ≤ k → k < records_in bytes → next_of bytes i ≤ identity_of bytes k
  next-least i k h l = go (ℕ_discrete i k)
    where
      go : Dec (i ≡ k) → next_of bytes i ≤ identity_of bytes k
      go (yes e) = omega (arith, next-inside bytes i (omega arith), ap (identity_of bytes) e)
      go (no d) = omega (arith, next-inside bytes i (omega arith), r.rising i k (omega arith) l)

  module _ {i b : ℕ} (c : Cut bytes i b) where
    -- no identity from b up to the next record's is in the catalogue
    pub cut-none : (x : ℕ) → b ≤ x → x < next_of bytes i → has bytes x ≡ false
    cut-none x h l = place_none bytes x (λ k m e. go k m e (dec_lt k i))
      where
        go : (k : ℕ) → k < records_in bytes → identity_of bytes k ≡ x → Dec (k < i) → ⊥
        go k m e (yes p) = omega (arith, c.below k p)
        go k m e (no p) = omega (arith, next-least i k (omega arith) m)

    pub cut-past : (x : ℕ) → b ≤ x → x < next_of bytes i → Cut bytes i (suc x)
    cut-past x h l =
        record {
          most = c.most;
          below = λ k p. omega (arith, c.below k p);
          above = λ k p m. omega (arith, next-least i k p m);
        }

    -- the next record has its identity alone, and the cut moves behind it
    module _ (x : ℕ) (h : x < 4294967296) (e : next_of bytes i ≡ x) where
      inside : i < records_in bytes
      inside = next_here bytes i (omega arith)

      is : identity_of bytes i ≡ x
      is = sym (next-inside bytes i inside) ∙ e

      pub cut-reached : b ≤ x
      cut-reached = omega (arith, c.above i (le_refl i) inside, is)

      pub cut-place : place_of bytes x ≡ i
      cut-place = place_is bytes x i inside is (λ k l d. omega (arith, c.below k l, cut-reached))

      pub cut_has : has bytes x ≡ true
      cut_has = place-has bytes x i inside cut-place

      pub cut-next : Cut bytes (i + 1) (suc x)
      cut-next =
          record {
            most = omega (arith, inside);
            below = λ k l. go k l (ℕ_discrete k i);
            above = λ k l m. omega (arith, r.rising i k (omega arith) m, is);
          }
        where
          go : (k : ℕ) → k < i + 1 → Dec (k ≡ i) → identity_of bytes k < suc x
          go k l (yes d) = omega (arith, ap (identity_of bytes) d, is)
          go k l (no d) = omega (arith, c.below k (omega arith), cut-reached)
