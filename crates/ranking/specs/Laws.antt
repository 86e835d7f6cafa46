-- What a ranking by votes is: each row names each star exactly once, by falling votes, equal ones by rising number. Assumes nothing.
use Rattle.std.specs.Prelude.{◌≡◌, List, ◌++◌, ℤ}
use Rattle.std.proofs.Math.Path.{sym, ap}
use Rattle.std.proofs.Common.{subst, ◌∙◌, ⊎_elim, zero-mul, not-suc-le-zero}
use Prim.Native.Nat.{ℕ, zero, suc, ◌+◌, ◌*◌, ◌≤◌, ◌<◌}
use Rattle.std.proofs.Math.Decide.{dec_lt}
use Rattle.std.proofs.Math.Nat.{suc-mul, mul-le-mul_right}
use native.Mathlib.Omega.{arith}
use Rattle.std.proofs.Math.ListN.{length, get_or, length-append, get_or-append}
use Rattle.std.proofs.Math.Seq.{get_or-append-add}
use Rattle.lists.specs.Laws.{count, Ahead, InOrder}
use Rattle.lists.proofs.Laws.{each-once, in_order}
use Rattle.vectors.specs.Triples.{triples}
use Rattle.ranking_votes.specs.Votes.{votes_of}
use Rattle.ranking.specs.row.Row.{every}
use Rattle.ranking.specs.Ranking.{row_of, rows_of, ranking_of}
use Rattle.ranking.specs.row.Places.{counted-at, ahead-at, order-once}
use Rattle.ranking.specs.row.RowPlaces.{every-length, every-below}

-- words of `stars` a row: each row names each star exactly once
pub record Ranks (directions stars : ℕ) (words : List ℕ) : Type 0 where
  pub sized : length words ≡ directions * stars
  pub below : (i k : ℕ) → i < directions → k < stars → get_or words (i * stars + k) 0 < stars
  pub names : (i s : ℕ) → i < directions → s < stars → (k : ℕ) × (k < stars) × (get_or words (i * stars + k) 0 ≡ s)
  pub once : (i k l : ℕ) → i < directions → k < stars → l < stars → get_or words (i * stars + k) 0 ≡ get_or words (i * stars + l) 0 → k ≡ l

module _ (directions stars : List ℤ) (tolerance : ℕ) where
  -- word k of row i
  abbrev pub word_of : ℕ → ℕ → ℕ
  word_of i k = get_or (row_of directions stars tolerance i) k 0

  pub row-length : (i : ℕ) → length (row_of directions stars tolerance i) ≡ triples stars
  unfolding row_of
  row-length i = every-length (votes_of directions stars tolerance i) (triples stars)

  pub row_below : (i k : ℕ) → k < triples stars → word_of i k < triples stars
  unfolding row_of
  row_below i k h = every-below (votes_of directions stars tolerance i) (triples stars) k h

  -- each star exactly once
  pub row_count : (i s : ℕ) → s < triples stars → count s (row_of directions stars tolerance i) ≡ 1
  unfolding row_of
  row_count i s h = each-once every (votes_of directions stars tolerance i) (triples stars) s h

  pub row-names : (i s : ℕ) → s < triples stars → (k : ℕ) × (k < triples stars) × (word_of i k ≡ s)
  row-names i s h =
      let r = counted-at s (row_of directions stars tolerance i) (omega (arith, row_count i s h)) in
      (r.0, omega (arith, r.1, row-length i), r.2)

  row-order : (i : ℕ) → InOrder (votes_of directions stars tolerance i) (row_of directions stars tolerance i)
  unfolding row_of
  row-order i = in_order every (votes_of directions stars tolerance i) (triples stars)

  pub row-once : (i k l : ℕ) → k < triples stars → l < triples stars → word_of i k ≡ word_of i l → k ≡ l
  row-once i k l h m e =
      order-once (votes_of directions stars tolerance i) (row_of directions stars tolerance i) (row-order i) k l (omega (arith, row-length i))
      (omega (arith, row-length i)) e

  row-ahead : (i k l : ℕ) → k < l → l < triples stars → Ahead (votes_of directions stars tolerance i) (word_of i k) (word_of i l)
  row-ahead i k l h m = ahead-at (votes_of directions stars tolerance i) (row_of directions stars tolerance i) (row-order i) k l h (omega (arith, row-length i))

  -- votes fall along a row
  pub row-falls : (i k l : ℕ) → k < l → l < triples stars → votes_of directions stars tolerance i (word_of i l) ≤ votes_of directions stars tolerance i
      (word_of i k)
  row-falls i k l h m = ⊎_elim (λ p. omega arith) (λ p. omega arith) (row-ahead i k l h m)

  -- and stars of equal votes stand by rising number
  pub row-rises : (i k l : ℕ) → k < l → l < triples stars → votes_of directions stars tolerance i (word_of i k) ≡ votes_of directions stars tolerance i
      (word_of i l) → word_of i k < word_of i l
  row-rises i k l h m e = ⊎_elim (λ p. absurd (omega arith)) (λ p. p.1) (row-ahead i k l h m)

  pub rows-length : (n : ℕ) → length (rows_of directions stars tolerance n) ≡ n * triples stars
  unfolding rows_of
  rows-length zero = sym (zero-mul (triples stars))
  rows-length (suc n) = length-append (rows_of directions stars tolerance n) _ ∙ rw (rows-length n, row-length, suc-mul)

  -- row i stands from word i x stars on
  rows_at : (n i k : ℕ) → i < n → k < triples stars → get_or (rows_of directions stars tolerance n) (i * triples stars + k) 0 ≡ word_of i k
  unfolding rows_of
  rows_at zero i k h l = absurd (not-suc-le-zero h)
  rows_at (suc n) i k h l = go (dec_lt i n) (λ p. rows_at n i k p l)
    where
      go : Dec (i < n) → (i < n → get_or (rows_of directions stars tolerance n) (i * triples stars + k) 0 ≡ word_of i k)
          → get_or (rows_of directions stars tolerance n ++ row_of directions stars tolerance n) (i * triples stars + k) 0 ≡ word_of i k
      go (yes p) f =
          get_or-append (rows_of directions stars tolerance n) _ 0 (i * triples stars + k)
          (omega (arith, rows-length n, suc-mul i (triples stars), mul-le-mul_right (triples stars) p))
          ∙ f p
      go (no p) f =
          let e : i ≡ n = omega arith in
          let m : i * triples stars + k ≡ length (rows_of directions stars tolerance n) + k = ap (λ (x : ℕ). x * triples stars + k) e
          ∙ ap (λ (x : ℕ). x + k) (sym (rows-length n)) in
          ap (λ (x : ℕ). get_or (rows_of directions stars tolerance n ++ row_of directions stars tolerance n) x 0) m
          ∙ get_or-append-add (rows_of directions stars tolerance n) (row_of directions stars tolerance n) k 0
          ∙ ap (λ (x : ℕ). word_of x k) (sym e)

  pub ranking-at : (i k : ℕ) → i < triples directions → k < triples stars → get_or (ranking_of directions stars tolerance) (i * triples stars + k) 0 ≡ word_of i k
  unfolding ranking_of
  ranking-at i k h l = rows_at (triples directions) i k h l

  -- directions x stars words
  pub ranking-length : length (ranking_of directions stars tolerance) ≡ triples directions * triples stars
  unfolding ranking_of
  ranking-length = rows-length (triples directions)

  -- the ranking names each star exactly once in each row
  pub ranks : Ranks (triples directions) (triples stars) (ranking_of directions stars tolerance)
  ranks =
      record {
        sized = ranking-length;
        below = λ i k h l. subst (λ (w : ℕ). w < triples stars) (sym (ranking-at i k h l)) (row_below i k l);
        names = λ i s h l. let r = row-names i s l in (r.0, r.1, ranking-at i r.0 h r.1 ∙ r.2);
        once = λ i k l h m n e. row-once i k l m n (sym (ranking-at i k h m) ∙ e ∙ ranking-at i l h n);
      }
