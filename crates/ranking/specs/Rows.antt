-- Rows by the counters of their directions, written one after the other into a room. Assumes nothing.
use Rattle.std.specs.Prelude.{◌≡◌, List, ◌++◌, ℕ, ◌+◌, ◌*◌, ◌-◌, ◌≤◌, ◌<◌, ℤ, length, take}
use Rattle.std.proofs.Common.{append_assoc, mul-le-mul_right, length-append, length-take, length-drop}
use Rattle.std.proofs.Math.Nat.{suc-mul, zero-mul}
use Rattle.std.proofs.Math.Numerals.{add-one}
use native.Mathlib.Omega.{arith}
use Rattle.std.proofs.Math.ListN.{drop}
use Rattle.std.proofs.Math.Seq.{take_at, drop-append-add, drop-drop}
use Rattle.lists.proofs.Laws.{ordered-ext}
use Rattle.vectors.specs.Triples.{triples}
use Rattle.ranking_votes.specs.Votes.{votes_of, counters_of}
use Rattle.ranking_votes.specs.Laws.{counter-within}
use Rattle.ranking.specs.row.Row.{every, votes_at, row_by}
use Rattle.ranking.specs.Ranking.{row_of, rows_of}
use Rattle.ranking.specs.Laws.{rows-length}

-- the row by the counters of direction i is the row of direction i
pub row-by-counters : (directions stars : List ℤ) (tolerance i m : ℕ) → m ≡ triples stars → triples stars ≤ 512
    → row_by (counters_of directions stars tolerance i) m ≡ row_of directions stars tolerance i
unfolding row_by row_of
row-by-counters directions stars tolerance i m e most =
    rw e
    (ordered-ext every (votes_at (counters_of directions stars tolerance i)) (votes_of directions stars tolerance i) (triples stars)
    (λ k h. counter-within directions stars tolerance i k h most))

-- a row has its place in the room
pub row_fits : (d m i : ℕ) → i < d → i * m + m ≤ d * m
row_fits d m i h = omega (arith, suc-mul i m, mul-le-mul_right m h)

pub mid-length : {A : Type 0} (room : List A) (a k : ℕ) → a + k ≤ length room → length (take k (drop a room)) ≡ k
mid-length room a k h = simp (length-take, length-drop) (omega arith)

-- a room keeps its length where a part of it is written
pub back-length : {A : Type 0} (room part : List A) (a k : ℕ) → a + k ≤ length room → length part ≡ length (take k (drop a room))
    → length (take a room ++ (part ++ drop k (drop a room))) ≡ length room
back-length room part a k h e =
    let m = mid-length room a k h in
    simp (length-append, length-take, length-drop) (omega arith)

module _ (directions stars : List ℤ) (tolerance : ℕ) (first : List ℕ) where
  abbrev rows : ℕ → List ℕ
  rows = rows_of directions stars tolerance

  pub rows_none : first ≡ rows 0 ++ drop (0 * triples stars) first
  unfolding rows_of
  rows_none = rw zero-mul

  -- one row more: the part of the room that is direction i's is written
  pub rows_more : (room row : List ℕ) (i : ℕ) → let m = triples stars in room ≡ rows i ++ drop (i * m) first → row ≡ row_of directions stars tolerance i
      → take (i * m) room ++ (row ++ drop (i * m + m - i * m) (drop (i * m) room)) ≡ rows (i + 1) ++ drop ((i + 1) * m) first
  unfolding rows_of
  rows_more room row i e f =
      let m = triples stars in
      let k : i * m + m - i * m ≡ m = omega arith in
      let l = rows-length directions stars tolerance i in
      let p = take_at (rows i) (drop (i * m) first) (i * m) l in
      let q : drop (i * m + m) (rows i ++ drop (i * m) first) ≡ drop (i * m + m) first = rw (← l, drop-append-add, drop-drop) in
      rw (f, k, e, p, drop-drop, q, add-one, suc-mul, append_assoc)
