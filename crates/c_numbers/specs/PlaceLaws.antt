-- What is read at its place is what was put there. Assumes nothing.
use Rattle.std.specs.Prelude.{◌≡◌, refl, List, [], ◌∷◌, ◌++◌, map, ℕ, zero, suc, ◌+◌, ◌-◌, ◌≤◌, ◌<◌, ℤ, pos, length, get_or, take, drop, replicate}
use Rattle.std.proofs.Common.{sym, ap, ◌∙◌, arith, le-ltb, length-append, length-drop}
use Rattle.std.proofs.Math.Decide.{dec_lt}
use Rattle.std.proofs.lemmas.List.{length-replicate, drop-append-le, take-append-le}
use Rattle.std.proofs.Math.ListN.{get_or-append}
use Rattle.std.proofs.Math.Seq.{get_or-append_seam}
use Rattle.c_numbers.specs.Room.{size, padded, handed_over}
use Rattle.c_numbers.specs.Stars.{joined}
use Rattle.c_numbers.specs.Places.{read_at, refusal_in, word_in, words_at}

-- ---- the room that is lent

pub padded-length : (xs : List ℤ) → length xs ≤ size → length (padded xs) ≡ size
padded-length xs h = length-append xs (replicate (size - length xs) (pos 0)) ∙ omega (arith, length-replicate (size - length xs) (pos 0))

module _ (xs room : List ℤ) (full : length xs ≡ size) (long : size ≤ length room) where
  -- a room that is long enough begins with the answer's numbers
  pub handed-over : handed_over xs room ≡ xs ++ drop size room
  unfolding handed_over
  handed-over = rw (le-ltb (length room) size long)

  pub read-handed : (k : ℕ) → k < size → read_at (handed_over xs room) k ≡ read_at xs k
  read-handed k h = ap (λ (ys : List ℤ). read_at ys k) handed-over ∙ get_or-append xs (drop size room) (pos 0) k (omega arith)

  pub refusal-handed : refusal_in (handed_over xs room) ≡ refusal_in xs
  refusal-handed = rw (read-handed 0 (omega arith), read-handed 1 (omega arith)) refl

  pub words-handed : (stars at : ℕ) → at + 8 ≤ size → words_at stars (handed_over xs room) at ≡ words_at stars xs at
  words-handed stars at h =
      ap (λ (ys : List ℤ). words_at stars ys at) handed-over
      ∙ ap (λ (ys : List ℤ). map (word_in stars) (take 8 ys)) (drop-append-le at xs (drop size room) (omega arith))
      ∙ ap (map (word_in stars)) (take-append-le 8 (drop at xs) (drop size room) (omega (arith, length-drop at xs)))

-- ---- the stars of directions

-- one number each
pub names-length : (f : ℕ → ℤ) (n : ℕ) → length (joined (λ (i : ℕ). f i ∷ []) n) ≡ n
unfolding joined
names-length f zero = refl
names-length f (suc n) = length-append (joined (λ (i : ℕ). f i ∷ []) n) (f n ∷ []) ∙ omega (arith, names-length f n)

pub name-at : (f : ℕ → ℤ) (n k : ℕ) → k < n → read_at (joined (λ (i : ℕ). f i ∷ []) n) k ≡ f k
unfolding joined
name-at f zero k h = absurd (omega arith)
name-at f (suc n) k h = by (name-at f n k) (dec_lt k n)
  where
    by : (k < n → read_at (joined (λ (i : ℕ). f i ∷ []) n) k ≡ f k) → Dec (k < n) → read_at (joined (λ (i : ℕ). f i ∷ []) n ++ (f n ∷ [])) k ≡ f k
    by earlier (yes l) = get_or-append (joined (λ (i : ℕ). f i ∷ []) n) (f n ∷ []) (pos 0) k (omega (arith, names-length f n)) ∙ earlier l
    by earlier (no l) =
        let e : k ≡ n = omega arith in
        ap (read_at (joined (λ (i : ℕ). f i ∷ []) n ++ (f n ∷ []))) (e ∙ sym (names-length f n))
        ∙ get_or-append_seam (joined (λ (i : ℕ). f i ∷ []) n) (f n) [] (pos 0) ∙ ap f (sym e)

-- the words of an assignment: a star's or none's for each direction, and 0 behind them
pub record Named (words : List ℕ) (directions stars : ℕ) : Type 0 where
  pub size : length words ≡ 8
  pub words-in : (i : ℕ) → i < directions → get_or words i 0 ≤ stars
  pub rest : (i : ℕ) → directions ≤ i → get_or words i 0 ≡ 0
  pub many : stars ≤ 9223372036854775808
