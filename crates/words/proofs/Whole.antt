-- The bytes of a whole number as std has them, and the number that std makes of them. Assumes nothing.
use Rattle.std.specs.Prelude.{◌≡◌, refl, List, [], ◌∷◌, ◌++◌, ℕ, zero, suc, ◌+◌, ◌-◌, ◌/◌, ◌%◌, ◌^◌, ◌≤◌, length, take, drop}
use Rattle.std.proofs.Common.{◌∙◌, ap, sym, arith, get_or-drop, get_or-take, drop-drop, append_assoc, zero-add}
use Rattle.std.proofs.Math.Nat.{pow-succ', div-div-eq-div-mul}
use Rattle.std.proofs.lemmas.List.Edits.{sets, sets-eq}
use borrow.Rule.Slice.PartMut.{put_mid}
use Rattle.std.specs.Int.{w16, w32, w64, bytes_high_first, byte_at, from_be_bytes}
use Rattle.words.specs.Number.{number_at}
use Rattle.words.specs.NumberLaws.{number_same}
use Rattle.words.specs.Bytes.{bytes_of}

-- ---- what is written

byte-above : (n v : ℕ) → byte_at (suc n) v ≡ byte_at n (v / 256)
byte-above zero v = refl
byte-above (suc n) v =
    let e : v / 256 ^ suc (suc n) ≡ v / 256 / 256 ^ suc n = rw pow-succ' (sym (div-div-eq-div-mul v 256 (256 ^ suc n))) in
    ap (λ (q : ℕ). q % 256) e

high-last : (n v : ℕ) → bytes_high_first (suc n) v ≡ bytes_high_first n (v / 256) ++ (v % 256 ∷ [])
high-last zero v = refl
high-last (suc n) v = (λ j. byte-above n v j ∷ high-last n v j)

pub bytes_high : (n v : ℕ) → bytes_of n v ≡ bytes_high_first n v
unfolding bytes_of
bytes_high zero v = refl
bytes_high (suc n) v = ap (λ (l : List ℕ). l ++ (v % 256 ∷ [])) (bytes_high n (v / 256)) ∙ sym (high-last n v)

-- bytes over a part of a room
pub put_sets : (room bytes part : List ℕ) (at n : ℕ) → part ≡ bytes → length part ≡ n → at + n ≤ length room
    → put_mid at (at + n - at) room part ≡ sets room at bytes
put_sets room bytes part at n e l h =
    let m : at + n - at ≡ length part = omega arith in
    let d : drop (length part) (drop at room) ≡ drop (at + length part) room = drop-drop (length part) at room in
    (λ j. take at room ++ (part ++ drop (m j) (drop at room)))
    ∙ (λ j. take at room ++ (part ++ d j))
    ∙ sym (append_assoc (take at room) part (drop (at + length part) room))
    ∙ sym (sets-eq part room at (omega arith))
    ∙ ap (sets room at) e

-- ---- what is read

-- a number of the bytes that were taken from a place on
taken : (bytes : List ℕ) (at n : ℕ) → number_at (take n (drop at bytes)) 0 n ≡ number_at bytes at n
taken bytes at n =
    number_same (take n (drop at bytes)) bytes 0 at n (λ k l. rw zero-add (get_or-take n (drop at bytes) k 0 l ∙ get_or-drop at bytes k 0))

whole-2 : (bs : List ℕ) → from_be_bytes w16 bs ≡ number_at bs 0 2
unfolding number_at
whole-2 bs = omega arith

whole-4 : (bs : List ℕ) → from_be_bytes w32 bs ≡ number_at bs 0 4
unfolding number_at
whole-4 bs = omega arith

whole-8 : (bs : List ℕ) → from_be_bytes w64 bs ≡ number_at bs 0 8
unfolding number_at
whole-8 bs = omega arith

module _ (bytes bs : List ℕ) (at number : ℕ) where
  pub read_2 : bs ≡ take 2 (drop at bytes) → number ≡ from_be_bytes w16 bs → number ≡ number_at bytes at 2
  read_2 e h = h ∙ whole-2 bs ∙ ap (λ (l : List ℕ). number_at l 0 2) e ∙ taken bytes at 2

  pub read_4 : bs ≡ take 4 (drop at bytes) → number ≡ from_be_bytes w32 bs → number ≡ number_at bytes at 4
  read_4 e h = h ∙ whole-4 bs ∙ ap (λ (l : List ℕ). number_at l 0 4) e ∙ taken bytes at 4

  pub read_8 : bs ≡ take 8 (drop at bytes) → number ≡ from_be_bytes w64 bs → number ≡ number_at bytes at 8
  read_8 e h = h ∙ whole-8 bs ∙ ap (λ (l : List ℕ). number_at l 0 8) e ∙ taken bytes at 8
