-- What is read at its place is what was put there. Assumes nothing.
use Rattle.std.specs.Prelude.{Bool, true, false, cond, ◌≡◌, refl, List, ◌++◌, map, ℕ, ◌<◌, leb, ℤ, pos, negsuc, length, get_or, take}
use Rattle.std.proofs.Common.{sym, ap, ◌∙◌, arith, lt-ltb, leb-true, leb-false, drop_at, ext_get_or, take_at}
use Rattle.std.proofs.lemmas.List.{length-map}
use Rattle.std.proofs.Math.ListN.{get_or-map}
use Rattle.numbers.specs.TwosComplement.{signed_of}
use Rattle.c_numbers.specs.Stars.{name_at, names_numbers}
use Rattle.c_numbers.specs.Places.{word_in, words_at}
use Rattle.c_numbers.specs.PlaceLaws.{names-length, name-at, Named}

module _ (words : List ℕ) (directions stars : ℕ) (N : Named words directions stars) where
  -- a star's number is read as its word, and -1 as none's
  word_back : (i : ℕ) → word_in stars (name_at words directions stars i) ≡ get_or words i 0
  word_back i = behind (leb directions i) refl
    where
      star : i < directions → (b : Bool) → leb stars (get_or words i 0) ≡ b → word_in stars (cond b (negsuc 0) (signed_of (get_or words i 0))) ≡ get_or words i 0
      star l true e = omega (arith, leb-true stars (get_or words i 0) e, N.words-in i l)
      star l false e = let h : get_or words i 0 < 9223372036854775808 = omega (arith, leb-false stars (get_or words i 0) e, N.many) in rw
          (lt-ltb (get_or words i 0) 9223372036854775808 h)

      behind : (b : Bool) → leb directions i ≡ b
          → word_in stars (cond b (pos 0) (cond (leb stars (get_or words i 0)) (negsuc 0) (signed_of (get_or words i 0)))) ≡ get_or words i 0
      behind true e = sym (N.rest i (leb-true directions i e))
      behind false e = star (omega (arith, leb-false directions i e)) (leb stars (get_or words i 0)) refl

  words_back : map (word_in stars) (names_numbers words directions stars) ≡ words
  words_back =
      let names = names_numbers words directions stars in
      let l : length (map (word_in stars) names) ≡ 8 = length-map names (word_in stars) ∙ names-length (name_at words directions stars) 8 in
      ext_get_or 0 (map (word_in stars) names) words (l ∙ sym N.size)
      (λ i h. get_or-map (word_in stars) names i (pos 0) ∙ ap (word_in stars) (name-at (name_at words directions stars) 8 i (omega arith)) ∙ word_back i)

  -- behind any numbers, the names are read as the words
  pub words-read : (before rest : List ℤ) (at : ℕ) → length before ≡ at → words_at stars (before ++ (names_numbers words directions stars ++ rest)) at ≡ words
  words-read before rest at e =
      let names = names_numbers words directions stars in
      ap (λ (xs : List ℤ). map (word_in stars) (take 8 xs)) (drop_at before (names ++ rest) at e)
      ∙ ap (map (word_in stars)) (take_at names rest 8 (names-length (name_at words directions stars) 8)) ∙ words_back
