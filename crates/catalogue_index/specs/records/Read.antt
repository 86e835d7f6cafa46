-- The keys that are read from bytes, and that the bytes are those of these keys. Assumes nothing.
use Rattle.std.specs.Prelude.{◌≡◌, ℕ, zero, suc, ◌+◌, ◌*◌, ◌/◌, ◌%◌, ◌<◌, ◌≤◌, List, [], ◌∷◌, ◌++◌, length, take, drop, slice_index, refl}
use Rattle.std.proofs.Common.{sym, ap, ◌∙◌, append-nil, not-suc-le-zero, arith, length-append, take-add, drop-drop, take_all}
use Rattle.std.proofs.Math.Decide.{ℕ_discrete}
use Rattle.std.proofs.Math.ListN.{get_or-append}
use Rattle.std.proofs.lemmas.List.{get_or_at}
use Rattle.words.specs.Number.{number_at}
use Rattle.words.specs.NumberLaws.{number-most}
use Rattle.words.specs.Bytes.{bytes_of}
use Rattle.words.specs.BytesLaws.{write-back}
use Rattle.catalogue_index.specs.records.Format.{turned, high_at, low_at, key_from, key_at, record_of, encoded}
use Rattle.catalogue_index.specs.records.FormatLaws.{turned-back, encoded-append}

-- the keys of the first n records
unfoldable pub keys_in : ℕ → List ℕ → List ℕ
keys_in zero bytes = []
keys_in (suc n) bytes = keys_in n bytes ++ (key_at bytes n ∷ [])

pub keys_length : (n : ℕ) (bytes : List ℕ) → length (keys_in n bytes) ≡ n
unfolding keys_in
keys_length zero bytes = refl
keys_length (suc n) bytes = omega (arith, length-append (keys_in n bytes) (key_at bytes n ∷ []), keys_length n bytes)

pub keys-at : (n : ℕ) (bytes : List ℕ) (i : ℕ) → i < n → slice_index (keys_in n bytes) i ≡ key_at bytes i
unfolding keys_in
keys-at zero bytes i h = absurd (not-suc-le-zero h)
keys-at (suc n) bytes i h = go (keys-at n bytes i) (ℕ_discrete i n)
  where
    go : (i < n → slice_index (keys_in n bytes) i ≡ key_at bytes i) → Dec (i ≡ n) → slice_index (keys_in n bytes ++ (key_at bytes n ∷ [])) i ≡ key_at bytes i
    go f (yes e) = rw e (get_or_at (keys_in n bytes) (key_at bytes n) [] 0 n (keys_length n bytes))
    go f (no d) =
        let l : i < n = omega arith in
        get_or-append (keys_in n bytes) (key_at bytes n ∷ []) 0 i (rw (keys_length n bytes) l) ∙ f l

-- each is a byte
abbrev pub Bytes : List ℕ → Type 0
Bytes bytes = (k : ℕ) → slice_index bytes k < 256

pub low-most : (bytes : List ℕ) (i : ℕ) → Bytes bytes → low_at bytes i < 4294967296
unfolding low_at
low-most bytes i b = number-most bytes (12 * i + 8) 4 b

-- the two parts of a key
key-high : (high low : ℕ) → low < 4294967296 → key_from high low / 4294967296 ≡ high
key-high high low h = omega arith

key-low : (high low : ℕ) → low < 4294967296 → key_from high low % 4294967296 ≡ low
key-low high low h = omega arith

-- the record's bytes are those of its key
record-bytes : (bytes : List ℕ) (i : ℕ) → Bytes bytes → 12 * i + 12 ≤ length bytes → record_of (key_at bytes i) ≡ take 12 (drop (12 * i) bytes)
unfolding record_of high_at low_at
record-bytes bytes i b h =
    let v = number_at bytes (12 * i) 8 in
    let w = number_at bytes (12 * i + 8) 4 in
    let n = number-most bytes (12 * i + 8) 4 b in
    let p : turned (key_from (turned v) w / 4294967296) ≡ v = ap turned (key-high (turned v) w n) ∙ turned-back v (number-most bytes (12 * i) 8 b) in
    (λ j. bytes_of 8 (p j) ++ bytes_of 4 (key-low (turned v) w n j))
    ∙ (λ j. write-back bytes (12 * i) 8 b (omega arith) j ++ write-back bytes (12 * i + 8) 4 b (omega arith) j)
    ∙ sym (take-add 8 4 (drop (12 * i) bytes) ∙ ap (λ (l : List ℕ). take 8 (drop (12 * i) bytes) ++ take 4 l) (drop-drop 8 (12 * i) bytes))

encoded-one : (k : ℕ) → encoded (k ∷ []) ≡ record_of k
unfolding encoded
encoded-one k = append-nil (record_of k)

read-part : (bytes : List ℕ) (n : ℕ) → Bytes bytes → 12 * n ≤ length bytes → encoded (keys_in n bytes) ≡ take (12 * n) bytes
unfolding keys_in encoded
read-part bytes zero b h = refl
read-part bytes (suc n) b h =
    let e : 12 * n + 12 ≡ 12 * suc n = omega arith in
    encoded-append (keys_in n bytes) (key_at bytes n ∷ [])
    ∙ (λ i. read-part bytes n b (omega arith) i ++ (encoded-one (key_at bytes n) ∙ record-bytes bytes n b (omega arith)) i)
    ∙ sym (take-add (12 * n) 12 bytes)
    ∙ ap (λ (m : ℕ). take m bytes) e

-- bytes of whole records are those of the keys that are read from them
pub read_back : (bytes : List ℕ) (n : ℕ) → Bytes bytes → length bytes ≡ 12 * n → encoded (keys_in n bytes) ≡ bytes
read_back bytes n b h = read-part bytes n b (omega arith) ∙ take_all (12 * n) bytes (omega arith)
