-- A small index, computed from the definitions. Of four stars the first two are opposite, so their dot product is the least, and the third is at right
-- angles to both; the fourth is the third again. Assumes nothing.
use Rattle.std.specs.Prelude.{◌≡◌, List, [], ◌∷◌, ℤ, pos, negsuc, refl}
use Rattle.words.specs.Bytes.{bytes_of}
use Rattle.vectors.specs.Triples.{triple_at, pair_dot}
use Rattle.catalogue_index.specs.records.Format.{record_of, encoded}
use Rattle.catalogue_index.specs.records.Order.{insert, sorted}
use Rattle.catalogue_index.specs.Raised.{raised}
use Rattle.catalogue_index.specs.Index.{collected, key_of, entry_of, row_of, pairs_of, keys_of, index_of}

abbrev pub four : List ℤ
four =
    pos 1000000000 ∷ pos 0 ∷ pos 0
    ∷ negsuc 999999999 ∷ pos 0 ∷ pos 0
    ∷ pos 0 ∷ pos 1000000000 ∷ pos 0
    ∷ pos 0 ∷ pos 1000000000 ∷ pos 0
    ∷ []

-- at the floor -10^18 every pair stands there: -10^18 of the stars 0 and 1, 0 of four pairs by their numbers, and 10^18 of the stars 2 and 3
pub four-indexed : index_of four (negsuc 999999999999999999) ≡
    (242 ∷ 31 ∷ 73 ∷ 76 ∷ 88 ∷ 156 ∷ 0 ∷ 0 ∷ 0 ∷ 0 ∷ 0 ∷ 1
    ∷ 0 ∷ 0 ∷ 0 ∷ 0 ∷ 0 ∷ 0 ∷ 0 ∷ 0 ∷ 0 ∷ 0 ∷ 0 ∷ 2
    ∷ 0 ∷ 0 ∷ 0 ∷ 0 ∷ 0 ∷ 0 ∷ 0 ∷ 0 ∷ 0 ∷ 0 ∷ 0 ∷ 3
    ∷ 0 ∷ 0 ∷ 0 ∷ 0 ∷ 0 ∷ 0 ∷ 0 ∷ 0 ∷ 0 ∷ 1 ∷ 0 ∷ 2
    ∷ 0 ∷ 0 ∷ 0 ∷ 0 ∷ 0 ∷ 0 ∷ 0 ∷ 0 ∷ 0 ∷ 1 ∷ 0 ∷ 3
    ∷ 13 ∷ 224 ∷ 182 ∷ 179 ∷ 167 ∷ 100 ∷ 0 ∷ 0 ∷ 0 ∷ 2 ∷ 0 ∷ 3
    ∷ [])
unfolding index_of keys_of pairs_of row_of entry_of key_of collected raised pair_dot triple_at sorted insert encoded record_of bytes_of
four-indexed = refl

-- one above it the first pair is gone
pub four-above : keys_of four (negsuc 999999999999999998) ≡ key_of four 0 2 ∷ key_of four 0 3 ∷ key_of four 1 2 ∷ key_of four 1 3 ∷ key_of four 2 3 ∷ []
unfolding keys_of pairs_of row_of entry_of key_of collected raised pair_dot triple_at sorted insert
four-above = refl
