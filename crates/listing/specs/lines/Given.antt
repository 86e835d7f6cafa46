-- Words of an assignment that are given where names are shown, and not where they are not. Assumes nothing.
use Rattle.std.specs.Prelude.{Option, None, Some, List, [], ℕ, get_or}

abbrev pub words_in : Option (List ℕ) → List ℕ
words_in None = []
words_in (Some words) = words

abbrev pub word_in : Option ℕ → ℕ
word_in None = 0
word_in (Some word) = word

-- the word of listed star k
abbrev pub word_of : Option (List ℕ) → ℕ → Option ℕ
word_of None k = None
word_of (Some words) k = Some (get_or words k 0)
