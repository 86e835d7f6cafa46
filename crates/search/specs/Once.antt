-- Document 01's refusal 11: the ranking read is not exactly directions x stars long, or an entry is out of range or repeats an earlier one of
-- its row; the place is the first such entry's, counted over the whole ranking. Assumes nothing.
use Rattle.std.specs.Prelude.{Bool, cond, ◌||◌, List, ℕ, ◌+◌, ◌*◌, ◌/◌, ◌%◌, get_or, length, leb, ltb, eqb}
use Rattle.lists.specs.Tests.{some}
use Rattle.lists.specs.First.{first}
use Rattle.std.specs.Prelude.{Result, Ok, Err}

-- the word at place k of the row that starts at base
abbrev pub word : List ℕ → ℕ → ℕ → ℕ
word words base k = get_or words (base + k) 0

-- it is out of range, or repeats an earlier one of its row
unfoldable pub clash : List ℕ → ℕ → ℕ → ℕ → Bool
clash words stars base k = leb stars (word words base k) || some k (λ l. eqb (word words base l) (word words base k))

-- the entry q of the whole ranking stands at place q % stars of the row that starts at q / stars * stars
abbrev pub clash_at : List ℕ → ℕ → ℕ → Bool
clash_at words stars q = clash words stars (q / stars * stars) (q % stars)

abbrev pub judged : ℕ → ℕ → Result Unit ℕ
judged size q = cond (ltb q size) (Err q) (Ok tt)

unfoldable pub lent_of : List ℕ → ℕ → ℕ → Result Unit ℕ
lent_of words dirs stars = cond (eqb (length words) (dirs * stars)) (judged (dirs * stars) (first (clash_at words stars) (dirs * stars))) (Err 0)
