-- A sum that tells rooms apart. Assumes nothing.
use Rattle.std.specs.Prelude.{List, ◌≡◌, ℕ, zero, suc, ◌+◌, ◌*◌, ◌%◌, length, get_or}
use Rattle.std.proofs.Common.{ap, add-one}

-- of the first n numbers
unfoldable pub sum_to : List ℕ → ℕ → ℕ
sum_to xs zero = 0
sum_to xs (suc n) = (sum_to xs n * 31 + get_or xs n 0 + 1) % 1000003

abbrev pub sum_of : List ℕ → ℕ
sum_of xs = sum_to xs (length xs)

pub sum-next : (xs : List ℕ) (n : ℕ) → sum_to xs (n + 1) ≡ (sum_to xs n * 31 + get_or xs n 0 + 1) % 1000003
unfolding sum_to
sum-next xs n = ap (sum_to xs) (add-one n)
