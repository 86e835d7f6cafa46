-- A list copied to the start of a room, element by element. Assumes nothing.
use Rattle.std.specs.Prelude.{◌≡◌, List, ◌++◌, ℕ, suc, ◌+◌, ◌<◌, length, take, drop, get_or, set}
use Rattle.std.proofs.Common.{sym, ap, ◌∙◌, le_of_lt, add-one, drop-cons, length-take-le, take-suc}
use Rattle.std.proofs.Math.Seq.{append_snoc}
use Rattle.std.proofs.lemmas.List.{set_at}

-- one element more
pub copied : {A : Type 0} (d : A) (xs room : List A) (i : ℕ) → i < length xs → i < length room
    → set (take i xs ++ drop i room) i (get_or xs i d) ≡ take (i + 1) xs ++ drop (i + 1) room
copied {A} d xs room i hx hr =
    let x = get_or xs i d in
    ap (λ (r : List A). set (take i xs ++ r) i x) (drop-cons room i d hr)
    ∙ set_at (take i xs) (get_or room i d) (drop (suc i) room) x i (length-take-le i xs (le_of_lt hx))
    ∙ sym (append_snoc (take i xs) x (drop (suc i) room))
    ∙ ap (λ (r : List A). r ++ drop (suc i) room) (sym (take-suc xs i d hx))
    ∙ ap (λ (k : ℕ). take k xs ++ drop k room) (sym (add-one i))
