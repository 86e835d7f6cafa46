-- Bytes at the front of a room, to which more are added. Assumes nothing.
use Rattle.std.specs.Prelude.{◌≡◌, refl, List, ◌++◌, ℕ, ◌+◌, ◌-◌, ◌≤◌, length, drop}
use Rattle.std.proofs.Common.{sym, ap, ◌∙◌, arith, length-append, length-drop, take_at, drop-drop}
use Rattle.std.proofs.lemmas.List.Edits.{sets, sets-eq}
use Rattle.std.proofs.Math.Seq.{drop-append-add}

-- bytes at the front of a room, and the rest as it was
abbrev pub at_front : List ℕ → List ℕ → List ℕ
at_front bytes room = bytes ++ drop (length bytes) room

-- more bytes behind them
pub front-more : (bytes more room : List ℕ) → length bytes + length more ≤ length room
    → sets (at_front bytes room) (length bytes) more ≡ at_front (bytes ++ more) room
front-more bytes more room h =
    let n = length bytes in
    let k = length more in
    let rest = drop n room in
    let e : n + k ≡ length (bytes ++ more) = sym (length-append bytes more) in
    sets-eq more (bytes ++ rest) n (omega (arith, length-append bytes rest, length-drop n room))
    ∙ (λ i. take_at bytes rest n refl i ++ more ++ (drop-append-add bytes rest k ∙ drop-drop k n room ∙ ap (λ (m : ℕ). drop m room) e) i)

-- what stands behind them is the room's
pub front-behind : (bytes room : List ℕ) (n : ℕ) → length bytes ≤ n → drop n (at_front bytes room) ≡ drop n room
front-behind bytes room n h =
    let m = length bytes in
    let e : n ≡ m + (n - m) = omega arith in
    ap (λ (k : ℕ). drop k (at_front bytes room)) e ∙ drop-append-add bytes (drop m room) (n - m) ∙ drop-drop (n - m) m room ∙ ap (λ (k : ℕ). drop k room) (sym e)
