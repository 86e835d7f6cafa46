-- One direction's star more.
use Rattle.std.proofs.Common.{◌≡◌, refl, sym, ◌∙◌, List, ℕ, ◌+◌, ℤ, set, add-one, w64}
use Rattle.numbers.specs.Num.{kept}
use Rattle.c_numbers.specs.Stars.{name_at, with_names}
use Rattle.c_numbers.proofs.put_names.Goals as goal

names-next : (at : ℕ) (words : List ℕ) (directions stars i : ℕ) (xs : List ℤ)
    → with_names at words directions stars (i + 1) xs ≡ set (with_names at words directions stars i xs) (at + i) (name_at words directions stars i)
unfolding with_names
names-next at words directions stars i xs = rw add-one refl

pub loop-i-init : goal.loop-i-init
unfolding with_names
loop-i-init c = refl

pub loop-i-preserved : goal.loop-i-preserved
loop-i-preserved c =
    let a = c.args in
    let before : c.loop-i.flat ≡ with_names a.at a.words a.directions a.stars c.loop-i.i a.flat.now = c.loop-i.invariant in
    (λ k. set (before k) (a.at + c.loop-i.i) (kept w64 c.name_of.type_inv c.name_of.ensures k))
    ∙ sym (names-next a.at a.words a.directions a.stars c.loop-i.i a.flat.now)
