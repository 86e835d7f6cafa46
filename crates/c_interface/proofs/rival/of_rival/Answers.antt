-- The names stand behind the count, and there are none where ours is alone.
use Rattle.std.proofs.Common.{◌≡◌, ap, ◌∙◌, Bool, cond, List, [], ◌∷◌, ℕ, ℤ, rules}
use Rattle.numbers.specs.TwosComplement.{signed_of}
use Rattle.c_numbers.specs.Numbers.{accepted_numbers, outcome_numbers}
use Rattle.c_numbers.specs.Stars.{joined, with_names}
use Rattle.c_interface.specs.rival.Rival.{contested_numbers}
use Rattle.c_interface.proofs.rival.of_rival.Goals as goal
use Rattle.c_interface.proofs.rival.of_rival.Goals.{then-contest, else-contest}

-- the names behind the count
named : (rival : Bool) (words : List ℕ) (directions stars one shown : ℕ) (flat : List ℤ) → one ≡ cond rival 1 0 → flat ≡ accepted_numbers (signed_of one ∷ [])
    → shown ≡ cond rival directions 0
    → with_names 3 words shown stars 8 flat ≡ accepted_numbers (contested_numbers directions stars rival words)
unfolding joined with_names
named rival words directions stars one shown flat p q s = (λ i. with_names 3 words (s i) stars 8 ((q ∙ ap (λ (n : ℕ). accepted_numbers (signed_of n ∷ [])) p) i))

pub returns : goal.returns
returns c =
    let a = c.args in
    let one : c.from.result ≡ cond a.contest.rival 1 0 = let h = c.from.ensures in search rules in
    let shown : c.if-contest.named ≡ cond a.contest.rival a.directions 0 =
    elim c.if-contest.branch [
      | then-contest w ↦ (rw w.if-contest.true w.named-is)
      | else-contest w ↦ (rw w.if-contest.false w.named-is)
    ] in
    c.of_outcome.ensures
    ∙ ap (outcome_numbers a.contest.outcome)
    (c.put_names.ensures ∙ named a.contest.rival a.contest.stars a.directions a.stars _ _ _ one c.of_count-flat.ensures shown)
