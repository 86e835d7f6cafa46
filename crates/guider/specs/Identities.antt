-- The identities of a guider's guides as a list of their own, and its test. Assumes nothing.
use Rattle.std.specs.Prelude.{Bool, not, ◌&&◌, List, ◌≡◌, ℕ, ◌<◌, eqb, leb, get_or}
use Rattle.std.proofs.Common.{arith}
use Rattle.lists.specs.Tests.{all}
use Rattle.lists.specs.TestsLaws.{all_same}
use Rattle.guider_rule.specs.declared.Guider.{Guider}
use Rattle.guider_rule.specs.Guider.{guide_at, dropped}
use Rattle.guider_rule.specs.Rule.{on_frame, guide_ok}

-- no identity before identity i is the same
abbrev pub new_among : List ℕ → ℕ → Bool
new_among identities i = all i (λ j. not (eqb (get_or identities j 0) (get_or identities i 0)))

-- it says of the list what the rule says of the guides
pub same-rule : (g : Guider) (identities : List ℕ) → ((i : ℕ) → i < 4 → get_or identities i 0 ≡ (guide_at g i).identity) → (i : ℕ) → i < 4
    → (on_frame (guide_at g i).x (guide_at g i).y && (leb (guide_at g i).misses dropped && new_among identities i)) ≡ guide_ok g i
unfolding guide_ok
same-rule g identities e i h =
    rw (all_same i (λ j. not (eqb (get_or identities j 0) (get_or identities i 0))) (λ j. not (eqb (guide_at g j).identity (guide_at g i).identity))
    (λ j l. rw (e j (omega arith), e i h)))
