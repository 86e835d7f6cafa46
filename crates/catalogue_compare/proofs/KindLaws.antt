-- What is said of an identity, by who has it. Assumes nothing.
use Rattle.std.specs.Prelude.{Bool, true, false, cond, ◌≡◌, refl, List, ℕ}
use Rattle.std.proofs.Common.{ap, ◌∙◌}
use Rattle.catalogue_compare.specs.Changes.{place_of, has, differ}
use Rattle.catalogue_compare.specs.Kinds.{kind-first, kind-second, kind-none, kind-both, Way, only-first, only-second, differing, same, neither}

pub way : (first second : List ℕ) (x : ℕ) → Way first second x
way first second x = go (has first x) (has second x) (differ first (place_of first x) second (place_of second x)) refl refl refl
  where
    go : (a b d : Bool) → has first x ≡ a → has second x ≡ b → differ first (place_of first x) second (place_of second x) ≡ d → Way first second x
    go true false d e f g = only-first e f (kind-first first second x e f)
    go false true d e f g = only-second e f (kind-second first second x e f)
    go false false d e f g = neither e f (kind-none first second x e f)
    go true true true e f g = differing e f g (kind-both first second x e f ∙ ap {B = ℕ} (λ (t : Bool). cond t 3 0) g)
    go true true false e f g = same e f g (kind-both first second x e f ∙ ap {B = ℕ} (λ (t : Bool). cond t 3 0) g)
