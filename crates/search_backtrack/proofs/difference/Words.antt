-- What was said of two words that were read. Assumes nothing.
use mathlib.Core.Path.{◌≡◌, sym, ◌∙◌}
use mathlib.Core.Bool.{Bool}
use Prim.Native.Nat.{ℕ}
use Rattle.search_theory.specs.Rival.{words_differ}

pub said : (stars a b : ℕ) {x y : ℕ} {r v : Bool} → r ≡ words_differ stars x y → x ≡ a → y ≡ b → r ≡ v → words_differ stars a b ≡ v
said stars a b h p q e = (λ i. words_differ stars (sym p i) (sym q i)) ∙ sym h ∙ e
