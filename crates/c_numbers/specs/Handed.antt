-- An exported call hands over the numbers of the entry point's answer. Assumes nothing.
use Rattle.std.specs.Prelude.{◌≡◌, List, ℤ}
use Rattle.std.proofs.Common.{ap, ◌∙◌}
use Rattle.c_numbers.specs.Room.{handed_over}

pub handed : {A : Type 0} (numbers : A → List ℤ) (room : List ℤ) {after flat : List ℤ} {answer rule : A}
    → after ≡ handed_over flat room → flat ≡ numbers answer → answer ≡ rule → after ≡ handed_over (numbers rule) room
handed numbers room e f g = e ∙ ap (λ (xs : List ℤ). handed_over xs room) (f ∙ ap numbers g)
