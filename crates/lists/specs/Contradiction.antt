-- False is not true. Where facts in scope contradict each other, `contradiction (cc)` proves whatever is asked. Assumes nothing.
use Rattle.std.specs.Prelude.{false, true, ◌≡◌, ℕ}
use Rattle.std.proofs.Common.{arith}

pub contradiction : {A : Type 0} → false ≡ true → A
contradiction e = let z : ◌≡◌ {A = ℕ} 0 1 = cc in absurd (omega arith)
