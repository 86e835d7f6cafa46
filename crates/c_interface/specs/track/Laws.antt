-- The settings that a call puts together are those of its arguments. Assumes nothing.
use Rattle.std.specs.Prelude.{◌≡◌, ℕ, ℤ}
use Rattle.std.specs.Int.{w64}
use Rattle.std.proofs.Common.{SFits, to_z, of_z}
use Rattle.numbers.specs.Num.{param, back}
use Rattle.camera_lens.specs.declared.Lens.{Lens}
use Rattle.c_interface.specs.track.Chain.{settings_of}

pub settled : (width height threshold needed tolerance : ℕ) {cx cy : ℤ} {given lens : Lens} → SFits w64 cx → SFits w64 cy → given ≡ lens
    → settings_of width height threshold (to_z w64 (of_z w64 cx)) (to_z w64 (of_z w64 cy)) given needed tolerance ≡ settings_of width height threshold cx cy lens
    needed tolerance
settled width height threshold needed tolerance p q e = λ i. settings_of width height threshold (back (param p) i) (back (param q) i) (e i) needed tolerance
