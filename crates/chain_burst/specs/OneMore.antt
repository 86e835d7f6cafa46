-- The step from one frame of a burst to the next, shown once, for any frames and one more. Assumes nothing.
use Rattle.std.specs.Prelude.{◌≡◌}
use Rattle.std.proofs.Math.Path.{refl}
use mathlib.Core.List.{List, [], ◌∷◌}
use Prim.Native.Nat.{ℕ, zero, suc}
use native.Mathlib.Omega.{arith}
use Rattle.std.proofs.Math.ListN.{length, length-append}
use Rattle.chain_burst.specs.records.Record.{record_size, record_of}
use Rattle.chain_burst.specs.records.Laws.{encoded-length}
use Rattle.chain.specs.declared.Tracked.{Tracked}
use Rattle.chain_burst.specs.Burst.{frame_at, frames_of, record_bytes}

pub bytes-length : (t : Tracked) → length (record_bytes t) ≡ record_size
bytes-length t = encoded-length (record_of t.outcome t.matrix)

-- ---- the same as the code meets it: the records so far stand first in the lent room

pub frames-length : (size : ℕ) (samples : List ℕ) (n : ℕ) → length (frames_of size samples n) ≡ n
unfolding frames_of
frames-length size samples zero = refl
frames-length size samples (suc n) = omega (arith, length-append (frames_of size samples n) (frame_at size samples n ∷ []), frames-length size samples n)
