-- Bytes that are put into a lent room. Assumes nothing.
use Rattle.std.specs.Prelude.{List, [], ◌∷◌, ◌≡◌, ℕ, ◌+◌, ◌-◌, min, length, set}

-- the room with the bytes from a place on, as far as the room goes
unfoldable pub written : List ℕ → ℕ → List ℕ → List ℕ
written room at [] = room
written room at (b ∷ bytes) = written (set room at b) (at + 1) bytes

-- the place behind them: the room's end where they do not all fit, and the same place where it lies behind the end
abbrev pub reached : ℕ → ℕ → ℕ → ℕ
reached size at n = at + min n (size - at)

-- the bytes were put at a place of a room: the room afterwards, and the place behind them
pub record Wrote (before : List ℕ) (at : ℕ) (bytes after : List ℕ) (next : ℕ) : Type 0 where
  pub room : after ≡ written before at bytes
  pub place : next ≡ reached (length before) at (length bytes)
