-- A burst: frames of one size, one behind the other in one slice, each handed to the chain by itself. Assumes nothing.
use Rattle.std.specs.Prelude.{Bool, cond, not, ◌||◌, List, [], ◌∷◌, ◌++◌, ℕ, zero, suc, ◌*◌, ◌/◌, ◌%◌, eqb, ltb, pos, length, take, drop}
use Rattle.refusal.specs.Numbers as number
use Rattle.refusal.specs.Table.{Row, row, first_applying, answered}
use Rattle.refusal.specs.Answer.{Answer, refused_with, accepted_with}
use Rattle.frame_list.specs.input.Input.{size_out}
use Rattle.chain_burst.specs.records.Record.{record_size, record_of, encoded}
use Rattle.chain.specs.declared.Settings.{Settings}
use Rattle.chain.specs.declared.Tracked.{Tracked}
use Rattle.chain.specs.Chain as chain
use Rattle.chain.specs.Chain.{tracked_of}
use Rattle.refusal.specs.Counted.{counted_of}
use Rattle.std.specs.Prelude.{Result}
use Rattle.refusal.specs.declared.Refusal.{Refusal}

-- ---- the frames of a slice

-- frame k: the samples behind those of the k frames before it
abbrev pub frame_at : ℕ → List ℕ → ℕ → List ℕ
frame_at size samples k = take size (drop (k * size) samples)

-- the first n frames
unfoldable pub frames_of : ℕ → List ℕ → ℕ → List (List ℕ)
frames_of size samples zero = []
frames_of size samples (suc n) = frames_of size samples n ++ (frame_at size samples n ∷ [])

-- ---- what the single calls give

-- the bytes of the record that an answer of the chain gets
abbrev pub record_bytes : Tracked → List ℕ
record_bytes t = encoded (record_of t.outcome t.matrix)

module _ (catalogue : List ℕ) (s : Settings) where
  -- the records of some frames: of each what the single call gives for it, whatever the others hold
  unfoldable pub records_of : List (List ℕ) → List ℕ → List ℕ
  records_of [] room = []
  records_of (f ∷ fs) room = record_bytes (tracked_of (chain.call f catalogue s room)) ++ records_of fs room

  -- the ranking room after the single calls in order
  unfoldable pub room_behind : List (List ℕ) → List ℕ → List ℕ
  room_behind [] room = room
  room_behind (f ∷ fs) room = room_behind fs (chain.room_after (chain.call f catalogue s room))

-- ---- the call

pub record Call : Type 0 where
  pub samples : List ℕ
  pub catalogue : List ℕ
  pub settings : Settings
  pub room : List ℕ
  pub records : List ℕ

abbrev pub call : List ℕ → List ℕ → Settings → List ℕ → List ℕ → Call
call f k s r b = record { samples = f; catalogue = k; settings = s; room = r; records = b }

-- how many frames a burst may have
abbrev pub most_frames : ℕ
most_frames = 64

-- no multiple of a frame, or more than 64 of them
abbrev pub length_out : ℕ → ℕ → Bool
length_out size samples = not (eqb (samples % size) 0) || ltb (most_frames * size) samples

-- the refusals of the whole burst, known before any frame: 1 and 2, and 18
unfoldable pub burst_rows : ℕ → ℕ → ℕ → ℕ → List Row
burst_rows width height samples records =
    row (size_out width height) number.size
    ∷ row (length_out (width * height) samples) number.samples
    ∷ row (ltb records (record_size * (samples / (width * height)))) number.records_room
    ∷ []

abbrev pub size_of : Call → ℕ
size_of c = c.settings.width * c.settings.height

abbrev pub frames_in : Call → ℕ
frames_in c = length c.samples / size_of c

abbrev pub frames : Call → List (List ℕ)
frames c = frames_of (size_of c) c.samples (frames_in c)

abbrev pub refusals_of : Call → List Row
refusals_of c = burst_rows c.settings.width c.settings.height (length c.samples) (length c.records)

-- the number of records, or the refusal
unfoldable pub burst_of : Call → Result ℕ Refusal
burst_of c = counted_of (frames_in c) (first_applying (refusals_of c))

-- ---- in document 01's own terms

-- the answer that a burst must have
abbrev pub answer_for : Call → Answer
answer_for c =
    cond (size_out c.settings.width c.settings.height) (refused_with 1 0)
    (cond (length_out (size_of c) (length c.samples)) (refused_with 2 0)
    (cond (ltb (length c.records) (record_size * frames_in c)) (refused_with 18 0)
    (accepted_with (pos (frames_in c) ∷ []))))

-- ---- the two rooms

-- the records stand first, what is behind them stays; a refusal writes nothing
unfoldable pub records_after : Call → List ℕ
records_after c =
    answered (λ _. c.records)
    (records_of c.catalogue c.settings (frames c) c.room ++ drop (record_size * frames_in c) c.records)
    (first_applying (refusals_of c))

unfoldable pub room_after : Call → List ℕ
room_after c = answered (λ _. c.room) (room_behind c.catalogue c.settings (frames c) c.room) (first_applying (refusals_of c))
