-- A case of the bench set: a question to one of the calls, with the answer that it must have. Each is put by the definition that the call's own
-- promise cites. Assumes nothing.
use Rattle.std.specs.Prelude.{◌≡◌, List, [], ◌∷◌, ℕ, ◌<◌, ℤ}
use Rattle.vectors.specs.declared.Vec3.{Vec3}
use Rattle.frame_verdict.specs.declared.Kind.{Kind}
use Rattle.frame_list.specs.Calls.{judgement_of}
use Rattle.camera_lens.specs.declared.Lens.{Lens}
use Rattle.camera_direction.specs.camera.Camera.{direction_of}
use Rattle.attitude.specs.Attitude.{attitude_of}
use Rattle.attitude_gimbal.specs.Cosines.{gimbal_of}
use Rattle.search.specs.declared.Identification.{Identification}
use Rattle.search.specs.Identified.{Identified, identification_of}
use Rattle.bench_set.specs.Frames.{side}
use Rattle.std.specs.Prelude.{Result, Ok, Err}
use Rattle.refusal.specs.declared.Refusal.{Refusal}
use Rattle.frame_verdict.specs.declared.Verdict.{Verdict}
use Rattle.attitude.specs.declared.Matrix.{Matrix}
use Rattle.attitude_gimbal.specs.declared.Cosines.{Cosines}

pub data Case : Type 0 where
  -- samples, threshold, row and column of a pixel, and its verdict
  pixel : List ℕ → ℕ → ℕ → ℕ → Kind → Case
  -- the same of every pixel but that one
  others : List ℕ → ℕ → ℕ → ℕ → Kind → Case
  -- cx, cy, the lens, x and y
  direction : ℤ → ℤ → Lens → ℤ → ℤ → Result Vec3 Refusal → Case
  -- two vectors of the camera, and their stars
  attitude : Vec3 → Vec3 → Vec3 → Vec3 → Result Matrix Refusal → Case
  -- the same four vectors, and what the gimbal computer is sent of their attitude
  cosines : Vec3 → Vec3 → Vec3 → Vec3 → Result Cosines Refusal → Case
  -- directions, catalogue, needed count, tolerance and ranking
  search : List ℤ → List ℕ → ℕ → ℕ → List ℕ → Identification → Case

abbrev pub judged_as : ℕ → ℕ → Kind → Result Verdict Refusal
judged_as row column kind = Ok (record { row = row; column = column; kind = kind })

-- the direction cosines of the matrix that an attitude gives
abbrev pub sent_of : Result Matrix Refusal → Result Cosines Refusal
sent_of (Err r) = Err r
sent_of (Ok m) = gimbal_of m

-- For a search, besides the answer computed, whatever keeps demand 3 is the answer
abbrev pub Holds : Case → Type 0
Holds (pixel samples threshold row column kind) = judgement_of samples side side threshold row column ≡ judged_as row column kind
Holds (others samples threshold row column kind) =
    (r c : ℕ) → r < side → c < side → ((r ≡ row) × (c ≡ column) → ⊥) → judgement_of samples side side threshold r c ≡ judged_as r c kind
Holds (direction cx cy lens x y answer) = direction_of cx cy lens x y ≡ answer
Holds (attitude v1 v2 w1 w2 answer) = attitude_of v1 v2 w1 w2 ≡ answer
Holds (cosines v1 v2 w1 w2 answer) = sent_of (attitude_of v1 v2 w1 w2) ≡ answer
Holds (search directions catalogue needed tolerance ranking answer) =
    (identification_of directions catalogue needed tolerance ranking ≡ answer)
    × ((r : Identification) → Identified directions catalogue needed tolerance ranking r → r ≡ answer)

-- every case of a table holds
abbrev pub AllHold : List Case → Type 0
AllHold [] = Unit
AllHold (c ∷ cs) = Holds c × AllHold cs
