-- The refusals of a call on a frame: 1 to 4, and 15 where it names a pixel. Each row's condition is document 01's sentence. Assumes nothing.
use Rattle.std.specs.Prelude.{Bool, not, cond, ◌&&◌, ◌||◌, List, [], ◌∷◌, ◌++◌, ℕ, ◌*◌, length, get_or, ltb, leb, eqb}
use Rattle.lists.specs.First.{first}
use Rattle.refusal.specs.Numbers as numbers
use Rattle.refusal.specs.Table.{Row, row, row_at}
use Rattle.refusal.specs.Answer.{Answer, refused_with}

abbrev pub within : ℕ → ℕ → ℕ → Bool
within least most x = leb least x && leb x most

-- a side of the frame is not 7 to 1,024
abbrev pub size_out : ℕ → ℕ → Bool
size_out width height = not (within 7 1024 width) || not (within 7 1024 height)

-- there is not a sample for each pixel
abbrev pub length_out : List ℕ → ℕ → ℕ → Bool
length_out samples width height = not (eqb (length samples) (width * height))

-- the threshold is not 1 to 4,095
abbrev pub threshold_out : ℕ → Bool
threshold_out threshold = not (within 1 4095 threshold)

-- the place of the first sample above 4,095, or the number of samples
unfoldable pub first_over : List ℕ → ℕ
first_over samples = first (λ k. ltb 4095 (get_or samples k 0)) (length samples)

-- some sample is above 4,095: there is a first one
abbrev pub sample_out : List ℕ → Bool
sample_out samples = ltb (first_over samples) (length samples)

-- no pixel of the frame has that row and column
abbrev pub pixel_out : ℕ → ℕ → ℕ → ℕ → Bool
pixel_out width height r c = leb height r || leb width c

abbrev pub frame_rows : List ℕ → ℕ → ℕ → ℕ → List Row
frame_rows samples width height threshold =
    row (size_out width height) numbers.size
    ∷ row (length_out samples width height) numbers.samples
    ∷ row (threshold_out threshold) numbers.threshold
    ∷ row_at (sample_out samples) numbers.sample (first_over samples)
    ∷ []

abbrev pub pixel_rows : List ℕ → ℕ → ℕ → ℕ → ℕ → ℕ → List Row
pixel_rows samples width height threshold r c = frame_rows samples width height threshold ++ (row (pixel_out width height r c) numbers.pixel ∷ [])

-- ---- in document 01's own terms: the refusal that applies, or else the answer that is given

abbrev pub frame_answer : List ℕ → ℕ → ℕ → ℕ → Answer → Answer
frame_answer samples width height threshold given =
    cond (size_out width height) (refused_with 1 0)
    (cond (length_out samples width height) (refused_with 2 0)
    (cond (threshold_out threshold) (refused_with 3 0)
    (cond (sample_out samples) (refused_with 4 (first_over samples))
    given)))

abbrev pub pixel_answer : List ℕ → ℕ → ℕ → ℕ → ℕ → ℕ → Answer → Answer
pixel_answer samples width height threshold r c given =
    frame_answer samples width height threshold
    (cond (pixel_out width height r c) (refused_with 15 0)
    given)
