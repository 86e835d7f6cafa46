-- Document 01, "The bench set": cases A to O, one under the other, with the numbers that stand there, A and D lone as T-06 has them, P to S for T-03's
-- rule over threes, T to W for T-06's rule, and the matrices of I and J as T-08's direction cosines. Where a case names only some numbers of a verdict
-- the rest follow from the same rules, worked out by hand. Assumes nothing.
use Rattle.std.specs.Prelude.{List, [], ◌∷◌, ◌++◌, ℕ, ℤ, pos, neg_ℤ}
use Rattle.vectors.specs.declared.Vec3.{Vec3}
use Rattle.frame_verdict.specs.declared.Kind.{Kind}
use Rattle.frame_verdict.specs.declared.Kind.TheVariants.{Beaten, Edge, Lone, Measured}
use Rattle.camera_lens.specs.Stated.{settings_lens}
use Rattle.attitude_gimbal.specs.declared.Triple.{Triple}
use Rattle.attitude_gimbal.specs.Bench.{one, minus_one, nought, triple}
use Rattle.search.specs.declared.Identification.{Identification}
use Rattle.search.specs.Identified.{refused_with, pad_to}
use Rattle.bench_set.specs.Frames.{lit, evenly, frame_of}
use Rattle.bench_set.specs.Case.{Case, pixel, others, direction, attitude, cosines, search}
use Rattle.std.specs.Prelude.{Result, Ok, Err}
use Rattle.refusal.specs.declared.Refusal.{Refusal}
use Rattle.attitude.specs.declared.Matrix.{Matrix}
use Rattle.attitude_gimbal.specs.declared.Cosines.{Cosines}

-- ---- answers, in document 01's numbers

abbrev pub measured : ℕ → ℕ → ℕ → Kind
measured x y brightness = Measured (record { x = x; y = y; brightness = brightness })

abbrev pub minus : ℕ → ℤ
minus n = neg_ℤ (pos n)

abbrev pub vec : ℤ → ℤ → ℤ → Vec3
vec x y z = record { x = x; y = y; z = z }

abbrev pub found : Vec3 → Result Vec3 Refusal
found v = Ok v

abbrev pub rows : Vec3 → Vec3 → Vec3 → Result Matrix Refusal
rows a b c = Ok (record { row0 = a; row1 = b; row2 = c })

abbrev pub unturned : ℕ → Result Matrix Refusal
unturned number = Err (record { number = number; place = 0 })

-- rows of floats: `one` is exactly 1, and `nought` is 0 without a sign
abbrev pub sent : Triple → Triple → Triple → Result Cosines Refusal
sent a b c = Ok (record { row0 = a; row1 = b; row2 = c })

-- the stars of the directions; a word behind the last direction is 0
abbrev pub stars : List ℕ → Identification
stars words = record { outcome = Ok tt; stars = pad_to 8 words }

abbrev pub unfound : ℕ → Identification
unfound number = refused_with (record { number = number; place = 0 })

-- "none" is written as the number of stars, three here
abbrev pub none : ℕ
none = 3

-- ---- the three axes, as directions and as the records 1, 2 and 3 of a catalogue

abbrev pub axis0 : List ℤ
axis0 = pos 1000000000 ∷ pos 0 ∷ pos 0 ∷ []

abbrev pub axis1 : List ℤ
axis1 = pos 0 ∷ pos 1000000000 ∷ pos 0 ∷ []

abbrev pub axis2 : List ℤ
axis2 = pos 0 ∷ pos 0 ∷ pos 1000000000 ∷ []

-- 10^9 and 0 in four bytes, high byte first
abbrev pub full : List ℕ
full = 59 ∷ 154 ∷ 202 ∷ 0 ∷ []

abbrev pub empty : List ℕ
empty = 0 ∷ 0 ∷ 0 ∷ 0 ∷ []

-- 2,500: document 01 gives its stars no magnitude, so all have one that is in range
abbrev pub magnitude : List ℕ
magnitude = 0 ∷ 0 ∷ 9 ∷ 196 ∷ []

abbrev pub axes : List ℕ
axes =
    (0 ∷ 0 ∷ 0 ∷ 1 ∷ full ++ empty ++ empty ++ magnitude)
    ++ (0 ∷ 0 ∷ 0 ∷ 2 ∷ empty ++ full ++ empty ++ magnitude)
    ++ (0 ∷ 0 ∷ 0 ∷ 3 ∷ empty ++ empty ++ full ++ magnitude)

-- ---- T-03: the listing's sky with two stars exchanged, and stars whose triple product is exactly -10^12, or smaller in size

abbrev pub three : ℤ → ℤ → ℤ → List ℤ
three x y z = x ∷ y ∷ z ∷ []

-- 600,000,000, its opposite, 800,000,000 and -1,000 in four bytes
abbrev pub six : List ℕ
six = 35 ∷ 195 ∷ 70 ∷ 0 ∷ []

abbrev pub minus_six : List ℕ
minus_six = 220 ∷ 60 ∷ 186 ∷ 0 ∷ []

abbrev pub eight : List ℕ
eight = 47 ∷ 175 ∷ 8 ∷ 0 ∷ []

abbrev pub minus_thousand : List ℕ
minus_thousand = 255 ∷ 255 ∷ 252 ∷ 24 ∷ []

abbrev pub exchanged : List ℕ
exchanged =
    (0 ∷ 0 ∷ 0 ∷ 11 ∷ six ++ empty ++ eight ++ magnitude)
    ++ (0 ∷ 0 ∷ 0 ∷ 22 ∷ minus_six ++ empty ++ eight ++ magnitude)
    ++ (0 ∷ 0 ∷ 0 ∷ 33 ∷ empty ++ six ++ eight ++ magnitude)

-- thousandths (10^6, 0, 0), (600,000, 800,000, 0), (0, 10^6, -1): -8 x 10^11
abbrev pub small_turn : List ℕ
small_turn =
    (0 ∷ 0 ∷ 0 ∷ 1 ∷ full ++ empty ++ empty ++ magnitude)
    ++ (0 ∷ 0 ∷ 0 ∷ 2 ∷ six ++ eight ++ empty ++ magnitude)
    ++ (0 ∷ 0 ∷ 0 ∷ 3 ∷ empty ++ full ++ minus_thousand ++ magnitude)

-- thousandths (10^6, 0, 0), (0, 10^6, 0), (600,000, 800,000, -1): -10^12
abbrev pub least_turn : List ℕ
least_turn =
    (0 ∷ 0 ∷ 0 ∷ 1 ∷ full ++ empty ++ empty ++ magnitude)
    ++ (0 ∷ 0 ∷ 0 ∷ 2 ∷ empty ++ full ++ empty ++ magnitude)
    ++ (0 ∷ 0 ∷ 0 ∷ 3 ∷ six ++ eight ++ minus_thousand ++ magnitude)

-- the same with (10^6, 0, -1) for the third: -10^12 too
abbrev pub least_turn' : List ℕ
least_turn' =
    (0 ∷ 0 ∷ 0 ∷ 1 ∷ full ++ empty ++ empty ++ magnitude)
    ++ (0 ∷ 0 ∷ 0 ∷ 2 ∷ empty ++ full ++ empty ++ magnitude)
    ++ (0 ∷ 0 ∷ 0 ∷ 3 ∷ full ++ empty ++ minus_thousand ++ magnitude)

abbrev pub rising : List ℕ
rising = 0 ∷ 1 ∷ 2 ∷ []

abbrev pub falling : List ℕ
falling = 2 ∷ 1 ∷ 0 ∷ []

-- ---- the table

unfoldable pub table : List Case
table =
    -- A
    pixel (frame_of (lit 3 3 100 ∷ [])) 50 3 3 Lone
    -- B
    ∷ pixel (frame_of (lit 3 3 100 ∷ lit 3 4 100 ∷ [])) 50 3 3 (measured 896 768 4800)
    ∷ pixel (frame_of (lit 3 3 100 ∷ lit 3 4 100 ∷ [])) 50 3 4 Beaten
    -- C
    ∷ pixel (frame_of (lit 3 3 100 ∷ lit 3 2 50 ∷ [])) 50 3 3 (measured 683 768 3600)
    -- D
    ∷ pixel (frame_of (lit 3 3 100 ∷ lit 0 0 24 ∷ [])) 50 3 3 Lone
    -- E
    ∷ pixel (frame_of (lit 3 2 100 ∷ [])) 50 3 2 Edge
    -- F
    ∷ pixel (evenly 4095) 4095 0 0 Edge
    ∷ others (evenly 4095) 4095 0 0 Beaten
    -- G: F is 16,384, X = x - cx = 0
    ∷ direction (pos 12288) (pos 0) (settings_lens 16384) (pos 12288) (pos 0) (found (vec (pos 0) (pos 0) (pos 1000000000)))
    -- H: X = -12,288
    ∷ direction (pos 12288) (pos 0) (settings_lens 16384) (pos 0) (pos 0) (found (vec (minus 600000000) (pos 0) (pos 800000000)))
    -- I
    ∷ attitude
    (vec (pos 0) (pos 0) (pos 1000000000)) (vec (pos 1000000000) (pos 0) (pos 0))
    (vec (pos 0) (pos 0) (pos 1000000000)) (vec (pos 1000000000) (pos 0) (pos 0))
    (rows (vec (pos 1000000000) (pos 0) (pos 0)) (vec (pos 0) (pos 1000000000) (pos 0)) (vec (pos 0) (pos 0) (pos 1000000000)))
    ∷ cosines
    (vec (pos 0) (pos 0) (pos 1000000000)) (vec (pos 1000000000) (pos 0) (pos 0))
    (vec (pos 0) (pos 0) (pos 1000000000)) (vec (pos 1000000000) (pos 0) (pos 0))
    (sent (triple one nought nought) (triple nought one nought) (triple nought nought one))
    -- J
    ∷ attitude
    (vec (pos 0) (pos 0) (pos 1000000000)) (vec (pos 0) (pos 1000000000) (pos 0))
    (vec (pos 0) (pos 0) (pos 1000000000)) (vec (pos 1000000000) (pos 0) (pos 0))
    (rows (vec (pos 0) (minus 1000000000) (pos 0)) (vec (pos 1000000000) (pos 0) (pos 0)) (vec (pos 0) (pos 0) (pos 1000000000)))
    ∷ cosines
    (vec (pos 0) (pos 0) (pos 1000000000)) (vec (pos 0) (pos 1000000000) (pos 0))
    (vec (pos 0) (pos 0) (pos 1000000000)) (vec (pos 1000000000) (pos 0) (pos 0))
    (sent (triple nought minus_one nought) (triple one nought nought) (triple nought nought one))
    -- K
    ∷ attitude
    (vec (pos 0) (pos 0) (pos 1000000000)) (vec (pos 0) (pos 0) (pos 1000000000))
    (vec (pos 0) (pos 0) (pos 1000000000)) (vec (pos 1000000000) (pos 0) (pos 0))
    (unturned 14)
    -- L
    ∷ search (axis0 ++ axis1 ++ axis2) axes 3 0 (rising ++ rising ++ rising) (stars (0 ∷ 1 ∷ 2 ∷ []))
    -- M
    ∷ search (axis0 ++ axis1 ++ axis2) axes 3 0 (falling ++ rising ++ rising) (stars (2 ∷ 0 ∷ 1 ∷ []))
    -- N
    ∷ search (axis0 ++ axis1) axes 3 0 (rising ++ rising) (unfound 12)
    -- O
    ∷ search ((pos 600000000 ∷ pos 800000000 ∷ pos 0 ∷ []) ++ axis0 ++ axis1 ++ axis2) axes 3 0 (rising ++ rising ++ rising ++ rising)
    (stars (none ∷ 0 ∷ 1 ∷ 2 ∷ []))
    -- P: the listing's directions and ranking, the stars 11 and 22 exchanged: 22, 11, 33
    ∷ search (three (minus 600000000) (pos 0) (pos 800000000) ++ three (pos 600000000) (pos 0) (pos 800000000) ++ three (pos 0) (pos 600000000) (pos 800000000))
    exchanged 3 0 (rising ++ rising ++ (2 ∷ 0 ∷ 1 ∷ [])) (stars (1 ∷ 0 ∷ 2 ∷ []))
    -- Q: mirror images, but the products are 8 x 10^11 and -8 x 10^11: they fit
    ∷ search (axis0 ++ three (pos 600000000) (pos 800000000) (pos 0) ++ three (pos 0) (pos 1000000000) (pos 1000)) small_turn 3 0 (rising ++ rising ++ rising)
    (stars (0 ∷ 1 ∷ 2 ∷ []))
    -- R: 10^12 and -10^12 do not
    ∷ search (axis0 ++ axis1 ++ three (pos 600000000) (pos 800000000) (pos 1000)) least_turn 3 0 (rising ++ rising ++ rising) (unfound 13)
    -- S: 10^12 - 1, which is 999,999 x (1,000,000 x 1 - 1 x -1), and -10^12 do
    ∷ search (three (pos 999999000) (pos 0) (pos 0) ++ three (pos 0) (pos 1000000000) (pos 1000) ++ three (pos 1000000000) (minus 1000) (pos 1000)) least_turn' 3
    10000000000000
    (rising ++ rising ++ rising) (stars (0 ∷ 1 ∷ 2 ∷ []))
    -- T: D with light on the left and right. S is 24, the weights 2,400 - 24 and twice 1,200 - 24
    ∷ pixel (frame_of (lit 3 3 100 ∷ lit 3 2 50 ∷ lit 3 4 50 ∷ lit 0 0 24 ∷ [])) 50 3 3 (measured 768 768 4728)
    -- U: half of 51 is 25, which a neighbour at a corner reaches. B is 2,400 + 600; 256 x -600 / 3,000 is -51
    ∷ pixel (frame_of (lit 3 3 100 ∷ lit 2 2 25 ∷ [])) 51 3 3 (measured 717 717 3000)
    -- V: which 24 does not
    ∷ pixel (frame_of (lit 3 3 100 ∷ lit 2 2 24 ∷ [])) 51 3 3 Lone
    -- W: A with threshold 1, whose half is 0
    ∷ pixel (frame_of (lit 3 3 100 ∷ [])) 1 3 3 (measured 768 768 2400)
    ∷ []
