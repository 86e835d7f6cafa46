-- The refusals of a whole burst, one row at a time, and what a burst that has none is. Assumes nothing.
use Rattle.std.specs.Prelude.{Bool, true, false, not, ◌||◌, ◌≡◌, refl, ℕ, suc, ◌+◌, ◌*◌, ◌/◌, ◌%◌, ◌≤◌, ◌<◌, eqb, ltb}
use Rattle.std.proofs.Common.{le_refl, suc-mul, mul_comm, mul-le-mul, arith}
use Rattle.std.proofs.Math.Nat.{div-add-mod', div-le_of_le-mul}
use borrow.Author.Tests.{ltb-false, eqb-true, lt-ltb, le-ltb, eq-eqb, ne_eqb}
use Rattle.refusal.specs.Numbers as number
use Rattle.refusal.specs.Table.{refusal_of, first_applying}
use Rattle.refusal.specs.Laws.{Silent}
use Rattle.refusal.proofs.Laws.{accepted-silent}
use Rattle.refusal.specs.AnswerLaws.{answer_by}
use Rattle.refusal.specs.Counted.{count_answer}
use Rattle.refusal.proofs.CountedLaws.{count_by}
use Rattle.frame_list.specs.input.Input.{size_out}
use Rattle.frame_list.specs.input.InputLaws.{size-says}
use Rattle.chain_burst.specs.records.Record.{record_size}
use Rattle.chain_burst.specs.Burst.{Call, most_frames, burst_rows, frames_in, refusals_of, burst_of, answer_for}
use Rattle.std.specs.Prelude.{Ok}

-- so many whole frames are the samples, and the room has room for their records
pub record Whole (size count samples records : ℕ) : Type 0 where
  pub whole : count * size ≡ samples
  pub most : samples ≤ most_frames * size
  pub room : record_size * count ≤ records

-- frame k of so many ends within them
pub frame-fits : (size count k : ℕ) → k < count → k * size + size ≤ count * size
frame-fits size count k h = omega (arith, mul-le-mul {n₁ = suc k} {m₁ = size} {n₂ = count} {m₂ = size} h (le_refl size), suc-mul k size)

-- a frame whose sides are in range has samples
pub size-some : (width height : ℕ) → size_out width height ≡ false → 0 < width * height
size-some width height e =
    let s = size-says width height e in
    omega (arith, mul-le-mul {n₁ = 7} {m₁ = 7} {n₂ = width} {m₂ = height} s.0.0 s.1.0)

-- so few samples are so few frames
pub frames-few : (size samples : ℕ) → samples ≤ most_frames * size → samples / size ≤ most_frames
frames-few size samples h = div-le_of_le-mul size (omega (arith, mul_comm size most_frames))

module _ (width height samples records : ℕ) where
  abbrev size : ℕ
  size = width * height

  pub size-refused : size_out width height ≡ true → first_applying (burst_rows width height samples records) ≡ refusal_of number.size 0
  unfolding burst_rows first_applying
  size-refused e = rw e

  module _ (e : size_out width height ≡ false) where
    pub part-refused : (samples % size ≡ 0 → ⊥) → first_applying (burst_rows width height samples records) ≡ refusal_of number.samples 0
    unfolding burst_rows first_applying
    part-refused h = rw (e, ne_eqb (samples % size) 0 h)

    pub many-refused : samples % size ≡ 0 → most_frames * size < samples → first_applying (burst_rows width height samples records) ≡ refusal_of number.samples 0
    unfolding burst_rows first_applying
    many-refused h k = rw (e, eq-eqb (samples % size) 0 h, lt-ltb (most_frames * size) samples k)

    module _ (h : samples % size ≡ 0) (k : samples ≤ most_frames * size) where
      pub room-refused : records < record_size * (samples / size) → first_applying (burst_rows width height samples records) ≡ refusal_of number.records_room 0
      unfolding burst_rows first_applying
      room-refused r = rw (e, eq-eqb (samples % size) 0 h, le-ltb (most_frames * size) samples k, lt-ltb records (record_size * (samples / size)) r)

      pub none-refused : record_size * (samples / size) ≤ records → first_applying (burst_rows width height samples records) ≡ Ok tt
      unfolding burst_rows first_applying
      none-refused r = rw (e, eq-eqb (samples % size) 0 h, le-ltb (most_frames * size) samples k, le-ltb records (record_size * (samples / size)) r)

  length-says : (a b : Bool) → not a || b ≡ false → (a ≡ true) × (b ≡ false)
  length-says true b h = (refl, h)
  length-says false b h = let z : ◌≡◌ {A = Bool} true false = h in (cc, cc)

  -- an accepted burst has sides in range and whole frames, at most 64, and its room is long enough
  module _ (h : first_applying (burst_rows width height samples records) ≡ Ok tt) where
    pub accepted-size : size_out width height ≡ false
    unfolding burst_rows Silent
    accepted-size = (accepted-silent (burst_rows width height samples records) h).0

    pub accepted-whole : Whole size (samples / size) samples records
    unfolding burst_rows Silent
    accepted-whole =
        let s = (accepted-silent (burst_rows width height samples records) h).1 in
        let l = length-says (eqb (samples % size) 0) (ltb (most_frames * size) samples) s.0 in
        let z = eqb-true (samples % size) 0 l.0 in
        record {
          whole = omega (arith, div-add-mod' samples size);
          most = ltb-false (most_frames * size) samples l.1;
          room = ltb-false records (record_size * (samples / size)) s.1.0;
        }

pub answers : (c : Call) → count_answer (burst_of c) ≡ answer_for c
unfolding burst_of burst_rows answer_by
answers c = count_by (frames_in c) (refusals_of c)
