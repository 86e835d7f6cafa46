-- The chain's tests before anything is written, in document 01's own terms. Assumes nothing.
use Rattle.std.specs.Prelude.{not, cond, List, [], ℕ, ltb, length}
use Rattle.refusal.specs.Answer.{Answer, refused_with, accepted_with}
use Rattle.camera_lens.specs.Lens.{lens_ok}
use Rattle.camera_direction.specs.Settings.{position_ok}
use Rattle.catalogue.specs.Check.{length_ok, record_broken, broken_of}
use Rattle.search.specs.Refusals.{demand_ok}
use Rattle.chain.specs.declared.Settings.{Settings}
use Rattle.std.specs.Prelude.{Result, Ok, Err}
use Rattle.refusal.specs.declared.Refusal.{Refusal}

-- the answer that a catalogue by itself must have
abbrev pub catalogue_answer : List ℕ → Answer
catalogue_answer bytes =
    cond (not (length_ok (length bytes))) (refused_with 6 0)
    (cond (record_broken bytes) (refused_with 7 (broken_of bytes))
    (accepted_with []))

-- a refusal that is handed in, or else the answer that is given
abbrev pub unless : Result Unit Refusal → Answer → Answer
unless (Ok _) given = given
unless (Err r) given = refused_with r.number r.place

-- the answer that the chain's tests must have: the frame's refusal, 19 and 5, the stars' refusal, then 9, 10 and 12
abbrev pub admit_answer : Result Unit Refusal → Result Unit Refusal → Settings → ℕ → ℕ → Answer
admit_answer frame stars s words count =
    unless frame
    (cond (not (lens_ok s.lens)) (refused_with 19 0)
    (cond (not (position_ok s.cx s.cy)) (refused_with 5 0)
    (unless stars
    (cond (not (demand_ok s.needed s.tolerance)) (refused_with 9 0)
    (cond (ltb words 4096) (refused_with 10 0)
    (cond (ltb count s.needed) (refused_with 12 0)
    (accepted_with [])))))))
