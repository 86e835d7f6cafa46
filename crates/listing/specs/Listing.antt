-- The whole listing of three files, accepted or refused. Assumes nothing.
use Rattle.std.specs.Prelude.{Bool, true, cond, ◌≡◌, List, ◌++◌, ℕ, ltb, eqb, length, get_or, replicate}
use Rattle.refusal.specs.declared.Refusal.{Refusal}
use Rattle.refusal.specs.Numbers as number
use Rattle.refusal.specs.Table.{answered}
use Rattle.chain.specs.declared.Settings.{Settings}
use Rattle.chain.specs.declared.Tracked.{Tracked}
use Rattle.chain.specs.Chain.{Call, call, listed, our_identification, tracked_of, room_after}
use Rattle.files.specs.Settings.{reading_of}
use Rattle.files.specs.Samples.{sample_count, samples_of}
use Rattle.text.specs.Refused.{refusal_line}
use Rattle.text.specs.Ascii.{ascii}
use Rattle.listing.specs.lines.Lines.{name_of, report_lines, matrix_lines}
use Rattle.std.specs.Prelude.{Result, Ok, Err}

-- ---- the names of an assignment's stars, or "-" for every one where none are shown

abbrev pub named : List ℕ → List ℕ → ℕ → List ℕ
named catalogue words k = name_of catalogue (get_or words k 0)

abbrev pub nobody : ℕ → List ℕ
nobody k = ascii "-"

-- what the call's own search found, also where the attitude is refused
abbrev pub found : Call → List ℕ
found c = (our_identification (listed c).report c.catalogue c.settings).stars

-- ---- a call of the chain

-- "measured", the stars and the matrix
unfoldable pub accepted_text : List ℕ → Tracked → List ℕ
accepted_text catalogue t = report_lines t.report (named catalogue t.stars) ++ matrix_lines t.matrix

-- all refusals but 12, 13 and 14 come before the frame's list was accepted, the lens's too, whose number is higher
abbrev pub early : ℕ → Bool
early n = cond (ltb n number.few) true (ltb number.close n)

-- 12, 13 and 14 show the list first; with 14 the search too was accepted. An earlier refusal stands alone.
unfoldable pub refused_text : Call → Refusal → List ℕ
refused_text c r =
    cond (early r.number) (refusal_line r)
    (report_lines (listed c).report (cond (eqb r.number number.close) (named c.catalogue (found c)) nobody) ++ refusal_line r)

unfoldable pub answer_text : Call → List ℕ
answer_text c = answered (refused_text c) (accepted_text c.catalogue (tracked_of c)) (tracked_of c).outcome

-- ---- the files

-- the chain on the samples of a frame file, with room for any ranking
abbrev pub chain_on : List ℕ → List ℕ → Settings → Call
chain_on samples catalogue s = call samples catalogue s (replicate 4096 0)

abbrev pub samples_in : List ℕ → Settings → List ℕ
samples_in frame s = samples_of frame (sample_count (length frame) s.width s.height)

unfoldable pub text_of : List ℕ → List ℕ → Result Settings Refusal → List ℕ
text_of frame catalogue (Err r) = refusal_line r
text_of frame catalogue (Ok s) = answer_text (chain_on (samples_in frame s) catalogue s)

unfoldable pub listing_text : List ℕ → List ℕ → List ℕ → List ℕ
listing_text settings frame catalogue = text_of frame catalogue (reading_of settings)

-- ---- the room

-- how many bytes a room for any listing has; a shorter one gets nothing (`room_with` of text)
abbrev pub room_size : ℕ
room_size = 2048

-- ---- what the lines of a refusal are handed: the call's refusal, and the room that the chain left

pub record Refuses (c : Call) (r : Refusal) (ranking : List ℕ) : Type 0 where
  pub outcome : (tracked_of c).outcome ≡ Err r
  pub left : ranking ≡ room_after c

-- the same at 14, with the number of listed stars
pub record Finds (c : Call) (r : Refusal) (ranking : List ℕ) (count : ℕ) : Type 0 where
  pub refuses : Refuses c r ranking
  pub close : r.number ≡ number.close
  pub stars : count ≡ (listed c).report.count
