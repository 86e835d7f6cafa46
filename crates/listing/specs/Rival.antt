-- What the desk prints about rivals: "alone", or the listed stars as the listing has them with the rival's names, or the refusal. Assumes nothing.
use Rattle.std.specs.Prelude.{true, cond, List, ℕ, min}
use Rattle.refusal.specs.Table.{answered}
use Rattle.frame_list.specs.declared.Report.{Report}
use Rattle.chain.specs.Chain.{Call, listed}
use Rattle.files.specs.Settings.{reading_of}
use Rattle.text.specs.Ascii.{ascii}
use Rattle.text.specs.Refused.{refusal_line}
use Rattle.listing.specs.lines.Lines.{shown_in, star_lines}
use Rattle.listing.specs.Listing.{chain_on, samples_in}
use Rattle.search_rival.specs.declared.Contest.{Contest}
use Rattle.chain.specs.rival.Chain.{contested_of}
use Rattle.std.specs.Prelude.{Result, Ok, Err}
use Rattle.refusal.specs.declared.Refusal.{Refusal}
use Rattle.chain.specs.declared.Settings.{Settings}

unfoldable pub contest_text : Report → List ℕ → Contest → List ℕ
contest_text report catalogue c =
    answered refusal_line (cond c.rival (star_lines report.stars (shown_in true catalogue c.stars) (min 8 report.count)) (ascii "alone\n"))
    c.outcome

unfoldable pub call_text : Call → List ℕ
call_text c = contest_text (listed c).report c.catalogue (contested_of c)

unfoldable pub text_of : List ℕ → List ℕ → Result Settings Refusal → List ℕ
text_of frame catalogue (Err r) = refusal_line r
text_of frame catalogue (Ok s) = call_text (chain_on (samples_in frame s) catalogue s)

-- the lines for settings.bin, frame.bin and catalogue.bin
unfoldable pub rival_text : List ℕ → List ℕ → List ℕ → List ℕ
rival_text settings frame catalogue = text_of frame catalogue (reading_of settings)
