-- What is asked of three files, and the bytes that answer it. Assumes nothing.
use Rattle.std.specs.Prelude.{List, ℕ}
use Rattle.chain.specs.Chain.{Call}
use Rattle.files.specs.Settings.{reading_of}
use Rattle.text.specs.Refused.{refusal_line}
use Rattle.listing.specs.declared.Asked.{Asked}
use Rattle.listing.specs.declared.Asked.TheVariants.{Listing, Rival}
use Rattle.listing.specs.Listing.{chain_on, samples_in, answer_text}
use Rattle.listing.specs.Rival.{call_text}
use Rattle.std.specs.Prelude.{Result, Ok, Err}
use Rattle.refusal.specs.declared.Refusal.{Refusal}
use Rattle.chain.specs.declared.Settings.{Settings}

-- the lines of a call of the chain
abbrev pub lines_of : Asked → Call → List ℕ
lines_of Listing c = answer_text c
lines_of Rival c = call_text c

-- and how many bytes they have at most
abbrev pub most_of : Asked → ℕ
most_of Listing = 1120
most_of Rival = 840

-- ---- the files

abbrev pub read_text : Asked → List ℕ → List ℕ → Result Settings Refusal → List ℕ
read_text asked frame catalogue (Err r) = refusal_line r
read_text asked frame catalogue (Ok s) = lines_of asked (chain_on (samples_in frame s) catalogue s)

-- the text for settings.bin, frame.bin and catalogue.bin
unfoldable pub asked_text : Asked → List ℕ → List ℕ → List ℕ → List ℕ
asked_text asked settings frame catalogue = read_text asked frame catalogue (reading_of settings)
