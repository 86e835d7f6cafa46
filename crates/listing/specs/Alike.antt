-- Magnitudes have no say in what the program prints: for two valid catalogues with the same identities and directions the listing is the same, byte for byte,
-- accepted or refused. Assumes nothing.
use Rattle.std.proofs.Math.Bool.{cond}
use Rattle.std.specs.Prelude.{◌≡◌, List, ◌++◌, ℕ, ltb, eqb, get_or, replicate}
use Rattle.std.proofs.Math.Path.{refl}
use Rattle.refusal.specs.declared.Refusal.{Refusal}
use Rattle.refusal.specs.Numbers as number
use Rattle.refusal.specs.Table.{answered}
use Rattle.catalogue.specs.Alike.{Alike, identity-same}
use Rattle.chain.specs.declared.Settings.{Settings}
use Rattle.chain.specs.Chain.{Call, call, listed}
use Rattle.chain.specs.Alike.{our-search-same, chain_same}
use Rattle.files.specs.Settings.{reading_of}
use Rattle.text.specs.Refused.{refusal_line}
use Rattle.text.specs.Ascii.{ascii}
use Rattle.text.specs.Decimal.{decimal}
use Rattle.listing.specs.lines.Lines.{name_of, report_lines, matrix_lines}
use Rattle.listing.specs.Listing.{nobody, early, accepted_text, refused_text, answer_text, samples_in, text_of, listing_text}
use Rattle.std.specs.Prelude.{Result, Ok, Err}

module _ {first second : List ℕ} (a : Alike first second) where
  -- the name of a star
  name-same : (word : ℕ) → name_of first word ≡ name_of second word
  unfolding name_of
  name-same word = (λ j. cond (ltb word (a.count j)) (decimal (identity-same a word j)) (ascii "-"))

  module _ (samples : List ℕ) (s : Settings) (room : List ℕ) where
    abbrev one : Call
    one = call samples first s room

    abbrev other : Call
    other = call samples second s room

    refused-same : (r : Refusal) → refused_text one r ≡ refused_text other r
    unfolding refused_text
    refused-same r =
        let found = our-search-same a (listed one).report s in
        (λ j.
        cond (early r.number) (refusal_line r)
        (report_lines (listed one).report (cond (eqb r.number number.close) (λ k. name-same (get_or (found j).stars k 0) j) nobody) ++ refusal_line r))

    answer-same : answer_text one ≡ answer_text other
    unfolding answer_text accepted_text
    answer-same =
        let t = chain_same a samples s room in
        (λ j.
        answered (λ r. refused-same r j)
        (report_lines (t j).report (λ k. name-same (get_or (t j).stars k 0) j) ++ matrix_lines (t j).matrix)
        (t j).outcome)

  pub listing-same : (settings frame : List ℕ) → listing_text settings frame first ≡ listing_text settings frame second
  unfolding listing_text text_of
  listing-same settings frame = go (reading_of settings)
    where
      go : (r : Result Settings Refusal) → text_of frame first r ≡ text_of frame second r
      go (Err r) = refl
      go (Ok s) = answer-same (samples_in frame s) s (replicate 4096 0)
