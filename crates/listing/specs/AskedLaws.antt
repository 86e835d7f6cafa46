-- What is asked of three files is the listing, or the lines about rivals. Assumes nothing.
use Rattle.std.specs.Prelude.{◌≡◌, refl, List, ℕ}
use Rattle.files.specs.Settings.{reading_of}
use Rattle.listing.specs.declared.Asked.TheVariants.{Listing, Rival}
use Rattle.listing.specs.Listing as listing
use Rattle.listing.specs.Rival as rival
use Rattle.listing.specs.Asked.{read_text, asked_text}
use Rattle.std.specs.Prelude.{Result, Ok, Err}
use Rattle.refusal.specs.declared.Refusal.{Refusal}
use Rattle.chain.specs.declared.Settings.{Settings}

module _ (settings frame catalogue : List ℕ) where
  pub listing-asked : asked_text Listing settings frame catalogue ≡ listing.listing_text settings frame catalogue
  unfolding asked_text listing.listing_text listing.text_of
  listing-asked = go (reading_of settings)
    where
      go : (r : Result Settings Refusal) → read_text Listing frame catalogue r ≡ listing.text_of frame catalogue r
      go (Err r) = refl
      go (Ok s) = refl

  pub rival-asked : asked_text Rival settings frame catalogue ≡ rival.rival_text settings frame catalogue
  unfolding asked_text rival.rival_text rival.text_of
  rival-asked = go (reading_of settings)
    where
      go : (r : Result Settings Refusal) → read_text Rival frame catalogue r ≡ rival.text_of frame catalogue r
      go (Err r) = refl
      go (Ok s) = refl
