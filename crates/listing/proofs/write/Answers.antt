-- `listing::write` meets its contract: what is asked is the listing. Assumes nothing.
use Rattle.std.proofs.Common.{ap, ◌∙◌, List, ℕ}
use Rattle.text.specs.Room.{room_with, length_in}
use Rattle.listing.specs.Listing.{room_size}
use Rattle.listing.specs.AskedLaws.{listing-asked}
use Rattle.listing.proofs.write.Goals as goal

pub returns-clause-value : goal.returns-clause-value
returns-clause-value c =
    let a = c.args in
    c.write_asked.ensures.value
    ∙ ap (λ (t : List ℕ). length_in room_size a.room.now t) (listing-asked a.settings.now a.frame.now a.catalogue.now)

pub returns-clause-room_after : goal.returns-clause-room_after
returns-clause-room_after c =
    let a = c.args in
    c.write_asked.ensures.room_after
    ∙ ap (λ (t : List ℕ). room_with room_size a.room.now t) (listing-asked a.settings.now a.frame.now a.catalogue.now)
