-- What the steps behind the frame's list hand to each other: 8 and 11 cannot arise, the ranking stands at the front of the room, and what the search
-- finds gives at least two directions a star. Assumes nothing.
use Rattle.std.specs.Prelude.{◌≡◌, List, ◌++◌, ℕ, ◌*◌, ◌-◌, ◌≤◌, ℤ, pos, length, take, drop, replicate}
use Rattle.std.proofs.Common.{◌∙◌, mul-le-mul, arith, length-take-le}
use Rattle.std.proofs.Math.Path.{ap}
use Rattle.std.proofs.Math.ListN.{length-append}
use Rattle.std.proofs.lemmas.List.{length-replicate}
use Rattle.std.proofs.Math.Seq.{take_at}
use Rattle.vectors.specs.Triples.{triples}
use Rattle.frame_list.specs.declared.Report.{Report}
use Rattle.camera_direction.specs.ListLaws.{directions_in, Directions}
use Rattle.catalogue.specs.Format.{records_in}
use Rattle.catalogue.specs.Stars.{stars_of}
use Rattle.catalogue.specs.ValidStars.{valid-length}
use Rattle.ranking.specs.Laws.{Ranks, ranks}
use Rattle.ranking.specs.Room as room
use Rattle.ranking.specs.Room.{rank_outcome_of}
use Rattle.ranking.specs.RoomLaws.{Sound, sound-accepted, room-written}
use Rattle.search.specs.declared.Identification.{Identification}
use Rattle.search.specs.Identified.{setup_for, Searched, Identified, accepted}
use Rattle.search.specs.Call as search
use Rattle.search.proofs.Answers.{identified}
use Rattle.search.proofs.Promise.{searched}
use Rattle.chain.specs.declared.Settings.{Settings}
use Rattle.chain.specs.SightLaws.{directions-length, directions-within}
use Rattle.chain.specs.Chain.{sights_of, our_ranking, our_identification, ranked_room}
use Rattle.chain.specs.Ready.{Ready, Settles}

-- ---- the directions of a report's stars

module _ (report : Report) (bytes : List ℕ) (s : Settings) (few : report.count ≤ 8) (size : length report.stars ≡ 8) where
  abbrev sights : List ℤ
  sights = sights_of report bytes s

  pub sights-length : length sights ≡ 3 * report.count
  unfolding sights_of
  sights-length = directions-length s (take report.count report.stars)
      ∙ ap (λ (n : ℕ). 3 * n) (length-take-le report.count report.stars (omega arith))

  pub sights-count : directions_in sights ≡ report.count
  sights-count = omega (arith, sights-length)

  -- the array that they stand in
  pub sights-array : length (sights ++ replicate (24 - 3 * report.count) (pos 0)) ≡ 24
  sights-array = omega (
    arith,
    length-append sights (replicate (24 - 3 * report.count) (pos 0)),
    length-replicate (24 - 3 * report.count) (pos 0),
    sights-length,
  )

  pub sights-front : take (3 * report.count) (sights ++ replicate (24 - 3 * report.count) (pos 0)) ≡ sights
  sights-front = take_at sights _ (3 * report.count) sights-length

  -- refusal 8 cannot arise
  pub sights-listed : Directions sights
  unfolding sights_of
  sights-listed = record {
    threes = omega (arith, sights-length);
    most = omega (arith, sights-count);
    within =
        directions-within s (take report.count report.stars);
  }

-- ---- the steps of a call that is ready

module _ (report : Report) (bytes : List ℕ) (s : Settings) (room₀ : List ℕ) (h : Ready report bytes s room₀) where
  abbrev seen : List ℤ
  seen = sights_of report bytes s

  seen-count : directions_in seen ≡ report.count
  seen-count = sights-count report bytes s h.few h.size

  seen-listed : Directions seen
  seen-listed = sights-listed report bytes s h.few h.size

  -- any ranking fits the room
  pub words-most : report.count * records_in bytes ≤ 4096
  words-most = mul-le-mul h.few h.catalogue.size.most

  ranking-sound : Sound seen bytes s.tolerance (length room₀)
  ranking-sound = record { catalogue = h.catalogue; list = seen-listed; near = h.near; room = rw seen-count (omega (arith, words-most, h.long)) }

  -- the room after the call that ranks
  pub room-ranked : room.room_after seen bytes s.tolerance room₀ ≡ ranked_room report bytes s room₀
  unfolding ranked_room our_ranking rank_outcome_of
  room-ranked = room-written seen bytes s.tolerance room₀ (sound-accepted seen bytes s.tolerance (length room₀) ranking-sound) ∙ rw seen-count

  stars-count : triples (stars_of bytes) ≡ records_in bytes
  stars-count = omega (arith, valid-length bytes h.catalogue)

  our-ranks : Ranks (directions_in seen) (records_in bytes) (our_ranking report bytes s)
  unfolding our_ranking
  our-ranks = rw stars-count at (ranks seen (stars_of bytes) s.tolerance)

  pub our-length : length (our_ranking report bytes s) ≡ report.count * records_in bytes
  our-length = our-ranks.sized ∙ rw seen-count

  -- the ranking stands at its front
  pub room-front : take (report.count * records_in bytes) (ranked_room report bytes s room₀) ≡ our_ranking report bytes s
  unfolding ranked_room
  room-front = take_at (our_ranking report bytes s) _ (report.count * records_in bytes) our-length

  pub room-long : report.count * records_in bytes ≤ length (ranked_room report bytes s room₀)
  unfolding ranked_room
  room-long = omega (arith, length-append (our_ranking report bytes s) (drop (report.count * records_in bytes) room₀), our-length)

  -- refusal 11 cannot arise: our ranking names each star once a row
  pub our-call : search.Call seen bytes s.needed s.tolerance (our_ranking report bytes s)
  our-call =
      record {
        list = seen-listed;
        catalogue = h.catalogue;
        least = h.least;
        most = h.most;
        near = h.near;
        size = our-ranks.sized;
        ranked = record { below = our-ranks.below; names = our-ranks.names; once = our-ranks.once };
      }

  pub enough-sights : s.needed ≤ directions_in seen
  enough-sights = omega (arith, seen-count, h.enough)

  module _ (r : Identification) (i : Identified seen bytes s.needed s.tolerance (our_ranking report bytes s) r) where
    pub identification-is : r ≡ our_identification report bytes s
    unfolding our_identification
    identification-is = identified seen bytes s.needed s.tolerance (our_ranking report bytes s) r i

    pub our-search : Searched (setup_for seen bytes s.needed s.tolerance) (our_ranking report bytes s) seen (stars_of bytes) r
    our-search = searched seen bytes s.needed s.tolerance (our_ranking report bytes s) our-call r i enough-sights

    pub our-settles : Settles seen bytes r
    our-settles =
        record {
          few = omega (arith, seen-count, h.few);
          catalogue = h.catalogue;
          two = λ e. omega (arith, (our-search.first.fits (ap accepted e)).enough, h.least);
        }
