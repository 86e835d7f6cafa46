-- What the ranking room holds makes no difference to the answer, only how long it is; and a call leaves its length. Assumes nothing.
use Rattle.std.specs.Prelude.{◌≡◌, refl, ◌*◌, length, drop}
use Rattle.std.proofs.Common.{arith, length-append, length-drop}
use Rattle.refusal.specs.Table.{first_applying, answered}
use Rattle.catalogue.specs.Format.{records_in}
use Rattle.chain.specs.Chain.{Call, listed, refusals_of, our_ranking, ranked_room, room_after}
use Rattle.chain.specs.ChainLaws.{words-most, our-length}
use Rattle.chain.proofs.ReadyLaws.{ready}
use Rattle.std.specs.Prelude.{Result, Ok, Err}
use Rattle.refusal.specs.declared.Refusal.{Refusal}

pub room-length : (c : Call) → length (room_after c) ≡ length c.room
unfolding room_after ranked_room
room-length c = by (first_applying (refusals_of c)) refl
  where
    by : (o : Result Unit Refusal) → first_applying (refusals_of c) ≡ o → length (answered (λ r. c.room)
        (ranked_room (listed c).report c.catalogue c.settings c.room) o) ≡ length c.room
    by (Err r) e = refl
    by (Ok _) e =
        let report = (listed c).report in
        let words = report.count * records_in c.catalogue in
        let h = ready c e in
        omega (
          arith,
          length-append (our_ranking report c.catalogue c.settings) (drop words c.room),
          length-drop words c.room,
          our-length report c.catalogue c.settings c.room h,
          words-most report c.catalogue c.settings c.room h,
          h.long,
        )
