-- The part that is lent is frame k, and its record comes behind those before it.
use Rattle.std.proofs.Common.{◌≡◌, ℕ, ◌+◌, ◌*◌, ◌-◌, List, take, drop, ap, ◌∙◌, arith}
use Rattle.std.proofs.lemmas.List.Edits.{sets}
use Rattle.refusal.specs.Answer.{answer_of}
use Rattle.chain.specs.declared.Tracked.{Tracked}
use Rattle.chain.specs.Chain.{call, tracked_of, room_after}
use Rattle.chain.proofs.BoundLaws.{tracked-low}
use Rattle.chain_burst.specs.Burst.{frame_at, record_bytes}
use Rattle.chain_burst.proofs.OneMore.{none_passed, passed-more}
use Rattle.chain_burst.proofs.track_frames.Goals as goal

pub loop-k-init : goal.loop-k-init
loop-k-init c = let a = c.args in none_passed a.catalogue.now a.settings a.size a.samples.now a.room.now a.records.now

pub put-requires-clause-outcome_bound : goal.put-requires-clause-outcome_bound
put-requires-clause-outcome_bound c =
    let a = c.args in
    let from = c.loop-k.k * a.size in
    let single = call (take (from + a.size - from) (drop from a.samples.now)) a.catalogue.now a.settings c.loop-k.room in
    omega (arith, ap (λ (x : Tracked). (answer_of x.outcome).place) c.track-tracked.ensures.value, (tracked-low single).place)

pub loop-k-preserved : goal.loop-k-preserved
loop-k-preserved c =
    let a = c.args in
    let l = c.loop-k in
    let from = l.k * a.size in
    let e : from + a.size - from ≡ a.size = omega arith in
    let lent : take (from + a.size - from) (drop from a.samples.now) ≡ frame_at a.size a.samples.now l.k = ap (λ (n : ℕ). take n (drop from a.samples.now)) e in
    let t = c.track-tracked.ensures in
    let next = passed-more a.catalogue.now a.settings a.size a.samples.now a.room.now a.records.now l.k l.room l.records (omega arith) l.invariant in
    let tracked = t.value ∙ ap (λ (f : List ℕ). tracked_of (call f a.catalogue.now a.settings l.room)) lent in
    record {
      ranked = t.room_after ∙ ap (λ (f : List ℕ). room_after (call f a.catalogue.now a.settings l.room)) lent ∙ next.ranked;
      written = c.put.ensures ∙ ap (λ (x : Tracked). sets l.records (80 * l.k) (record_bytes x)) tracked ∙ next.written;
    }
