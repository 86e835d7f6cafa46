-- EVERY RECORD OF A BURST whose frame is accepted: the matrix that is read from it has every law of the chain's. Assumes nothing.
use Rattle.std.specs.Prelude.{List, ◌≡◌, refl, ℕ, ◌*◌, ◌<◌, take, drop}
use Rattle.std.proofs.Common.{sym, ap, ◌∙◌, subst}
use Rattle.refusal.specs.Table.{first_applying}
use Rattle.attitude.specs.declared.Matrix.{Matrix}
use Rattle.chain_burst.specs.records.Record.{Record, record_size, record_of, decoded}
use Rattle.chain.specs.Chain as chain
use Rattle.chain.specs.Chain.{listed, sights_of, tracked_of}
use Rattle.chain_burst.specs.Burst.{frame_at, Call, size_of, frames_in, refusals_of, records_after}
use Rattle.chain_burst.proofs.Laws.{decoded-at}
use Rattle.worth_accuracy.specs.Worth.{Worth}
use Rattle.worth_accuracy.proofs.Chain.{tracked-worth}
use Rattle.std.specs.Prelude.{Result, Ok}
use Rattle.refusal.specs.declared.Refusal.{Refusal}

module _ (c : Call) (whole : first_applying (refusals_of c) ≡ Ok tt) (k : ℕ) (inside : k < frames_in c) where
  -- the single call on frame k, and what stands in its record
  abbrev single : chain.Call
  single = chain.call (frame_at (size_of c) c.samples k) c.catalogue c.settings c.room

  abbrev read_back : Record
  read_back = decoded (take record_size (drop (record_size * k) (records_after c)))

  pub record-worth : (tracked_of single).outcome ≡ Ok tt → Worth (sights_of (listed single).report c.catalogue c.settings) c.catalogue
      (tracked_of single).stars read_back.matrix
  record-worth accepted =
      let read : (tracked_of single).matrix ≡ read_back.matrix =
      sym (ap (λ (r : Record). r.matrix) (decoded-at c whole k inside c.room refl)
      ∙ ap (λ (o : Result Unit Refusal). (record_of o (tracked_of single).matrix).matrix) accepted) in
      subst (Worth (sights_of (listed single).report c.catalogue c.settings) c.catalogue (tracked_of single).stars) read
      (tracked-worth single accepted)
