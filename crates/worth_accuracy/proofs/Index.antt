-- EVERY ACCEPTED CHAIN BY AN INDEX is the plain chain, and has its laws. Assumes nothing.
use Rattle.std.specs.Prelude.{◌≡◌, refl}
use Rattle.std.proofs.Common.{sym, ap, ◌∙◌, subst}
use Rattle.lists.specs.Contradiction.{contradiction}
use Rattle.refusal.specs.Table.{first_applying}
use Rattle.chain.specs.declared.Tracked.{Tracked}
use Rattle.chain.specs.Chain as plain
use Rattle.chain.specs.Chain.{listed, sights_of}
use Rattle.chain_by_index.specs.Chain.{Call, refusals_of, tracked_of}
use Rattle.chain_by_index.specs.Laws.{accepted-right, right-tracked, refused-tracked}
use Rattle.worth_accuracy.specs.Worth.{Worth}
use Rattle.worth_accuracy.proofs.Chain.{tracked-worth}
use Rattle.worth_accuracy.specs.Index as defs
use Rattle.std.specs.Prelude.{Ok}
use Rattle.refusal.specs.declared.Refusal.{Refusal}

module _ (c : Call) (accepted : (tracked_of c).outcome ≡ Ok tt) where
  is_plain : tracked_of c ≡ plain.tracked_of c.chain
  is_plain = defs.is_plain c accepted

  pub by-index-worth : Worth (sights_of (listed c.chain).report c.chain.catalogue c.chain.settings) c.chain.catalogue (tracked_of c).stars
      (tracked_of c).matrix
  by-index-worth =
      subst (λ (t : Tracked). Worth (sights_of (listed c.chain).report c.chain.catalogue c.chain.settings) c.chain.catalogue t.stars
      t.matrix) (sym is_plain)
      (tracked-worth c.chain (sym (ap (λ (t : Tracked). t.outcome) is_plain) ∙ accepted))
