-- EVERY ACCEPTED CHAIN BY AN INDEX is the plain chain, and has its laws. Assumes nothing.
use Rattle.std.specs.Prelude.{◌≡◌, refl}
use Rattle.std.proofs.Common.{sym, ap, ◌∙◌, subst}
use Rattle.lists.specs.Contradiction.{contradiction}
use Rattle.refusal.specs.Table.{first_applying}
use Rattle.chain.specs.declared.Tracked.{Tracked}
use Rattle.chain.specs.Chain as plain
use Rattle.chain.specs.Chain.{listed, sights_of}
use Rattle.chain_by_index.specs.Chain.{Call, refusals_of, tracked_of}
use Rattle.chain_by_index.specs.Laws.{accepted-right, right-tracked, refused-tracked}
use Rattle.worth_accuracy.specs.Worth.{Worth}
use Rattle.std.specs.Prelude.{Result, Ok, Err}
use Rattle.refusal.specs.declared.Refusal.{Refusal}

module _ (c : Call) (accepted : (tracked_of c).outcome ≡ Ok tt) where
  pub is_plain : tracked_of c ≡ plain.tracked_of c.chain
  is_plain = by (first_applying (refusals_of c)) refl
    where
      by : (o : Result Unit Refusal) → first_applying (refusals_of c) ≡ o → tracked_of c ≡ plain.tracked_of c.chain
      by (Ok _) e = right-tracked c (accepted-right c e)
      by (Err q) e =
          let refused : (tracked_of c).outcome ≡ Err q = ap (λ (t : Tracked). t.outcome) (refused-tracked c q e) in
          contradiction (cc)
