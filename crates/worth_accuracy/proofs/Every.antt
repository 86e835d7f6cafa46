-- EVERY CALL, with nothing asked of another: the chain's call for rivals keeps its promise on every frame, and the names of an accepted chain fit. So where the
-- truth fits and the chain is alone no name is wrong, and the second star is carried as well as the tolerance is narrow. Assumes nothing.
use Rattle.std.specs.Prelude.{true, false, List, ◌⊎◌, ◌≡◌, refl, ℕ, ◌+◌, ◌*◌, ◌≤◌, ◌<◌, nat_abs}
use Rattle.vectors.specs.Vectors.{dot_of}
use Rattle.search_theory.specs.Order.{at}
use Rattle.attitude.specs.Nearly.{Carries}
use Rattle.chain.specs.Chain.{Call, listed, sights_of, tracked_of}
use Rattle.chain.proofs.NamesLaws.{tracked-names}
use Rattle.chain.specs.rival.Chain.{contested_of}
use Rattle.chain.specs.rival.Laws.{our-contested}
use Rattle.worth_names.specs.Names.{BothName}
use Rattle.worth_accuracy.proofs.Chain.{tracked-worth}
use Rattle.worth_accuracy.proofs.Second.{v2, w1, w2, second-by-tolerance}
use Rattle.worth_accuracy.specs.Names.{FitsFrame, chain-no-wrong-name, chain-wrong-name}
use Rattle.std.specs.Prelude.{Ok}

module _ (c : Call) (accepted : (tracked_of c).outcome ≡ Ok tt) where
  module _ (truth : List ℕ) (i : ℕ) (both : BothName (sights_of (listed c).report c.catalogue c.settings) c.catalogue (tracked_of c).stars truth i)
    where
      pub name-true : FitsFrame c truth → (contested_of c).rival ≡ false → at (tracked_of c).stars i ≡ at truth i
      name-true = chain-no-wrong-name c (our-contested (listed c).report c.catalogue c.settings) accepted truth i both

      pub name-wrong : (at (tracked_of c).stars i ≡ at truth i → ⊥) → (FitsFrame c truth → ⊥) ⊎ ((contested_of c).rival ≡ true)
      name-wrong = chain-wrong-name c (our-contested (listed c).report c.catalogue c.settings) accepted truth i both

  pub names-fit : FitsFrame c (tracked_of c).stars
  names-fit = ((tracked-names c).first accepted).fits refl

  pub second-true :
      {j s : ℕ} → 0 < s →
      (s + 9000000000) * (s + 9000000000) + nat_abs (dot_of (w2 (tracked-worth c accepted)) (w1 (tracked-worth c accepted)))
      * nat_abs (dot_of (w2 (tracked-worth c accepted)) (w1 (tracked-worth c accepted))) + 300000000000000000000000000000
      ≤ 1000000000000000000000000000000000000 →
      5600000000000000000000000000000 + c.settings.tolerance * 2000006000000000000 ≤ s * j → j ≤ 10000000000000000 →
      Carries (c.settings.tolerance + j + 1600000000000) (tracked_of c).matrix (w2 (tracked-worth c accepted)) (v2 (tracked-worth c accepted))
  second-true = second-by-tolerance (tracked-worth c accepted) c.settings.needed c.settings.tolerance names-fit
