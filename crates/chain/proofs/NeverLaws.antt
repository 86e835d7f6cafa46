-- 8 and 11 cannot arise in the chain. Assumes nothing.
use Rattle.std.specs.Prelude.{◌≡◌, refl}
use Rattle.std.proofs.Math.Path.{sym}
use Rattle.std.proofs.Common.{ap, ◌∙◌, arith}
use Rattle.std.proofs.Math.Logic.{⊎_elim}
use Rattle.refusal.specs.declared.Refusal.{Refusal}
use Rattle.refusal.specs.Table.{first_applying, answered}
use Rattle.refusal.specs.Numbers as number
use Rattle.chain.specs.Chain.{Call, listed, refusals_of, refused_with, located_of, tracked_of}
use Rattle.chain.proofs.ReadyLaws.{refused-early, ready}
use Rattle.chain.specs.NeverLaws.{number_in, located-late}
use Rattle.std.specs.Prelude.{Result, Ok, Err}

pub never : (c : Call) (q : Refusal) → (tracked_of c).outcome ≡ Err q → (q.number ≡ number.directions → ⊥) × (q.number ≡ number.ranking → ⊥)
unfolding tracked_of number_in
never c q e = by (first_applying (refusals_of c)) refl
  where
    by : (o : Result Unit Refusal) → first_applying (refusals_of c) ≡ o → (q.number ≡ number.directions → ⊥) × (q.number ≡ number.ranking → ⊥)
    by (Err r) k =
        let n = ap number_in (sym (ap (λ (o : Result Unit Refusal). (answered refused_with (located_of (listed c).report c.catalogue c.settings) o).outcome) k) ∙ e) in
        let a = refused-early c r k in
        ((λ m. a.no-8 (n ∙ m)), (λ m. a.no-11 (n ∙ m)))
    by (Ok _) k =
        let l = located-late (listed c).report c.catalogue c.settings c.room (ready c k) q
        (sym (ap (λ (o : Result Unit Refusal). (answered refused_with (located_of (listed c).report c.catalogue c.settings) o).outcome) k) ∙ e) in
        ((λ m. ⊎_elim (λ a. omega (arith, ap number_in a)) (λ a. omega arith) l), (λ m. ⊎_elim (λ a. omega (arith, ap number_in a)) (λ a. omega arith) l))
