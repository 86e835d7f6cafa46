-- NO WRONG NAME. The truth is an assignment like any other: each direction has its true star, or none where the catalogue lacks it. Where it fits and
-- the call for rivals says that ours is alone, every direction that both name has its true star. Of a direction that the truth leaves without a star, a
-- planet for instance, nothing is said: ours may name it. Assumes nothing.
use Rattle.std.specs.Prelude.{Bool, true, false, List, ◌⊎◌, ◌≡◌, refl, ℕ, ◌<◌, ℤ}
use Rattle.std.proofs.Common.{inl, inr, ⊎_elim, sym, ap, ◌∙◌}
use Rattle.lists.specs.Contradiction.{contradiction}
use Rattle.camera_direction.specs.ListLaws.{directions_in}
use Rattle.catalogue.specs.Format.{records_in}
use Rattle.catalogue.specs.Stars.{stars_of}
use Rattle.search_theory.specs.Order.{at}
use Rattle.search_theory.proofs.Tests.{either, eq-or}
use Rattle.search_fit.specs.Fit.{FitsHere}
use Rattle.search.specs.Identified.{setup_for, identification_of}
use Rattle.search_rival.specs.declared.Contest.{Contest}
use Rattle.search_rival.specs.Contested.{Contested}
use Rattle.worth_names.specs.Names.{FitsCall, BothName, no-wrong-name}
use Rattle.std.specs.Prelude.{Ok}
use Rattle.refusal.specs.declared.Refusal.{Refusal}

module _
    (directions : List ℤ) (bytes : List ℕ) (needed tolerance : ℕ) (words : List ℕ) (r : Contest)
    (contested : Contested directions bytes needed tolerance words r) (answered : r.outcome ≡ Ok tt)
  where
    -- what the search found
    abbrev ours : List ℕ
    ours = (identification_of directions bytes needed tolerance words).stars

    module _ (truth : List ℕ) (i : ℕ) (both : BothName directions bytes ours truth i) where
      -- the other side: a wrong name of a true star means that the truth does not fit, or that there is a rival
      pub wrong_name : (at ours i ≡ at truth i → ⊥) → (FitsCall directions bytes needed tolerance truth → ⊥) ⊎ (r.rival ≡ true)
      wrong_name wrong =
          ⊎_elim inr
          (λ (alone : r.rival ≡ false). inl (λ fits. wrong (no-wrong-name directions bytes needed tolerance words r contested answered truth i both fits alone)))
          (either r.rival)

    -- where the truth names every direction, every name is the true one
    pub every-name-true :
        (truth : List ℕ) → FitsCall directions bytes needed tolerance truth → ((i : ℕ) → i < directions_in directions → at truth i < records_in bytes) →
        r.rival ≡ false → (i : ℕ) → i < directions_in directions → at ours i < records_in bytes → at ours i ≡ at truth i
    every-name-true truth fits all alone i within our =
        no-wrong-name directions bytes needed tolerance words r contested answered truth i (record { within = within; our = our; its = all i within }) fits alone
