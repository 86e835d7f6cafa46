-- NO WRONG NAME. The truth is an assignment like any other: each direction has its true star, or none where the catalogue lacks it. Where it fits and
-- the call for rivals says that ours is alone, every direction that both name has its true star. Of a direction that the truth leaves without a star, a
-- planet for instance, nothing is said: ours may name it. Assumes nothing.
use Rattle.std.specs.Prelude.{Bool, true, false, List, ◌⊎◌, ◌≡◌, refl, ℕ, ◌<◌, ℤ}
use Rattle.std.proofs.Common.{inl, inr, ⊎_elim, sym, ap, ◌∙◌}
use Rattle.lists.specs.Contradiction.{contradiction}
use Rattle.camera_direction.specs.ListLaws.{directions_in}
use Rattle.catalogue.specs.Format.{records_in}
use Rattle.catalogue.specs.Stars.{stars_of}
use Rattle.search_theory.specs.Order.{at}
use Rattle.search_theory.proofs.Tests.{either, eq-or}
use Rattle.search_fit.specs.Fit.{FitsHere}
use Rattle.search.specs.Identified.{setup_for, identification_of}
use Rattle.search_rival.specs.declared.Contest.{Contest}
use Rattle.search_rival.specs.Contested.{Contested}
use Rattle.std.specs.Prelude.{Result, Ok, Err}
use Rattle.refusal.specs.declared.Refusal.{Refusal}

module _ (directions : List ℤ) (bytes : List ℕ) (needed tolerance : ℕ) where
  -- an assignment fits the directions and the catalogue's stars
  abbrev pub FitsCall : List ℕ → Type 0
  FitsCall = FitsHere (setup_for directions bytes needed tolerance) directions (stars_of bytes)

-- both assignments give direction i a star
pub record BothName (directions : List ℤ) (bytes : List ℕ) (ours truth : List ℕ) (i : ℕ) : Type 0 where
  pub within : i < directions_in directions
  pub our : at ours i < records_in bytes
  pub its : at truth i < records_in bytes

module _
    (directions : List ℤ) (bytes : List ℕ) (needed tolerance : ℕ) (words : List ℕ) (r : Contest)
    (contested : Contested directions bytes needed tolerance words r) (answered : r.outcome ≡ Ok tt)
  where
    -- what the search found
    abbrev ours : List ℕ
    ours = (identification_of directions bytes needed tolerance words).stars

    found : (identification_of directions bytes needed tolerance words).outcome ≡ Ok tt
    found = by (identification_of directions bytes needed tolerance words).outcome refl
      where
        by : (o : Result Unit Refusal) → (identification_of directions bytes needed tolerance words).outcome ≡ o
            → (identification_of directions bytes needed tolerance words).outcome ≡ Ok tt
        by (Ok _) e = e
        by (Err q) e =
            let refused : r.outcome ≡ Err q = ap (λ (c : Contest). c.outcome) (contested.refused q e) in
            contradiction (cc)

    module _ (truth : List ℕ) (i : ℕ) (both : BothName directions bytes ours truth i) where
      pub no-wrong-name : FitsCall directions bytes needed tolerance truth → r.rival ≡ false → at ours i ≡ at truth i
      no-wrong-name fits alone =
          ⊎_elim (λ (e : at truth i ≡ at ours i). sym e)
          (λ (other : at truth i ≡ at ours i → ⊥).
          absurd ((contested.judged found).first.none alone truth
          (record { fits = fits; dir = i; within = both.within; its = both.its; our = both.our; other = other })))
          (eq-or (at truth i) (at ours i))
