-- The promise in plain terms, beside the search's own: i is whatever the search promises for the same call. Assumes nothing.
use mathlib.Core.Path.{◌≡◌, refl, sym, ◌∙◌, ap, subst}
use mathlib.Core.Bool.{Bool, true}
use mathlib.Core.List.{List}
use mathlib.Core.Logic.{◌⊎◌, ⊎_elim}
use Prim.Native.Nat.{ℕ}
use lib.IntN.{ℤ}
use Rattle.refusal.specs.declared.Refusal.{Refusal}
use Rattle.camera_direction.specs.ListLaws.{directions_in}
use Rattle.catalogue.specs.Format.{records_in}
use Rattle.catalogue.specs.Stars.{stars_of}
use Rattle.search_theory.specs.Order.{Ranking, Same, Before, FirstOf}
use Rattle.search_theory.proofs.Search.{exactly}
use Rattle.search_theory.proofs.Tests.{either}
use Rattle.search_theory.proofs.Rival.{rival-after}
use Rattle.search_fit.specs.Fit.{ranking_of, FitsHere}
use Rattle.search.specs.declared.Identification.{Identification}
use Rattle.search.specs.Identified.{setup_for, accepted, Identified, identification_of}
use Rattle.search.proofs.Answers.{identified}
use Rattle.search_rival.specs.declared.Contest.{Contest}
use Rattle.search_rival.specs.Contested.{RivalHere, refused_with, alone, Judged, Contested}
use Rattle.search_rival.proofs.Answers.{none-refuses}
use Rattle.std.specs.Prelude.{Ok, Err}

module _ (directions : List ℤ) (bytes : List ℕ) (needed tolerance : ℕ) (words : List ℕ) (i : Identification)
    (I : Identified directions bytes needed tolerance words i) (r : Contest) (C : Contested directions bytes needed tolerance words r) where
  ours : i ≡ identification_of directions bytes needed tolerance words
  ours = identified directions bytes needed tolerance words i I

  computed : (identification_of directions bytes needed tolerance words).outcome ≡ i.outcome
  computed = ap (λ (j : Identification). j.outcome) (sym ours)

  -- refused exactly as the search is
  pub refused-too : (q : Refusal) → i.outcome ≡ Err q → r ≡ refused_with q
  refused-too q e = C.refused q (computed ∙ e)

  -- the assignments that fit, the rivals of ours among them, and the ranking's order
  abbrev Fit : List ℕ → Type 0
  Fit = FitsHere (setup_for directions bytes needed tolerance) directions (stars_of bytes)

  abbrev pub Rivals : List ℕ → Type 0
  Rivals = RivalHere (setup_for directions bytes needed tolerance) i.stars directions (stars_of bytes)

  abbrev ranked : Ranking
  ranked = ranking_of (directions_in directions) (records_in bytes) words

  module _ (e : i.outcome ≡ Ok tt) where
    judged : Judged (setup_for directions bytes needed tolerance) i.stars words directions (stars_of bytes) r
    judged =
        subst (λ (j : Identification). Judged (setup_for directions bytes needed tolerance) j.stars words directions (stars_of bytes) r) (sym ours)
        (C.judged (computed ∙ e))

    -- accepted exactly where the search is
    pub accepted-too : r.outcome ≡ Ok tt
    accepted-too = judged.accepted

    -- alone exactly where there is no rival
    pub alone-none : r ≡ alone → (ys : List ℕ) → Rivals ys → ⊥
    alone-none h = judged.first.none (ap (λ (c : Contest). c.rival) h)

    pub none-alone : ((ys : List ℕ) → Rivals ys → ⊥) → r ≡ alone
    none-alone n = ⊎_elim (λ (q : r.rival ≡ true). absurd (n r.stars (judged.first.fits q))) judged.none (either r.rival)

    -- else the words are a rival, and every other comes after them
    pub found-exactly : (ys : List ℕ) → Rivals ys → r.rival ≡ true
    found-exactly ys f = exactly ranked Rivals r.rival r.stars judged.first (ys, f)

    pub rival-fits : r.rival ≡ true → Rivals r.stars
    rival-fits = judged.first.fits

    pub rival-first : r.rival ≡ true → (ys : List ℕ) → Rivals ys → Same (directions_in directions) r.stars ys ⊎ Before ranked r.stars ys
    rival-first = judged.first.first

    -- and ours comes before it
    ours-first : FirstOf ranked Fit true i.stars
    ours-first =
        subst (λ (b : Bool). FirstOf ranked Fit b i.stars) (ap accepted e)
        (I.searched (none-refuses directions bytes needed tolerance words (computed ∙ e))).first

    pub after-ours : r.rival ≡ true → Before ranked i.stars r.stars
    after-ours q = rival-after (directions_in directions) (records_in bytes) Fit ranked refl i.stars ours-first r.stars (rival-fits q)
