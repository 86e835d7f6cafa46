-- Demand 3 from the search to the answer: what is accepted has the search's words, and 13 can come from the search alone. Assumes nothing.
use Rattle.std.specs.Prelude.{Bool, true, false, cond, ◌≡◌, List, ℕ, ℤ}
use Rattle.std.proofs.Math.Path.{refl, ap, subst}
use Rattle.std.proofs.Common.{sym, ◌∙◌, arith}
use Rattle.lists.specs.Contradiction.{contradiction}
use Rattle.refusal.specs.declared.Refusal.{Refusal}
use Rattle.refusal.specs.Numbers as number
use Rattle.refusal.specs.Table.{refusal_of, first_applying, answered}
use Rattle.vectors.specs.declared.Vec3.{Vec3}
use Rattle.frame_list.specs.declared.Report.{Report}
use Rattle.catalogue.specs.Stars.{stars_of}
use Rattle.search_theory.specs.Order.{Ranking, FirstOf}
use Rattle.search.specs.declared.Identification.{Identification}
use Rattle.search.specs.Identified.{accepted}
use Rattle.attitude.specs.declared.Matrix.{Matrix}
use Rattle.attitude.specs.Attitude.{out_of_range, either_close, matrix_of, attitude_of}
use Rattle.chain.specs.declared.Tracked.{Tracked}
use Rattle.chain.specs.Chain.{refused_with, oriented, settled_of}
use Rattle.attitude.specs.orient.Orient.{orientation_of}
use Rattle.std.specs.Prelude.{Result, Ok, Err}

-- the number of a refusal, and 0 where there is none
number_in : Result Unit Refusal → ℕ
number_in (Ok _) = 0
number_in (Err r) = r.number

number_at : Result Matrix Refusal → ℕ
number_at (Err r) = r.number
number_at (Ok m) = 0

-- the attitude is refused with 8 or 14
attitude-13 : (v1 v2 w1 w2 : Vec3) → number_at (attitude_of v1 v2 w1 w2) ≡ number.no_fit → ⊥
unfolding attitude_of first_applying number_at
attitude-13 v1 v2 w1 w2 e = by (out_of_range v1 v2 w1 w2) (either_close v1 v2 w1 w2) e
  where
    by : (a b : Bool) → number_at (answered Err (Ok (matrix_of v1 v2 w1 w2))
        (cond a (refusal_of number.directions 0) (cond b (refusal_of number.close 0) (Ok tt)))) ≡ number.no_fit → ⊥
    by true b e = omega arith
    by false true e = omega arith
    by false false e = omega arith

module _ (report : Report) (directions : List ℤ) (bytes : List ℕ) where
  oriented-accepted : (words : List ℕ) (a : Result Matrix Refusal) → (oriented report words a).outcome ≡ Ok tt → (oriented report words a).stars ≡ words
  oriented-accepted words (Err r) e = contradiction (cc)
  oriented-accepted words (Ok m) e = refl

  oriented-number : (words : List ℕ) (a : Result Matrix Refusal) → number_in (oriented report words a).outcome ≡ number_at a
  unfolding number_in number_at
  oriented-number words (Err r) = refl
  oriented-number words (Ok m) = refl

  -- by the search's outcome
  module _ (words : List ℕ) (a : Result Matrix Refusal) where
    abbrev settled : Result Unit Refusal → Tracked
    settled o = answered refused_with (oriented report words a) o

    settled-accepted : (o : Result Unit Refusal) → (settled o).outcome ≡ Ok tt → (o ≡ Ok tt) × ((settled o).stars ≡ words)
    settled-accepted (Ok _) e = (refl, oriented-accepted words a e)
    settled-accepted (Err r) e = contradiction (cc)

    settled-refused : (number_at a ≡ number.no_fit → ⊥) → (o : Result Unit Refusal) → (settled o).outcome ≡ refusal_of number.no_fit 0 → accepted o ≡ false
    unfolding number_in
    settled-refused never (Ok _) e = absurd (never (sym (oriented-number words a) ∙ ap number_in e))
    settled-refused never (Err r) e = refl

  module _ (found : Identification) (t : Tracked) (e : t ≡ settled_of report directions bytes found) (g : Ranking) (F : List ℕ → Type 0)
      (first : FirstOf g F (accepted found.outcome) found.stars) where
    pub settled-named : t.outcome ≡ Ok tt → FirstOf g F true t.stars
    unfolding settled_of
    settled-named h =
        let p = settled-accepted found.stars (orientation_of directions (stars_of bytes) found.stars) found.outcome
        (sym (ap (λ (x : Tracked). x.outcome) e) ∙ h) in
        let words = ap (λ (x : Tracked). x.stars) e ∙ p.1 in
        subst (FirstOf g F true) (sym words) (subst (λ (b : Bool). FirstOf g F b found.stars) (ap accepted p.0) first)

    pub settled-none : t.outcome ≡ refusal_of number.no_fit 0 → (xs : List ℕ) → F xs → ⊥
    unfolding settled_of orientation_of
    settled-none h =
        first.none
        (settled-refused found.stars (orientation_of directions (stars_of bytes) found.stars) (attitude-13 _ _ _ _) found.outcome
        (sym (ap (λ (x : Tracked). x.outcome) e) ∙ h))
