-- What a caller of the chain reads from the numbers, and demand 3 in them. Assumes nothing.
use Rattle.std.specs.Prelude.{true, ◌≡◌, ℕ, ◌≤◌, ◌<◌, ℤ, pos, nat_abs}
use Rattle.std.proofs.Math.Path.{refl, ap}
use Rattle.std.proofs.Common.{sym, ◌∙◌, subst, arith, lt-ltb}
use mathlib.Core.List.{List, ◌∷◌, ◌++◌}
use Rattle.std.proofs.Math.ListN.{length, replicate}
use Rattle.refusal.specs.declared.Refusal.{Refusal}
use Rattle.refusal.specs.Numbers as number
use Rattle.camera_direction.specs.ListLaws.{directions_in}
use Rattle.catalogue.specs.Format.{records_in}
use Rattle.search_theory.specs.Order.{Ranking, FirstOf}
use Rattle.search_fit.specs.Fit.{ranking_of}
use Rattle.search.specs.Answered.{FitsCall}
use Rattle.chain.specs.declared.Tracked.{Tracked}
use Rattle.chain.specs.Chain.{Call, listed, sights_of, our_ranking}
use Rattle.chain.specs.Ready.{Tracks}
use Rattle.chain.specs.NamesLaws.{Whole, Numbered}
use Rattle.c_numbers.specs.Room.{size, handed_over}
use Rattle.numbers.specs.TwosComplement.{signed_of}
use Rattle.c_numbers.specs.Numbers.{refused_numbers, accepted_numbers, outcome_numbers}
use Rattle.c_numbers.specs.Stars.{joined, names_numbers}
use Rattle.c_numbers.specs.Matrix.{matrix_numbers}
use Rattle.c_numbers.specs.Places.{number_place, own_place, chain_names_place, chain_matrix_place, read_at, matrix_at, words_at}
use Rattle.c_numbers.specs.PlaceLaws.{Named, read-handed, words-handed}
use Rattle.c_numbers.proofs.PlaceLaws.{words-read}
use Rattle.c_interface.specs.frame.Frame.{report_numbers}
use Rattle.c_interface.specs.track.Chain.{chain_numbers}
use Rattle.std.specs.Prelude.{Result, Ok, Err}

-- an assignment that fits the directions of the frame's list, and the order of their own ranking
abbrev pub FitsFrame : Call → List ℕ → Type 0
FitsFrame c = FitsCall (sights_of (listed c).report c.catalogue c.settings) c.catalogue c.settings.needed c.settings.tolerance

abbrev pub order_in : Call → Ranking
order_in c = ranking_of (directions_in (sights_of (listed c).report c.catalogue c.settings)) (records_in c.catalogue)
    (our_ranking (listed c).report c.catalogue c.settings)

-- where number 0 is 0, numbers 30 to 37 are the first assignment that fits; where it is 13, none fits
pub record Told (c : Call) (xs : List ℤ) : Type 0 where
  pub first : read_at xs number_place ≡ pos 0 → FirstOf (order_in c) (FitsFrame c) true (words_at (records_in c.catalogue) xs chain_names_place)
  pub none : read_at xs number_place ≡ pos number.no_fit → (ys : List ℕ) → FitsFrame c ys → ⊥

-- ---- place by place

module _ (stars : ℕ) (t : Tracked) (e : t.outcome ≡ Ok tt) where
  accepted-numbers : chain_numbers stars t
      ≡ accepted_numbers (report_numbers t.report ++ (names_numbers t.stars t.report.count stars ++ matrix_numbers t.matrix))
  accepted-numbers = ap (λ (o : Result Unit Refusal). outcome_numbers o (accepted_numbers
      (report_numbers t.report ++ (names_numbers t.stars t.report.count stars ++ matrix_numbers t.matrix)))) e

  -- number 2 is how many directions there are
  pub count-read : read_at (chain_numbers stars t) own_place ≡ signed_of t.report.count
  count-read = ap (λ (xs : List ℤ). read_at xs own_place) accepted-numbers

  -- number 38 + 3 r + c is entry r, c of the matrix
  pub matrix-read : matrix_at (chain_numbers stars t) chain_matrix_place ≡ t.matrix
  unfolding joined
  matrix-read = ap (λ (xs : List ℤ). matrix_at xs chain_matrix_place) accepted-numbers

  -- numbers 30 to 37 are the words
  pub names-read : Named t.stars t.report.count stars → words_at stars (chain_numbers stars t) chain_names_place ≡ t.stars
  unfolding joined
  names-read N =
      ap (λ (xs : List ℤ). words_at stars xs chain_names_place) accepted-numbers
      ∙ words-read t.stars t.report.count stars N (pos 0 ∷ (pos 0 ∷ report_numbers t.report)) (matrix_numbers t.matrix ++ replicate 17 (pos 0))
      chain_names_place refl

  accepted-full : length (chain_numbers stars t) ≡ size
  unfolding joined
  accepted-full = ap length accepted-numbers

-- ---- demand 3

small-number : (n : ℕ) → n ≤ 23 → signed_of n ≡ pos n
small-number n h = let l : n < 9223372036854775808 = omega arith in rw (lt-ltb n 9223372036854775808 l)

-- of any answer that keeps it
module _ (c : Call) (t : Tracked) (names : Tracks c t) (numbered : (q : Refusal) → t.outcome ≡ Err q → Numbered q) (whole : t.outcome ≡ Ok tt
    → Whole c t) (room : List ℤ) (long : size ≤ length room) where
  abbrev stars : ℕ
  stars = records_in c.catalogue

  abbrev numbers : List ℤ
  numbers = chain_numbers stars t

  named : (e : t.outcome ≡ Ok tt) → Named t.stars t.report.count stars
  named e =
      let w = whole e in
      let f = (names.first e).fits refl in
      let n : t.report.count ≡ (listed c).report.count = ap (λ r. r.count) w.report in
      record { size = w.size; words-in = λ i l. f.words i (omega (arith, w.counted)); rest = λ k l. w.rest k (omega arith); many = omega (arith, w.many) }

  pub told : Told c (handed_over numbers room)
  told = by t.outcome refl
    where
      by : (o : Result Unit Refusal) → t.outcome ≡ o → Told c (handed_over numbers room)
      by (Ok _) e =
          let full = accepted-full stars t e in
          let words = words-handed numbers room full long stars chain_names_place (omega arith) ∙ names-read stars t e (named e) in
          record {
            first = λ _. subst (FirstOf (order_in c) (FitsFrame c) true) (sym words) (names.first e);
            none = λ h. absurd (omega (
              arith,
              ap nat_abs (sym (ap (λ (xs : List ℤ). read_at xs number_place) (accepted-numbers stars t e))
                  ∙ sym (read-handed numbers room full long number_place (omega arith)) ∙ h),
            ));
          }
      by (Err q) e =
          let r : numbers ≡ refused_numbers q = ap (λ (o : Result Unit Refusal). outcome_numbers o
          (accepted_numbers (report_numbers t.report ++ (names_numbers t.stars t.report.count stars ++ matrix_numbers t.matrix)))) e in
          let k = numbered q e in
          let head : read_at (handed_over numbers room) number_place ≡ pos q.number
          = read-handed numbers room (ap length r) long number_place (omega arith) ∙ ap (λ (xs : List ℤ). read_at xs number_place) r
          ∙ small-number q.number k.last in
          record {
            first = λ h. absurd (omega (arith, ap nat_abs (sym head ∙ h), k.some));
            none = λ h. names.none (e ∙ k.none (ap nat_abs (sym head ∙ h)));
          }
