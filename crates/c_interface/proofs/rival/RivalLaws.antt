-- The promise on rivals in the numbers that a caller is handed. Assumes nothing.
use Rattle.std.specs.Prelude.{Bool, true, false, ◌≡◌, List, [], ◌∷◌, ℕ, ◌≤◌, eqb, ℤ, nat_abs, length, replicate}
use Rattle.std.proofs.Math.Path.{refl}
use Rattle.std.proofs.Common.{sym, ap, ◌∙◌, subst, ⊎_elim, arith}
use Rattle.std.proofs.Math.IntN.{pos}
use Rattle.camera_direction.specs.ListLaws.{directions_in}
use Rattle.catalogue.specs.Format.{records_in}
use Rattle.search.specs.declared.Identification.{Identification}
use Rattle.search.specs.Identified.{no_fit, identification_of}
use Rattle.search.specs.Call.{Call}
use Rattle.search.specs.Answered.{too_few}
use Rattle.search.proofs.Promise.{computed-answered}
use Rattle.search_rival.specs.declared.Contest.{Contest}
use Rattle.search_rival.specs.Contested.{refused_with, alone, Contested, contest_of}
use Rattle.search_rival.proofs.Answers.{computed-contested}
use Rattle.c_numbers.specs.Room.{size, handed_over}
use Rattle.c_numbers.specs.Stars.{joined}
use Rattle.c_numbers.specs.Places.{own_place, names_place, words_at}
use Rattle.c_numbers.specs.PlaceLaws.{Named, read-handed, refusal-handed, words-handed}
use Rattle.c_numbers.proofs.PlaceLaws.{words-read}
use Rattle.c_interface.specs.rival.Rival.{rival_numbers}
use Rattle.c_interface.specs.rival.RivalLaws.{contest_in}
use Rattle.std.specs.Prelude.{Ok}

module _ (directions : List ℤ) (bytes : List ℕ) (needed tolerance : ℕ) (words : List ℕ) (v : Call directions bytes needed tolerance words) where
  abbrev ours : Identification
  ours = identification_of directions bytes needed tolerance words

  abbrev answer : Contest
  answer = contest_of directions bytes needed tolerance words

  promised : Contested directions bytes needed tolerance words answer
  promised = computed-contested directions bytes needed tolerance words

  abbrev stars : ℕ
  stars = records_in bytes

  -- the numbers are read as the answer, and there are 64
  pub record Reads (r : Contest) : Type 0 where
    pub full : length (rival_numbers (directions_in directions) stars r) ≡ size
    pub back : contest_in stars (rival_numbers (directions_in directions) stars r) ≡ r

  found : (ws : List ℕ) → Named ws (directions_in directions) stars → Reads (record { outcome = Ok tt; rival = true; stars = ws })
  unfolding joined
  found ws N =
      let r : Contest = record { outcome = Ok tt; rival = true; stars = ws } in
      let names : words_at stars (rival_numbers (directions_in directions) stars r) names_place ≡ ws
      = words-read ws (directions_in directions) stars N (pos 0 ∷ pos 0 ∷ pos 1 ∷ []) (replicate 53 (pos 0)) names_place refl in
      record { full = refl; back = λ i. record { outcome = Ok tt; rival = true; stars = names i } }

  nobody : Reads alone
  unfolding joined
  nobody = record { full = refl; back = refl }

  refused-few : Reads (refused_with too_few)
  refused-few = record { full = refl; back = refl }

  refused_none : Reads (refused_with no_fit)
  refused_none = record { full = refl; back = refl }

  judged : ours.outcome ≡ Ok tt → Reads answer
  judged e = by answer.rival refl
    where
      by : (b : Bool) → answer.rival ≡ b → Reads answer
      by false q = subst Reads (sym ((promised.judged e).none q)) nobody
      by true q =
          let j = promised.judged e in
          let a : answer ≡ record { outcome = Ok tt; rival = true; stars = answer.stars } = λ i.
          record { outcome = j.accepted i; rival = q i; stars = answer.stars } in
          subst Reads (sym a)
          (found answer.stars (record {
            size = j.size;
            words-in = (j.first.fits q).fits.words;
            rest = j.rest;
            many =
                omega (arith, v.catalogue.size.most);
          }))

  reads : Reads answer
  reads =
      ⊎_elim judged
      (⊎_elim
      (λ e. subst Reads (sym (promised.refused too_few (ap (λ (r : Identification). r.outcome) e))) refused-few)
      (λ e. subst Reads (sym (promised.refused no_fit (ap (λ (r : Identification). r.outcome) e))) refused_none))
      (computed-answered directions bytes needed tolerance words v).one_of_three

  -- a caller who lends 64 numbers reads the first rival, or that there is none, or the search's 12 or 13
  pub rival-told : (room : List ℤ) → size ≤ length room → Contested directions bytes needed tolerance words
      (contest_in stars (handed_over (rival_numbers (directions_in directions) stars answer) room))
  rival-told room long =
      let numbers = rival_numbers (directions_in directions) stars answer in
      let full = reads.full in
      let handed : contest_in stars (handed_over numbers room) ≡ contest_in stars numbers
      = λ i. record {
        outcome = refusal-handed numbers room full long i;
        rival = eqb (nat_abs (read-handed numbers room full long own_place (omega arith) i)) 1;
        stars = words-handed numbers room full long stars names_place (omega arith) i;
      } in
      subst (Contested directions bytes needed tolerance words) (sym (handed ∙ reads.back)) promised
