-- Demand 3 in the numbers that a caller of the search is handed. Assumes nothing.
use Rattle.std.specs.Prelude.{◌≡◌, List, [], ◌∷◌, ℕ, ◌≤◌, ℤ, pos, length}
use Rattle.std.proofs.Math.Path.{refl}
use Rattle.std.proofs.Common.{sym, ap, ◌∙◌, subst, ⊎_elim, arith}
use Rattle.camera_direction.specs.ListLaws.{directions_in}
use Rattle.catalogue.specs.Format.{records_in}
use Rattle.search.specs.declared.Identification.{Identification}
use Rattle.search.specs.Identified.{identification_of}
use Rattle.search.specs.Call.{Call}
use Rattle.search.specs.Answered.{Answered}
use Rattle.search.proofs.Promise.{computed-answered}
use Rattle.c_numbers.specs.Room.{size, handed_over}
use Rattle.numbers.specs.TwosComplement.{signed_of}
use Rattle.c_numbers.specs.Numbers.{accepted_numbers, outcome_numbers}
use Rattle.c_numbers.specs.Stars.{joined}
use Rattle.c_numbers.specs.Places.{names_place, refusal_in, words_at}
use Rattle.c_numbers.specs.PlaceLaws.{Named, refusal-handed, words-handed}
use Rattle.c_numbers.proofs.PlaceLaws.{words-read}
use Rattle.c_interface.specs.identify.Search.{named_numbers, search_numbers}
use Rattle.c_interface.specs.identify.SearchLaws.{identification_in}
use Rattle.std.specs.Prelude.{Result, Ok}
use Rattle.refusal.specs.declared.Refusal.{Refusal}

module _ (directions stars : ℕ) (r : Identification) where
  accepted-read : r.outcome ≡ Ok tt → Named r.stars directions stars → identification_in stars (search_numbers directions stars r) ≡ r
  accepted-read e N =
      let names = ap (λ (o : Result Unit Refusal). words_at stars (outcome_numbers o (accepted_numbers (named_numbers directions stars r.stars))) names_place) e
      ∙ words-read r.stars directions stars N (pos 0 ∷ pos 0 ∷ signed_of directions ∷ []) _ names_place refl in
      let outcome = ap (λ (o : Result Unit Refusal). refusal_in (outcome_numbers o (accepted_numbers (named_numbers directions stars r.stars)))) e ∙ sym e in
      λ i. record { outcome = outcome i; stars = names i }

  accepted-full : r.outcome ≡ Ok tt → length (search_numbers directions stars r) ≡ size
  unfolding joined
  accepted-full e = rw e refl

module _ (directions : List ℤ) (bytes : List ℕ) (needed tolerance : ℕ) (words : List ℕ) (v : Call directions bytes needed tolerance words) where
  abbrev answer : Identification
  answer = identification_of directions bytes needed tolerance words

  abbrev numbers : List ℤ
  numbers = search_numbers (directions_in directions) (records_in bytes) answer

  told : Answered directions bytes needed tolerance words answer
  told = computed-answered directions bytes needed tolerance words v

  named : answer.outcome ≡ Ok tt → Named answer.stars (directions_in directions) (records_in bytes)
  named e = record { size = told.size e; words-in = (told.fits e).words; rest = told.rest e; many = omega (arith, v.catalogue.size.most) }

  full : length numbers ≡ size
  full =
      ⊎_elim (accepted-full (directions_in directions) (records_in bytes) answer)
      (⊎_elim
      (λ e. ap (λ (r : Identification). length (search_numbers (directions_in directions) (records_in bytes) r)) e)
      (λ e. ap (λ (r : Identification). length (search_numbers (directions_in directions) (records_in bytes) r)) e))
      told.one_of_three

  read_back : identification_in (records_in bytes) numbers ≡ answer
  read_back =
      ⊎_elim (λ e. accepted-read (directions_in directions) (records_in bytes) answer e (named e))
      (⊎_elim
      (λ e. ap (λ (r : Identification). identification_in (records_in bytes) (search_numbers (directions_in directions) (records_in bytes) r)) e ∙ sym e)
      (λ e. ap (λ (r : Identification). identification_in (records_in bytes) (search_numbers (directions_in directions) (records_in bytes) r)) e ∙ sym e))
      told.one_of_three

  -- a caller who lends 64 numbers reads the first assignment that fits, 12 or 13, and nothing else
  pub search-told : (room : List ℤ) → size ≤ length room → Answered directions bytes needed tolerance words
      (identification_in (records_in bytes) (handed_over numbers room))
  search-told room long =
      let handed : identification_in (records_in bytes) (handed_over numbers room) ≡ identification_in (records_in bytes) numbers
      = λ i. record {
        outcome = refusal-handed numbers room full long i;
        stars =
            words-handed numbers room full long (records_in bytes) names_place (omega arith) i;
      } in
      subst (Answered directions bytes needed tolerance words) (sym (handed ∙ read_back)) told
