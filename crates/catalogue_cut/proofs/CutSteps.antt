-- What cutting a catalogue gives, one step at a time, as the code meets them. Assumes nothing.
use Rattle.std.specs.Prelude.{◌≡◌, refl, ℕ, ◌*◌, ◌-◌, ℤ, length, take, drop}
use Rattle.std.proofs.Math.Path.{sym, ap}
use mathlib.Core.List.{List, [], ◌∷◌, ◌++◌}
use Rattle.std.proofs.Common.{arith, eq-eqb, ne_eqb}
use Rattle.std.proofs.Math.ListN.{replicate}
use Rattle.std.proofs.Math.Seq.{take_at}
use Rattle.refusal.specs.declared.Refusal.{Refusal}
use Rattle.refusal.specs.Numbers as number
use Rattle.refusal.specs.Table.{first_applying}
use Rattle.refusal.proofs.Laws.{last-unasked, last-decides}
use Rattle.refusal.specs.AnswerLaws.{answer_by}
use Rattle.refusal.specs.Counted.{count_answer}
use Rattle.refusal.proofs.CountedLaws.{count_by}
use Rattle.lists.proofs.Below.{below-same}
use Rattle.words.specs.Front.{at_front}
use Rattle.catalogue.specs.Check as catalogue
use Rattle.catalogue.specs.CheckLaws.{valid-accepted}
use Rattle.catalogue.specs.Format.{record_size, records_in}
use Rattle.catalogue.specs.Valid.{Valid}
use Rattle.catalogue_cut.specs.Flight.{is_kept, kept_in, records_at, flight_of, freed, cut_of}
use Rattle.catalogue_cut.proofs.Front.{flight-length}
use Rattle.catalogue_cut.specs.marks.Judge.{Settled}
use Rattle.catalogue_cut.specs.Shifted.{marked}
use Rattle.catalogue_cut.specs.Cut.{none_kept, refusals_of, shortened_of, buffer_after, shortened_from, buffer_from, answer_for}
use Rattle.std.specs.Prelude.{Ok, Err}

module _ (bytes : List ℕ) (limit closeness : ℤ) where
  -- ---- a catalogue that is valid

  -- the records with a mark of 0 are those that are kept
  pub marked-kept : (marks : List ℕ) → Settled bytes limit closeness marks → marked marks (records_in bytes) ≡ kept_in bytes limit closeness
  unfolding kept_in
  marked-kept marks s = below-same _ (is_kept bytes limit closeness) (records_in bytes) s.at

  abbrev kept : ℕ
  kept = length (kept_in bytes limit closeness)

  abbrev pub moved : List ℕ
  moved = at_front (flight_of bytes limit closeness) bytes

  -- the records stand at the front
  pub moved-is : (marks : List ℕ) → Settled bytes limit closeness marks → at_front (records_at bytes (marked marks (records_in bytes))) bytes ≡ moved
  unfolding flight_of
  moved-is marks s = ap (λ (l : List ℕ). at_front (records_at bytes l) bytes) (marked-kept marks s)

  -- where there is none of them, nothing has moved
  pub moved_none : kept ≡ 0 → moved ≡ bytes
  moved_none e = ap (λ (l : List ℕ). at_front l bytes) (empty (flight_of bytes limit closeness) (omega (arith, flight-length bytes limit closeness)))
    where
      empty : (l : List ℕ) → length l ≡ 0 → l ≡ []
      empty [] h = refl
      empty (x ∷ xs) h = absurd (omega arith)

  -- and else the rest is filled
  pub moved-filled : (size : ℕ) → size ≡ length bytes → take (record_size * kept) moved ++ replicate (size - record_size * kept) freed
      ≡ cut_of bytes limit closeness
  unfolding cut_of
  moved-filled size e =
      let n = flight-length bytes limit closeness in
      λ j. take_at (flight_of bytes limit closeness) (drop (length (flight_of bytes limit closeness)) bytes) (record_size * kept) n j
      ++ replicate (e j - sym n j) freed

  module _ (e : kept ≡ 0) where
    pub none_from : shortened_from bytes limit closeness ≡ Err (record { number = number.nothing_kept; place = 0 })
    unfolding shortened_from
    none_from = rw (eq-eqb kept 0 e)

    pub none-buffer : buffer_from bytes limit closeness ≡ bytes
    unfolding buffer_from
    none-buffer = rw (eq-eqb kept 0 e)

  module _ (d : kept ≡ 0 → ⊥) where
    pub some-from : shortened_from bytes limit closeness ≡ Ok kept
    unfolding shortened_from
    some-from = rw (ne_eqb kept 0 d)

    pub some-buffer : buffer_from bytes limit closeness ≡ cut_of bytes limit closeness
    unfolding buffer_from
    some-buffer = rw (ne_eqb kept 0 d)

  -- ---- any bytes

  -- the answer in the documents' terms
  pub answers : count_answer (shortened_of bytes limit closeness) ≡ answer_for bytes limit closeness
  unfolding shortened_of refusals_of catalogue.refusals_of answer_by
  answers = count_by kept (refusals_of bytes limit closeness)

  -- the catalogue is refused
  module _ (r : Refusal) (e : first_applying (catalogue.refusals_of bytes) ≡ Err r) where
    pub catalogue-refused : shortened_of bytes limit closeness ≡ Err r
    unfolding shortened_of refusals_of
    catalogue-refused = last-unasked Err (Ok kept) (catalogue.refusals_of bytes) (none_kept bytes limit closeness) number.nothing_kept r e

    pub catalogue-kept : buffer_after bytes limit closeness ≡ bytes
    unfolding buffer_after refusals_of
    catalogue-kept = last-unasked (λ _. bytes) (cut_of bytes limit closeness) (catalogue.refusals_of bytes) (none_kept bytes limit closeness) number.nothing_kept r
        e

  -- it is valid
  module _ (v : Valid bytes) where
    pub valid-shortened : shortened_of bytes limit closeness ≡ shortened_from bytes limit closeness
    unfolding shortened_of refusals_of shortened_from
    valid-shortened = last-decides Err (Ok kept) (catalogue.refusals_of bytes) (none_kept bytes limit closeness) number.nothing_kept
        (valid-accepted bytes v)

    pub valid-buffer : buffer_after bytes limit closeness ≡ buffer_from bytes limit closeness
    unfolding buffer_after refusals_of buffer_from
    valid-buffer = last-decides (λ _. bytes) (cut_of bytes limit closeness) (catalogue.refusals_of bytes) (none_kept bytes limit closeness) number.nothing_kept
        (valid-accepted bytes v)
