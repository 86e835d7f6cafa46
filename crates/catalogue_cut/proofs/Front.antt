-- The buffer after the cut: as long as before, the kept records at its front, and 255 behind them. Assumes nothing.
use Rattle.std.specs.Prelude.{◌≡◌, List, ◌++◌, ℕ, ◌+◌, ◌*◌, ◌-◌, ◌≤◌, ◌<◌, ℤ, take}
use Rattle.std.proofs.Math.Path.{ap}
use Rattle.std.proofs.Common.{◌∙◌, arith}
use Rattle.std.proofs.Math.ListN.{length, get_or, replicate, length-append, length-replicate, get_or-replicate, get_or-append}
use Rattle.std.proofs.Math.Seq.{take_at, get_or-append-add}
use Rattle.lists.specs.Number.{number}
use Rattle.lists.proofs.NumberLaws.{number-most}
use Rattle.lists.proofs.Below.{Passing, passing, below-count}
use Rattle.catalogue.specs.Format.{record_size, records_in}
use Rattle.catalogue_cut.specs.Flight.{is_kept, kept_in, flight_of, freed, cut_of}
use Rattle.catalogue_cut.specs.Records.{Inside}
use Rattle.catalogue_cut.proofs.Records.{records-length, records-byte}
use Rattle.catalogue_cut.specs.Front as defs

module _ (bytes : List ℕ) (limit closeness : ℤ) where
  abbrev kept : List ℕ
  kept = defs.kept bytes limit closeness

  -- the kept records, each once, in their order
  pub kept-passing : Passing (is_kept bytes limit closeness) (records_in bytes) kept
  unfolding kept_in
  kept-passing = passing (is_kept bytes limit closeness) (records_in bytes)

  pub kept-number : length kept ≡ number (records_in bytes) (is_kept bytes limit closeness)
  unfolding kept_in
  kept-number = below-count (is_kept bytes limit closeness) (records_in bytes)

  pub kept-inside : Inside bytes kept
  kept-inside = record { at = λ p h. (kept-passing.each p h).0 }

  pub flight-length : length (flight_of bytes limit closeness) ≡ record_size * length kept
  unfolding flight_of
  flight-length = records-length bytes kept kept-inside

  pub flight-byte : (p k : ℕ) → p < length kept → k < record_size
      → get_or (flight_of bytes limit closeness) (record_size * p + k) 0 ≡ get_or bytes (record_size * get_or kept p 0 + k) 0
  unfolding flight_of
  flight-byte p k h l = records-byte bytes kept kept-inside p k h l

  -- no longer than the buffer
  pub flight-most : length (flight_of bytes limit closeness) ≤ length bytes
  flight-most = omega (arith, flight-length, kept-number, number-most (records_in bytes) (is_kept bytes limit closeness))

  pub cut-length : length (cut_of bytes limit closeness) ≡ length bytes
  unfolding cut_of
  cut-length =
      let n = length bytes - length (flight_of bytes limit closeness) in
      omega (arith, length-append (flight_of bytes limit closeness) (replicate n freed), length-replicate n freed, flight-most)

  -- the front of the buffer is the flight catalogue
  pub cut-front : take (record_size * length kept) (cut_of bytes limit closeness) ≡ flight_of bytes limit closeness
  unfolding cut_of
  cut-front = take_at (flight_of bytes limit closeness) _ (record_size * length kept) flight-length

  -- byte k of the p'th kept record
  pub cut-byte : (p k : ℕ) → p < length kept → k < record_size
      → get_or (cut_of bytes limit closeness) (record_size * p + k) 0 ≡ get_or bytes (record_size * get_or kept p 0 + k) 0
  unfolding cut_of
  cut-byte p k h l = get_or-append (flight_of bytes limit closeness) _ 0 (record_size * p + k) (omega (arith, flight-length)) ∙ flight-byte p k h l

  -- and each byte behind them
  pub cut-freed : (m : ℕ) → record_size * length kept ≤ m → m < length bytes → get_or (cut_of bytes limit closeness) m 0 ≡ 255
  unfolding cut_of
  cut-freed m h l =
      let n = length (flight_of bytes limit closeness) in
      let e : m ≡ n + (m - n) = omega (arith, flight-length) in
      ap (λ (k : ℕ). get_or (flight_of bytes limit closeness ++ replicate (length bytes - n) freed) k 0) e
      ∙ get_or-append-add (flight_of bytes limit closeness) (replicate (length bytes - n) freed) (m - n) 0
      ∙ get_or-replicate (length bytes - n) (m - n) freed 0 (omega (arith, flight-length))
