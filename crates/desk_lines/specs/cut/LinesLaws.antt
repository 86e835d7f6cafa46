-- The flight catalogue lies in its buffer, and is what the line's number says. Assumes nothing.
use Rattle.std.specs.Prelude.{List, ◌≡◌, ℕ, ◌*◌, ◌≤◌, ℤ, length}
use Rattle.std.proofs.Common.{arith}
use Rattle.refusal.specs.Table.{first_applying}
use Rattle.refusal.specs.CountedLaws.{count-accepted}
use Rattle.catalogue.specs.Format.{record_size}
use Rattle.catalogue_cut.specs.Flight.{kept_in}
use Rattle.catalogue_cut.proofs.Front.{flight-length, flight-most}
use Rattle.catalogue_cut.specs.Cut.{refusals_of, shortened_of}
use Rattle.std.specs.Prelude.{Ok}

module _ (bytes : List ℕ) (limit closeness : ℤ) (n : ℕ) (e : shortened_of bytes limit closeness ≡ Ok n) where
  pub kept-is : n ≡ length (kept_in bytes limit closeness)
  unfolding shortened_of
  kept-is = (count-accepted (length (kept_in bytes limit closeness)) n (first_applying (refusals_of bytes limit closeness)) e).1

  pub flight-within : record_size * n ≤ length bytes
  flight-within = omega (arith, kept-is, flight-length bytes limit closeness, flight-most bytes limit closeness)
