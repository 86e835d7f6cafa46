-- What a caller of the chain reads from the numbers, and demand 3 in them. Assumes nothing.
use Rattle.std.specs.Prelude.{◌≤◌, ℤ}
use mathlib.Core.List.{List}
use Rattle.std.proofs.Math.ListN.{length}
use Rattle.catalogue.specs.Format.{records_in}
use Rattle.chain.specs.Chain.{Call, tracked_of}
use Rattle.chain.proofs.NamesLaws.{tracked-names, tracked-whole, tracked-numbered}
use Rattle.c_numbers.specs.Room.{size, handed_over}
use Rattle.c_interface.specs.track.Chain.{chain_numbers}
use Rattle.c_interface.specs.track.ChainLaws.{Told, told}

-- a caller who lends 64 numbers
pub chain-told : (c : Call) (room : List ℤ) → size ≤ length room → Told c (handed_over (chain_numbers (records_in c.catalogue) (tracked_of c)) room)
chain-told c = told c (tracked_of c) (tracked-names c) (tracked-numbered c) (tracked-whole c)
