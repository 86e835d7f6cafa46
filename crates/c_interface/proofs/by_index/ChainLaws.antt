-- Demand 3 in the numbers that a caller of the chain by an index is handed, whichever index was lent. Assumes nothing.
use Rattle.std.specs.Prelude.{List, ◌≤◌, ℤ, length}
use Rattle.catalogue.specs.Format.{records_in}
use Rattle.chain_by_index.specs.Chain.{Call, tracked_of}
use Rattle.chain_by_index.specs.Laws.{tracked-names, tracked-numbered, tracked-whole}
use Rattle.c_numbers.specs.Room.{size, handed_over}
use Rattle.c_interface.specs.track.Chain.{chain_numbers}
use Rattle.c_interface.specs.track.ChainLaws.{Told, told}

pub chain-told : (c : Call) (room : List ℤ) → size ≤ length room → Told c.chain
    (handed_over (chain_numbers (records_in c.chain.catalogue) (tracked_of c)) room)
chain-told c = told c.chain (tracked_of c) (tracked-names c) (tracked-numbered c) (tracked-whole c)
