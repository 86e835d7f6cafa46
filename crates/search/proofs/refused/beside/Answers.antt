-- A list of directions that is right has at most eight.
use Rattle.std.proofs.Common.{sym, arith, rules}
use Rattle.camera_direction.specs.ListLaws.{ok-directions}
use Rattle.search.proofs.refused.beside.Goals as goal

pub check-requires : goal.check-requires
check-requires c = (omega (arith, (ok-directions _ (sym c.if-not-list_ok.ensures)).most), search rules)
