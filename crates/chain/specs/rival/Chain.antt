-- The chain's call, asked for rivals in place of an attitude: its own directions and ranking, and its own refusals 1 to 12. Assumes nothing.
use Rattle.std.specs.Prelude.{List, ℕ}
use Rattle.refusal.specs.Table.{first_applying, answered}
use Rattle.frame_list.specs.declared.Report.{Report}
use Rattle.chain.specs.declared.Settings.{Settings}
use Rattle.chain.specs.Chain.{Call, listed, sights_of, our_ranking, refusals_of}
use Rattle.search_rival.specs.declared.Contest.{Contest}
use Rattle.search_rival.specs.Contested.{refused_with, contest_of}

-- of a report's directions over our ranking
unfoldable pub our_contest : Report → List ℕ → Settings → Contest
our_contest report bytes s = contest_of (sights_of report bytes s) bytes s.needed s.tolerance (our_ranking report bytes s)

unfoldable pub contested_of : Call → Contest
contested_of c = answered refused_with (our_contest (listed c).report c.catalogue c.settings) (first_applying (refusals_of c))
