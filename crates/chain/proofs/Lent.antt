-- The part of the room that the search is lent is our ranking. Assumes nothing.
use Rattle.std.proofs.Common.{◌≡◌, ap, ◌∙◌, List, ℕ, ℤ, ◌*◌, ◌≤◌, length, take, arith}
use Rattle.frame_list.specs.declared.Report.{Report}
use Rattle.catalogue.specs.Format.{records_in}
use Rattle.chain.specs.declared.Settings.{Settings}
use Rattle.chain.specs.Chain.{our_ranking}
use Rattle.chain.specs.Ready.{RankingStands}
use Rattle.chain.specs.ChainLaws as laws

-- n is how many records the catalogue has
module _ (report : Report) (directions : List ℤ) (bytes : List ℕ) (settings : Settings) (room : List ℕ) (n : ℕ)
    (stands : RankingStands report directions bytes settings room) (e : n ≡ records_in bytes) where
  pub words_are : report.count * n ≡ report.count * records_in bytes
  words_are = ap (λ (k : ℕ). report.count * k) e

  pub room-long : report.count * n ≤ length room
  room-long = omega (arith, ap length stands.ranked, words_are, laws.room-long _ _ _ _ stands.ready)

  pub ranking-is : take (report.count * n) room ≡ our_ranking report bytes settings
  ranking-is = (λ i. take (words_are i) (stands.ranked i)) ∙ laws.room-front _ _ _ _ stands.ready
