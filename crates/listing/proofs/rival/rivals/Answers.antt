-- The chain's rivals and the frame's list are those of the text.
use Rattle.std.proofs.Common.{◌≡◌, subst, List, ℕ}
use Rattle.frame_list.specs.declared.Report.{Report}
use Rattle.text.specs.Written.{Wrote}
use Rattle.search_rival.specs.declared.Contest.{Contest}
use Rattle.chain.specs.Chain.{Call, listed}
use Rattle.chain.specs.rival.Chain.{contested_of}
use Rattle.listing.specs.Listing.{chain_on}
use Rattle.listing.specs.Rival.{contest_text, call_text}
use Rattle.listing.proofs.rival.rivals.Goals as goal

-- the text of a report and a contest that are the call's
told : (c : Call) {r : Report} {x : Contest} {a b : List ℕ} {n : ℕ} → r ≡ (listed c).report → x ≡ contested_of c
    → Wrote a 0 (contest_text r c.catalogue x) b n → Wrote a 0 (call_text c) b n
unfolding call_text
told c {a = a} {b = b} {n = n} e q = subst (λ (t : List ℕ). Wrote a 0 t b n) (λ i. contest_text (e i) c.catalogue (q i))

pub returns-clause-wrote : goal.returns-clause-wrote
returns-clause-wrote c =
    let i = c.args.input in
    told (chain_on i.samples.now i.catalogue.now i.settings) c.report.ensures c.contest-contest.ensures.value c.contested.ensures.wrote
