-- What the call answers keeps the promise on rivals, on every call: over the chain's own directions and ranking, beside the chain's own names. Assumes
-- nothing.
use Rattle.std.specs.Prelude.{◌≡◌, List, ℕ}
use Rattle.std.proofs.Common.{ap}
use Rattle.refusal.specs.declared.Refusal.{Refusal}
use Rattle.refusal.specs.Table.{first_applying, answered}
use Rattle.frame_list.specs.declared.Report.{Report}
use Rattle.chain.specs.declared.Settings.{Settings}
use Rattle.chain.specs.Chain.{Call, listed, sights_of, our_ranking, refusals_of}
use Rattle.search_rival.specs.declared.Contest.{Contest}
use Rattle.search_rival.specs.Contested.{refused_with, Contested}
use Rattle.search_rival.proofs.Answers.{computed-contested}
use Rattle.chain.specs.rival.Chain.{our_contest, contested_of}
use Rattle.std.specs.Prelude.{Ok, Err}

-- a report's directions over our ranking
abbrev pub ContestedHere : Report → List ℕ → Settings → Contest → Type 0
ContestedHere report bytes s = Contested (sights_of report bytes s) bytes s.needed s.tolerance (our_ranking report bytes s)

-- refused as the chain is before it ranks; else the rivals of what the search finds for the frame's directions
pub record Contests (c : Call) (r : Contest) : Type 0 where
  pub refused : (q : Refusal) → first_applying (refusals_of c) ≡ Err q → r ≡ refused_with q
  pub contested : first_applying (refusals_of c) ≡ Ok tt → ContestedHere (listed c).report c.catalogue c.settings r

pub our-contested : (report : Report) (bytes : List ℕ) (s : Settings) → ContestedHere report bytes s (our_contest report bytes s)
unfolding our_contest
our-contested report bytes s = computed-contested (sights_of report bytes s) bytes s.needed s.tolerance (our_ranking report bytes s)

pub call-contests : (c : Call) → Contests c (contested_of c)
unfolding contested_of
call-contests c =
    record {
      refused = λ q e. ap (answered refused_with (our_contest (listed c).report c.catalogue c.settings)) e;
      contested = λ e. rw e (our-contested (listed c).report c.catalogue c.settings);
    }
