-- The text case by case.
use Rattle.listing.specs.Rival.{contest_text}
use Rattle.listing.proofs.rival.contested.Goals as goal

pub returns-then-contest-clause-wrote : goal.returns-then-contest-clause-wrote
unfolding contest_text
returns-then-contest-clause-wrote c = rw (c.in-Ok.is, c.if-contest.true) c.stars.ensures.wrote

pub returns-in-Err-clause-wrote : goal.returns-in-Err-clause-wrote
unfolding contest_text
returns-in-Err-clause-wrote c = rw c.in-Err.is c.refused.ensures.wrote

pub returns-else-contest-clause-wrote : goal.returns-else-contest-clause-wrote
unfolding contest_text
returns-else-contest-clause-wrote c = rw (c.in-Ok.is, c.if-contest.false) c.word.ensures
