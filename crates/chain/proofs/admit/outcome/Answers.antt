-- The second promise follows from the first.
use Rattle.std.proofs.Common.{arith}
use Rattle.std.proofs.lemmas.Grind.{common_steps}
use Rattle.chain.proofs.ToldLaws.{admit-told}
use Rattle.chain.proofs.admit.outcome.Goals as goal

pub returns-in_err-settings_outcome-clause-value : goal.returns-in_err-settings_outcome-clause-value
returns-in_err-settings_outcome-clause-value c = grind (arith, common_steps)

pub returns-in_err-settings_outcome-clause-result_value : goal.returns-in_err-settings_outcome-clause-result_value
returns-in_err-settings_outcome-clause-result_value c =
    let a = c.args in
    (admit-told a.frame a.stars a.settings a.words a.count (returns-in_err-settings_outcome-clause-value c)).1

pub returns-in_err-stars-clause-value : goal.returns-in_err-stars-clause-value
returns-in_err-stars-clause-value c = grind (arith, common_steps)

pub returns-in_err-stars-clause-result_value : goal.returns-in_err-stars-clause-result_value
returns-in_err-stars-clause-result_value c =
    let a = c.args in
    (admit-told a.frame a.stars a.settings a.words a.count (returns-in_err-stars-clause-value c)).1

pub returns-clause-value : goal.returns-clause-value
returns-clause-value c = grind (arith, common_steps)

pub returns-clause-result_value : goal.returns-clause-result_value
returns-clause-result_value c =
    let a = c.args in
    (admit-told a.frame a.stars a.settings a.words a.count (returns-clause-value c)).1
