-- The second promise follows from the first.
use Rattle.std.proofs.Common.{arith}
use Rattle.std.proofs.lemmas.Grind.{common_steps}
use Rattle.text.specs.Sign.{parsed_signed_of}
use Rattle.text.specs.SignLaws.{told}
use Rattle.text.proofs.sign.parse_signed.Goals as goal

pub returns-then-word-eq0-clause-value : goal.returns-then-word-eq0-clause-value
unfolding parsed_signed_of
returns-then-word-eq0-clause-value c = grind (arith, common_steps)

pub returns-then-word-eq0-clause-result_value : goal.returns-then-word-eq0-clause-result_value
returns-then-word-eq0-clause-result_value c = (told c.args.word.now (returns-then-word-eq0-clause-value c)).1

pub returns-then-has_minus-clause-value : goal.returns-then-has_minus-clause-value
unfolding parsed_signed_of
returns-then-has_minus-clause-value c = grind (arith, common_steps)

pub returns-then-has_minus-clause-result_value : goal.returns-then-has_minus-clause-result_value
returns-then-has_minus-clause-result_value c = (told c.args.word.now (returns-then-has_minus-clause-value c)).1

pub returns-clause-value : goal.returns-clause-value
unfolding parsed_signed_of
returns-clause-value c = grind (arith, common_steps)

pub returns-clause-result_value : goal.returns-clause-result_value
returns-clause-result_value c = (told c.args.word.now (returns-clause-value c)).1
