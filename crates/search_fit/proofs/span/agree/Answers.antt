-- The moved product is in the span.
use Rattle.std.proofs.Common.{rules}
use Rattle.search_fit.proofs.SpanLaws.{in_span}
use Rattle.search_fit.proofs.span.agree.Goals as goal

pub returns : goal.returns
returns c = in_span c.args.p c.args.q c.args.tolerance c.reach-half.result c.raised.result c.raised-2.result c.requires.within c.requires.within_2
    c.reach-half.ensures.upper_bound c.reach-half.ensures.by_index (search rules) (search rules)
