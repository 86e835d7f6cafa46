use Rattle.std.proofs.Common.{[], ◌∷◌, ◌++◌, ◌≡◌, ap, ◌∙◌, ◌+◌, length, arith, length-append}
use Rattle.std.specs.Slice.Iter.{chunks_exact_rest, chunks_exact_size}
use Rattle.desk_lines.specs.compare.LinesLaws.{lines_start, lines_more, lines-all, left-all, left-next, left-none, identity-there, kind-there}
use Rattle.desk_lines.proofs.compare.lines.Goals as goal

pub loop-record-init : goal.loop-record-init
loop-record-init c =
    let i = c.into_iter-record-iterator.ensures.into_iter_gives in
    let e = c.chunks_exact-record-items.ensures in
    record {
      wrote = lines_start _ _;
      upper_bound = omega arith;
      left = left-all _ (ap chunks_exact_size i ∙ e.size) (ap chunks_exact_rest i ∙ e.rest);
    }

pub loop-record-preserved : goal.loop-record-preserved
loop-record-preserved c =
    let h = c.loop-record.invariant in
    let m = c.in-Some.ensures.steps in
    let first = c.in-Some.record.now in
    let more = chunks_exact_rest c.next.new.self in
    let n : length (c.loop-record.yielded ++ (c.in-Some.record ∷ [])) ≡ length c.loop-record.yielded + 1 = length-append _ _ in
    let w = lines_more _ _
    (c.u32_at.ensures ∙ identity-there first more h.left m.1.0 m.1.1)
    (c.u32_at-in-loop-record.ensures ∙ kind-there first more h.left m.1.0 m.1.1)
    h.wrote
    c.line-next.ensures.wrote in
    record {
      wrote = rw n w;
      upper_bound = omega arith;
      left = rw n (left-next first more h.left m.1.0 m.1.1 m.0);
    }

pub returns-clause-wrote : goal.returns-clause-wrote
returns-clause-wrote c = lines-all _ _ (left-none c.loop-record.invariant.left c.in-None.ensures.steps.1.0) c.loop-record.invariant.wrote
