-- Whichever comes next, it is the step of the definitions. Assumes nothing.
use Rattle.std.proofs.Common.{sym, arith}
use Rattle.catalogue_compare.proofs.Merge.{when_none, when_some, first-step, second-step, both-step}
use Rattle.catalogue_compare.proofs.step.advance.Goals as goal

pub returns-in-None-Some : goal.returns-in-None-Some
returns-in-None-Some c =
    let x = c.args in
    let a = when_none _ _ c.next.ensures c.in-None-Some.is-0 in
    let b = when_some _ _ c.next-2.ensures c.in-None-Some.is-1 in
    rw c.taken.ensures ((λ _. b.0), second-step x.first.now x.second.now x.i x.j (sym a.1) b.2 (omega arith))

pub returns-in-Some-None : goal.returns-in-Some-None
returns-in-Some-None c =
    let x = c.args in
    let a = when_some _ _ c.next.ensures c.in-Some-None.is-0 in
    let b = when_none _ _ c.next-2.ensures c.in-Some-None.is-1 in
    rw c.taken-in-Some-None.ensures ((λ h. absurd (omega arith)), first-step x.first.now x.second.now x.i x.j a.2 (sym b.1) (omega arith))

pub returns-then-one-other : goal.returns-then-one-other
returns-then-one-other c =
    let x = c.args in
    let a = when_some _ _ c.next.ensures c.in-Some-Some.is-0 in
    let b = when_some _ _ c.next-2.ensures c.in-Some-Some.is-1 in
    rw c.taken-then-one-other.ensures ((λ _. b.0), first-step x.first.now x.second.now x.i x.j a.2 b.2 (omega arith))

pub returns-then-other-one : goal.returns-then-other-one
returns-then-other-one c =
    let x = c.args in
    let a = when_some _ _ c.next.ensures c.in-Some-Some.is-0 in
    let b = when_some _ _ c.next-2.ensures c.in-Some-Some.is-1 in
    rw c.taken-then-other-one.ensures ((λ _. b.0), second-step x.first.now x.second.now x.i x.j a.2 b.2 (omega arith))

pub returns-else-other-one : goal.returns-else-other-one
returns-else-other-one c =
    let x = c.args in
    let a = when_some _ _ c.next.ensures c.in-Some-Some.is-0 in
    let b = when_some _ _ c.next-2.ensures c.in-Some-Some.is-1 in
    rw c.taken-else-other-one.ensures ((λ _. b.0), both-step x.first.now x.second.now x.i x.j a.2 b.2 (omega arith) c.both_kind.ensures)
