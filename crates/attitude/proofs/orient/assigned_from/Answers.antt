-- The first direction from a place on that is taken is the definition's own.
use Rattle.std.proofs.Common.{◌≡◌, List, ℕ, ◌<◌, ◌≤◌, ◌&&◌, Bool, true, false, refl, leb, ltb, arith, below_more}
use borrow.Author.Tests.{le-leb, lt-leb, lt-ltb, le-ltb}
use Rattle.lists.proofs.First.{first_of}
use Rattle.search_theory.specs.Order.{at}
use Rattle.attitude.specs.orient.Orient.{assigned_from}
use Rattle.attitude.proofs.orient.assigned_from.Goals as goal

-- a direction before the place is not asked for
early : (words : List ℕ) (stars from j : ℕ) → j < from → leb from j && ltb (at words j) stars ≡ false
early words stars from j h = rw (lt-leb from j h)

-- one without a star is not taken, one with a star is
untaken : (words : List ℕ) (stars from j : ℕ) → stars ≤ at words j → leb from j && ltb (at words j) stars ≡ false
untaken words stars from j h = by (leb from j) (le-ltb (at words j) stars h)
  where
    by : (a : Bool) {b : Bool} → b ≡ false → a && b ≡ false
    by true e = e
    by false e = refl

taken : (words : List ℕ) (stars from j : ℕ) → from ≤ j → at words j < stars → leb from j && ltb (at words j) stars ≡ true
taken words stars from j h k = rw (le-leb from j h, lt-ltb (at words j) stars k)

pub loop-i-init : goal.loop-i-init
loop-i-init c = λ j h. early c.args.words c.args.stars c.args.from j h

pub loop-i-preserved : goal.loop-i-preserved
loop-i-preserved c =
    below_more _ _ c.loop-i.invariant (untaken c.args.words c.args.stars c.args.from c.loop-i.i (omega arith))

pub returns-then-from-stars-clause-value : goal.returns-then-from-stars-clause-value
unfolding assigned_from
returns-then-from-stars-clause-value c =
    first_of _ _ (record {
      most = omega arith;
      none = c.loop-i.invariant;
      taken = λ _. taken c.args.words c.args.stars c.args.from c.loop-i.i (omega arith) (omega arith);
    })

pub returns-clause-value : goal.returns-clause-value
unfolding assigned_from
returns-clause-value c =
    let e : c.loop-i.i ≡ c.args.directions = omega arith in
    first_of _ _ (record { most = omega arith; none = rw (← e) c.loop-i.invariant; taken = λ h. absurd (omega arith) })
