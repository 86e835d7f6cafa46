-- Two directions at least are assigned, so that the first and the second assigned one are directions with stars.
use Rattle.std.proofs.Common.{◌≡◌, ◌∙◌, ap, List, ℕ, ◌+◌, ◌/◌, ◌<◌, ◌≤◌, length, arith, rules}
use Rattle.search_theory.specs.Order.{at}
use Rattle.search_theory.specs.Problem.{assigned}
use Rattle.attitude.specs.orient.Orient.{assigned_from, first_assigned, second_assigned, orientation_of}
use Rattle.attitude.specs.orient.OrientLaws.{first-within, second-within, from-taken}
use Rattle.attitude.proofs.orient.attitude_of.Goals as goal

module _ (words : List ℕ) (total count : ℕ) (h : 2 ≤ assigned total words count) where
  one_in : {i : ℕ} → i ≡ first_assigned words total count → i < count
  one_in e = rw e (first-within words total count (omega arith))

  one-star : {i : ℕ} → i ≡ first_assigned words total count → at words i < total
  one-star e = rw e (from-taken words total count 0 (first-within words total count (omega arith))).1

  module _ {i j : ℕ} (e : i ≡ first_assigned words total count) (f : j ≡ assigned_from words total count (i + 1)) where
    second_is : j ≡ second_assigned words total count
    second_is = f ∙ ap (λ (k : ℕ). assigned_from words total count (k + 1)) e

    two_in : j < count
    two_in = rw second_is (second-within words total count h)

    two-star : at words j < total
    two-star = rw second_is (from-taken words total count _ (second-within words total count h)).1

pub assigned_from-j-requires : goal.assigned_from-j-requires
assigned_from-j-requires c = omega (arith, one_in c.args.words (length c.args.stars.now / 3) (length c.args.directions.now / 3) c.requires.1 c.assigned_from-i.ensures.value)

pub triple_at-requires : goal.triple_at-requires
triple_at-requires c = omega (arith, one_in c.args.words (length c.args.stars.now / 3) (length c.args.directions.now / 3) c.requires.1 c.assigned_from-i.ensures.value)

pub triple_at-requires-2 : goal.triple_at-requires-2
triple_at-requires-2 c = omega (arith, two_in c.args.words (length c.args.stars.now / 3) (length c.args.directions.now / 3) c.requires.1 c.assigned_from-i.ensures.value c.assigned_from-j.ensures.value)

pub bounds-words-i : goal.bounds-words-i
bounds-words-i c = omega (arith, one_in c.args.words (length c.args.stars.now / 3) (length c.args.directions.now / 3) c.requires.1 c.assigned_from-i.ensures.value)

pub triple_at-requires-3 : goal.triple_at-requires-3
triple_at-requires-3 c = omega (arith, one-star c.args.words (length c.args.stars.now / 3) (length c.args.directions.now / 3) c.requires.1 c.assigned_from-i.ensures.value)

pub bounds-words-j : goal.bounds-words-j
bounds-words-j c = omega (arith, two_in c.args.words (length c.args.stars.now / 3) (length c.args.directions.now / 3) c.requires.1 c.assigned_from-i.ensures.value c.assigned_from-j.ensures.value)

pub triple_at-requires-4 : goal.triple_at-requires-4
triple_at-requires-4 c = omega (arith, two-star c.args.words (length c.args.stars.now / 3) (length c.args.directions.now / 3) c.requires.1 c.assigned_from-i.ensures.value c.assigned_from-j.ensures.value)

pub returns : goal.returns
unfolding orientation_of
returns c =
    let i = c.assigned_from-i.ensures.value in
    let j = second_is c.args.words (length c.args.stars.now / 3) (length c.args.directions.now / 3) c.requires.1 i c.assigned_from-j.ensures.value in
    let k : c.from.result ≡ at c.args.words c.assigned_from-i.result = search rules in
    let l : c.from-2.result ≡ at c.args.words c.assigned_from-j.result = search rules in
    cc (i, j, k, l, c.triad.ensures.value)
