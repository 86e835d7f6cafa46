-- Star a is looked at with one more star. Assumes nothing.
use Rattle.std.proofs.Common.{◌≡◌, ℕ, ◌<◌, sym, ap, subst, ◌∙◌, arith, length, get_or}
use Rattle.vectors.specs.Vectors.{dot_of}
use Rattle.vectors.specs.Triples.{triple_at, pair_dot}
use Rattle.vectors.specs.Laws.{triple-within}
use Rattle.catalogue_cut.specs.declared.marks.Mark.TheVariants.{Crowded}
use Rattle.catalogue_cut.specs.marks.Number.{number_of, numbers_of}
use Rattle.catalogue_cut.specs.marks.Marks.{meets_by, Row}
use Rattle.catalogue_cut.specs.marks.MarksLaws.{judged-faint, row-start, row_as, row-met, row_apart, row_done}
use Rattle.catalogue_cut.proofs.marks.Numbers.{numbers-length, number-at, numbers-set, is-faint, not-faint}
use Rattle.catalogue_cut.proofs.marks.Pairs.crowd.Goals as goal
use Rattle.catalogue_cut.proofs.marks.Pairs.crowd.Goals.{then-meets, else-meets}

pub returns-then-eq : goal.returns-then-eq
returns-then-eq c = λ bright J. judged-faint c.requires.0 J (number-at c.args.marks.now c.args.a ∙ is-faint _ c.eq.ensures c.if-eq.true)

pub loop-b-init : goal.loop-b-init
loop-b-init c =
    λ bright J. row-start c.requires.0 J (λ e. not-faint _ c.eq.ensures c.if-eq.false (sym (number-at c.args.marks.now c.args.a) ∙ e))

pub meets-requires-clause-within3 : goal.meets-requires-clause-within3
meets-requires-clause-within3 c = rw c.triple_at-star.ensures (triple-within c.args.self.listed.near c.args.a)

pub loop-b-preserved : goal.loop-b-preserved
unfolding pair_dot
loop-b-preserved c =
    let l = c.loop-b in
    let x = c.args in
    let stars = x.self.stars.now in
    let met : c.meets.result ≡ meets_by x.self.closeness (pair_dot stars x.a l.b) (get_or (numbers_of l.marks) l.b 0) =
    c.meets.ensures
    ∙ (λ i. meets_by x.self.closeness (dot_of (c.triple_at-star.ensures i) (triple_at stars l.b)) (sym (number-at l.marks l.b) i)) in
    let h : l.b < x.a = omega arith in
    let n : l.b < length (numbers_of l.marks) = omega (arith, numbers-length l.marks) in
    λ bright J.
    elim c.if-meets.branch [
      | then-meets w ↦
          row_as (ap number_of w.own-is) (ap numbers_of w.marks-is ∙ numbers-set l.marks l.b Crowded)
          (row-met c.requires.0 h (l.invariant bright J) n (sym met ∙ w.if-meets.true))
      | else-meets w ↦
          row_as (ap number_of w.own-is) (ap numbers_of w.marks-is)
          (row_apart c.requires.0 h (l.invariant bright J) (sym met ∙ w.if-meets.false))
    ]

pub returns : goal.returns
returns c =
    let l = c.loop-b in
    let x = c.args in
    let e : l.b ≡ x.a = omega arith in
    λ bright J.
    let R = subst (λ (n : ℕ). Row bright x.self.stars.now x.self.closeness x.a n (number_of l.own) (numbers_of l.marks)) e (l.invariant bright J) in
    rw (numbers-set l.marks x.a l.own) (row_done (omega (arith, numbers-length l.marks)) R)
