-- A faint star meets nobody; of another the dot product decides. Assumes nothing.
use Rattle.std.specs.Prelude.{◌≡◌, ℕ, false, ℤ}
use Rattle.std.specs.Int.{w64}
use Rattle.std.specs.Int.Signed.{le_z}
use Rattle.std.proofs.Common.{sym, ap, ◌∙◌, eq-eqb, ne_eqb}
use Rattle.numbers.specs.Num.{held, arg, back}
use Rattle.vectors.specs.Vectors.{dot_of}
use Rattle.vectors.specs.Laws.{triple-within}
use Rattle.catalogue_cut.specs.marks.Marks.{meets_by}
use Rattle.catalogue_cut.proofs.marks.Numbers.{unequal-bright, unequal-faint}
use Rattle.catalogue_cut.proofs.marks.Pairs.meets.Goals as goal

meets-faint : (closeness product : ℤ) (mark : ℕ) → mark ≡ 2 → meets_by closeness product mark ≡ false
unfolding meets_by
meets-faint closeness product mark e = rw (eq-eqb mark 2 e)

meets-bright : (closeness product : ℤ) (mark : ℕ) → (mark ≡ 2 → ⊥) → meets_by closeness product mark ≡ le_z closeness product
unfolding meets_by
meets-bright closeness product mark d = rw (ne_eqb mark 2 d)

pub dot-requires-clause-within3_2 : goal.dot-requires-clause-within3_2
dot-requires-clause-within3_2 c = rw c.triple_at.ensures (triple-within c.args.self.listed.near c.args.b)

pub returns-then-ne : goal.returns-then-ne
returns-then-ne c =
    let x = c.args in
    let p = back (held {w = w64} x.self.closeness c.type_inv.self.1.0.1) in
    let q = back (arg {w = w64} c.dot.ensures.within tt) ∙ c.dot.ensures.value ∙ ap (dot_of x.star) c.triple_at.ensures in
    (λ i. le_z (p i) (q i)) ∙ sym (meets-bright x.self.closeness _ _ (unequal-bright x.mark c.ne.ensures c.if-ne.true))

pub returns-else-ne : goal.returns-else-ne
returns-else-ne c = c.if-ne.false ∙ sym (meets-faint c.args.self.closeness _ _ (unequal-faint c.args.mark c.ne.ensures c.if-ne.false))
