-- A word out of range, or one that the table has, is the first that clashes; otherwise none does.
use Rattle.std.proofs.Common.{◌≡◌, false, List, get_or, Bool, ℕ, sym, ap, ◌∙◌, below_more, arith}
use Rattle.lists.proofs.First.{first_of}
use Rattle.search.specs.Once.{word}
use Rattle.search.proofs.Once.{clash-range, clash-repeat, clash-free}
use Rattle.search.proofs.Seen as table
use Rattle.search.proofs.lent.first_clash.Goals as goal
use Rattle.search.proofs.lent.first_clash.Goals.{then-stars-star-via-then-stars-star, then-stars-star-via-else-stars-star+then-seen-star}

-- the table at the word that was read
at-word : (seen : List Bool) {v w : ℕ} {b : Bool} → v ≡ w → get_or seen v false ≡ b → get_or seen w false ≡ b
at-word seen e h = ap (λ (n : ℕ). get_or seen n false) (sym e) ∙ h

-- a row by itself begins at its first word
first-word : (row : List ℕ) (k : ℕ) → get_or row k 0 ≡ word row 0 k
first-word row k = ap (λ (n : ℕ). get_or row n 0) (omega arith)

pub loop-k-init : goal.loop-k-init
loop-k-init c = record { free = λ l h. absurd (omega arith); seen = table.blank _ _ 512 (omega arith) }

pub returns-then-stars-star : goal.returns-then-stars-star
returns-then-stars-star c =
    let l = c.loop-k in
    let e = c.from-star.ensures ∙ first-word c.args.row.now l.k in (
      first_of _ _ (record {
        most = omega arith;
        none = l.invariant.free;
        taken = λ _. elim c.then-stars-star.branch [
          | then-stars-star-via-then-stars-star w ↦ clash-range _ _ _ _ (omega arith)
          | then-stars-star-via-else-stars-star+then-seen-star w ↦
              (let h = table.hit _ _ _ _ l.invariant.seen (at-word l.seen e w.if-seen-star.true) in
              clash-repeat _ _ _ _ h.0 h.1 h.2)
        ];
      }),
      omega arith,
    )

pub loop-k-preserved : goal.loop-k-preserved
loop-k-preserved c =
    let l = c.loop-k in
    let e = c.from-star.ensures ∙ first-word c.args.row.now l.k in record {
      free = below_more _ _ l.invariant.free (clash-free _ _ _ _ (omega arith) (table.miss _ _ _ _ l.invariant.seen (at-word l.seen e c.if-seen-star.false)));
      seen = table.more _ _ _ _ l.invariant.seen _ e (omega arith);
    }

pub returns : goal.returns
returns c = sym (first_of _ _ (record {
  most = omega arith;
  none = λ k l. c.loop-k.invariant.free k (omega arith);
  taken = λ l. absurd (omega arith);
}))
