use Rattle.std.proofs.Common.{◌≡◌, refl, ◌∙◌, ap, List, ℕ, ◌+◌, add-one, arith}
use Rattle.std.specs.Prelude.{Option, None, Some, is_some, get_or}
use Rattle.frame_centroid.specs.declared.Centroid.{Centroid}
use Rattle.frame_list.specs.Stars.{nought}
use Rattle.text.specs.Written.{Wrote}
use Rattle.text.specs.WrittenLaws.{wrote_none, wrote_then}
use Rattle.listing.specs.lines.Given.{words_in, word_in, word_of}
use Rattle.listing.specs.lines.Lines.{shown, shown_in, star_line, star_lines}
use Rattle.listing.proofs.lines.star_lines.Goals as goal

-- what is shown of a star's own word
own : (words : Option (List ℕ)) (catalogue : List ℕ) (k : ℕ) → shown (is_some (word_of words k)) catalogue (word_in (word_of words k))
    ≡ shown_in (is_some words) catalogue (words_in words) k
own None catalogue k = refl
own (Some words) catalogue k = refl

-- one line more
further : {a b c : List ℕ} {at to end : ℕ} (stars : List Centroid) (name : ℕ → List ℕ) (k : ℕ) {shown : List ℕ} → shown ≡ name k
    → Wrote a at (star_lines stars name k) b to → Wrote b to (star_line k (get_or stars k nought) shown) c end → Wrote a at (star_lines stars name (k + 1)) c end
unfolding star_lines
further stars name k e p q = rw (add-one k) (wrote_then p (rw e at q))

pub loop-k-init : goal.loop-k-init
unfolding star_lines
loop-k-init c = (wrote_none _ _, omega arith)

pub loop-k-preserved : goal.loop-k-preserved
loop-k-preserved c =
    let given = ap (λ (w : Option ℕ). shown (is_some w) c.args.catalogue.now (word_in w)) c.word_of.ensures in
    (further c.args.stars _ c.loop-k.k (given ∙ own c.args.words c.args.catalogue.now c.loop-k.k) c.loop-k.invariant.0 c.star-next.ensures.wrote, omega arith)
