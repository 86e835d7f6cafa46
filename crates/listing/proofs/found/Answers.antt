-- The ranking is the part of the room that is lent.
use Rattle.std.proofs.Common.{◌≡◌, sym, ap, ◌∙◌, ℕ, ◌*◌, take, length-take-le, arith}
use Rattle.search.specs.declared.Identification.{Identification}
use Rattle.chain.specs.Chain.{names_of}
use Rattle.listing.specs.ListingLaws.{words-few, words-there, names-found}
use Rattle.listing.proofs.found.Goals as goal

product : {a b x y : ℕ} → a ≡ x → b ≡ y → a * b ≡ x * y
product p q = (λ i. p i * q i)

pub overflow_mul-words : goal.overflow_mul-words
overflow_mul-words c =
    record { fits = omega (arith, product c.requires.stars c.records.ensures, words-few _ _ _ c.requires.refuses c.requires.close) }

pub slice_bounds-names-end : goal.slice_bounds-names-end
slice_bounds-names-end c =
    sym (length-take-le _ _
    (omega (arith, product c.requires.stars c.records.ensures, words-there _ _ _ c.requires.refuses c.requires.close)))

pub returns : goal.returns
returns c =
    let i = c.args.input in
    ap (λ (x : Identification). x.stars)
    (c.names-names.ensures
    ∙ ap (λ (k : ℕ). names_of i.samples.now i.catalogue.now i.settings (take k c.args.ranking.now)) (product c.requires.stars c.records.ensures)
    ∙ names-found _ _ _ c.requires.refuses c.requires.close)
