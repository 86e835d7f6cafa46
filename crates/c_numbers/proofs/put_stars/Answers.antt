-- One star more.
use Rattle.std.proofs.Common.{◌≡◌, refl, sym, ap, ◌∙◌, List, ℕ, ◌+◌, ◌*◌, ℤ, get_or, add-one}
use Rattle.frame_centroid.specs.declared.Centroid.{Centroid}
use Rattle.frame_list.specs.Stars.{nought}
use Rattle.c_numbers.specs.Stars.{with_star, with_stars}
use Rattle.c_numbers.proofs.put_stars.Goals as goal

stars-next : (stars : List Centroid) (k : ℕ) (xs : List ℤ) → with_stars stars (k + 1) xs ≡ with_star (with_stars stars k xs) (6 + 3 * k) (get_or stars k nought)
unfolding with_stars
stars-next stars k xs = rw add-one refl

pub loop-k-init : goal.loop-k-init
unfolding with_stars
loop-k-init c = refl

pub loop-k-preserved : goal.loop-k-preserved
loop-k-preserved c =
    let i : c.loop-k.flat ≡ with_stars c.args.stars c.loop-k.k c.args.flat.now = c.loop-k.invariant in
    c.put_star.ensures ∙ ap (λ (xs : List ℤ). with_star xs (6 + 3 * c.loop-k.k) (get_or c.args.stars c.loop-k.k nought)) i
    ∙ sym (stars-next c.args.stars c.loop-k.k c.args.flat.now)
