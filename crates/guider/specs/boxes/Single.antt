-- The single star in a guide's box, among the first n of a list. Assumes nothing.
use Rattle.std.specs.Prelude.{Bool, ◌≡◌, ◌≢◌, ℕ, Option, MatchOption}
use Rattle.lists.specs.First.{first}
use Rattle.lists.specs.Number.{number}
use Rattle.frame_centroid.specs.declared.Centroid.{Centroid}
use Rattle.frame_list.specs.declared.Report.{Report}
use Rattle.guider_rule.specs.declared.Guide.{Guide}
use Rattle.guider_rule.specs.Guider.{star_at, in_box}

-- listed star k lies in the guide's box
abbrev pub holds : ℕ → Guide → Report → ℕ → Bool
holds half guide r k = in_box half guide (star_at r k)

-- exactly one lies in the box, and it is this star
pub record Alone (half : ℕ) (guide : Guide) (r : Report) (n : ℕ) (star : Centroid) : Type 0 where
  pub one : number n (holds half guide r) ≡ 1
  pub this : star ≡ star_at r (first (holds half guide r) n)

abbrev pub IsSingle : ℕ → Guide → Report → ℕ → Option Centroid → Type 0
IsSingle half guide r n single = MatchOption single (number n (holds half guide r) ≢ 1) (Alone half guide r n)
