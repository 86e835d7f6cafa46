-- Request T-14: what the guider's two calls give. Assumes nothing.
use Rattle.std.specs.Prelude.{cond, List, [], ◌∷◌, ℕ, get_or, replicate}
use Rattle.refusal.specs.Table.{refusal_of}
use Rattle.refusal.specs.Numbers as refusals
use Rattle.frame_list.specs.declared.Report.{Report}
use Rattle.frame_list.specs.declared.Listing.{Listing}
use Rattle.guider_rule.specs.declared.Guide.{Guide}
use Rattle.guider_rule.specs.declared.Sighting.{Sighting}
use Rattle.guider_rule.specs.declared.Guider.{Guider}
use Rattle.guider_rule.specs.declared.Guided.{Guided}
use Rattle.guider_rule.specs.Guider.{no_guide, guider_after}
use Rattle.guider_rule.specs.Rule.{guider_ok, list_ok}
use Rattle.std.specs.Prelude.{Result, Ok, Err}
use Rattle.refusal.specs.declared.Refusal.{Refusal}

-- refusal 22, with the guider that is handed back
abbrev pub refused_with : Guider → Guided
refused_with g = record { outcome = refusal_of refusals.guider 0; guider = g }

abbrev pub accepted : Guider → Guided
accepted g = record { outcome = Ok tt; guider = g }

-- ---- start

-- a guider without guides
abbrev pub nobody : Guider
nobody = record { half = 0; count = 0; guides = replicate 4 no_guide }

abbrev pub no_sighting : Sighting
no_sighting = record { identity = 0; x = 0; y = 0 }

abbrev pub sighting_at : List Sighting → ℕ → Sighting
sighting_at stars i = get_or stars i no_sighting

-- the guide of a star handed in: it has missed nothing
abbrev pub fresh_guide : Sighting → Guide
fresh_guide star = record { identity = star.identity; x = star.x; y = star.y; misses = 0 }

abbrev pub fresh_of : ℕ → List Sighting → ℕ → Guider
fresh_of half stars count =
    record {
      half = half;
      count = count;
      guides = fresh_guide (sighting_at stars 0) ∷ fresh_guide (sighting_at stars 1) ∷ fresh_guide (sighting_at stars 2) ∷ fresh_guide (sighting_at stars 3) ∷ [];
    }

-- the rule of a guider is all that a start asks
unfoldable pub started_of : ℕ → List Sighting → ℕ → Guided
started_of half stars count = cond (guider_ok (fresh_of half stars count)) (accepted (fresh_of half stars count)) (refused_with nobody)

-- ---- a frame

abbrev pub followed_of : Guider → Report → Guided
followed_of g r = cond (list_ok r) (accepted (guider_after g r)) (refused_with g)

-- a refused frame counts as no frame
abbrev pub seen_by : Guider → Report → Result Unit Refusal → Guided
seen_by g r (Err _) = accepted g
seen_by g r (Ok _) = followed_of g r

unfoldable pub guided_of : Guider → Listing → Guided
guided_of g l = cond (guider_ok g) (seen_by g l.report l.outcome) (refused_with g)
