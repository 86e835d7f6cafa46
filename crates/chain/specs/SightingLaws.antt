-- The directions that a sighting lends, whatever its outcome; and what the search is handed where the chain goes on. Assumes nothing.
use Rattle.std.specs.Prelude.{◌≡◌, refl, List, ℕ, ◌*◌, ◌≤◌, ℤ, length, take}
use Rattle.std.proofs.Common.{sym, ◌∙◌, subst, arith, length-take-le}
use Rattle.std.proofs.Math.Path.{ap}
use Rattle.refusal.specs.declared.Refusal.{Refusal}
use Rattle.frame_list.specs.declared.Report.{Report}
use Rattle.chain.specs.declared.Settings.{Settings}
use Rattle.chain.specs.declared.sight.Sighting.{Sighting}
use Rattle.chain.specs.Chain.{sights_of}
use Rattle.chain.specs.Sighting.{padded_sights, sighting_of}
use Rattle.chain.specs.ChainLaws.{sights-array, sights-front}
use Rattle.chain.specs.ReadyLaws.{listing-sighted}
use Rattle.std.specs.Prelude.{Result}

-- the part of the array that is lent: three numbers for each listed star
pub record Lent (report : Report) (directions : List ℤ) (bytes : List ℕ) (s : Settings) : Type 0 where
  pub few : report.count ≤ 8
  pub within : 3 * report.count ≤ length directions
  pub part : 3 * report.count ≡ length (take (3 * report.count) directions)
  pub front : take (3 * report.count) directions ≡ sights_of report bytes s

pub padded-lent : (report : Report) (directions : List ℤ) (bytes : List ℕ) (s : Settings) → report.count ≤ 8 → length report.stars ≡ 8
    → directions ≡ padded_sights report s → Lent report directions bytes s
unfolding sights_of
padded-lent report directions bytes s few size e =
    let n = ap length e ∙ sights-array report bytes s few size in
    record {
      few = few;
      within = omega (arith, n, few);
      part = sym (length-take-le _ _ (omega (arith, n, few)));
      front = ap (take (3 * report.count)) e ∙ sights-front report bytes s few size;
    }

pub sighting-lent : (samples : List ℕ) (stars : Result Unit Refusal) (s : Settings) (words : ℕ) (bytes : List ℕ) (r : Sighting) → r ≡ sighting_of samples stars s words
    → Lent r.report r.directions bytes s
sighting-lent samples stars s words bytes r e =
    let v = listing-sighted samples s.width s.height s.threshold in
    subst (λ (x : Sighting). Lent x.report x.directions bytes s) (sym e) (padded-lent _ _ bytes s v.few v.size refl)

-- ---- a call of the chain
