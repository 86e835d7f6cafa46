-- Which pairs of directions the index votes, in signed numbers: those whose dot product less the tolerance does not lie below the floor. Assumes nothing.
use Rattle.std.specs.Prelude.{Bool, true, false, ◌≡◌, refl, ℕ, zero, suc, ◌+◌, ◌-◌, ◌≤◌, ltb, leb, ℤ, pos, negsuc, ◌-ℤ◌}
use Rattle.std.proofs.Common.{sym, ap, ◌∙◌, arith, ltb-true, ltb-false, lit<, SFits}
use Rattle.std.proofs.Math.IntN.{sub_ℕ}
use Rattle.std.specs.Int.Signed.{le_z}
use Rattle.std.specs.Int.{w64}
use Rattle.numbers.specs.Within.{Within, within-fits, within-sub}
use Rattle.catalogue_index.specs.Raised.{raised}
use Rattle.catalogue_index.specs.RaisedLaws.{raised-order}
use Rattle.ranking_by_index.specs.votes.Pair.{by_index}

raised-sub : (a b : ℕ) → b ≤ 9223372036854775807 → raised (sub_ℕ a b) ≡ 9223372036854775808 + a - b
unfolding raised
raised-sub a b h = go (ltb a b) refl
  where
    go : (t : Bool) → ltb a b ≡ t → raised (sub_ℕ a b) ≡ 9223372036854775808 + a - b
    go true e = rw e (omega (arith, ltb-true a b e))
    go false e = rw e (omega (arith, ltb-false a b e))

-- a dot product less the tolerance, moved up
raised-less : (q : ℤ) (t : ℕ) → Within 3000000000000000000 q → t ≤ 10000000000000000 → raised (q -ℤ pos t) ≡ raised q - t
unfolding raised
raised-less (pos a) zero h l = omega arith
raised-less (pos a) (suc t) h l = raised-sub a (suc t) (omega arith)
raised-less (negsuc a) zero h l = omega (arith, raised-sub 0 (suc a) (omega (arith, h.within)), h.within)
raised-less (negsuc a) (suc t) h l = omega (arith, h.within)

pub border : (floor q : ℤ) (t : ℕ) → SFits w64 floor → Within 3000000000000000000 q → t ≤ 10000000000000000
    → by_index (raised floor) t q ≡ le_z floor (q -ℤ pos t)
border floor q t f h l =
    ap (leb (raised floor)) (sym (raised-less q t h l))
    ∙ sym (raised-order floor (q -ℤ pos t) f (within-fits w64 (within-sub h within) (lit< tt)))
  where
    within : Within 10000000000000000 (pos t)
    within = record { within = l }
