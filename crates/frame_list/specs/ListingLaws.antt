-- What a frame's call promises of its list, on every input: all that a layer above has to know of it. Assumes nothing.
use Rattle.std.specs.Prelude.{◌≡◌, List, ◌++◌, ℕ, zero, suc, ◌*◌, ◌≤◌, ◌<◌, length, get_or}
use Rattle.std.proofs.Math.Path.{refl}
use Rattle.std.proofs.Common.{sym, subst, zero-le}
use Rattle.std.proofs.Math.Decide.{dec_lt}
use native.Mathlib.Omega.{arith}
use Rattle.std.proofs.Math.ListN.{replicate, length-take, length-append, length-replicate, get_or-eq_default}
use Rattle.refusal.specs.Table.{first_applying, answered}
use Rattle.frame_centroid.specs.declared.Centroid.{Centroid}
use Rattle.frame_list.specs.input.Input.{frame_rows}
use Rattle.frame_list.specs.input.InputLaws.{accepted-valid}
use Rattle.frame_list.specs.declared.Report.{Report}
use Rattle.frame_list.specs.Stars.{nought, nothing, measured_of, report_of}
use Rattle.frame_list.specs.Calls.{listing_of}
use Rattle.frame_list.specs.CallsLaws.{star-range, zeros-behind}
use Rattle.std.specs.Prelude.{Result, Ok, Err}
use Rattle.refusal.specs.declared.Refusal.{Refusal}

-- at most eight stars in an array of eight, each where a position may be and with some brightness, and zeros behind them
pub record Listed (r : Report) : Type 0 where
  pub few : r.count ≤ 8
  pub size : length r.stars ≡ 8
  pub across : (k : ℕ) → (get_or r.stars k nought).x ≤ 261888
  pub down : (k : ℕ) → (get_or r.stars k nought).y ≤ 261888
  pub bright : (k : ℕ) → k < r.count → 1 ≤ (get_or r.stars k nought).brightness
  pub behind : (k : ℕ) → r.count ≤ k → get_or r.stars k nought ≡ nought

-- a position behind the list is that of zeros
abbrev Placed : Centroid → Type 0
Placed c = (c.x ≤ 261888) × (c.y ≤ 261888)

noughts : (n k : ℕ) → get_or (replicate n nought) k nought ≡ nought
noughts zero k = refl
noughts (suc n) zero = refl
noughts (suc n) (suc k) = noughts n k

nothing-listed : Listed nothing
nothing-listed =
    record {
      few = zero-le;
      size = refl;
      across = λ k. rw (noughts 8 k) zero-le;
      down = λ k. rw (noughts 8 k) zero-le;
      bright = λ k h. absurd (omega arith);
      behind = λ k h. noughts 8 k;
    }

module _ (samples : List ℕ) (width height threshold : ℕ) (w : width ≤ 1024) (h : height ≤ 1024) where
  abbrev report : Report
  report = report_of samples width height threshold (height * width)

  report-size : length report.stars ≡ 8
  unfolding report_of
  report-size =
      let stars = measured_of samples width height threshold (height * width) in
      omega (arith, length-take 8 (stars ++ replicate 8 nought), length-append stars (replicate 8 nought), length-replicate 8 nought)

  report-few : report.count ≤ 8
  unfolding report_of
  report-few = omega arith

  behind-report : (k : ℕ) → report.count ≤ k → get_or report.stars k nought ≡ nought
  behind-report k l = by (dec_lt k 8)
    where
      by : Dec (k < 8) → get_or report.stars k nought ≡ nought
      by (yes d) = zeros-behind samples width height threshold (height * width) k l d
      by (no d) = get_or-eq_default report.stars nought (omega (arith, report-size))

  placed : (k : ℕ) → Dec (k < report.count) → Placed (get_or report.stars k nought)
  placed k (yes l) = let s = star-range samples width height threshold (height * width) w h k l in (s.0, s.1)
  placed k (no l) = subst Placed (sym (behind-report k (omega arith))) (zero-le, zero-le)

  report-listed : Listed report
  report-listed =
      record {
        few = report-few;
        size = report-size;
        across = λ k. (placed k (dec_lt _ _)).0;
        down = λ k. (placed k (dec_lt _ _)).1;
        bright = λ k l. (star-range samples width height threshold (height * width) w h k l).2;
        behind = behind-report;
      }

module _ (samples : List ℕ) (width height threshold : ℕ) where
  -- whatever a frame's call reports keeps it, where the call is refused too
  pub listing-listed : Listed (listing_of samples width height threshold).report
  unfolding listing_of
  listing-listed = by (first_applying (frame_rows samples width height threshold)) refl
    where
      by : (o : Result Unit Refusal) → first_applying (frame_rows samples width height threshold) ≡ o
          → Listed (answered (λ r. nothing) (report_of samples width height threshold (height * width)) o)
      by (Err r) e = nothing-listed
      by (Ok _) e =
          let v = accepted-valid samples width height threshold e in
          report-listed samples width height threshold v.wide.1 v.high.1

  -- and the call is refused as its rows say
  pub listing-outcome : (listing_of samples width height threshold).outcome ≡ first_applying (frame_rows samples width height threshold)
  unfolding listing_of
  listing-outcome = refl
