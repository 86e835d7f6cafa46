-- Where none of 1 to 12 and 19 applies, the steps behind the frame's list have what they ask for; and no other number is given before them. Assumes nothing.
use Rattle.std.specs.Prelude.{Bool, true, not, ◌&&◌, ◌||◌, ◌≡◌, List, ℕ, ◌≤◌, leb, eqb, length}
use Rattle.std.proofs.Math.Bool.{and-eq-true_iff}
use Rattle.std.proofs.Common.{sym, ap, ◌∙◌, leb-true}
use Rattle.lists.specs.Contradiction.{contradiction}
use Rattle.frame_list.specs.declared.Report.{Report}
use Rattle.frame_list.specs.Calls.{listing_of}
use Rattle.frame_list.specs.ListingLaws.{listing-listed}
use Rattle.chain.specs.Sight.{AllInFrame}

-- ---- a report's stars

-- what any call on a frame reports, refused ones too: by the frame's own law
pub record Sighted (report : Report) : Type 0 where
  pub few : report.count ≤ 8
  pub placed : AllInFrame report.stars
  pub size : length report.stars ≡ 8

pub listing-sighted : (samples : List ℕ) (width height threshold : ℕ) → Sighted (listing_of samples width height threshold).report
listing-sighted samples width height threshold =
    let l = listing-listed samples width height threshold in
    record { few = l.few; placed = record { at = λ k. record { across = l.across k; down = l.down k } }; size = l.size }

-- ---- the demand

-- ---- the call

-- the numbers that are given before anything is written: of the table, not 8 or 11, which cannot arise, and not 13 or 14, which come behind the ranking
pub record Early (n : ℕ) : Type 0 where
  pub some : 1 ≤ n
  pub last : n ≤ 23
  pub no-8 : n ≡ 8 → ⊥
  pub no-11 : n ≡ 11 → ⊥
  pub no-13 : n ≡ 13 → ⊥
  pub no-14 : n ≡ 14 → ⊥

unfoldable pub is_early : ℕ → Bool
is_early n = leb 1 n && leb n 23 && not (eqb n 8 || eqb n 11 || eqb n 13 || eqb n 14)

pub early : (n : ℕ) → is_early n ≡ true → Early n
unfolding is_early
early n e =
    let a = ((and-eq-true_iff (leb 1 n && leb n 23) (not (eqb n 8 || eqb n 11 || eqb n 13 || eqb n 14))).0 e).0 in
    let b = (and-eq-true_iff (leb 1 n) (leb n 23)).0 a in
    record {
      some = leb-true 1 n b.0;
      last = leb-true n 23 b.1;
      no-8 = λ k. contradiction (sym (ap is_early k) ∙ e);
      no-11 = λ k. contradiction (sym (ap is_early k) ∙ e);
      no-13 = λ k. contradiction (sym (ap is_early k) ∙ e);
      no-14 = λ k. contradiction (sym (ap is_early k) ∙ e);
    }
