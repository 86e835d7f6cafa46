-- Every case of the bench set holds. A definition that computes is run; a root is a known number and not counted up to; and the pixels of a whole
-- frame are gone through by one test. Assumes nothing.
use mathlib.Core.Bool.{Bool, true, false, ◌&&◌, ◌||◌}
use mathlib.Core.List.{List}
use mathlib.Core.Path.{◌≡◌, refl, ap, ◌∙◌}
use Prim.Native.Nat.{ℕ, ◌+◌, ◌*◌, ◌≤◌, ◌<◌}
use borrow.Author.Tests.{eqb-true, lt-leb}
use lib.Dec.{lit≤, lit<, leb, eqb}
use lib.IntN.{ℤ, pos, ◌-ℤ◌}
use lib.ListN.{drop}
use Rattle.numbers.specs.Root.{Root}
use Rattle.vectors.specs.declared.Vec3.{Vec3}
use Rattle.vectors.specs.Triples.{triple_at, pair_dot}
use Rattle.vectors.specs.Agree.{agreeing}
use Rattle.refusal.specs.Table.{first_applying}
use Rattle.refusal.specs.Laws.{Silent}
use Rattle.lists.specs.First.{first, first_from}
use Rattle.frame_window.specs.Window.{some_below, earlier, beats, beaten}
use Rattle.frame_window.specs.neighbours.Neighbours.{lone}
use Rattle.frame_centroid.specs.Sums.{sum_below, sumℤ-below}
use Rattle.frame_centroid.specs.Border.{border_sum}
use Rattle.frame_centroid.specs.Centroid.{brightness, shift_x, shift_y, centroid_of}
use Rattle.frame_verdict.specs.Verdict.{edge, peak_kind, kind_of, kind_number}
use Rattle.frame_verdict.specs.declared.Kind.{Kind}
use Rattle.frame_verdict.specs.declared.Kind.TheVariants.{Dark, Beaten, Edge, Lone, Measured}
use Rattle.frame_list.specs.input.Input.{first_over}
use Rattle.frame_list.specs.Calls.{judgement_of}
use Rattle.frame_list.specs.CallsLaws.{judge-accepted}
use Rattle.camera_direction.specs.List.{all_within, list_ok}
use Rattle.camera_direction.specs.Settings.{between, position_ok}
use Rattle.camera_direction.specs.Position.{square, scaled_of, toward_of}
use Rattle.camera_direction.specs.PositionLaws.{norm-by}
use Rattle.camera_direction.proofs.DirectionLaws.{in-range}
use Rattle.camera_lens.specs.Stated.{settings_lens}
use Rattle.camera_direction.specs.camera.Camera.{direction_of}
use Rattle.camera_direction.proofs.camera.Laws.{settings-direction}
use Rattle.words.specs.Number.{number_at}
use Rattle.catalogue.specs.Format.{signed_of, identity_of, component_of, magnitude_of}
use Rattle.catalogue.specs.Rule.{direction_ok, magnitude_ok, identity_rises, record_ok}
use Rattle.catalogue.specs.Check as catalogue
use Rattle.catalogue.specs.Stars.{stars_to, stars_of}
use Rattle.lists.specs.Tests.{all, some}
use Rattle.search_theory.specs.Problem.{assigned}
use Rattle.vectors.specs.handedness.Handedness.{triple_of, mirrored}
use Rattle.search_theory.specs.Fit.{pairs, threes, pairs_and_threes}
use Rattle.search_theory.specs.Run.{row, run, first_fit}
use Rattle.search_theory.proofs.Tests.{never, and_left, and_right, or-none, all_true}
use Rattle.search.specs.Once.{clash, lent_of}
use Rattle.search_fit.specs.Fit.{agreement, mirroring, standing}
use Rattle.search.specs.Refusals as refusals
use Rattle.search.specs.declared.Identification.{Identification}
use Rattle.search.specs.Identified.{pad_to, identification_of}
use Rattle.search.proofs.Answers.{identified}
use Rattle.attitude.proofs.Bench.{case-I, case-J, case-K}
use Rattle.attitude_gimbal.specs.Bench as gimbal
use Rattle.bench_set.specs.Frames.{side, evenly}
use Rattle.bench_set.specs.Case.{search, judged_as, sent_of, Holds, AllHold}
use Rattle.bench_set.specs.Table.{minus, vec, found, table}

-- ---- F: every pixel but the first

abbrev even : List ℕ
even = evenly 4095

abbrev first-or-beaten : ℕ → ℕ → Bool
first-or-beaten r c = (eqb r 0 && eqb c 0) || eqb (kind_number (kind_of even side side 4095 r c)) 1

-- the test of all 49
all-beaten : all side (λ r. all side (first-or-beaten r)) ≡ true
unfolding all kind_of peak_kind edge beaten beats earlier some_below
all-beaten = refl

beaten-kind : (kind : Kind) → eqb (kind_number kind) 1 ≡ true → kind ≡ Beaten
beaten-kind Dark e = never e
beaten-kind Beaten e = refl
beaten-kind Edge e = never e
beaten-kind Lone e = never e
beaten-kind (Measured c) e = never e

rest-beaten : (r c : ℕ) → r < side → c < side → ((r ≡ 0) × (c ≡ 0) → ⊥) → judgement_of even side side 4095 r c ≡ judged_as r c Beaten
unfolding Silent first_over first first_from
rest-beaten r c p q other =
    let t = all_true side (first-or-beaten r) (all_true side (λ r. all side (first-or-beaten r)) all-beaten r p) c q in
    let inside = or-none (leb side r) (leb side c) (lt-leb side r p) (lt-leb side c q) in
    judge-accepted even side side 4095 r c (refl, (refl, (refl, (refl, (inside, tt)))))
    ∙ ap (judged_as r c) (beaten-kind (kind_of even side side 4095 r c) (go (eqb r 0 && eqb c 0) refl t))
  where
    go : (b : Bool) → eqb r 0 && eqb c 0 ≡ b → {k : Bool} → b || k ≡ true → k ≡ true
    go true e t = absurd (other (eqb-true r 0 (and_left (eqb r 0) (eqb c 0) e), eqb-true c 0 (and_right (eqb r 0) (eqb c 0) e)))
    go false e t = t

-- ---- G and H: N by its square

module _ (cx cy : ℤ) (f : ℕ) (x y : ℤ) where
  abbrev by-norm : ℕ → Vec3
  by-norm n = vec (scaled_of (x -ℤ cx) n) (scaled_of (y -ℤ cy) n) (scaled_of (pos f) n)

  direction-by :
      {n : ℕ} → 16384 ≤ f → f ≤ 4194304 → position_ok cx cy ≡ true → position_ok x y ≡ true →
      Root (65536 * (square (x -ℤ cx) + square (y -ℤ cy) + square (pos f))) n → direction_of cx cy (settings_lens f) x y ≡ found (by-norm n)
  unfolding toward_of
  direction-by a b s p h =
      settings-direction cx cy f x y a b
      ∙ in-range cx cy (pos f) x y s p
      ∙ ap (λ (n : ℕ). found (by-norm n)) (norm-by (x -ℤ cx) (y -ℤ cy) (pos f) h)

n-G : Root (65536 * (square (pos 0) + square (pos 0) + square (pos 16384))) 4194304
n-G = record { below = lit≤ tt; above = lit< tt }

n-H : Root (65536 * (square (minus 12288) + square (pos 0) + square (pos 16384))) 5242880
n-H = record { below = lit≤ tt; above = lit< tt }

-- ---- L to S: the promise leaves one answer, the computed one

only :
    {directions : List ℤ} {bytes : List ℕ} {needed tolerance : ℕ} {words : List ℕ} {answer : Identification} →
    identification_of directions bytes needed tolerance words ≡ answer → Holds (search directions bytes needed tolerance words answer)
only {directions} {bytes} {needed} {tolerance} {words} e = (e, λ r h. identified directions bytes needed tolerance words r h ∙ e)

-- ---- the statement, by the kinds of question

-- A to F
verdicts-hold : AllHold (drop 8 table) → AllHold table
unfolding table first_applying judgement_of first_over first first_from kind_of peak_kind edge lone beaten beats earlier some_below
    centroid_of brightness shift_x shift_y sum_below sumℤ-below border_sum
verdicts-hold below = (refl, (refl, (refl, (refl, (refl, (refl, (refl, (rest-beaten, below))))))))

-- G and H
directions-hold : AllHold (drop 10 table) → AllHold (drop 8 table)
unfolding table position_ok between
directions-hold below = (
  direction-by (pos 12288) (pos 0) 16384 (pos 12288) (pos 0) (lit≤ tt) (lit≤ tt) refl refl n-G,
  (direction-by (pos 12288) (pos 0) 16384 (pos 0) (pos 0) (lit≤ tt) (lit≤ tt) refl refl n-H, below),
)

-- I, J and K, and the first two as direction cosines
attitudes-hold : AllHold (drop 15 table) → AllHold (drop 10 table)
unfolding table
attitudes-hold below = (case-I, (ap sent_of case-I ∙ gimbal.case-I, (case-J, (ap sent_of case-J ∙ gimbal.case-J, (case-K, below)))))

-- L to S
searches-hold : AllHold (drop 23 table) → AllHold (drop 15 table)
unfolding table first_applying identification_of pad_to refusals.refusals_of refusals.rows_beside refusals.demand_ok lent_of clash first first_from some all
    list_ok all_within
    catalogue.refusals_of catalogue.length_ok catalogue.broken_of record_ok direction_ok magnitude_ok identity_rises component_of magnitude_of identity_of signed_of
    number_at stars_of stars_to
    first_fit run row assigned standing pairs_and_threes pairs threes agreement agreeing pair_dot mirroring mirrored triple_of triple_at
searches-hold below = (only refl, (only refl, (only refl, (only refl, (only refl, (only refl, (only refl, (only refl, below))))))))

-- T to W
lone-hold : AllHold (drop 23 table)
unfolding table first_applying judgement_of first_over first first_from kind_of peak_kind edge lone beaten beats earlier some_below
    centroid_of brightness shift_x shift_y sum_below sumℤ-below border_sum
lone-hold = (refl, (refl, (refl, (refl, tt))))

pub bench : AllHold table
bench = verdicts-hold (directions-hold (attitudes-hold (searches-hold lone-hold)))
