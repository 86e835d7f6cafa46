-- What the calls give, in words: which refusal, which stars, in which order, and how large their numbers are. Assumes nothing.
use Rattle.std.specs.Prelude.{Bool, true, false, ◌≡◌, List, [], ◌∷◌, ◌++◌, map, ℕ, zero, suc, ◌+◌, ◌-◌, ◌*◌, ◌/◌, ◌%◌, ◌≤◌, ◌<◌}
use Rattle.std.proofs.Math.Path.{refl, ap}
use Rattle.std.proofs.Common.{◌∙◌, not-suc-le-zero, eq-eqb}
use Rattle.std.proofs.Math.Decide.{dec_lt}
use native.Mathlib.Omega.{arith}
use Rattle.std.proofs.Math.ListN.{length, get_or, replicate, length-map, get_or-append, get_or-replicate}
use Rattle.std.proofs.Math.Seq.{get_or-take, get_or-append-add}
use Rattle.lists.specs.Contradiction.{contradiction}
use Rattle.lists.specs.Number.{one, number}
use Rattle.refusal.specs.Table.{refusal_of, first_applying, answered}
use Rattle.refusal.specs.Laws.{Silent, Given}
use Rattle.refusal.proofs.Laws.{given-refused, refused-given, silent-accepted}
use Rattle.refusal.specs.AnswerLaws.{answer_by}
use Rattle.refusal.proofs.AnswerLaws.{answered-by}
use Rattle.lists.specs.Order.{pick, put, ordered}
use Rattle.lists.specs.Laws.{count, InOrder}
use Rattle.lists.proofs.Laws.{put-length, each-once, none-beyond, in_order}
use Rattle.frame_centroid.specs.declared.Centroid.{Centroid}
use Rattle.frame_verdict.specs.Verdict.{verdict_of}
use Rattle.frame_verdict.proofs.Laws.{measured-range}
use Rattle.frame_verdict.specs.declared.Kind.{Kind}
use Rattle.frame_verdict.specs.declared.Kind.TheVariants.{Dark, Beaten, Edge, Lone, Measured}
use Rattle.frame_list.specs.input.Input.{frame_rows, pixel_rows}
use Rattle.frame_list.specs.Stars.{bright, nought, is_measured, number_of, kind_at, star_at, measured_pixels, measured_of, report_of, nothing}
use Rattle.frame_list.specs.StarsLaws.{star-is}
use Rattle.frame_list.specs.Calls.{judgement_of, listing_of, judgement_answer, answer_for}
use Rattle.std.specs.Prelude.{Result, Ok, Err}
use Rattle.refusal.specs.declared.Refusal.{Refusal}

-- ---- which refusal: the one whose row applies while none before it does (`Given`), and none exactly when no row applies (`Silent`)

module _ (samples : List ℕ) (width height threshold : ℕ) where
  pub list-refused : (n p : ℕ) → Given (frame_rows samples width height threshold) n p
      → ((listing_of samples width height threshold).outcome ≡ refusal_of n p) × ((listing_of samples width height threshold).report ≡ nothing)
  unfolding listing_of
  list-refused n p g =
      let e = given-refused (frame_rows samples width height threshold) n p g in
      (e, rw e)

  pub list-refused-only : (n p : ℕ) → (listing_of samples width height threshold).outcome ≡ refusal_of n p → Given (frame_rows samples width height threshold) n p
  unfolding listing_of
  list-refused-only n p e = refused-given (frame_rows samples width height threshold) n p e

  pub list-accepted : Silent (frame_rows samples width height threshold)
      → ((listing_of samples width height threshold).outcome ≡ Ok tt)
      × ((listing_of samples width height threshold).report ≡ report_of samples width height threshold (height * width))
  unfolding listing_of
  list-accepted s =
      let e = silent-accepted (frame_rows samples width height threshold) s in
      (e, rw e)

module _ (samples : List ℕ) (width height threshold row column : ℕ) where
  pub judge-refused : (n p : ℕ) → Given (pixel_rows samples width height threshold row column) n p
      → judgement_of samples width height threshold row column ≡ Err (record { number = n; place = p })
  unfolding judgement_of
  judge-refused n p g = rw (given-refused (pixel_rows samples width height threshold row column) n p g)

  pub judge-refused-only : (n p : ℕ) → judgement_of samples width height threshold row column ≡ Err (record { number = n; place = p })
      → Given (pixel_rows samples width height threshold row column) n p
  unfolding judgement_of
  judge-refused-only n p e = refused-given (pixel_rows samples width height threshold row column) n p
      (go (first_applying (pixel_rows samples width height threshold row column)) e)
    where
      go : (o : Result Unit Refusal) → answered Err (Ok (verdict_of samples width height threshold row column)) o ≡ Err (record { number = n; place = p })
          → o ≡ refusal_of n p
      go (Ok _) e = contradiction (cc)
      go (Err r) e = cc

  pub judge-accepted : Silent (pixel_rows samples width height threshold row column)
      → judgement_of samples width height threshold row column ≡ Ok (verdict_of samples width height threshold row column)
  unfolding judgement_of
  judge-accepted s = rw (silent-accepted (pixel_rows samples width height threshold row column) s)

  -- in document 01's terms
  pub answers : judgement_answer (judgement_of samples width height threshold row column) ≡ answer_for samples width height threshold row column
  unfolding judgement_of answer_by
  answers = answered-by Err (Ok (verdict_of samples width height threshold row column)) judgement_answer _ (λ r. refl) refl
      (pixel_rows samples width height threshold row column)

-- ---- which pixels the list has, and in which order

module _ (samples : List ℕ) (width height threshold m : ℕ) where
  -- each pixel once or not at all: once where it is measured
  pub listed-once : (k : ℕ) → k < m → count k (measured_pixels samples width height threshold m) ≡ one (is_measured (kind_at samples width height threshold k))
  unfolding measured_pixels
  listed-once k h = each-once (λ p. is_measured (kind_at samples width height threshold p)) (λ p. bright (star_at samples width p)) m k h

  pub listed-none : (k : ℕ) → m ≤ k → count k (measured_pixels samples width height threshold m) ≡ 0
  unfolding measured_pixels
  listed-none k h = none-beyond (λ p. is_measured (kind_at samples width height threshold p)) (λ p. bright (star_at samples width p)) m k h

  -- a lone pixel is not listed
  pub lone-unlisted : (k : ℕ) → kind_at samples width height threshold k ≡ Lone → count k (measured_pixels samples width height threshold m) ≡ 0
  lone-unlisted k e = go (dec_lt k m)
    where
      go : Dec (k < m) → count k (measured_pixels samples width height threshold m) ≡ 0
      go (yes h) = listed-once k h ∙ ap (λ (v : Kind). one (is_measured v)) e
      go (no h) = listed-none k (omega arith)

  -- by falling brightness, equal ones by rising number
  pub listed-order : InOrder (λ p. bright (star_at samples width p)) (measured_pixels samples width height threshold m)
  unfolding measured_pixels
  listed-order = in_order (λ p. is_measured (kind_at samples width height threshold p)) (λ p. bright (star_at samples width p)) m

-- ---- as many as there are measured pixels

ordered-number : (test : ℕ → Bool) (key : ℕ → ℕ) (m : ℕ) → length (ordered test key m) ≡ number m test
unfolding ordered number
ordered-number test key zero = refl
ordered-number test key (suc m) = go (ordered-number test key m) (test m)
  where
    go : length (ordered test key m) ≡ number m test → (b : Bool) → length (pick b (put key m (ordered test key m)) (ordered test key m)) ≡ number m test
        + one b
    go i true = put-length key m (ordered test key m) ∙ omega arith
    go i false = i ∙ omega arith

pub listed-number : (samples : List ℕ) (width height threshold m : ℕ) → length (measured_pixels samples width height threshold m)
    ≡ number_of is_measured samples width height threshold m
unfolding measured_pixels
listed-number samples width height threshold m = ordered-number (λ p. is_measured (kind_at samples width height threshold p))
    (λ p. bright (star_at samples width p)) m

-- ---- the stars of a report, one by one

-- what stands in a list is counted in it
count_at : (l : List ℕ) (j : ℕ) → j < length l → 1 ≤ count (get_or l j 0) l
unfolding count
count_at [] j h = absurd (not-suc-le-zero h)
count_at (x ∷ xs) zero h = rw (eq-eqb x x refl) (omega arith)
count_at (x ∷ xs) (suc j) h =
    let i = count_at xs j (omega arith) in
    omega arith

measured-of : (v : Kind) → is_measured v ≡ true → (c : Centroid) × (v ≡ Measured c)
measured-of Dark e = contradiction (cc)
measured-of Beaten e = contradiction (cc)
measured-of Edge e = contradiction (cc)
measured-of Lone e = contradiction (cc)
measured-of (Measured c) e = (c, refl)

one-true : (b : Bool) → 1 ≤ one b → b ≡ true
one-true true h = refl
one-true false h = absurd (not-suc-le-zero h)

map_at : (g : ℕ → Centroid) (l : List ℕ) (j : ℕ) → j < length l → get_or (map g l) j nought ≡ g (get_or l j 0)
map_at g [] j h = absurd (not-suc-le-zero h)
map_at g (x ∷ xs) zero h = refl
map_at g (x ∷ xs) (suc j) h = map_at g xs j (omega arith)

module _ (samples : List ℕ) (width height threshold m : ℕ) where
  -- star j of the list is that of pixel j of the order
  pub star-at : (j : ℕ) → j < (report_of samples width height threshold m).count
      → get_or (report_of samples width height threshold m).stars j nought ≡ star_at samples width (get_or (measured_pixels samples width height threshold m) j 0)
  unfolding report_of
  star-at j h =
      let n = listed-number samples width height threshold m in
      let l : j < length (measured_pixels samples width height threshold m) = omega arith in
      let k : j < length (measured_of samples width height threshold m) = rw length-map l in
      get_or-take 8 (measured_of samples width height threshold m ++ replicate 8 nought) j nought (omega arith)
      ∙ get_or-append (measured_of samples width height threshold m) (replicate 8 nought) nought j k
      ∙ map_at (star_at samples width) (measured_pixels samples width height threshold m) j l

  -- which is measured, with that star
  pub pixel-at : (j : ℕ) → j < (report_of samples width height threshold m).count
      → let k = get_or (measured_pixels samples width height threshold m) j 0 in
      (k < m) × (kind_at samples width height threshold k ≡ Measured (star_at samples width k))
  unfolding report_of
  pixel-at j h =
      let n = listed-number samples width height threshold m in
      let k = get_or (measured_pixels samples width height threshold m) j 0 in
      let o = count_at (measured_pixels samples width height threshold m) j (omega arith) in
      let l : k < m = below (dec_lt k m) o in
      let t = one-true (is_measured (kind_at samples width height threshold k)) (rw (listed-once samples width height threshold m k l) at o) in
      let c = measured-of (kind_at samples width height threshold k) t in
      (l, c.1 ∙ ap Measured (star-is samples width height threshold k c.0 c.1))
    where
      below : {k : ℕ} → Dec (k < m) → 1 ≤ count k (measured_pixels samples width height threshold m) → k < m
      below (yes h) o = h
      below {k} (no f) o = let z = listed-none samples width height threshold m k (omega arith) in absurd (omega arith)

  -- a listed star lies where a position may, and has some brightness
  pub star-range : width ≤ 1024 → height ≤ 1024 → (j : ℕ) → j < (report_of samples width height threshold m).count
      → let c = get_or (report_of samples width height threshold m).stars j nought in
      (c.x ≤ 261888) × (c.y ≤ 261888) × (1 ≤ c.brightness)
  star-range w h j l =
      let k = get_or (measured_pixels samples width height threshold m) j 0 in
      let p = pixel-at j l in
      rw (star-at j l) (measured-range samples width height threshold (k / width) (k % width) (star_at samples width k) w h p.1)

  -- and behind the list stand zeros
  pub zeros-behind : (j : ℕ) → (report_of samples width height threshold m).count ≤ j → j < 8
      → get_or (report_of samples width height threshold m).stars j nought ≡ nought
  unfolding report_of
  zeros-behind j h l =
      let n = listed-number samples width height threshold m in
      let s = measured_of samples width height threshold m in
      let q : length s ≤ j = rw length-map (omega arith) in
      let e : j ≡ length s + (j - length s) = omega arith in
      get_or-take 8 (s ++ replicate 8 nought) j nought l
      ∙ ap (λ (i : ℕ). get_or (s ++ replicate 8 nought) i nought) e
      ∙ get_or-append-add s (replicate 8 nought) (j - length s) nought
      ∙ get_or-replicate 8 (j - length s) nought nought (omega arith)
