-- How the list of directions grows, and how large its numbers are. Assumes nothing.
use Rattle.std.specs.Prelude.{◌≡◌, ℤ, pos, length, get_or, take, set, replicate}
use Rattle.std.proofs.Math.Path.{refl, ap}
use Rattle.std.proofs.Common.{sym, ◌∙◌, arith, add-one, length-append, take-suc, length-take-le}
use mathlib.Core.List.{List, [], ◌∷◌, ◌++◌, append_assoc}
use Prim.Native.Nat.{ℕ, zero, suc, ◌+◌, ◌*◌, ◌-◌, ◌<◌, zero-le}
use Rattle.std.proofs.lemmas.List.{set_at}
use Rattle.std.proofs.Math.Seq.{append_snoc}
use Rattle.numbers.specs.Within.{Within}
use Rattle.vectors.specs.declared.Vec3.{Vec3}
use Rattle.vectors.specs.Vectors.{Within3}
use Rattle.vectors.specs.Triples.{AllWithin}
use Rattle.frame_centroid.specs.declared.Centroid.{Centroid}
use Rattle.chain.specs.declared.Settings.{Settings}
use Rattle.camera_direction.specs.camera.Camera.{direction_of}
use Rattle.camera_direction.proofs.camera.Laws.{found_within}
use Rattle.chain.specs.Sight.{vector_of, sight_of, numbers_of, directions_of, nowhere}
use Rattle.std.specs.Prelude.{Result, Ok, Err}
use Rattle.refusal.specs.declared.Refusal.{Refusal}

module _ (s : Settings) where
  pub sight-within : (star : Centroid) → Within3 1000000000 (sight_of s star)
  unfolding sight_of
  sight-within star = by (direction_of s.cx s.cy s.lens (pos star.x) (pos star.y)) refl
    where
      by : (d : Result Vec3 Refusal) → direction_of s.cx s.cy s.lens (pos star.x) (pos star.y) ≡ d → Within3 1000000000 (vector_of d)
      by (Err r) e = record { x = record { within = zero-le }; y = record { within = zero-le }; z = record { within = zero-le } }
      by (Ok v) e = found_within s.cx s.cy s.lens (pos star.x) (pos star.y) v e

  pub directions-length : (stars : List Centroid) → length (directions_of s stars) ≡ 3 * length stars
  unfolding directions_of
  directions-length [] = refl
  directions-length (star ∷ stars) = omega (arith, directions-length stars)

  pub directions-append : (stars : List Centroid) (star : Centroid) → directions_of s (stars ++ (star ∷ [])) ≡ directions_of s stars
      ++ numbers_of (sight_of s star) []
  unfolding directions_of
  directions-append [] star = refl
  directions-append (first ∷ stars) star = ap (numbers_of (sight_of s first)) (directions-append stars star)

  near-at : (stars : List Centroid) (k : ℕ) → Within 1000000000 (get_or (directions_of s stars) k (pos 0))
  unfolding directions_of
  near-at [] k = record { within = zero-le }
  near-at (star ∷ stars) zero = (sight-within star).x
  near-at (star ∷ stars) (suc zero) = (sight-within star).y
  near-at (star ∷ stars) (suc (suc zero)) = (sight-within star).z
  near-at (star ∷ stars) (suc (suc (suc k))) = near-at stars k

  -- refusal 8 cannot arise
  pub directions-within : (stars : List Centroid) → AllWithin 1000000000 (directions_of s stars)
  directions-within stars = record { at = near-at stars }

  -- three numbers stored behind those of the first k stars
  module _ (stars : List Centroid) (k : ℕ) (h : k < 8) (l : k < length stars) where
    abbrev passed : List ℤ
    passed = directions_of s (take k stars)

    passed_length : length passed ≡ 3 * k
    passed_length = directions-length (take k stars) ∙ ap (λ (n : ℕ). 3 * n) (length-take-le k stars (omega arith))

    abbrev pub filled : ℕ → List ℤ
    filled n = directions_of s (take n stars) ++ replicate (24 - 3 * n) (pos 0)

    stored : (p zeros : List ℤ) (n : ℕ) (v : Vec3) → length p ≡ n → set (set (set (p ++ (pos 0 ∷ (pos 0 ∷ (pos 0 ∷ zeros)))) n v.x) (n + 1) v.y) (n + 2)
        v.z ≡ (p ++ numbers_of v []) ++ zeros
    stored p zeros n v e =
        let o : ℤ = pos 0 in
        let q = p ++ (v.x ∷ []) in
        let r = q ++ (v.y ∷ []) in
        let a : length q ≡ n + 1 = length-append p (v.x ∷ []) ∙ ap (λ (m : ℕ). m + 1) e in
        let b : length r ≡ n + 2 = length-append q (v.y ∷ []) ∙ omega arith in
        ap (λ (l : List ℤ). set (set l (n + 1) v.y) (n + 2) v.z) (set_at p o (o ∷ (o ∷ zeros)) v.x n e ∙ sym (append_snoc p v.x (o ∷ (o ∷ zeros))))
        ∙ ap (λ (l : List ℤ). set l (n + 2) v.z) (set_at q o (o ∷ zeros) v.y (n + 1) a ∙ sym (append_snoc q v.y (o ∷ zeros)))
        ∙ set_at r o zeros v.z (n + 2) b
        ∙ simp append_assoc

    pub filled_next : (v : Vec3) → v ≡ sight_of s (get_or stars k nowhere) → set (set (set (filled k) (3 * k) v.x) (3 * k + 1) v.y) (3 * k + 2) v.z
        ≡ filled (k + 1)
    filled_next v e =
        let z : 24 - 3 * k ≡ suc (suc (suc (24 - 3 * (k + 1)))) = omega arith in
        let t : take (k + 1) stars ≡ take k stars ++ (get_or stars k nowhere ∷ []) = rw add-one (take-suc stars k nowhere l) in
        let d : directions_of s (take (k + 1) stars) ≡ passed ++ numbers_of v [] = ap (directions_of s) t ∙ directions-append (take k stars) (get_or stars k nowhere)
        ∙ ap (λ (w : Vec3). passed ++ numbers_of w []) (sym e) in
        rw (z, d) (stored passed (replicate (24 - 3 * (k + 1)) (pos 0)) (3 * k) v passed_length)
