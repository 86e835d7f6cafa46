-- Pixels that could be stars stand apart, on every frame: two different pixels within 3 rows and 3 columns of each other are not both edge, lone
-- or measured, for of the two the earlier is beaten where the later is larger, and the later where it is not. Assumes nothing.
use Rattle.std.specs.Prelude.{Bool, cond, ◌≡◌, List, ℕ, ◌<◌, ltb}
use Rattle.std.proofs.Math.Bool.{true, false}
use Rattle.std.proofs.Math.Path.{refl}
use Rattle.std.proofs.Common.{inl, inr, arith, ltb-true, ltb-false}
use Rattle.lists.specs.Contradiction.{contradiction}
use Rattle.frame_window.specs.Window.{beaten}
use Rattle.frame_window.specs.Laws.{Earlier, InWindow}
use Rattle.frame_window.proofs.Unbeaten.{none-larger, earlier-smaller}
use Rattle.frame_verdict.specs.declared.Kind.TheVariants.{Dark, Beaten}
use Rattle.frame_verdict.specs.Verdict.{dark, peak_kind, kind_of}
use Rattle.frame_verdict.specs.Apart.{is_peak}

module _ (samples : List ℕ) (width height threshold : ℕ) where
  -- the pixel in that row and column has such a verdict
  abbrev pub PeakAt : ℕ → ℕ → Type 0
  PeakAt row column = is_peak (kind_of samples width height threshold row column) ≡ true

  unbeaten : (row column : ℕ) → PeakAt row column → beaten samples width height row column ≡ false
  unfolding kind_of
  unbeaten row column = go (dark samples width threshold row column) (beaten samples width height row column)
    where
      go : (a b : Bool) → is_peak (cond a Dark (cond b Beaten (peak_kind samples width height threshold row column))) ≡ true → b ≡ false
      go true b e = contradiction e
      go false true e = contradiction e
      go false false e = refl

  -- where each is in the other's window, neither is the earlier
  none-earlier : (row column r c : ℕ) → InWindow width height row column r c → InWindow width height r c row column → PeakAt row column → PeakAt r c
      → Earlier row column r c → ⊥
  none-earlier row column r c there back p q e =
      omega (
        arith,
        earlier-smaller samples width height row column (unbeaten row column p) r c there e,
        none-larger samples width height r c (unbeaten r c q) row column back,
      )

  -- THE LAW: two such pixels within 3 rows and 3 columns of each other are one and the same
  pub apart : (row column r c : ℕ) → row < height → column < width → InWindow width height row column r c → PeakAt row column → PeakAt r c → (r ≡ row)
      × (c ≡ column)
  apart row column r c within across there p q = go (ltb r row) refl (ltb row r) refl (ltb c column) refl (ltb column c) refl
    where
      back : InWindow width height r c row column
      back = record { in_row = within; in-column = across; rows = (there.rows.1, there.rows.0); columns = (there.columns.1, there.columns.0) }

      before : Earlier row column r c → ⊥
      before = none-earlier row column r c there back p q

      behind : Earlier r c row column → ⊥
      behind = none-earlier r c row column back there q p

      go : (a : Bool) → ltb r row ≡ a → (b : Bool) → ltb row r ≡ b → (d : Bool) → ltb c column ≡ d → (e : Bool) → ltb column c ≡ e → (r ≡ row) × (c ≡ column)
      go true s b t d u e v = absurd (before (inl (ltb-true r row s)))
      go false s true t d u e v = absurd (behind (inl (ltb-true row r t)))
      go false s false t true u e v = absurd (before (inr (omega (arith, ltb-false r row s, ltb-false row r t), ltb-true c column u)))
      go false s false t false u true v = absurd (behind (inr (omega (arith, ltb-false r row s, ltb-false row r t), ltb-true column c v)))
      go false s false t false u false v =
          (omega (arith, ltb-false r row s, ltb-false row r t), omega (arith, ltb-false c column u, ltb-false column c v))
