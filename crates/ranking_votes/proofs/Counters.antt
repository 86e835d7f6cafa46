-- The counters while star a is counted against the stars before it: those below b have the pair with a, those from b on do not yet. Assumes nothing.
use mathlib.Core.Path.{◌≡◌, sym, ap, ◌∙◌}
use mathlib.Core.List.{List}
use Prim.Native.Nat.{ℕ, ◌+◌, ◌≤◌, ◌<◌}
use native.Mathlib.Decide.{ℕ_discrete, dec_lt}
use native.Mathlib.Omega.{arith}
use borrow.Author.Count.{below_more}
use lib.ListN.{length, get_or, set}
use lib.Seq.{get_or-set_same, get_or-set_other}
use Rattle.ranking_votes.specs.Progress.{Setting, from, between, so_far}
use Rattle.ranking_votes.specs.ProgressLaws.{between-comm, from-other, from-self, so-far-within, so-far-beyond}

module _ (g : Setting) where
  abbrev pub Passed : ℕ → ℕ → List ℕ → Type 0
  Passed a b votes = (k : ℕ) → k < b → get_or votes k 0 ≡ from g (a + 1) k

  abbrev pub Left : ℕ → ℕ → List ℕ → Type 0
  Left a b votes = (k : ℕ) → b ≤ k → get_or votes k 0 ≡ so_far g a k

  module _ (a b more : ℕ) (votes : List ℕ) (before : b < a) (here : b < length votes) (gives : more ≡ between g a b) (left : Left a b votes) where
    -- the counter of star b, which has the pairs with the stars before a
    pub counter : get_or votes b 0 ≡ from g a b
    counter = left b (omega arith) ∙ so-far-within g a b before

    raised : get_or votes b 0 + more ≡ from g (a + 1) b
    raised =
        (λ k. counter k + (gives ∙ between-comm g a b) k)
        ∙ sym (from-other g a b (λ e. omega arith))

    pub passed-next : Passed a b votes → Passed a (b + 1) (set votes b (get_or votes b 0 + more))
    passed-next passed =
        below_more _ b
        (λ k l. get_or-set_other votes b k _ 0 (λ e. omega arith) ∙ passed k l)
        (get_or-set_same votes b _ 0 here ∙ raised)

    pub left-next : Left a (b + 1) (set votes b (get_or votes b 0 + more))
    left-next k l = get_or-set_other votes b k _ 0 (λ e. omega arith) ∙ left k (omega arith)

    -- star a's own counter
    pub own-next : (own : ℕ) → own ≡ from g b a → own + more ≡ from g (b + 1) a
    own-next own e = (λ k. e k + gives k) ∙ sym (from-other g b a (λ e. omega arith))

  -- once star a's own counter is stored, the first a + 1 stars are counted
  pub counted : (a own : ℕ) (votes : List ℕ) → a < length votes → Passed a a votes → Left a a votes → own ≡ from g a a → (k : ℕ)
      → get_or (set votes a own) k 0 ≡ so_far g (a + 1) k
  counted a own votes here passed left e k = go (ℕ_discrete k a) (dec_lt k a)
    where
      go : Dec (k ≡ a) → Dec (k < a) → get_or (set votes a own) k 0 ≡ so_far g (a + 1) k
      go (yes q) d =
          ap (λ (n : ℕ). get_or (set votes a own) n 0) q ∙ get_or-set_same votes a own 0 here ∙ e
          ∙ sym (from-self g a)
          ∙ sym (so-far-within g (a + 1) a (omega arith))
          ∙ ap (so_far g (a + 1)) (sym q)
      go (no n) (yes l) =
          get_or-set_other votes a k own 0 n ∙ passed k l ∙ sym (so-far-within g (a + 1) k (omega arith))
      go (no n) (no l) =
          get_or-set_other votes a k own 0 n ∙ left k (omega arith) ∙ so-far-beyond g a k (omega arith)
          ∙ sym (so-far-beyond g (a + 1) k (omega arith))
