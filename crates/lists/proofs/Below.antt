-- The numbers below a bound that pass a test, rising: `ordered` where no key tells numbers apart. Assumes nothing.
use Rattle.std.specs.Prelude.{Bool, ◌≡◌, get_or}
use Rattle.std.proofs.Math.Bool.{true, false}
use Rattle.std.proofs.Math.Path.{refl, sym, ap, subst}
use Rattle.std.proofs.Common.{◌∙◌, not-suc-le-zero, length-append}
use mathlib.Core.List.{List, [], ◌∷◌, ◌++◌, append-nil}
use Prim.Native.Nat.{ℕ, zero, suc, ◌+◌, ◌≤◌, ◌<◌}
use Rattle.std.proofs.Math.Decide.{ℕ_discrete, dec_lt}
use native.Mathlib.Omega.{arith}
use Rattle.std.proofs.Math.ListN.{length, get_or-append}
use Rattle.std.proofs.lemmas.List.{get_or_at}
use Rattle.lists.specs.Contradiction.{contradiction}
use Rattle.lists.specs.Number.{one, number}
use Rattle.lists.specs.Order.{pick, put, ordered}
use Rattle.lists.proofs.Laws.{put-length}

module _ (test : ℕ → Bool) where
  -- where no key tells numbers apart, one that is put stands last
  put_last : (s : ℕ) (xs : List ℕ) → put (λ _. 0) s xs ≡ xs ++ (s ∷ [])
  unfolding put
  put_last s [] = refl
  put_last s (x ∷ xs) = ap (λ (l : List ℕ). x ∷ l) (put_last s xs)

  pub below_next : (n : ℕ) → ordered test (λ _. 0) (suc n) ≡ ordered test (λ _. 0) n ++ pick (test n) (n ∷ []) []
  unfolding ordered
  below_next n = by (test n)
    where
      by : (t : Bool) → pick t (put (λ _. 0) n (ordered test (λ _. 0) n)) (ordered test (λ _. 0) n) ≡ ordered test (λ _. 0) n ++ pick t (n ∷ []) []
      by true = put_last n (ordered test (λ _. 0) n)
      by false = sym (append-nil (ordered test (λ _. 0) n))

  pub below-taken : (n : ℕ) → test n ≡ true → ordered test (λ _. 0) (suc n) ≡ ordered test (λ _. 0) n ++ (n ∷ [])
  below-taken n e = below_next n ∙ ap (λ (t : Bool). ordered test (λ _. 0) n ++ pick t (n ∷ []) []) e

  pub below_left : (n : ℕ) → test n ≡ false → ordered test (λ _. 0) (suc n) ≡ ordered test (λ _. 0) n
  below_left n e = below_next n ∙ ap (λ (t : Bool). ordered test (λ _. 0) n ++ pick t (n ∷ []) []) e ∙ append-nil (ordered test (λ _. 0) n)

  -- numbers of which none passes add nothing
  pub below-skip : (b n : ℕ) → b ≤ n → ((x : ℕ) → b ≤ x → x < n → test x ≡ false) → ordered test (λ _. 0) n ≡ ordered test (λ _. 0) b
  below-skip b zero h f = let e : 0 ≡ b = omega arith in ap (ordered test (λ _. 0)) e
  below-skip b (suc n) h f = go (ℕ_discrete b (suc n)) (λ l. below-skip b n l (λ x p q. f x p (omega arith)))
    where
      go : Dec (b ≡ suc n) → (b ≤ n → ordered test (λ _. 0) n ≡ ordered test (λ _. 0) b) → ordered test (λ _. 0) (suc n) ≡ ordered test (λ _. 0) b
      go (yes e) g = ap (ordered test (λ _. 0)) (sym e)
      go (no d) g = below_left n (f n (omega arith) (omega arith)) ∙ g (omega arith)

  -- and a longer list has no fewer
  pub below_more : (b n : ℕ) → b ≤ n → length (ordered test (λ _. 0) b) ≤ length (ordered test (λ _. 0) n)
  below_more b zero h = let e : b ≡ 0 = omega arith in rw e (omega arith)
  below_more b (suc n) h = go (ℕ_discrete b (suc n)) (λ l. below_more b n l)
    where
      go : Dec (b ≡ suc n) → (b ≤ n → length (ordered test (λ _. 0) b) ≤ length (ordered test (λ _. 0) n))
          → length (ordered test (λ _. 0) b) ≤ length (ordered test (λ _. 0) (suc n))
      go (yes e) g = rw e (omega arith)
      go (no d) g = omega (arith, g (omega arith), ap length (below_next n), length-append (ordered test (λ _. 0) n) (pick (test n) (n ∷ []) []))

  -- as many as pass
  pub below-count : (n : ℕ) → length (ordered test (λ _. 0) n) ≡ number n test
  unfolding ordered number
  below-count zero = refl
  below-count (suc n) = go (test n) (below-count n)
    where
      go : (t : Bool) → length (ordered test (λ _. 0) n) ≡ number n test → length (pick t (put (λ _. 0) n (ordered test (λ _. 0) n)) (ordered test (λ _. 0) n))
          ≡ number n test + one t
      go true h = omega (arith, put-length (λ _. 0) n (ordered test (λ _. 0) n))
      go false h = omega arith

  -- the numbers below n alone decide
  pub below-same : (other : ℕ → Bool) (n : ℕ) → ((k : ℕ) → k < n → test k ≡ other k) → ordered test (λ _. 0) n ≡ ordered other (λ _. 0) n
  unfolding ordered
  below-same other zero h = refl
  below-same other (suc n) h =
      let e = below-same other n (λ k l. h k (omega arith)) in
      λ i. pick (h n (omega arith) i) (put (λ _. 0) n (e i)) (e i)

-- ---- what stands in it

-- where a number stands in a list
pub record Place (x : ℕ) (l : List ℕ) : Type 0 where
  pub place : ℕ
  pub inside : place < length l
  pub is : get_or l place 0 ≡ x

module _ (test : ℕ → Bool) where
  -- a list has the numbers below n that pass, each once, and no other
  pub record Passing (n : ℕ) (l : List ℕ) : Type 0 where
    pub each : (p : ℕ) → p < length l → (get_or l p 0 < n) × (test (get_or l p 0) ≡ true)
    pub rises : (p q : ℕ) → p < q → q < length l → get_or l p 0 < get_or l q 0
    pub all : (x : ℕ) → x < n → test x ≡ true → Place x l

  passing-none : Passing 0 []
  passing-none =
      record { each = λ p h. absurd (not-suc-le-zero h); rises = λ p q h l. absurd (not-suc-le-zero l); all = λ x h e. absurd (not-suc-le-zero h) }

  module _ {n : ℕ} {l : List ℕ} (c : Passing n l) where
    passing-left : test n ≡ false → Passing (suc n) l
    passing-left e =
        record { each = λ p h. let r = c.each p h in (omega (arith, r.0), r.1); rises = c.rises; all = λ x h t. go x h t (ℕ_discrete x n) }
      where
        go : (x : ℕ) → x < suc n → test x ≡ true → Dec (x ≡ n) → Place x l
        go x h t (yes d) = contradiction (sym e ∙ ap test (sym d) ∙ t)
        go x h t (no d) = c.all x (omega arith) t

    abbrev more : List ℕ
    more = l ++ (n ∷ [])

    last : (p : ℕ) → length l ≡ p → get_or more p 0 ≡ n
    last p e = get_or_at l n [] 0 p e

    before : (p : ℕ) → p < length l → get_or more p 0 ≡ get_or l p 0
    before p h = get_or-append l (n ∷ []) 0 p h

    passing-taken : test n ≡ true → Passing (suc n) more
    passing-taken e =
        record { each = λ p h. each p h (dec_lt p (length l)); rises = λ p q h k. rises p q h k (dec_lt q (length l)); all = λ x h t. all x h t (ℕ_discrete x n) }
      where
        long : length more ≡ length l + 1
        long = length-append l (n ∷ [])

        each : (p : ℕ) → p < length more → Dec (p < length l) → (get_or more p 0 < suc n) × (test (get_or more p 0) ≡ true)
        each p h (yes i) = let r = c.each p i in rw (before p i) (omega (arith, r.0), r.1)
        each p h (no i) = let d : length l ≡ p = omega (arith, long) in rw (last p d) (omega arith, e)

        rises : (p q : ℕ) → p < q → q < length more → Dec (q < length l) → get_or more p 0 < get_or more q 0
        rises p q h k (yes i) = rw (before p (omega arith), before q i) (c.rises p q h i)
        rises p q h k (no i) =
            let d : length l ≡ q = omega (arith, long) in
            omega (arith, before p (omega arith), last q d, (c.each p (omega arith)).0)

        all : (x : ℕ) → x < suc n → test x ≡ true → Dec (x ≡ n) → Place x more
        all x h t (yes d) = record { place = length l; inside = omega (arith, long); is = last (length l) refl ∙ sym d }
        all x h t (no d) =
            let p = c.all x (omega arith) t in
            record { place = p.place; inside = omega (arith, long, p.inside); is = before p.place p.inside ∙ p.is }

  pub passing : (n : ℕ) → Passing n (ordered test (λ _. 0) n)
  unfolding ordered
  passing zero = passing-none
  passing (suc n) = go (test n) refl (passing n)
    where
      go : (t : Bool) → test n ≡ t → Passing n (ordered test (λ _. 0) n) → Passing (suc n) (ordered test (λ _. 0) (suc n))
      go false e c = subst (Passing (suc n)) (sym (below_left test n e)) (passing-left c e)
      go true e c = subst (Passing (suc n)) (sym (below-taken test n e)) (passing-taken c e)
