-- How the marks grow, a pair at a time, and what they say at the end. Assumes nothing.
use Rattle.std.specs.Prelude.{Bool, true, not, ◌≡◌, refl, List, ℕ, ◌+◌, ◌<◌, eqb, ℤ, length, get_or, set}
use Rattle.std.proofs.Math.Bool.{false, and-eq-true_iff}
use Rattle.std.proofs.Common.{sym, subst, ◌∙◌, not-suc-le-zero, arith, ne_eqb, get_or-set_same, get_or-set_other}
use Rattle.std.proofs.Math.Path.{ap}
use Rattle.std.proofs.Math.Decide.{ℕ_discrete}
use Rattle.std.proofs.lemmas.Bool.{eqb-false, not-true}
use Rattle.std.specs.Int.Signed.{le_z}
use Rattle.lists.specs.Contradiction.{contradiction}
use Rattle.vectors.specs.Triples.{triples, pair_dot}
use Rattle.vectors.specs.Laws.{pair_comm}
use Rattle.catalogue_cut.specs.marks.Marks.{faint_mark, meets_by, Meets, Mark, faint, crowded, free, Judged, Row}

module _ {bright : ℕ → Bool} {stars : List ℤ} {closeness : ℤ} where
  -- ---- one mark

  -- it says the same of an equal number
  mark-as : {k u m n : ℕ} → m ≡ n → Mark bright stars closeness k u m → Mark bright stars closeness k u n
  mark-as {k} {u} e t = subst (Mark bright stars closeness k u) e t

  faint-two : {k u m : ℕ} → Mark bright stars closeness k u m → m ≡ 2 → bright k ≡ false
  faint-two (faint b e) h = b
  faint-two (crowded b j l t e) h = absurd (omega arith)
  faint-two (free b f e) h = absurd (omega arith)

  bright-other : {k u m : ℕ} → Mark bright stars closeness k u m → (m ≡ 2 → ⊥) → bright k ≡ true
  bright-other (faint b e) h = absurd (h e)
  bright-other (crowded b j l t e) h = b
  bright-other (free b f e) h = b

  -- one more star that it does not meet
  mark-more : {k u m : ℕ} → (Meets bright stars closeness k u → ⊥) → Mark bright stars closeness k u m → Mark bright stars closeness k (u + 1) m
  mark-more n (faint b e) = faint b e
  mark-more n (crowded b j l t e) = crowded b j l t e
  mark-more {k} {u} n (free b f e) = free b (λ j h t. go j h t (ℕ_discrete j u)) e
    where
      go : (j : ℕ) → j < u + 1 → Meets bright stars closeness k j → Dec (j ≡ u) → ⊥
      go j h t (yes d) = n (subst (Meets bright stars closeness k) d t)
      go j h t (no d) = f j (omega arith) t

  -- a star that was looked at with none is as good as any
  mark-none : {k u m : ℕ} → Mark bright stars closeness k u m → Mark bright stars closeness k 0 m
  mark-none (faint b e) = faint b e
  mark-none (crowded b j l t e) = crowded b j l t e
  mark-none (free b f e) = free b (λ j h. absurd (not-suc-le-zero h)) e

  -- a faint star meets nobody
  faint-met : {k j : ℕ} → bright j ≡ false → Meets bright stars closeness k j → ⊥
  faint-met e t = contradiction (sym e ∙ t.within)

  -- ---- the stars so far

  pub judged-start : (marks : List ℕ) → ((k : ℕ) → k < triples stars → get_or marks k 0 ≡ faint_mark (bright k)) → Judged bright stars closeness 0 marks
  judged-start marks h = record { before = λ k l. absurd (not-suc-le-zero l); behind = λ k l _. mark-as (sym (h k l)) (go k (bright k) refl) }
    where
      go : (k : ℕ) (t : Bool) → bright k ≡ t → Mark bright stars closeness k 0 (faint_mark t)
      go k true e = free e (λ j l. absurd (not-suc-le-zero l)) refl
      go k false e = faint e refl

  module _ {a : ℕ} {marks : List ℕ} (inside : a < triples stars) (J : Judged bright stars closeness a marks) where
    -- a faint star changes nothing
    pub judged-faint : get_or marks a 0 ≡ 2 → Judged bright stars closeness (a + 1) marks
    judged-faint e = record { before = λ k l. go k l (ℕ_discrete k a); behind = λ k l h. J.behind k l (omega arith) }
      where
        dim : bright a ≡ false
        dim = faint-two (J.behind a inside (omega arith)) e

        go : (k : ℕ) → k < a + 1 → Dec (k ≡ a) → Mark bright stars closeness k (a + 1) (get_or marks k 0)
        go k l (yes d) = faint (ap bright d ∙ dim) (ap (λ (n : ℕ). get_or marks n 0) d ∙ e)
        go k l (no d) = mark-more (faint-met dim) (J.before k (omega arith))

    pub row-start : (get_or marks a 0 ≡ 2 → ⊥) → Row bright stars closeness a 0 0 marks
    row-start d =
        let b = bright-other (J.behind a inside (omega arith)) d in
        record {
          within = b;
          itself = free b (λ j l. absurd (not-suc-le-zero l)) refl;
          passed = λ k l. absurd (not-suc-le-zero l);
          left = λ k l _. J.before k l;
          behind = λ k l h. J.behind k l (omega arith);
        }

  -- ---- a row

  -- the same of equal numbers
  pub row_as : {a b own next : ℕ} {marks after : List ℕ} → next ≡ own → after ≡ marks → Row bright stars closeness a b own marks
      → Row bright stars closeness a b next after
  row_as {a} {b} {own} {next} {marks} {after} e d R =
      subst (λ (l : List ℕ). Row bright stars closeness a b next l) (sym d) (subst (λ (n : ℕ). Row bright stars closeness a b n marks) (sym e) R)

  module _ {a b own : ℕ} {marks : List ℕ} (inside : a < triples stars) (h : b < a) (R : Row bright stars closeness a b own marks) where
    abbrev mark : ℕ
    mark = get_or marks b 0

    apart : (b ≡ a) → ⊥
    apart e = omega arith

    -- the two stars are close, and star b is within the limit
    pub row-met : b < length marks → meets_by closeness (pair_dot stars a b) mark ≡ true → Row bright stars closeness a (b + 1) 1 (set marks b 1)
    unfolding meets_by
    row-met l e =
        let p = (and-eq-true_iff (not (eqb mark 2)) (le_z closeness (pair_dot stars a b))).0 e in
        let w = bright-other (R.left b h (omega arith)) (eqb-false mark 2 (not-true _ p.0)) in
        let one : Meets bright stars closeness a b = record { other = apart; within = w; near = p.1 } in
        let other : Meets bright stars closeness b a =
        record { other = λ d. apart (sym d); within = R.within; near = ap (le_z closeness) (pair_comm stars b a) ∙ p.1 } in
        record {
          within = R.within;
          itself = crowded R.within b (omega arith) one refl;
          passed = λ k m. go k m (ℕ_discrete k b) (crowded w a inside other (get_or-set_same marks b 1 0 l));
          left = λ k m n. mark-as (sym (get_or-set_other marks b k 1 0 (λ d. omega arith))) (R.left k m (omega arith));
          behind = λ k m n. mark-as (sym (get_or-set_other marks b k 1 0 (λ d. omega arith))) (R.behind k m n);
        }
      where
        go : (k : ℕ) → k < b + 1 → Dec (k ≡ b) → Mark bright stars closeness b (a + 1) (get_or (set marks b 1) b 0)
            → Mark bright stars closeness k (a + 1) (get_or (set marks b 1) k 0)
        go k m (yes d) t = rw d t
        go k m (no d) t = mark-as (sym (get_or-set_other marks b k 1 0 d)) (R.passed k (omega arith))

    -- nothing changes where neither star meets the other, or star b is faint
    row_next : (Meets bright stars closeness a b → ⊥) → Mark bright stars closeness b (a + 1) mark → Row bright stars closeness a (b + 1) own marks
    row_next n t =
        record {
          within = R.within;
          itself = mark-more n R.itself;
          passed = λ k m. go k m (ℕ_discrete k b);
          left = λ k m l. R.left k m (omega arith);
          behind = R.behind;
        }
      where
        go : (k : ℕ) → k < b + 1 → Dec (k ≡ b) → Mark bright stars closeness k (a + 1) (get_or marks k 0)
        go k m (yes d) = rw d t
        go k m (no d) = R.passed k (omega arith)

    pub row_apart : meets_by closeness (pair_dot stars a b) mark ≡ false → Row bright stars closeness a (b + 1) own marks
    unfolding meets_by
    row_apart e = go (ℕ_discrete mark 2)
      where
        go : Dec (mark ≡ 2) → Row bright stars closeness a (b + 1) own marks
        go (yes d) = let w = faint-two (R.left b h (omega arith)) d in row_next (faint-met w) (faint w d)
        go (no d) =
            let f : le_z closeness (pair_dot stars a b) ≡ false = rw (ne_eqb mark 2 d) at e in
            row_next (λ t. contradiction (sym f ∙ t.near)) (mark-more (λ t. contradiction (sym f ∙ ap (le_z closeness) (pair_comm stars a b) ∙ t.near))
            (R.left b h (omega arith)))

  -- the row is done
  pub row_done : {a own : ℕ} {marks : List ℕ} → a < length marks → Row bright stars closeness a a own marks
      → Judged bright stars closeness (a + 1) (set marks a own)
  row_done {a} {own} {marks} l R = record {
    before = λ k m. go k m (ℕ_discrete k a);
    behind = λ k m n.
        mark-as (sym (get_or-set_other marks a k own 0 (λ d. omega arith))) (R.behind k m (omega arith));
  }
    where
      go : (k : ℕ) → k < a + 1 → Dec (k ≡ a) → Mark bright stars closeness k (a + 1) (get_or (set marks a own) k 0)
      go k m (yes d) = rw d (mark-as (sym (get_or-set_same marks a own 0 l)) (mark-more (λ t. t.other refl) R.itself))
      go k m (no d) = mark-as (sym (get_or-set_other marks a k own 0 d)) (R.passed k (omega arith))
