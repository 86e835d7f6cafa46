-- What the check of a catalogue is for: refusal 6 exactly where the length is wrong, 7 exactly at the first record that breaks its rule, and the
-- catalogue accepted exactly where it is valid. Assumes nothing.
use Rattle.std.specs.Prelude.{Bool, true, false, ◌≡◌, refl, List, ℕ, suc, zero, ◌≤◌, ◌<◌, length}
use Rattle.std.proofs.Math.Bool.{not}
use Rattle.std.proofs.Common.{sym, ap, subst, ◌∙◌, lt_trans, not-suc-le-zero, arith}
use Rattle.std.proofs.Math.Decide.{dec_lt}
use Rattle.std.proofs.lemmas.Bool.{not-true, not-false}
use Rattle.lists.specs.Contradiction.{contradiction}
use Rattle.refusal.specs.declared.Refusal.{Refusal}
use Rattle.refusal.specs.Numbers.{catalogue, record_rule}
use Rattle.refusal.specs.Table.{refusal_of, first_applying}
use Rattle.refusal.specs.CountedLaws.{count-accepted, count-refused}
use Rattle.catalogue.specs.Format.{records_in, identity_of}
use Rattle.catalogue.specs.Rule.{record_ok}
use Rattle.lists.specs.First.{First}
use Rattle.lists.proofs.First.{first-is, first_of}
use Rattle.catalogue.specs.Check.{length_ok, broken_of, refusals_of, checked_of}
use Rattle.catalogue.specs.CheckSteps.{checked, wrong-length, one-broken, none-broken}
use Rattle.catalogue.specs.Valid.{LengthRule, RecordRule, Valid, FirstBroken}
use Rattle.catalogue.specs.RuleLaws.{ok-length, length-ok, ok-record, record-ok}
use Rattle.std.specs.Prelude.{Result, Ok, Err}

-- ---- the first broken record

module _ (bytes : List ℕ) where
  broken-is : First (λ i. not (record_ok bytes i)) (records_in bytes) (broken_of bytes)
  unfolding broken_of
  broken-is = first-is (λ i. not (record_ok bytes i)) (records_in bytes)

  is-broken : {p : ℕ} → First (λ i. not (record_ok bytes i)) (records_in bytes) p → p ≡ broken_of bytes
  unfolding broken_of
  is-broken h = first_of (λ i. not (record_ok bytes i)) (records_in bytes) h

  kept-before : (k : ℕ) → k < broken_of bytes → RecordRule bytes k
  kept-before k h = ok-record bytes k (not-false (record_ok bytes k) (broken-is.none k h))

  first-broken : broken_of bytes < records_in bytes → FirstBroken bytes (broken_of bytes)
  first-broken h =
      record {
        inside = h;
        breaks = λ r. contradiction (sym (not-true (record_ok bytes (broken_of bytes)) (broken-is.taken h)) ∙ record-ok bytes (broken_of bytes) r);
        before = kept-before;
      }

  broken-first : {p : ℕ} → FirstBroken bytes p → p ≡ broken_of bytes
  broken-first {p} f =
      is-broken
      (record {
        most = omega (arith, f.inside);
        none = λ k h. ap not (record-ok bytes k (f.before k h));
        taken = λ h. ap not (breaks (record_ok bytes p) refl);
      })
    where
      breaks : (t : Bool) → record_ok bytes p ≡ t → record_ok bytes p ≡ false
      breaks true e = absurd (f.breaks (ok-record bytes p e))
      breaks false e = e

-- ---- each record above the one before is each above all before

rising : (bytes : List ℕ) (n : ℕ) → ((k : ℕ) → k < n → RecordRule bytes k) → (i j : ℕ) → i < j → j < n → identity_of bytes i < identity_of bytes j
rising bytes n h i zero l m = absurd (not-suc-le-zero l)
rising bytes n h i (suc j) l m = go (dec_lt i j) (λ l'. rising bytes n h i j l' (omega arith))
  where
    next : identity_of bytes j < identity_of bytes (suc j)
    next = (h (suc j) m).rises j refl

    go : Dec (i < j) → (i < j → identity_of bytes i < identity_of bytes j) → identity_of bytes i < identity_of bytes (suc j)
    go (yes l') f = lt_trans (f l') next
    go (no l') f = let e : i ≡ j = omega arith in rw e next

module _ (bytes : List ℕ) where
  kept-valid : LengthRule bytes → records_in bytes ≤ broken_of bytes → Valid bytes
  kept-valid s h =
      let keeps : (k : ℕ) → k < records_in bytes → RecordRule bytes k = λ k l. kept-before bytes k (omega arith) in
      record { size = s; stars = λ i l. (keeps i l).star; rising = rising bytes (records_in bytes) keeps }

  valid-record : Valid bytes → (i : ℕ) → i < records_in bytes → RecordRule bytes i
  valid-record v i h = record { star = v.stars i h; rises = λ j e. v.rising j i (omega arith) h }

  valid-kept : Valid bytes → records_in bytes ≤ broken_of bytes
  valid-kept v = go (dec_lt (broken_of bytes) (records_in bytes))
    where
      go : Dec (broken_of bytes < records_in bytes) → records_in bytes ≤ broken_of bytes
      go (yes h) = absurd ((first-broken bytes h).breaks (valid-record v (broken_of bytes) h))
      go (no h) = omega arith

  -- none of a valid catalogue's is broken
  pub broken-none : Valid bytes → broken_of bytes ≡ records_in bytes
  broken-none v = omega (arith, valid-kept v, (broken-is bytes).most)

-- ---- what the check comes to

-- the three ways that it can go
data Way (bytes : List ℕ) : Type 0 where
  length-wrong : (LengthRule bytes → ⊥) → first_applying (refusals_of bytes) ≡ refusal_of catalogue 0 → Way bytes
  record-wrong : LengthRule bytes → FirstBroken bytes (broken_of bytes) → first_applying (refusals_of bytes) ≡ refusal_of record_rule (broken_of bytes) → Way bytes
  all_right : Valid bytes → first_applying (refusals_of bytes) ≡ Ok tt → Way bytes

way : (bytes : List ℕ) → Way bytes
way bytes = go (length_ok (length bytes)) refl (dec_lt (broken_of bytes) (records_in bytes))
  where
    go : (t : Bool) → length_ok (length bytes) ≡ t → Dec (broken_of bytes < records_in bytes) → Way bytes
    go false e d = length-wrong (λ s. contradiction (sym e ∙ length-ok bytes s)) (wrong-length bytes e)
    go true e (yes h) = record-wrong (ok-length bytes e) (first-broken bytes h) (one-broken bytes e h)
    go true e (no h) =
        let k : records_in bytes ≤ broken_of bytes = omega arith in
        all_right (kept-valid bytes (ok-length bytes e) k) (none-broken bytes e k)

-- two outcomes that differ are not both given
same : {o : Result Unit Refusal} (n m p q : ℕ) → o ≡ refusal_of n p → o ≡ refusal_of m q → (n ≡ m) × (p ≡ q)
same n m p q e f =
    let d : ◌≡◌ {A = Refusal} (record { number = n; place = p }) (record { number = m; place = q }) = cc in
    (ap (λ (r : Refusal). r.number) d, ap (λ (r : Refusal). r.place) d)

apart : {A : Type 0} {o : Result Unit Refusal} (n m p q : ℕ) → o ≡ refusal_of n p → o ≡ refusal_of m q → (n ≡ m → ⊥) → A
apart n m p q e f d = absurd (d (same n m p q e f).0)

never : {A : Type 0} {o : Result Unit Refusal} (n p : ℕ) → o ≡ refusal_of n p → o ≡ Ok tt → A
never n p e f = contradiction (cc)

module _ (bytes : List ℕ) where
  -- number 6
  pub length-refused : (LengthRule bytes → ⊥) → first_applying (refusals_of bytes) ≡ refusal_of catalogue 0
  length-refused n = go (way bytes)
    where
      go : Way bytes → first_applying (refusals_of bytes) ≡ refusal_of catalogue 0
      go (length-wrong w e) = e
      go (record-wrong s f e) = absurd (n s)
      go (all_right v e) = absurd (n v.size)

  pub refused-length : (p : ℕ) → first_applying (refusals_of bytes) ≡ refusal_of catalogue p → LengthRule bytes → ⊥
  refused-length p h s = go (way bytes)
    where
      go : Way bytes → ⊥
      go (length-wrong w e) = w s
      go (record-wrong _ f e) = apart catalogue record_rule p (broken_of bytes) h e (λ d. omega arith)
      go (all_right v e) = never catalogue p h e

  -- number 7
  pub record-refused : (p : ℕ) → LengthRule bytes → FirstBroken bytes p → first_applying (refusals_of bytes) ≡ refusal_of record_rule p
  record-refused p s f =
      let e = broken-first bytes f in
      one-broken bytes (length-ok bytes s) (omega (arith, f.inside)) ∙ ap (refusal_of record_rule) (sym e)

  pub refused-record : (p : ℕ) → first_applying (refusals_of bytes) ≡ refusal_of record_rule p → LengthRule bytes × FirstBroken bytes p
  refused-record p h = go (way bytes)
    where
      go : Way bytes → LengthRule bytes × FirstBroken bytes p
      go (length-wrong w e) = apart record_rule catalogue p 0 h e (λ d. omega arith)
      go (record-wrong s f e) = (s, subst (FirstBroken bytes) (same record_rule record_rule (broken_of bytes) p e h).1 f)
      go (all_right v e) = never record_rule p h e

  -- neither
  pub valid-accepted : Valid bytes → first_applying (refusals_of bytes) ≡ Ok tt
  valid-accepted v = none-broken bytes (length-ok bytes v.size) (valid-kept bytes v)

  pub accepted-valid : first_applying (refusals_of bytes) ≡ Ok tt → Valid bytes
  accepted-valid h = go (way bytes)
    where
      go : Way bytes → Valid bytes
      go (length-wrong w e) = never catalogue 0 e h
      go (record-wrong s f e) = never record_rule (broken_of bytes) e h
      go (all_right v e) = v

  -- ---- the same of the check's own answer

  pub valid-checked : Valid bytes → checked_of bytes ≡ Ok (records_in bytes)
  valid-checked v = checked bytes (valid-accepted v)

  pub checked-valid : (n : ℕ) → checked_of bytes ≡ Ok n → Valid bytes × (n ≡ records_in bytes)
  checked-valid n h =
      let a = count-accepted (records_in bytes) n (first_applying (refusals_of bytes)) (sym (checked bytes refl) ∙ h) in
      (accepted-valid a.0, a.1)

  pub checked_refused : (r : Refusal) → checked_of bytes ≡ Err r → first_applying (refusals_of bytes) ≡ Err r
  checked_refused r h = count-refused (records_in bytes) (first_applying (refusals_of bytes)) r (sym (checked bytes refl) ∙ h)
