-- Which records are kept, in plain terms: exactly those within the limit that no other one within it is close to. Assumes nothing.
use Rattle.std.specs.Prelude.{Bool, ◌&&◌, ◌≡◌, List, ℕ, ◌<◌, eqb, ℤ}
use Rattle.std.proofs.Math.Bool.{true, false, not}
use Rattle.std.proofs.Math.Path.{refl}
use Rattle.std.proofs.Common.{sym, ap, ◌∙◌, arith}
use borrow.Author.Tests.{ltb-true, ltb-false, eqb-false, ne_eqb, not-true}
use Rattle.std.specs.Int.Signed.{le_z}
use Rattle.lists.specs.Contradiction.{contradiction}
use Rattle.lists.specs.First.{first as first_where}
use Rattle.lists.proofs.First.{first-is}
use Rattle.lists.specs.TestsLaws.{both_true}
use Rattle.catalogue.specs.Format.{records_in}
use Rattle.catalogue_cut.specs.Flight.{is_bright, product_of, crowds, is_crowded, is_kept}
use Rattle.catalogue_cut.specs.Kept.{Crowds, Stays, is_true, at_most, is-bright, bright-is}

module _ (bytes : List ℕ) (limit closeness : ℤ) (i : ℕ) where
  pub is-crowding : (j : ℕ) → j < records_in bytes → crowds bytes limit closeness i j ≡ true → Crowds bytes limit closeness i j
  unfolding crowds
  is-crowding j h e =
      let p = both_true (not (eqb j i) && is_bright bytes limit j) (le_z closeness (product_of bytes i j)) e in
      let q = both_true (not (eqb j i)) (is_bright bytes limit j) p.0 in
      record { inside = h; other = eqb-false j i (not-true _ q.0); bright = is-bright bytes limit j q.1; close = at_most p.1 }

  pub crowding-is : (j : ℕ) → Crowds bytes limit closeness i j → crowds bytes limit closeness i j ≡ true
  unfolding crowds
  crowding-is j c = rw (ne_eqb j i c.other, bright-is bytes limit j c.bright) (is_true (le_z closeness (product_of bytes i j)) c.close.le)

  -- the record that crowds it out, if it is crowded
  pub record Crowd : Type 0 where
    pub by : ℕ
    pub is : Crowds bytes limit closeness i by

  pub crowded-by : is_crowded bytes limit closeness i ≡ true → Crowd
  unfolding is_crowded
  crowded-by e =
      let n = records_in bytes in
      let f = crowds bytes limit closeness i in
      let h = ltb-true (first_where f n) n e in
      record { by = first_where f n; is = is-crowding (first_where f n) h ((first-is f n).taken h) }

  pub crowded-none : is_crowded bytes limit closeness i ≡ false → (j : ℕ) → Crowds bytes limit closeness i j → ⊥
  unfolding is_crowded
  crowded-none e j c =
      let n = records_in bytes in
      let f = crowds bytes limit closeness i in
      let h = ltb-false (first_where f n) n e in
      contradiction (sym ((first-is f n).none j (omega (arith, c.inside))) ∙ crowding-is j c)

  pub none-crowded : ((j : ℕ) → Crowds bytes limit closeness i j → ⊥) → is_crowded bytes limit closeness i ≡ false
  none-crowded f = go (is_crowded bytes limit closeness i) refl
    where
      go : (t : Bool) → is_crowded bytes limit closeness i ≡ t → is_crowded bytes limit closeness i ≡ false
      go true e = let c = crowded-by e in absurd (f c.by c.is)
      go false e = e

  pub some-crowded : (j : ℕ) → Crowds bytes limit closeness i j → is_crowded bytes limit closeness i ≡ true
  some-crowded j c = go (is_crowded bytes limit closeness i) refl
    where
      go : (t : Bool) → is_crowded bytes limit closeness i ≡ t → is_crowded bytes limit closeness i ≡ true
      go true e = e
      go false e = absurd (crowded-none e j c)

  -- ---- kept or not

  pub kept-stays : i < records_in bytes → is_kept bytes limit closeness i ≡ true → Stays bytes limit closeness i
  unfolding is_kept
  kept-stays h e =
      let p = both_true (is_bright bytes limit i) (not (is_crowded bytes limit closeness i)) e in
      record { inside = h; bright = is-bright bytes limit i p.0; alone = crowded-none (not-true _ p.1) }

  pub alone-kept : is_bright bytes limit i ≡ true → is_crowded bytes limit closeness i ≡ false → is_kept bytes limit closeness i ≡ true
  unfolding is_kept
  alone-kept b e = rw (b, e)

  pub stays-kept : Stays bytes limit closeness i → is_kept bytes limit closeness i ≡ true
  stays-kept s = alone-kept (bright-is bytes limit i s.bright) (none-crowded s.alone)

  -- the two reasons to go
  pub faint-goes : is_bright bytes limit i ≡ false → is_kept bytes limit closeness i ≡ false
  unfolding is_kept
  faint-goes e = rw e

  pub crowded-goes : is_crowded bytes limit closeness i ≡ true → is_kept bytes limit closeness i ≡ false
  unfolding is_kept
  crowded-goes e = go (is_kept bytes limit closeness i) refl
    where
      go : (t : Bool) → is_kept bytes limit closeness i ≡ t → is_kept bytes limit closeness i ≡ false
      go true d = contradiction (sym (ap not e) ∙ (both_true (is_bright bytes limit i) (not (is_crowded bytes limit closeness i)) d).1)
      go false d = d
