-- The marks at the end: a record is kept exactly where its mark is 0. Assumes nothing.
use Rattle.std.specs.Prelude.{◌≡◌, List, ℕ, ◌<◌, eqb, ℤ, get_or}
use Rattle.std.proofs.Common.{sym, ap, subst, ◌∙◌, arith, eq-eqb, ne_eqb}
use Rattle.std.specs.Int.Signed.{le_z}
use Rattle.vectors.specs.Triples.{triples, Listed}
use Rattle.catalogue.specs.Format.{records_in}
use Rattle.catalogue.specs.Stars.{stars_of}
use Rattle.catalogue.specs.Valid.{Valid}
use Rattle.catalogue.specs.ValidStars.{valid-length, valid-within}
use Rattle.catalogue_cut.specs.Flight.{is_bright, product_of, is_kept}
use Rattle.catalogue_cut.specs.Kept.{Crowds, is-bright, bright-is, at_most, is_true}
use Rattle.catalogue_cut.proofs.Kept.{some-crowded, none-crowded, faint-goes, crowded-goes, alone-kept}
use Rattle.catalogue_cut.specs.Pairs.{pair-product}
use Rattle.catalogue_cut.specs.marks.Marks.{faint_mark, Meets, Mark, faint, crowded, free, Judged, AllLooked}
use Rattle.catalogue_cut.specs.marks.MarksLaws.{judged-start}
use Rattle.catalogue_cut.specs.marks.Judge.{Settled}

module _ (bytes : List ℕ) (v : Valid bytes) where
  pub valid-listed : Listed 512 (stars_of bytes)
  valid-listed = record { few = omega (arith, valid-length bytes v, v.size.most); near = valid-within bytes v }

  pub star-count : triples (stars_of bytes) ≡ records_in bytes
  star-count = omega (arith, valid-length bytes v)

  module _ (limit closeness : ℤ) where
    -- another star that is close is another record that is
    meets-crowds : (k j : ℕ) → k < records_in bytes → j < records_in bytes → Meets (is_bright bytes limit) (stars_of bytes) closeness k j
        → Crowds bytes limit closeness k j
    meets-crowds k j h l t =
        record {
          inside = l;
          other = t.other;
          bright = is-bright bytes limit j t.within;
          close = at_most (ap (le_z closeness) (sym (pair-product bytes v k j h l)) ∙ t.near);
        }

    crowds-meets : (k j : ℕ) → k < records_in bytes → Crowds bytes limit closeness k j → Meets (is_bright bytes limit) (stars_of bytes) closeness k j
    crowds-meets k j h c =
        record {
          other = c.other;
          within = bright-is bytes limit j c.bright;
          near = ap (le_z closeness) (pair-product bytes v k j h c.inside) ∙ is_true (le_z closeness (product_of bytes k j)) c.close.le;
        }

    mark-kept : (k m : ℕ) → k < records_in bytes → Mark (is_bright bytes limit) (stars_of bytes) closeness k (records_in bytes) m
        → eqb m 0 ≡ is_kept bytes limit closeness k
    mark-kept k m h (faint b e) = ne_eqb m 0 (λ z. omega arith) ∙ sym (faint-goes bytes limit closeness k b)
    mark-kept k m h (crowded b j l t e) =
        let c = meets-crowds k j h (omega (arith, star-count)) t in
        ne_eqb m 0 (λ z. omega arith) ∙ sym (crowded-goes bytes limit closeness k (some-crowded bytes limit closeness k j c))
    mark-kept k m h (free b f e) =
        eq-eqb m 0 e ∙ sym (alone-kept bytes limit closeness k b (none-crowded bytes limit closeness k (λ j c. f j c.inside (crowds-meets k j h c))))

    judged-settled : (marks : List ℕ) (n : ℕ) → n ≡ records_in bytes → Judged (is_bright bytes limit) (stars_of bytes) closeness n marks
        → Settled bytes limit closeness marks
    judged-settled marks n e J =
        record {
          at = λ k h. mark-kept k (get_or marks k 0) h (subst (λ (u : ℕ). Mark (is_bright bytes limit) (stars_of bytes) closeness k u (get_or marks k 0)) e
              (J.before k (omega arith)));
        }

    -- what is left when every pair was looked at, from the marks by the magnitudes alone
    pub all_settled : (marks after : List ℕ)
        → ((k : ℕ) → k < records_in bytes → get_or marks k 0 ≡ faint_mark (is_bright bytes limit k))
        → AllLooked (stars_of bytes) closeness marks after
        → Settled bytes limit closeness after
    all_settled marks after f g =
        judged-settled after (triples (stars_of bytes)) star-count (g (is_bright bytes limit) (judged-start marks (λ k h. f k (omega (arith, star-count)))))
