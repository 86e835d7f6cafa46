-- The lines as the code writes them, one after the other, and the part of a room that holds a list. Assumes nothing.
use Rattle.std.specs.Prelude.{◌≡◌, List, ◌++◌, ℕ, ◌+◌, ◌*◌, ◌/◌, ◌≤◌, ◌<◌, length, take, drop, get_or}
use Rattle.std.proofs.Math.Path.{sym}
use Rattle.std.proofs.Common.{ap, subst, ◌∙◌, add-one, arith, take_at, drop_at, drop-drop, length-append, length-drop, get_or-drop}
use Rattle.std.proofs.Math.ListN.{get_or-append}
use borrow.Author.Tests.{eq-eqb, ne_eqb}
use Rattle.refusal.specs.declared.Refusal.{Refusal}
use Rattle.catalogue_compare.specs.Changes.{changes_of}
use Rattle.catalogue_compare.specs.Read.{identity_at, kind_at}
use Rattle.catalogue_compare.specs.Compare.{compared_of, room_after}
use Rattle.catalogue_compare.proofs.CompareSteps.{records-are, records-fit, records-there}
use Rattle.words.specs.Number.{number_at}
use Rattle.words.specs.NumberLaws.{number_same}
use Rattle.text.specs.Decimal.{labelled}
use Rattle.text.specs.Refused.{refusal_line}
use Rattle.text.specs.Written.{Wrote}
use Rattle.text.specs.WrittenLaws.{wrote_none, wrote_then}
use Rattle.desk_lines.specs.compare.Lines.{change_label, change_line, lines_to, lines_of, changed_text, compare_text}
use Rattle.std.specs.Prelude.{Result, Ok, Err}

-- ---- by what is said

module _ (identity kind : ℕ) where
  pub label-removed : kind ≡ 1 → labelled "removed " identity ≡ change_label identity kind
  unfolding change_label
  label-removed e = sym (rw (eq-eqb kind 1 e))

  pub label-added : (kind ≡ 1 → ⊥) → kind ≡ 2 → labelled "added " identity ≡ change_label identity kind
  unfolding change_label
  label-added d e = sym (rw (ne_eqb kind 1 d, eq-eqb kind 2 e))

  pub label-changed : (kind ≡ 1 → ⊥) → (kind ≡ 2 → ⊥) → labelled "changed " identity ≡ change_label identity kind
  unfolding change_label
  label-changed d e = sym (rw (ne_eqb kind 1 d, ne_eqb kind 2 e))

-- ---- one line more

pub lines_start : (list room : List ℕ) → Wrote room 0 (lines_to list 0) room 0
unfolding lines_to
lines_start list room = wrote_none room 0

lines_next : (list : List ℕ) (n : ℕ) → lines_to list (n + 1) ≡ lines_to list n ++ change_line (identity_at list n) (kind_at list n)
unfolding lines_to
lines_next list n = rw add-one

-- what is left of a list behind its first k records
pub record Left (list : List ℕ) (k size : ℕ) (rest : List ℕ) : Type 0 where
  pub eight : size ≡ 8
  pub behind : rest ≡ drop (8 * k) list
  pub inside : 8 * k ≤ length list

pub left-all : (list : List ℕ) {size : ℕ} {rest : List ℕ} → size ≡ 8 → rest ≡ list → Left list 0 size rest
left-all list e f = record { eight = e; behind = f; inside = omega arith }

-- its first eight bytes are the next record of the list, and the others are what is left behind that
module _ (first more : List ℕ) {list rest : List ℕ} {k size : ℕ} (h : Left list k size rest) (e : rest ≡ first ++ more) (l : length first ≡ size) where
  pub left-next : {next : ℕ} → next ≡ size → Left list (k + 1) next more
  left-next f =
      let n : 8 * k + 8 ≡ 8 * (k + 1) = omega arith in
      record {
        eight = f ∙ h.eight;
        behind =
            sym (drop_at first more 8 (l ∙ h.eight))
            ∙ ap (drop 8) (sym e ∙ h.behind)
            ∙ drop-drop 8 (8 * k) list
            ∙ ap (λ (m : ℕ). drop m list) n;
        inside = omega (arith, h.eight, l, ap length e, ap length h.behind, length-append first more, length-drop (8 * k) list);
      }

  number-there : (at : ℕ) → at + 4 ≤ 8 → number_at first at 4 ≡ number_at list (8 * k + at) 4
  number-there at i =
      number_same first list at (8 * k + at) 4
      (λ j q.
      let o : 8 * k + (at + j) ≡ 8 * k + at + j = omega arith in
      sym (get_or-append first more 0 (at + j) (omega (arith, l, h.eight)))
      ∙ ap (λ (xs : List ℕ). get_or xs (at + j) 0) (sym e ∙ h.behind)
      ∙ get_or-drop (8 * k) list (at + j) 0
      ∙ ap (λ (m : ℕ). get_or list m 0) o)

  pub identity-there : number_at first 0 4 ≡ identity_at list k
  identity-there =
      let o : 8 * k + 0 ≡ 8 * k = omega arith in
      number-there 0 (omega arith) ∙ ap (λ (m : ℕ). number_at list m 4) o

  pub kind-there : number_at first 4 4 ≡ kind_at list k
  kind-there = number-there 4 (omega arith)

-- fewer than eight bytes are left behind the last
pub left-none : {list rest : List ℕ} {k size : ℕ} → Left list k size rest → length rest < size → k ≡ length list / 8
left-none {list} {rest} {k} {size} h l = omega (arith, h.eight, h.inside, ap length h.behind, length-drop (8 * k) list)

pub lines_more : (list : List ℕ) (n : ℕ) {a b c : List ℕ} {to end identity kind : ℕ} → identity ≡ identity_at list n → kind ≡ kind_at list n
    → Wrote a 0 (lines_to list n) b to → Wrote b to (change_line identity kind) c end → Wrote a 0 (lines_to list (n + 1)) c end
lines_more list n {a} {c = c} {end = end} e f p q =
    subst (λ (l : List ℕ). Wrote a 0 l c end) ((λ i. lines_to list n ++ change_line (e i) (f i)) ∙ sym (lines_next list n)) (wrote_then p q)

pub lines-all : (list : List ℕ) (n : ℕ) {a b : List ℕ} {end : ℕ} → n ≡ length list / 8 → Wrote a 0 (lines_to list n) b end → Wrote a 0 (lines_of list) b end
lines-all list n {a} {b} {end} e p = subst (λ (k : ℕ). Wrote a 0 (lines_to list k) b end) e p

-- ---- the text of two catalogues

module _ (first second : List ℕ) where
  pub text-refused : (r : Refusal) → compared_of first second 8192 ≡ Err r → refusal_line r ≡ compare_text first second
  unfolding compare_text
  text-refused r e = sym (ap (λ (c : Result ℕ Refusal). changed_text (changes_of first second) c) e)

  pub text-listed : (n : ℕ) → compared_of first second 8192 ≡ Ok n → lines_of (changes_of first second) ≡ compare_text first second
  unfolding compare_text
  text-listed n e = sym (ap (λ (c : Result ℕ Refusal). changed_text (changes_of first second) c) e)

  -- the list stands at the front of a room of 8,192 bytes that was lent for it
  module _ (room : List ℕ) (long : length room ≡ 8192) (n : ℕ) (e : compared_of first second 8192 ≡ Ok n) where
    same : compared_of first second (length room) ≡ Ok n
    same = ap (compared_of first second) long ∙ e

    pub list-fits : 8 * n ≤ 8192
    list-fits = omega (arith, records-fit first second room n same)

    pub list-long : length (changes_of first second) ≡ 8 * n
    list-long = records-are first second room n same

    pub list-front : take (8 * n) (room_after first second room) ≡ changes_of first second
    list-front =
        ap (take (8 * n)) (records-there first second room n same)
        ∙ take_at (changes_of first second) (drop (length (changes_of first second)) room) (8 * n) list-long
