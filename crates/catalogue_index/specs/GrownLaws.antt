-- Records added to those at the front of a room, one after the other. Assumes nothing.
use Rattle.std.specs.Prelude.{◌≡◌, ℕ, ◌+◌, ◌*◌, ◌≤◌, List, [], ◌∷◌, ◌++◌, length, take, drop, refl}
use Rattle.std.proofs.Common.{sym, ap, subst, ◌∙◌, append_assoc, append-nil, arith, length-append, drop-drop, take_at, drop_at}
use Rattle.std.proofs.lemmas.List.Edits.{sets}
use Rattle.catalogue_index.specs.records.Format.{record_of, encoded}
use Rattle.catalogue_index.specs.records.FormatLaws.{set-behind, encoded-length}
use Rattle.catalogue_index.specs.Index.{collected}
use Rattle.catalogue_index.specs.IndexSteps.{collected-next}
use Rattle.catalogue_index.specs.Grown.{Grown}

pub grown-none : (at : ℕ) (room : List ℕ) → Grown at [] room room
grown-none at room = record { grown = λ ks rest e f. f ∙ ap (λ (l : List ℕ). encoded l ++ rest) (sym (append-nil ks)) }

pub grown-one : (at k : ℕ) (room : List ℕ) → 12 * at + 12 ≤ length room → Grown at (k ∷ []) room (sets room (12 * at) (record_of k))
grown-one at k room h = record { grown = go }
  where
    go : (ks rest : List ℕ) → at ≡ length ks → room ≡ encoded ks ++ rest
        → sets room (12 * at) (record_of k) ≡ encoded (ks ++ (k ∷ [])) ++ drop (12 * length (k ∷ [])) rest
    go ks rest e f =
        let l = ap length f ∙ length-append (encoded ks) rest in
        let n = encoded-length ks in
        (λ i. sets (f i) (12 * e i) (record_of k)) ∙ set-behind ks rest k (omega arith)

pub grown-on : {at : ℕ} {xs ys before mid after : List ℕ} → Grown at xs before mid → Grown (at + length xs) ys mid after → Grown at (xs ++ ys) before after
grown-on {at} {xs} {ys} {before} {mid} {after} p q = record { grown = go }
  where
    go : (ks rest : List ℕ) → at ≡ length ks → before ≡ encoded ks ++ rest → after ≡ encoded (ks ++ (xs ++ ys)) ++ drop (12 * length (xs ++ ys)) rest
    go ks rest e f =
        let n : at + length xs ≡ length (ks ++ xs) = omega (arith, length-append ks xs) in
        let m : 12 * length xs + 12 * length ys ≡ 12 * length (xs ++ ys) = omega (arith, length-append xs ys) in
        q.grown (ks ++ xs) (drop (12 * length xs) rest) n (p.grown ks rest e f)
        ∙ (λ i. encoded (append_assoc ks xs ys i) ++ (drop-drop (12 * length ys) (12 * length xs) rest ∙ ap (λ (j : ℕ). drop j rest) m) i)

-- the records of a number n, behind those of the numbers before it
pub grown-empty : (f : ℕ → List ℕ) (at : ℕ) (room : List ℕ) → Grown at (collected 0 f) room room
unfolding collected
grown-empty f at room = grown-none at room

pub grown-next : (f : ℕ → List ℕ) (n : ℕ) {at next : ℕ} {before mid after : List ℕ} → Grown at (collected n f) before mid → next ≡ at + length (collected n f)
    → Grown next (f n) mid after
    → Grown at (collected (n + 1) f) before after
grown-next f n {at} {next} {before} {mid} {after} p e q =
    subst (λ (l : List ℕ). Grown at l before after) (sym (collected-next f n)) (grown-on p (subst (λ (k : ℕ). Grown k (f n) mid after) e q))

-- from an empty front on
pub grown-all : {xs before after : List ℕ} → Grown 0 xs before after → after ≡ encoded xs ++ drop (12 * length xs) before
unfolding encoded
grown-all {xs} {before} p = p.grown [] before refl refl

-- the front and the rest of such a room
module _ (ks rest room : List ℕ) (n : ℕ) (e : n ≡ length ks) (f : room ≡ encoded ks ++ rest) where
  long : length (encoded ks) ≡ 12 * n
  long = encoded-length ks ∙ ap (λ (m : ℕ). 12 * m) (sym e)

  pub front_of : take (12 * n) room ≡ encoded ks
  front_of = ap (take (12 * n)) f ∙ take_at (encoded ks) rest (12 * n) long

  pub rest_of : drop (12 * n) room ≡ rest
  rest_of = ap (drop (12 * n)) f ∙ drop_at (encoded ks) rest (12 * n) long
