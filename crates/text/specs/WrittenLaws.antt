-- What `written` is for: where there is room, the bytes stand at the place and nothing else changes; and bytes behind bytes are one text.
-- Assumes nothing.
use Rattle.std.specs.Prelude.{◌≡◌, refl, List, [], ◌∷◌, ◌++◌, ℕ, suc, ◌+◌, ◌≤◌, length, take, drop, set}
use Rattle.std.proofs.Common.{sym, ap, ◌∙◌, add-one, arith, length-set, length-append}
use Rattle.std.proofs.Math.Decide.{dec_le}
use Rattle.std.proofs.lemmas.List.Edits.{sets, sets-eq}
use Rattle.std.proofs.Math.Seq.{set_out}
use Rattle.text.specs.Written.{written, reached, Wrote}

pub written-length : (room : List ℕ) (at : ℕ) (bytes : List ℕ) → length (written room at bytes) ≡ length room
unfolding written
written-length room at [] = refl
written-length room at (b ∷ bytes) = written-length (set room at b) (at + 1) bytes ∙ length-set room at b

-- nothing is written behind the end
pub written_behind : (room : List ℕ) (at : ℕ) (bytes : List ℕ) → length room ≤ at → written room at bytes ≡ room
unfolding written
written_behind room at [] h = refl
written_behind room at (b ∷ bytes) h = rw (set_out room at b h) (written_behind room (at + 1) bytes (omega arith))

-- where there is room, the bytes stand at the place
pub written-whole : (room : List ℕ) (at : ℕ) (bytes : List ℕ) → at + length bytes ≤ length room
    → written room at bytes ≡ take at room ++ bytes ++ drop (at + length bytes) room
unfolding written
written-whole room at bytes h = by room at bytes ∙ sets-eq bytes room at h
  where
    by : (room : List ℕ) (at : ℕ) (bytes : List ℕ) → written room at bytes ≡ sets room at bytes
    by room at [] = refl
    by room at (b ∷ bytes) = rw (add-one at) (by (set room at b) (suc at) bytes)

append-written : (room : List ℕ) (at : ℕ) (xs ys : List ℕ) → written (written room at xs) (at + length xs) ys ≡ written room at (xs ++ ys)
unfolding written
append-written room at [] ys = ap (λ (k : ℕ). written room k ys) (omega arith)
append-written room at (x ∷ xs) ys =
    ap (λ (k : ℕ). written (written (set room at x) (at + 1) xs) k ys) (omega arith)
    ∙ append-written (set room at x) (at + 1) xs ys

-- bytes put behind bytes are one text
both : (room : List ℕ) (at : ℕ) (xs ys : List ℕ) → Dec (at + length xs ≤ length room) → written (written room at xs) (reached (length room) at (length xs)) ys
    ≡ written room at (xs ++ ys)
both room at xs ys (yes h) = ap (λ (k : ℕ). written (written room at xs) k ys) (omega arith) ∙ append-written room at xs ys
both room at xs ys (no h) =
    written_behind (written room at xs) (reached (length room) at (length xs)) ys (omega (arith, written-length room at xs))
    ∙ sym (written_behind (written room at xs) (at + length xs) ys (omega (arith, written-length room at xs)))
    ∙ append-written room at xs ys

pub wrote_none : (room : List ℕ) (at : ℕ) → Wrote room at [] room at
unfolding written
wrote_none room at = record { room = refl; place = omega arith }

pub wrote_then : {a b c xs ys : List ℕ} {at to end : ℕ} → Wrote a at xs b to → Wrote b to ys c end → Wrote a at (xs ++ ys) c end
wrote_then {a} {b} {c} {xs} {ys} {at} {to} {end} p q =
    record {
      room = q.room ∙ (λ i. written (p.room i) (p.place i) ys) ∙ both a at xs ys (dec_le (at + length xs) (length a));
      place = omega (arith, q.place, p.place, ap length p.room, written-length a at xs, length-append xs ys);
    }

pub wrote-length : {a b xs : List ℕ} {at to : ℕ} → Wrote a at xs b to → length b ≡ length a
wrote-length {a} {b} {xs} {at} p = ap length p.room ∙ written-length a at xs
