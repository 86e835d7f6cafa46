use Rattle.std.proofs.Common.{◌≡◌, refl, sym, ap, ◌∙◌, List, ◌∷◌, ◌++◌, ℕ, suc, ◌+◌, ◌*◌, ◌<◌, length, drop, set, get_or, drop-cons, add-one, arith, take, length-take-le, drop_of_length-le, append-nil}
use Rattle.std.proofs.Math.Seq.{set_at, append_snoc}
use Rattle.words.specs.Number.{number_at}
use Rattle.files.specs.Samples.{taken_into, taken-whole, taken_none, samples_of, samples-next, samples-length, count_fits}
use Rattle.files.proofs.read_samples.Goals as goal

-- one sample more
stored : (bytes room room₀ : List ℕ) (i x : ℕ) → i < length room₀ → room ≡ samples_of bytes i ++ drop i room₀ → x ≡ number_at bytes (2 * i) 2
    → set room i x ≡ samples_of bytes (i + 1) ++ drop (i + 1) room₀
stored bytes room room₀ i x h e f =
    rw (samples-next bytes i, add-one)
    (ap (λ (l : List ℕ). set l i x) (e ∙ ap (λ (l : List ℕ). samples_of bytes i ++ l) (drop-cons room₀ i 0 h))
    ∙ set_at (samples_of bytes i) (get_or room₀ i 0) (drop (suc i) room₀) x i (samples-length bytes i)
    ∙ ap (λ (y : ℕ). samples_of bytes i ++ (y ∷ drop (suc i) room₀)) f
    ∙ sym (append_snoc (samples_of bytes i) (number_at bytes (2 * i) 2) (drop (suc i) room₀)))

pub loop-i-init : goal.loop-i-init
unfolding samples_of
loop-i-init c =
    let f = count_fits (length c.args.bytes.now) c.args.width c.args.height in
    (omega (arith, f.0, c.sample_count-count.ensures), refl)

pub u16_at-requires : goal.u16_at-requires
u16_at-requires c = omega (arith, c.loop-i.invariant.0, length-take-le _ _ c.if-is_short.false)

pub loop-i-preserved : goal.loop-i-preserved
loop-i-preserved c =
    let v = c.loop-i.invariant in
    (v.0, stored _ c.loop-i.sample-items _ c.loop-i.i _ (omega arith) v.1 c.u16_at.ensures)

pub returns-clause-room_after : goal.returns-clause-room_after
returns-clause-room_after c =
    let n = c.sample_count-count.result in
    let room = c.args.room.now in
    let l = length-take-le n room c.if-is_short.false in
    let e : c.loop-i.i ≡ n = omega (arith, l) in
    ap (λ (xs : List ℕ). xs ++ drop n room)
    (c.loop-i.invariant.1 ∙ ap (λ (xs : List ℕ). samples_of c.args.bytes.now c.loop-i.i ++ xs) (drop_of_length-le (take n room) c.loop-i-test.false)
    ∙ append-nil _
    ∙ ap (samples_of c.args.bytes.now) e)

pub returns-then-is_short-clause-value : goal.returns-then-is_short-clause-value
returns-then-is_short-clause-value c = rw c.sample_count-count.ensures at (sym (taken_none _ _ c.if-is_short.true))

pub returns-then-is_short-clause-room_after : goal.returns-then-is_short-clause-room_after
unfolding samples_of
returns-then-is_short-clause-room_after c = refl

pub returns-clause-value : goal.returns-clause-value
returns-clause-value c = sym (taken-whole _ _ c.if-is_short.false) ∙ ap (taken_into _) c.sample_count-count.ensures
