-- A first star that makes a mirror image decides; otherwise all of them are asked.
use Rattle.std.proofs.Common.{◌≡◌, ◌+◌, ◌*◌, ◌<◌, ℕ, Bool, List, get_or, ℤ, pos, sym, arith, w64, rules}
use mir.Val.{SFits}
use borrow.Author.Tests.{ltb-true, lt-ltb}
use Rattle.std.proofs.Math.Facts.{to_z-of_z}
use Rattle.vectors.specs.handedness.Handedness.{triple_of, mirrored}
use Rattle.vectors.specs.Triples.{triple_at}
use Rattle.search_theory.proofs.Tests.{all-false, all_of, given-of, given-false, not-of, not_on}
use Rattle.search_fit.proofs.mirror.upright_beside.Goals as goal

-- what the test said of the first star that was read, by the product that was read
told : {y z : ℤ} (stars : List ℤ) (second star : ℕ) {a b : ℕ} {v : Bool} → y ≡ z → a ≡ b
    → v ≡ mirrored y (triple_of (triple_at stars a) (triple_at stars second) (triple_at stars star))
    → mirrored z (triple_of (triple_at stars b) (triple_at stars second) (triple_at stars star)) ≡ v
told stars second star d e h = cc

pub returns-then-is_mirrored : goal.returns-then-is_mirrored
returns-then-is_mirrored c =
    let f : SFits w64 (get_or c.args.turns.now (c.loop-j.j * 8 + c.args.k) (pos 0)) = search rules in
    let l : get_or c.args.look.now.chosen.now c.loop-j.j 0 < c.args.look.now.count = omega arith in
    sym (all-false _ _ c.loop-j.j (omega arith) (given-false _ _ (lt-ltb _ _ l)
    (not_on _ (told c.args.look.now.stars.now c.args.second c.args.star (to_z-of_z f) c.index-first.ensures c.if-is_mirrored.ensures))))

pub returns : goal.returns
returns c = sym (all_of _ _ (λ q l. given-of _ _ (λ t. not-of _ (c.loop-j.invariant q (omega arith) (ltb-true _ _ t)))))
