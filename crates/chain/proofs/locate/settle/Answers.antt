-- The search's refusal, the attitude's, or the answer.
use Rattle.std.proofs.Common.{◌≡◌, sym, ap, ◌∙◌, List, ℕ, ℤ, ◌/◌, length, arith}
use Rattle.std.specs.Prelude.{Result, Ok}
use Rattle.refusal.specs.declared.Refusal.{Refusal}
use Rattle.refusal.specs.Table.{answered}
use Rattle.frame_list.specs.declared.Report.{Report}
use Rattle.catalogue.specs.Format.{records_in}
use Rattle.catalogue.specs.Stars.{stars_of}
use Rattle.catalogue.specs.ValidStars.{valid-length}
use Rattle.search.specs.declared.Identification.{Identification}
use Rattle.attitude.specs.declared.Matrix.{Matrix}
use Rattle.attitude.specs.orient.Orient.{orientation_of}
use Rattle.chain.specs.Chain.{refused_with, oriented, settled_of}
use Rattle.chain.proofs.locate.settle.Goals as goal

-- where the search found something, the attitude's outcome decides
settled-is : (report : Report) (directions : List ℤ) (bytes : List ℕ) (found : Identification) {stars : List ℤ} {o : Result Matrix Refusal} → stars ≡ stars_of bytes
    → found.outcome ≡ Ok tt → o ≡ orientation_of directions stars found.stars → oriented report found.stars o ≡ settled_of report directions bytes found
unfolding settled_of
settled-is report directions bytes found l k e =
    let q = e ∙ ap (λ (s : List ℤ). orientation_of directions s found.stars) l in
    sym (λ i. answered refused_with (oriented report found.stars (sym q i)) (k i))

-- as many stars as the catalogue has records
pub attitude_of-requires : goal.attitude_of-requires
attitude_of-requires c =
    let bytes = c.args.bytes.now in
    let l = ap length (c.all.ensures ∙ c.of-stars.ensures) ∙ valid-length bytes c.requires.catalogue in
    let n : length c.all.result.now / 3 ≡ records_in bytes = omega (arith, l) in
    (c.requires.few, rw n (c.requires.two c.in-Ok.is))

pub returns-in-Err : goal.returns-in-Err
unfolding settled_of
returns-in-Err c =
    let a = c.args in
    let o = oriented a.report a.found.stars (orientation_of a.directions.now (stars_of a.bytes.now) a.found.stars) in
    c.refused.ensures ∙ sym (ap (answered refused_with o) c.in-Err.is)

pub returns-in-Err-attitude_of : goal.returns-in-Err-attitude_of
returns-in-Err-attitude_of c =
    let a = c.args in
    let l = c.all.ensures ∙ c.of-stars.ensures in
    c.refused-in-Err-attitude_of.ensures ∙ sym (ap (oriented a.report a.found.stars) c.in-Err-attitude_of.is)
    ∙ settled-is a.report a.directions.now a.bytes.now a.found l c.in-Ok.is c.attitude_of.ensures

pub returns-in-Ok-attitude_of : goal.returns-in-Ok-attitude_of
returns-in-Ok-attitude_of c =
    let a = c.args in
    let l = c.all.ensures ∙ c.of-stars.ensures in
    ap (λ (o : Result Unit Refusal). record { outcome = o; report = a.report; stars = a.found.stars; matrix = c.in-Ok-attitude_of.matrix }) c.in-Ok.is
    ∙ sym (ap (oriented a.report a.found.stars) c.in-Ok-attitude_of.is)
    ∙ settled-is a.report a.directions.now a.bytes.now a.found l c.in-Ok.is c.attitude_of.ensures
