-- The second promise follows from the first.
use Rattle.std.proofs.Common.{◌≡◌, ap, ◌∙◌, List, ℕ, ◌<◌, ◌^◌, length, eq-eqb, arith}
use Rattle.std.proofs.lemmas.Grind.{common_steps}
use Rattle.std.specs.Prelude.{Result, Ok}
use Rattle.refusal.specs.declared.Refusal.{Refusal}
use Rattle.words.specs.Number.{number_at}
use Rattle.chain.specs.declared.Settings.{Settings}
use Rattle.files.specs.Settings.{settings_of, reading_of, reading_answer}
use Rattle.files.specs.SettingsLaws.{read_told}
use Rattle.files.proofs.read_settings.Goals as goal

-- a file of 32 bytes is read
read_whole : (bytes : List ℕ) → length bytes ≡ 32 → reading_of bytes ≡ Ok (settings_of bytes)
unfolding reading_of
read_whole bytes h = rw (eq-eqb (length bytes) 32 h)

pub returns-clause-value : goal.returns-clause-value
unfolding reading_of settings_of
returns-clause-value c = grind (arith, common_steps)

pub returns-clause-result_value : goal.returns-clause-result_value
returns-clause-result_value c =
    let whole = c.if-is_other_size.false in
    let focal : number_at c.args.bytes.now 16 4 < 2 ^ 53 = omega (arith, c.u32_at-3.type_inv, c.u32_at-3.ensures) in
    ap (λ (r : Result Settings Refusal). reading_answer r) (returns-clause-value c ∙ read_whole _ whole) ∙ read_told _ whole focal
