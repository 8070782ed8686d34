use Rattle.std.proofs.Common.{◌≡◌, ◌∙◌, ℕ, List, [], ◌∷◌, Some, sym, ap, subst, arith}
use Rattle.std.specs.Prelude.{IfSome, IfNone}
use Rattle.std.proofs.lemmas.List.{take_all}
use Rattle.spec_language.specs.Common.{Bytes, fitting}
use Rattle.commands.specs.Common.{IsFileName, IsPartialLine, line_list}
use Rattle.commands.proofs.NameLaws.{name_bytes, no_long_name}
use Rattle.commands.proofs.names.file_named.Goals as goal

pub returns-in-Some-Text-clause-some : goal.returns-in-Some-Text-clause-some
returns-in-Some-Text-clause-some c =
    let whole = subst (λ (l : List ℕ). IsPartialLine c.loop-byte.line l)
    (take_all c.loop-byte.byte-index c.args.text.now (omega (arith, c.loop-byte-test.false))) c.loop-byte.invariant in
    let line : Bytes c.in-Some-Text.text.now ∷ [] ≡ fitting c.args.text.now c.args.text.now =
    sym (ap line_list (c.in-Some-Text.is ∙ ap Some c.in-Some-Text.field-0-is)) ∙ c.last.ensures c.args.text.now whole in
    subst (λ (l : List ℕ). IfSome c.file_name.result (λ file. IsFileName l file.name file.ext))
    (name_bytes c.args.text.now c.in-Some-Text.text.now line) c.file_name.ensures.some

pub returns-in-Some-Text-clause-none : goal.returns-in-Some-Text-clause-none
returns-in-Some-Text-clause-none c =
    let whole = subst (λ (l : List ℕ). IsPartialLine c.loop-byte.line l)
    (take_all c.loop-byte.byte-index c.args.text.now (omega (arith, c.loop-byte-test.false))) c.loop-byte.invariant in
    let line : Bytes c.in-Some-Text.text.now ∷ [] ≡ fitting c.args.text.now c.args.text.now =
    sym (ap line_list (c.in-Some-Text.is ∙ ap Some c.in-Some-Text.field-0-is)) ∙ c.last.ensures c.args.text.now whole in
    subst (λ (l : List ℕ). IfNone c.file_name.result ((name ext : ℕ) → IsFileName l name ext → ⊥))
    (name_bytes c.args.text.now c.in-Some-Text.text.now line) c.file_name.ensures.none

pub returns-in-Some-TooLong-clause-none : goal.returns-in-Some-TooLong-clause-none
returns-in-Some-TooLong-clause-none c =
    let whole = subst (λ (l : List ℕ). IsPartialLine c.loop-byte.line l)
    (take_all c.loop-byte.byte-index c.args.text.now (omega (arith, c.loop-byte-test.false))) c.loop-byte.invariant in
    no_long_name c.args.text.now (sym (ap line_list (c.in-Some-TooLong.is ∙ ap Some c.in-Some-TooLong.field-0-is))
    ∙ c.last.ensures c.args.text.now whole)
