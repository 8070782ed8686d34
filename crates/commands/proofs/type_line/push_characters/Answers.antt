use Rattle.std.proofs.Common.{rules, ◌≡◌, false, nat_eq, ◌++◌, ◌∙◌, ap, sym, subst}
use Rattle.std.specs.Prelude.{flat_map, OnOk}
use Rattle.std.specs.List.{list_any}
use Rattle.std.proofs.lemmas.List.{take_all}
use Rattle.spec_language.specs.Common.{not_null}
use Rattle.commands.proofs.WordLaws.{none_null}
use Rattle.commands.proofs.type_line.push_characters.Goals as goal

pub returns-then-not-contains : goal.returns-then-not-contains
returns-then-not-contains c =
    let none : list_any (λ y. nat_eq y 0) c.as_slice.result.now ≡ false = search rules in
    let put : OnOk c.extend_from_slice.result (c.extend_from_slice.new.self.items
    ≡ c.args.bytes.now.items ++ c.as_slice-then-not-contains.result.now) = search rules in
    subst (λ l. OnOk c.extend_from_slice.result (c.extend_from_slice.new.self.items ≡ c.args.bytes.now.items ++ l))
    (c.as_slice-then-not-contains.ensures.value
    ∙ sym (none_null c.in-Ok.characters.items
    (subst (λ l. list_any (λ y. nat_eq y 0) l ≡ false) c.as_slice.ensures.value none))
    ∙ ap (flat_map not_null) c.in-Ok.ensures.value) put

pub returns : goal.returns
returns c =
    c.loop-character.invariant
    ∙ ap (λ l. c.args.bytes.now.items ++ flat_map not_null l)
    (take_all c.loop-character.character-index c.as_slice-character-items.result.now c.loop-character-test.false
    ∙ c.as_slice-character-items.ensures.value ∙ c.in-Ok.ensures.value)
