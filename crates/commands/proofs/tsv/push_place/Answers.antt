use Rattle.std.proofs.Common.{◌∙◌, ap}
use Rattle.spec_language.specs.Common.{trimmed}
use Rattle.commands.proofs.TableLaws.{place_pushed, from_blank}
use Rattle.commands.proofs.tsv.push_place.Goals as goal

pub trimmed-requires : goal.trimmed-requires
trimmed-requires c k d below = (c.text_of.ensures.text.1 k d below).0

pub trimmed-requires-2 : goal.trimmed-requires-2
trimmed-requires-2 c = from_blank c.args.name.ext c.extension_text.result c.extension_text.ensures

pub returns : goal.returns
returns c =
    place_pushed c.args.owner c.args.name c.args.bytes.now.items _ _ _ _ _ _ _ _ _
    (c.as_bytes.ensures.value ∙ c.as_str.ensures.value ∙ c.in_ok-place.ensures)
    (c.trimmed.ensures ∙ ap trimmed c.text_of.ensures.value)
    (c.trimmed-2.ensures ∙ ap trimmed c.extension_text.ensures) c.in_ok-extend_from_slice.ensures.items
    c.in_ok-push.ensures.items c.in_ok-extend_from_slice-2.ensures.items c.in_ok-push-2.ensures.items
    c.in_ok-extend_from_slice-3.ensures.items c.in_ok-push-3.ensures.items
