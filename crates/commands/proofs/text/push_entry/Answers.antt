use Rattle.std.proofs.Common.{◌≡◌, ◌∙◌}
use Rattle.std.specs.Fmt.{decimal}
use Rattle.commands.proofs.TextLaws.{entry_pushed}
use Rattle.commands.proofs.text.push_entry.Goals as goal

pub returns : goal.returns
returns c =
    let text : c.as_str.result.now ≡ decimal c.args.entry.blocks = c.as_str.ensures.value ∙ c.in_ok-blocks.ensures.ok in
    entry_pushed c.args.entry c.args.bytes.now.items _ _ _ _ _ _ _ _ _ _ text c.three_digits.ensures
    c.in_ok-push_name.ensures c.in_ok-push.ensures.items c.in_ok-push_right.ensures
    c.in_ok-extend_from_slice.ensures.items c.in_ok-extend_from_slice-2.ensures.items
    c.in_ok-extend_from_slice-3.ensures.items c.in_ok-push_day.ensures c.in_ok-push-2.ensures.items
