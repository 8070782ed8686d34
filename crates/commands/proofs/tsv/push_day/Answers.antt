use Rattle.std.proofs.Common.{◌∙◌}
use Rattle.commands.proofs.TableLaws.{day_pushed}
use Rattle.commands.proofs.tsv.push_day.Goals as goal

pub returns : goal.returns
returns c =
    day_pushed c.args.date c.args.bytes.now.items _ _ _ _ _ _ _ _
    (c.as_bytes.ensures.value ∙ c.as_str.ensures.value ∙ c.in_ok-year.ensures.ok) c.two_digits.ensures
    c.two_digits-2.ensures
    c.in_ok-extend_from_slice.ensures.items c.in_ok-extend_from_slice-2.ensures.items c.in_ok-push.ensures.items
    c.in_ok-extend_from_slice-3.ensures.items c.in_ok-push-2.ensures.items
