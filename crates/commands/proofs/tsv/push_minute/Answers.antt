use Rattle.commands.proofs.TableLaws.{minute_pushed}
use Rattle.commands.proofs.tsv.push_minute.Goals as goal

pub returns : goal.returns
returns c =
    minute_pushed c.args.minute c.args.bytes.now.items _ _ _ _ _ _ c.two_digits.ensures c.two_digits-2.ensures
    c.in_ok-extend_from_slice.ensures.items c.in_ok-push.ensures.items c.in_ok-extend_from_slice-2.ensures.items
    c.in_ok-push-2.ensures.items
