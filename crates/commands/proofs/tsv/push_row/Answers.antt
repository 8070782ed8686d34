use Rattle.commands.proofs.TableLaws.{row_pushed}
use Rattle.commands.proofs.tsv.push_row.Goals as goal

pub returns : goal.returns
returns c =
    row_pushed c.args.owner c.args.entry c.args.bytes.now.items _ _ _ _ _ _ c.in_ok-push_place.ensures
    c.in_ok-push_rights.ensures c.in_ok-push_day.ensures c.in_ok-push_minute.ensures c.in_ok-push_size.ensures
    c.in_ok-push.ensures.items
