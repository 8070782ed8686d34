use Rattle.commands.proofs.TableLaws.{rights_pushed}
use Rattle.commands.proofs.tsv.push_rights.Goals as goal

pub returns : goal.returns
returns c =
    rights_pushed c.args.protection c.args.mode c.args.bytes.now.items _ _ _ _ _ _ c.three_digits.ensures
    c.two_octal.ensures c.in_ok-extend_from_slice.ensures.items c.in_ok-push.ensures.items
    c.in_ok-extend_from_slice-2.ensures.items c.in_ok-push-2.ensures.items
