use Rattle.std.proofs.lemmas.Result.{err_from_is_err_and}
use Rattle.commands.proofs.PutLaws.{part_deposited, part_announced}
use Rattle.commands.proofs.put_file.fill_part.Goals as goal

pub returns-in_err-deposit_all : goal.returns-in_err-deposit_all
returns-in_err-deposit_all g c =
    let p = err_from_is_err_and c.from_residual.result c.from_residual.ensures.1 in
    rw (p.1, p.2) (part_deposited g.S.FileService.machine c.args.moment c.args.encoding c.args.part.now _ _
    c.part_address.result c.part_address.ensures.value c.in_err-deposit_all.field-0.0 c.in_err-deposit_all.ensures)

pub returns : goal.returns
returns g c = part_announced g.S.FileService.machine c.args.moment c.args.encoding c.args.part.now _ _ _
    c.part_address.result c.part_address.ensures.value c.announce.result c.in_ok-deposit_all.ensures
    c.announce.ensures
