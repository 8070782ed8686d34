use Rattle.std.proofs.lemmas.Result.{err_from_is_err_and}
use Rattle.commands.proofs.TypeLaws.{handed_on, not_opened, not_read, read_file}
use Rattle.commands.proofs.type_line.type_file.Goals as goal

pub returns-in_err-size : goal.returns-in_err-size
returns-in_err-size g c =
    let p = err_from_is_err_and c.from_residual.result c.from_residual.ensures.1 in
    not_opened g.S.FileService.machine _ _ c.args.moment c.args.spec _ c.in_err-size.field-0.0 _
    (handed_on p.1 p.2) c.in_err-size.ensures

pub returns-in_err-type_body : goal.returns-in_err-type_body
returns-in_err-type_body g c =
    let p = err_from_is_err_and c.from_residual-in_err-type_body.result c.from_residual-in_err-type_body.ensures.1 in
    not_read g.S.FileService.machine _ _ c.args.moment c.args.spec c.in_ok-size.size c.in_ok-size.ensures _ _ _
    c.type_body.result _ c.in_err-type_body.field-0.0 c.in_err-type_body.was (handed_on p.1 p.2) c.type_body.ensures

pub returns : goal.returns
returns g c = read_file g.S.FileService.machine _ _ c.args.moment c.args.spec c.in_ok-size.size c.in_ok-size.ensures
    _ _ _ _ c.in_ok-type_body.field-0 _ c.in_ok-type_body.ensures c.find_end.ensures
