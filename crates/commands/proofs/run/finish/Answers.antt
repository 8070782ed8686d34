use Rattle.std.proofs.Common.{subst, List}
use Rattle.std.proofs.lemmas.Result.{err_from_is_err_and}
use Rattle.spec_language.specs.Common.{Line}
use Rattle.commands.specs.Common.{IsParsedLine}
use Rattle.commands.proofs.SpokenLaws.{parsed_fits}
use Rattle.commands.proofs.StepLaws.{break_end, end_well, told_flushed, told_unwritten}
use Rattle.commands.proofs.run.finish.Goals as goal

pub returns-clause-ok : goal.returns-clause-ok
returns-clause-ok g c = end_well c.args.language g.S.FileService.machine _ _ _ _ _ c.args.moment c.args.session.now
    c.execute.new.session c.parse_line-parsed.result c.flush.new.waiting.items
    (λ seen h. subst (λ (l : List Line). IsParsedLine c.args.language c.args.moment l c.parse_line-parsed.result)
    (c.last.ensures seen h) c.parse_line-parsed.ensures)
    (told_flushed g.S.FileService.machine _ _ _ (g.W.Write.contents c.execute.new.writer) _ c.args.moment _ _ _ _ _ _ _
    c.execute.new.session.waiting.items _ c.in_ok-execute.ensures.told c.in_ok-flush.ensures.written)
    c.in_ok-flush.ensures.all c.close.ensures

pub returns-in_err-execute-clause-err : goal.returns-in_err-execute-clause-err
returns-in_err-execute-clause-err g c =
    let p = err_from_is_err_and c.from_residual.result c.from_residual.ensures.1 in
    rw (p.1, p.2) (break_end c.args.language g.S.FileService.machine _ _ _ _ _ c.args.moment c.args.session.now
    c.execute.new.session c.parse_line-parsed.result _
    (λ seen h. subst (λ (l : List Line). IsParsedLine c.args.language c.args.moment l c.parse_line-parsed.result)
    (c.last.ensures seen h) c.parse_line-parsed.ensures) c.in_err-execute.ensures.told)

pub returns-in_err-flush-clause-err : goal.returns-in_err-flush-clause-err
returns-in_err-flush-clause-err g c =
    let p = err_from_is_err_and c.from_residual-in_err-flush.result c.from_residual-in_err-flush.ensures.1 in
    rw (p.1, p.2) (break_end c.args.language g.S.FileService.machine c.in_err-flush.field-0.0 _ _ _ _ c.args.moment
    c.args.session.now c.execute.new.session c.parse_line-parsed.result c.flush.new.waiting.items
    (λ seen h. subst (λ (l : List Line). IsParsedLine c.args.language c.args.moment l c.parse_line-parsed.result)
    (c.last.ensures seen h) c.parse_line-parsed.ensures)
    (told_unwritten g.S.FileService.machine _ _ _ (g.W.Write.contents c.execute.new.writer) _ c.args.moment _ _ _ _ _ _
    _
    c.execute.new.session.waiting.items _ c.in_ok-execute.ensures.told c.in_err-flush.field-0.0
    c.in_err-flush.ensures.written))

pub execute-requires : goal.execute-requires
execute-requires g c = parsed_fits _ _ _ c.parse_line-parsed.result c.parse_line-parsed.ensures
