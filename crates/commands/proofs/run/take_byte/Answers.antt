use Rattle.std.proofs.Common.{◌∙◌, subst, sym, List, []}
use Rattle.spec_language.specs.Common.{Line}
use Rattle.commands.specs.Common.{IsPartialLine, IsParsedLine}
use Rattle.commands.specs.declared.input.PartialLine.{PartialLine}
use Rattle.commands.proofs.SpokenLaws.{parsed_fits}
use Rattle.commands.proofs.StepLaws.{step_byte, step_feed, break_feed}
use Rattle.commands.proofs.run.take_byte.Goals as goal

pub returns-then-byte-ne10-clause-ok : goal.returns-then-byte-ne10-clause-ok
returns-then-byte-ne10-clause-ok g c = step_byte c.args.language g.S.FileService.machine g.met.S.FileService.stands
    _ _ c.args.moment c.args.session.now c.push.new.self c.args.byte c.if-byte-ne10.true c.push.ensures

pub returns-clause-ok : goal.returns-clause-ok
returns-clause-ok g c = step_feed c.args.language g.S.FileService.machine c.execute.result _ _ _ _ c.args.moment
    c.args.session.now c.execute.new.session c.parse_line-parsed.result c.args.byte c.if-byte-ne10.false
    (subst (λ (h : PartialLine). IsPartialLine h []) (sym c.execute.ensures.held) c.new-session.ensures)
    (c.execute.ensures.line ∙ c.saturating_add-session.ensures)
    (λ seen h. subst (λ (l : List Line). IsParsedLine c.args.language c.args.moment l c.parse_line-parsed.result)
    (c.ended.ensures seen h) c.parse_line-parsed.ensures) c.execute.ensures.told

pub returns-clause-err : goal.returns-clause-err
returns-clause-err g c = break_feed c.args.language g.S.FileService.machine c.execute.result _ _ _ _ c.args.moment
    c.args.session.now c.execute.new.session c.parse_line-parsed.result c.args.byte c.if-byte-ne10.false
    (λ seen h. subst (λ (l : List Line). IsParsedLine c.args.language c.args.moment l c.parse_line-parsed.result)
    (c.ended.ensures seen h) c.parse_line-parsed.ensures) c.execute.ensures.told

pub execute-requires : goal.execute-requires
execute-requires g c = parsed_fits _ _ _ c.parse_line-parsed.result c.parse_line-parsed.ensures
