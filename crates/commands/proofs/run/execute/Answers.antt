use Rattle.commands.proofs.SpokenLaws.{said_fits}
use Rattle.commands.proofs.StepLaws.{told_nothing, told_said, told_ordered}
use Rattle.commands.proofs.run.execute.Goals as goal

pub returns-in-NoLine-clause-told : goal.returns-in-NoLine-clause-told
returns-in-NoLine-clause-told g c = told_nothing g.S.FileService.machine g.met.S.FileService.stands _
    _ c.args.moment c.args.session.now.user c.args.session.now.tally c.args.number c.args.parsed _
    c.in-NoLine.is

pub returns-in-CommandLine-clause-told : goal.returns-in-CommandLine-clause-told
returns-in-CommandLine-clause-told g c = told_said g.S.FileService.machine (λ bytes. bytes.items) c.say.result
    c.answer-text.result _ _ _ _ c.args.moment _ _ _ _ _ _ c.args.number c.args.parsed _ _
    (record {
      refused = c.with_line-session.ensures.refused;
      broke = c.with_line-session.ensures.broke;
      reason = c.with_line-session.ensures.reason;
    }) c.none-line.ensures c.in-CommandLine.meant c.in-CommandLine.is c.answer-text.ensures c.say.ensures

pub returns-in-EventLine-clause-told : goal.returns-in-EventLine-clause-told
returns-in-EventLine-clause-told g c = told_ordered g.S.FileService.machine
    (λ bytes. bytes.items) c.say-in-EventLine.result
    c.run_event-text.result _ _ _ _ c.args.moment _ _ _ _ _ _ c.args.number c.args.parsed _ _
    (record {
      refused = c.with_line-session-in-EventLine.ensures.refused;
      broke = c.with_line-session-in-EventLine.ensures.broke;
      reason = c.with_line-session-in-EventLine.ensures.reason;
    }) c.none-line-in-EventLine.ensures c.in-EventLine.order c.in-EventLine.is
    (c.run_event-text.ensures c.args.moment c.args.session.now.user) c.say-in-EventLine.ensures

pub answer-text-requires : goal.answer-text-requires
answer-text-requires g c = said_fits c.args.parsed c.in-CommandLine.meant c.in-CommandLine.is c.requires
