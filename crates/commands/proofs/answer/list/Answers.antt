use Rattle.commands.proofs.AnswerLaws.{spoke_shown}
use Rattle.commands.proofs.answer.list.Goals as goal

pub returns : goal.returns
returns g c = spoke_shown g.S.FileService.machine (λ bytes. bytes.items) c.show.result c.args.moment c.args.tally.now
    c.show.new.tally _ _ c.args.me c.args.place c.unwrap_or.result c.unwrap_or.ensures c.show.ensures
