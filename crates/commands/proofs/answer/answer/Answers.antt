use Rattle.std.proofs.Common.{rules}
use Rattle.commands.proofs.AnswerLaws.{spoke_stranger, spoke_unknown}
use Rattle.commands.proofs.answer.answer.Goals as goal

pub returns-in_default : goal.returns-in_default
returns-in_default g c =
    spoke_unknown g.S.FileService.machine g.met.S.FileService.stands (λ bytes. bytes.items) c.refuse.result
    c.args.moment c.args.tally.now c.refuse.new.tally _ c.args.user.now _ c.in_default.is
    c.refuse.ensures.refused c.refuse.ensures.broke c.refuse.ensures.text

pub returns-in-None : goal.returns-in-None
returns-in-None g c = rw (c.in-Some.is)
    (spoke_stranger g.S.FileService.machine g.met.S.FileService.stands (λ bytes. bytes.items)
    c.refuse_not_logged_in.result
    c.args.moment c.args.tally.now c.refuse_not_logged_in.new.tally _ c.args.user.now c.in-Some.command
    (λ owner. search rules)
    c.in-None.is c.refuse_not_logged_in.ensures.refused c.refuse_not_logged_in.ensures.broke
    c.refuse_not_logged_in.ensures.text)
