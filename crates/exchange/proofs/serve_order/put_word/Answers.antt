use Rattle.exchange.proofs.PutLaws.{has_put, has_not_put}
use Rattle.exchange.proofs.serve_order.put_word.Goals as goal

pub returns-in-Done : goal.returns-in-Done
returns-in-Done g c = has_put g.S.FileService.machine g.met.S.FileService.stands _ _ c.args.job c.args.address
    c.args.word c.event.result c.in-Done.is (rw c.into.ensures at c.event.ensures)

pub returns-in_default : goal.returns-in_default
returns-in_default g c = has_not_put g.S.FileService.machine g.met.S.FileService.stands _ _ c.args.job c.args.address
    c.args.word c.event.result c.in_default.not-Done (rw c.into.ensures at c.event.ensures)
