use Rattle.commands.proofs.BodyLaws.{end_found, end_missing, end_other}
use Rattle.commands.proofs.read_body.find_end.Goals.{in_default-via-in-Stopped+else-status-ne0}
use Rattle.commands.proofs.read_body.find_end.Goals.{in_default-via-in_default}
use Rattle.commands.proofs.read_body.find_end.Goals as goal

pub returns-in-Stopped : goal.returns-in-Stopped
returns-in-Stopped g c =
    end_found g.S.FileService.machine g.met.S.FileService.stands c.args.service.now c.event-reply.new.self
    c.args.moment c.in_event.result c.in_event.ensures c.event-reply.result
    c.event-reply.ensures c.in-Stopped.status c.in-Stopped.is c.if-status-ne0.true

pub returns-in_default : goal.returns-in_default
returns-in_default g c =
    elim c.in_default.branch [
      | in_default-via-in-Stopped+else-status-ne0 w ↦ rw w.reply-is
          (end_missing g.S.FileService.machine g.met.S.FileService.stands c.args.service.now c.event-reply.new.self
          c.args.moment c.in_event.result c.in_event.ensures c.event-reply.result
          c.event-reply.ensures w.in-Stopped.status w.in-Stopped.is w.if-status-ne0.false)
      | in_default-via-in_default w ↦ rw w.reply-is
          (end_other g.S.FileService.machine g.met.S.FileService.stands c.args.service.now c.event-reply.new.self
          c.args.moment c.in_event.result c.in_event.ensures c.event-reply.result
          c.event-reply.ensures w.in_default.not-Stopped)
    ]
