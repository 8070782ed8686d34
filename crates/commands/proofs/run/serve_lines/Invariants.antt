use Rattle.commands.proofs.SessionLaws.{Streams}
use Rattle.commands.proofs.run.serve_lines.Given as goal

abbrev pub invariant-loop : goal.invariant-loop
invariant-loop g l = Streams l.fn.language (g.R.Read.remaining l.fn.reader) (g.R.Read.remaining l.reader)
    (g.W.Write.contents l.fn.writer) (g.W.Write.contents l.writer) g.S.FileService.machine l.fn.service
    l.service l.fn.moment l.session
