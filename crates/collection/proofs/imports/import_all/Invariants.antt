use Rattle.std.proofs.Common.{map}
use Rattle.commands.specs.Common.{machine_of}
use Rattle.collection.specs.Common.{IsDoneWith}
use Rattle.collection.proofs.EachLaws.{beside, Done}
use Rattle.collection.proofs.imports.import_all.Given as goal

abbrev pub invariant-loop-place : goal.invariant-loop-place
invariant-loop-place g l =
    Done (IsDoneWith (λ m. machine_of (g.D.Disk.state m.disk) m.map m.failed m.jobs)
    l.fn.task)
    (map (λ p. p.now) l.fn.task.paths.items) (g.W.Write.contents l.fn.writer)
    (beside (g.H.HostFiles.acts l.fn.host) l.fn.monitor) l.place l.tally
    (g.W.Write.contents l.writer) (beside (g.H.HostFiles.acts l.host) l.monitor)
