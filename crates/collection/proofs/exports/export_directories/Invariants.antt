use Rattle.commands.specs.Common.{machine_of}
use Rattle.collection.specs.Common.{IsOwnerDone}
use Rattle.collection.proofs.EachLaws.{beside, Done}
use Rattle.collection.proofs.exports.export_directories.Given as goal

abbrev pub invariant-loop-owner : goal.invariant-loop-owner
invariant-loop-owner g l =
    Done (IsOwnerDone (λ m. machine_of (g.D.Disk.state m.disk) m.map m.failed m.jobs)
    l.fn.task)
    l.fn.owners (g.W.Write.contents l.fn.writer) (beside (g.H.HostFiles.acts l.fn.host) l.fn.monitor) l.owner-index
    l.tally (g.W.Write.contents l.writer)
    (beside (g.H.HostFiles.acts l.host) l.monitor)
