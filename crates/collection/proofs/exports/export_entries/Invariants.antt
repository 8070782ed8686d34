use Rattle.commands.specs.Common.{machine_of}
use Rattle.collection.specs.Common.{IsEntryDone}
use Rattle.collection.proofs.EachLaws.{beside, Done}
use Rattle.collection.proofs.exports.export_entries.Given as goal

abbrev pub invariant-loop-entry : goal.invariant-loop-entry
invariant-loop-entry g l =
    Done (IsEntryDone (λ m. machine_of (g.D.Disk.state m.disk) m.map m.failed m.jobs)
    l.fn.directory.task.now
    l.fn.directory.owner)
    l.fn.entries (g.W.Write.contents l.fn.writer) (beside (g.H.HostFiles.acts l.fn.host) l.fn.monitor) l.entry-index
    l.tally (g.W.Write.contents l.writer)
    (beside (g.H.HostFiles.acts l.host) l.monitor)
