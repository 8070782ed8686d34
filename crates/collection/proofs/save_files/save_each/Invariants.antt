use Rattle.std.proofs.Common.{◌≡◌}
use Rattle.collection.specs.Common.{IsFileDone}
use Rattle.collection.proofs.EachLaws.{beside, Done}
use Rattle.collection.proofs.save_files.save_each.Given as goal

abbrev pub invariant-loop-file : goal.invariant-loop-file
invariant-loop-file g l = Done (IsFileDone g.D.Disk.state l.fn.target.task.now
    l.fn.target.folder.now l.fn.target.numbered) l.fn.files
    (g.W.Write.contents l.fn.writer) (beside (g.H.HostFiles.acts l.fn.host) l.fn.disk) l.file-index l.tally
    (g.W.Write.contents l.writer) (beside (g.H.HostFiles.acts l.host) l.disk)
    × ((g.D.Disk.state l.disk).size ≡ (g.D.Disk.state l.fn.disk).size)
