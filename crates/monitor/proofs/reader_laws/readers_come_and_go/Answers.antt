use Rattle.monitor.proofs.common.ReadsPinned.{reads_pinned, read_again, reads_let_go}
use Rattle.monitor.proofs.reader_laws.readers_come_and_go.Goals as goal

pub returns-clause-comes : goal.returns-clause-comes
returns-clause-comes g c = λ core core' files read key place x reads whole there distinct pinned others same at value.
    reads_pinned (g.D.Disk.state c.args.disk.now) core files read reads whole place x there core' key distinct
    pinned others same at value

pub returns-clause-again : goal.returns-clause-again
returns-clause-again g c = λ core files read key v place x reads whole there here held current at.
    read_again (g.D.Disk.state c.args.disk.now) core files read reads whole place x there key v here held current at

pub returns-clause-goes : goal.returns-clause-goes
returns-clause-goes g c = reads_let_go (g.D.Disk.state c.args.disk.now)
