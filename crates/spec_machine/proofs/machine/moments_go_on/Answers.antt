use Rattle.spec_machine.proofs.CrashLaws.{runs_start, runs_served, runs_failed, runs_stay, is_run}
use Rattle.spec_machine.proofs.machine.moments_go_on.Goals as goal

pub returns-clause-start : goal.returns-clause-start
returns-clause-start g c = λ pack. runs_start pack (g.D.Disk.state c.args.old.now)

pub returns-clause-served : goal.returns-clause-served
returns-clause-served g c = λ pack. runs_served pack (g.D.Disk.state c.args.old.now) (g.D.Disk.state c.args.new.now)

pub returns-clause-failed : goal.returns-clause-failed
returns-clause-failed g c = λ pack. runs_failed pack (g.D.Disk.state c.args.old.now) (g.D.Disk.state c.args.new.now)

pub returns-clause-stays : goal.returns-clause-stays
returns-clause-stays g c = λ pack. runs_stay pack (g.D.Disk.state c.args.old.now)

pub returns-clause-is_run : goal.returns-clause-is_run
returns-clause-is_run g c = λ pack. is_run pack (g.D.Disk.state c.args.old.now)
