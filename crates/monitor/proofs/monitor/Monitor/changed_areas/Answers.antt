use Rattle.monitor.proofs.CoreAreas.Calls.{for_job}
use Rattle.monitor.proofs.monitor.Monitor.changed_areas.Goals as goal

pub returns-clause-served : goal.returns-clause-served
returns-clause-served g c =
    let m = c.self.inside in
    rw (← c.self.view_is) (λ s serves. for_job c.in_ok-areas_for.field-0.items m.jobs c.args.job c.args.call.now
    c.in_ok-areas_for.ensures.value (g.D.Disk.state m.volume.disk) m.volume.map m.volume.failed s serves)

pub returns-clause-value : goal.returns-clause-value
returns-clause-value g c = rw (← c.self.view_is) c.in_ok-areas_for.ensures.value

pub returns-clause-inside : goal.returns-clause-inside
returns-clause-inside g c = c.in_ok-areas_for.ensures.inside
