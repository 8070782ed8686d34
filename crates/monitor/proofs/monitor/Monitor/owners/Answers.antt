use Rattle.std.proofs.Common.{◌≡◌, ◌∙◌, subst}
use Rattle.spec_machine.specs.Common.{State, Serving}
use Rattle.spec_image.specs.Common.{keys, without_serials}
use Rattle.monitor.specs.Common.{Serves}
use Rattle.monitor.proofs.Events.Lists.{owners_without}
use Rattle.monitor.proofs.monitor.Monitor.owners.Goals as goal

pub returns-in-Ok-clause-value : goal.returns-in-Ok-clause-value
returns-in-Ok-clause-value g c =
    subst (λ m. (g.D.Disk.state m.disk).honest → (s : State)
    → Serves (g.D.Disk.state m.disk) m.map m.failed m.jobs (Serving s)
    → c.in-Ok.owners.items ≡ keys s.files) c.self.view_is
    (λ h s state. c.in-Ok.ensures.value h state.0 (without_serials s.files) state.1.files ∙ owners_without s.files)
