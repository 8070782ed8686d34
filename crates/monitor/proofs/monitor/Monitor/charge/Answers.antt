use Rattle.std.proofs.Common.{◌≡◌, ◌∙◌, false, subst}
use Rattle.spec_machine.specs.Common.{State}
use Rattle.spec_image.specs.Common.{without_serials}
use Rattle.volume.specs.Common.{IsSoundMemory}
use Rattle.monitor.specs.Common.{charge_told, IsState}
use Rattle.monitor.proofs.common.KnownState.{known}
use Rattle.monitor.proofs.common.Limits.{charge_is}
use Rattle.monitor.proofs.monitor.Monitor.charge.Goals as goal

pub returns : goal.returns
returns g c =
    subst (λ m. (g.D.Disk.state m.disk).honest → (s : State) → (m.failed ≡ false)
    × IsState (g.D.Disk.state m.disk) m.map m.jobs s → c.charge.result ≡ charge_told s c.args.ppn) c.self.view_is
    (λ h s state.
    let d = g.D.Disk.state c.self.inside.volume.disk in
    let map = c.self.inside.volume.map in
    let sound = subst (IsSoundMemory d map) state.0 c.has_failed-failed.ensures.sound in
    c.charge.ensures.value h state.0 (without_serials s.files) state.1.files
    ∙ charge_is d map s (known d map c.self.inside.jobs s state.1 sound h) c.args.ppn)
