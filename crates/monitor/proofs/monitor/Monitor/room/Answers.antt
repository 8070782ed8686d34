use Rattle.std.proofs.Common.{◌≡◌, ◌∙◌, sym, ap, ℤ, pos, ◌-ℤ◌, ◌-◌, subst, false, to_z, of_z, w64, FitsSigned, ◌<◌}
use Rattle.std.proofs.Common.{◌^◌, arith}
use Rattle.std.proofs.lemmas.Int.{to_z-of_z, ints}
use Rattle.std.specs.Int.Signed.{mag}
use Rattle.spec_image.specs.Common.{pack_of, without_serials, space_start}
use Rattle.spec_machine.specs.Common.{State, room}
use Rattle.volume.proofs.common.Answers.{rest_holds}
use Rattle.monitor.specs.Common.{IsState}
use Rattle.monitor.proofs.common.Rooms.{booked_is}
use Rattle.monitor.proofs.monitor.Monitor.room.Goals as goal

fits : (z : ℤ) → mag z < 2 ^ 63 → FitsSigned w64 z
fits z few = search (arith, ints)

pub returns : goal.returns
returns g c =
    subst (λ m. (g.D.Disk.state m.disk).honest → (s : State) → (m.failed ≡ false)
    × IsState (g.D.Disk.state m.disk) m.map m.jobs s → to_z w64 (of_z w64 c.room.result)
    ≡ room (pack_of (g.D.Disk.state m.disk)) s) c.self.view_is
    (λ h s state.
    let d = g.D.Disk.state c.self.inside.volume.disk in
    let map = c.self.inside.volume.map in
    let sound = c.has_failed-failed.ensures.sound in
    let all = booked_is d map c.self.inside.jobs s state.1 sound.whole
    (rest_holds d map c.self.inside.volume.failed sound h state.0 (without_serials s.files) state.1.files) in
    to_z-of_z w64 c.room.result (fits c.room.result c.room.type_inv)
    ∙ c.room.ensures h state.0 (without_serials s.files) state.1.files
    ∙ ap (λ n. pos (d.size - space_start d.size) -ℤ pos n) (sym all))
