use Rattle.std.proofs.Common.{subst, sym, ◌∙◌}
use Rattle.spec_machine.specs.Common.{Service, Answers}
use Rattle.spec_machine.specs.declared.call.Event.TheVariants.{Examine}
use Rattle.spec_image.specs.Common.{pack_of}
use Rattle.monitor.specs.Common.{Serves}
use Rattle.monitor.proofs.Events.CoreWords.{examine_answered}
use Rattle.monitor.proofs.monitor.Monitor.examine.Goals as goal

pub returns-clause-answered : goal.returns-clause-answered
returns-clause-answered g c =
    let d = g.D.Disk.state c.self.inside.volume.disk in
    let map = c.self.inside.volume.map in
    subst (λ m. (old : Service) → Serves (g.D.Disk.state m.disk) m.map m.failed m.jobs old
    → (new : Service) × Serves (g.D.Disk.state m.disk) m.map m.failed m.jobs new
    × Answers (pack_of (g.D.Disk.state m.disk)) old (Examine c.args.job c.args.address) c.examine.result new)
    c.self.view_is
    (examine_answered d map c.self.inside.volume.failed c.self.inside.jobs c.self.inside.jobs c.args.job
    c.args.address 0 c.examine.result (sym c.has_failed.ensures.value ∙ c.if-has_failed.false)
    (c.self.invariant (sym c.has_failed.ensures.value ∙ c.if-has_failed.false)).0
    (c.self.invariant (sym c.has_failed.ensures.value ∙ c.if-has_failed.false)).2 c.examine.ensures)
