use Rattle.std.proofs.Common.{◌+◌, ◌<◌, ℕ, subst, sym, ◌∙◌, slice_index}
use Rattle.std.specs.Prelude.{IfSome}
use Rattle.spec_image.specs.Common.{pack_of}
use Rattle.spec_machine.specs.Common.{Service, Answers}
use Rattle.spec_machine.specs.declared.call.Event.TheVariants.{Examine}
use Rattle.spec_machine.specs.declared.call.Reply.TheVariants.{Value}
use Rattle.monitor.specs.Common.{Serves}
use Rattle.monitor.proofs.Events.CoreWords.{all_answered}
use Rattle.monitor.proofs.monitor.Monitor.examine_all.Goals as goal

pub returns-clause-answered : goal.returns-clause-answered
returns-clause-answered g c =
    let d = g.D.Disk.state c.self.inside.volume.disk in
    let map = c.self.inside.volume.map in
    let alive = sym c.has_failed.ensures.value ∙ c.if-has_failed.false in
    let was = c.self.invariant alive in
    subst (λ m. IfSome c.examine_all.result (λ words. (i : ℕ) → i < c.args.count → (old : Service)
    → Serves (g.D.Disk.state m.disk) m.map m.failed m.jobs old
    → (new : Service) × Serves (g.D.Disk.state m.disk) m.map m.failed m.jobs new
    × Answers (pack_of (g.D.Disk.state m.disk)) old (Examine c.args.job (c.args.first + i))
    (Value (slice_index words.now i)) new)) c.self.view_is
    (all_answered d map c.self.inside.volume.failed c.self.inside.jobs c.args.job c.args.first c.args.count alive was.0
    was.2 (λ words. words.now) c.examine_all.result c.examine_all.ensures.shown)
