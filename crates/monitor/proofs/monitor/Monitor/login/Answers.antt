use Rattle.std.proofs.Common.{subst, sym, ◌∙◌}
use Rattle.spec_image.specs.Common.{pack_of}
use Rattle.spec_machine.specs.Common.{Service, Answers}
use Rattle.spec_machine.specs.declared.call.Event.TheVariants.{Login}
use Rattle.monitor.specs.Common.{Serves}
use Rattle.monitor.proofs.common.EventAnswers.{login_answered, on_disk}
use Rattle.monitor.proofs.monitor.Monitor.login.Goals as goal

pub returns-clause-answered : goal.returns-clause-answered
returns-clause-answered g c =
    let d = g.D.Disk.state c.self.inside.volume.disk in
    subst (λ m. (old : Service) → Serves (g.D.Disk.state m.disk) m.map m.failed m.jobs old
    → (new : Service) × Serves (g.D.Disk.state c.log_in.new.volume.disk) c.log_in.new.volume.map
    c.log_in.new.volume.failed c.log_in.new.jobs new
    × Answers (pack_of (g.D.Disk.state m.disk)) old (Login c.args.job c.args.ppn c.args.words) c.log_in.result new)
    c.self.view_is
    (λ old state. on_disk g.D.Disk.state c.self.inside.volume.disk c.log_in.new.volume.disk c.self.inside.volume.failed
    c.log_in.new.volume.failed c.log_in.new.volume.map c.log_in.new.jobs
    (Answers (pack_of d) old (Login c.args.job c.args.ppn c.args.words) c.log_in.result) c.log_in.ensures.untouched
    (login_answered (pack_of d) d c.self.inside.volume.map c.log_in.new.volume.map c.self.inside.volume.failed
    c.self.inside.jobs c.log_in.new.jobs c.args.job c.args.ppn c.args.words c.log_in.result
    (sym c.has_failed.ensures.value ∙ c.if-has_failed.false) (c.self.invariant (sym c.has_failed.ensures.value
    ∙ c.if-has_failed.false)).0 c.log_in.ensures.keyed (c.self.invariant (sym c.has_failed.ensures.value
    ∙ c.if-has_failed.false)).2 c.log_in.ensures.reading c.log_in.ensures.leaves c.log_in.ensures.answered
    c.log_in.ensures.done c.log_in.ensures.kept old state))
