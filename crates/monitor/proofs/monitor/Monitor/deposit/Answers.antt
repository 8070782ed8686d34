use Rattle.std.proofs.Common.{subst, sym, ◌∙◌}
use Rattle.spec_machine.specs.Common.{Service, Answers}
use Rattle.spec_machine.specs.declared.call.Event.TheVariants.{Deposit}
use Rattle.spec_image.specs.Common.{pack_of}
use Rattle.monitor.specs.Common.{Serves}
use Rattle.monitor.proofs.Events.CoreWords.{deposit_keyed, deposit_reading, deposit_answered}
use Rattle.monitor.proofs.monitor.Monitor.deposit.Goals as goal

pub invariant_of-self : goal.invariant_of-self
invariant_of-self g c serves = (
  deposit_keyed c.self.inside.volume.map.pending c.self.inside.jobs c.deposit.new.self c.args.job c.args.address
      c.args.word c.deposit.result (c.self.invariant (sym c.has_failed.ensures.value ∙ c.if-has_failed.false)).0
      c.deposit.ensures.done c.deposit.ensures.refused,
  (c.self.invariant (sym c.has_failed.ensures.value ∙ c.if-has_failed.false)).1,
  deposit_reading c.self.inside.volume.map.live c.self.inside.jobs c.deposit.new.self c.args.job c.args.address
      c.args.word c.deposit.result (c.self.invariant (sym c.has_failed.ensures.value ∙ c.if-has_failed.false)).2
      c.deposit.ensures.done c.deposit.ensures.refused,
)

pub returns-clause-answered : goal.returns-clause-answered
returns-clause-answered g c =
    let d = g.D.Disk.state c.self.inside.volume.disk in
    let map = c.self.inside.volume.map in
    subst (λ m. (old : Service) → Serves (g.D.Disk.state m.disk) m.map m.failed m.jobs old
    → (new : Service) × Serves d map c.self.inside.volume.failed c.deposit.new.self new
    × Answers (pack_of (g.D.Disk.state m.disk)) old (Deposit c.args.job c.args.address c.args.word) c.deposit.result
    new) c.self.view_is
    (deposit_answered d map c.self.inside.volume.failed c.self.inside.jobs c.deposit.new.self c.args.job
    c.args.address c.args.word c.deposit.result (sym c.has_failed.ensures.value
    ∙ c.if-has_failed.false) (c.self.invariant (sym c.has_failed.ensures.value ∙ c.if-has_failed.false)).0
    (c.self.invariant (sym c.has_failed.ensures.value ∙ c.if-has_failed.false)).2
    c.deposit.ensures.answered c.deposit.ensures.done c.deposit.ensures.refused)
