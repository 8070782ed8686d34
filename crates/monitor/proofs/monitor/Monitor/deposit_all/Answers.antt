use Rattle.std.proofs.Common.{subst, sym, ◌∙◌}
use Rattle.monitor.specs.Common.{DepositsBy, AreKeyed, AreReading}
use Rattle.monitor.proofs.Events.Deposits.{holds_on, core_keyed, core_reading, deposits_by}
use Rattle.monitor.proofs.monitor.Monitor.deposit_all.Goals as goal

pub invariant_of-self : goal.invariant_of-self
invariant_of-self g c serves =
    let jobs = c.self.inside.jobs in
    let map = c.self.inside.volume.map in
    let was = c.self.invariant (sym c.has_failed.ensures.value ∙ c.if-has_failed.false) in (
      holds_on (AreKeyed map.pending) jobs c.deposit_all.new.self c.args.job c.args.first c.args.words.now
          c.deposit_all.result was.0 (core_keyed map.pending jobs c.args.job was.0) c.deposit_all.ensures.done
          c.deposit_all.ensures.refused,
      was.1,
      holds_on (AreReading map.live) jobs c.deposit_all.new.self c.args.job c.args.first c.args.words.now
          c.deposit_all.result was.2 (core_reading map.live jobs c.args.job was.2) c.deposit_all.ensures.done
          c.deposit_all.ensures.refused,
    )

pub returns-clause-done : goal.returns-clause-done
returns-clause-done g c is =
    let d = g.D.Disk.state c.self.inside.volume.disk in
    let map = c.self.inside.volume.map in
    let was = c.self.invariant (sym c.has_failed.ensures.value ∙ c.if-has_failed.false) in
    let there = c.deposit_all.ensures.done is in
    subst (λ m. DepositsBy (g.D.Disk.state m.disk) m.map m.failed c.args.job m.jobs c.args.first c.args.words.now
    c.deposit_all.new.self) c.self.view_is
    (subst (DepositsBy d map c.self.inside.volume.failed c.args.job c.self.inside.jobs c.args.first c.args.words.now)
    (sym there.3)
    (deposits_by d map c.self.inside.volume.failed c.args.job (sym c.has_failed.ensures.value ∙ c.if-has_failed.false)
    c.args.words.now c.args.first c.self.inside.jobs there.0 was.0 was.2 there.1 there.2))
