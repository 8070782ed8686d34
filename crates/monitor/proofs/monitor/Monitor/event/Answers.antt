use Rattle.std.proofs.Common.{refl, sym, ap, subst, ◌∙◌}
use Rattle.blockdisk.specs.Common.{LeavesOnly}
use Rattle.spec_machine.specs.Common.{StandsForEither, Service, Serving, Answers}
use Rattle.spec_image.specs.Common.{pack_of}
use Rattle.monitor.specs.Common.{Serves, IsDecided, IsNoCall, IsLightEvent}
use Rattle.monitor.proofs.common.Apart.{leaves_others}
use Rattle.monitor.proofs.Events.EventCrashes.{untouched_event, of_other}
use Rattle.monitor.proofs.common.ServedEvents.{call_answered}
use Rattle.monitor.proofs.monitor.Monitor.event.Goals as goal

pub returns-in-Call-clause-answered : goal.returns-in-Call-clause-answered
returns-in-Call-clause-answered g c h old serves =
    let is = c.in-Call.is in
    subst (λ event. (new : Service) × Serves (g.D.Disk.state c.call.new.self.disk) c.call.new.self.map
    c.call.new.self.failed c.call.new.self.jobs new
    × Answers (pack_of (g.D.Disk.state c.args.self.now.disk)) old event c.call.result new) (sym is)
    (call_answered g.D.Disk.state c.args.self.now c.call.new.self c.in-Call.job c.in-Call.call c.in-Call.moment
    c.call.result c.call.ensures.answered c.call.ensures.broken h old serves)

pub returns-in-Examine-clause-answered : goal.returns-in-Examine-clause-answered
returns-in-Examine-clause-answered g c h old serves =
    let m = c.args.self.now in
    subst (λ event. (new : Service) × Serves (g.D.Disk.state m.disk) m.map m.failed m.jobs new
    × Answers (pack_of (g.D.Disk.state m.disk)) old event c.examine.result new) (sym c.in-Examine.is)
    (c.examine.ensures.answered old serves)

pub returns-in-Login-clause-crash : goal.returns-in-Login-clause-crash
returns-in-Login-clause-crash g c h s serves =
    untouched_event g.D.Disk.state g.met.D.Disk.only_now c.args.self.now.disk c.login.new.self.disk
    (ap (λ m. m.disk) c.login.ensures.kept) c.args.self.now.map c.args.self.now.jobs c.args.event.now c.login.result
    h s serves.1

pub returns-in-Deposit-clause-crash : goal.returns-in-Deposit-clause-crash
returns-in-Deposit-clause-crash g c h s serves =
    untouched_event g.D.Disk.state g.met.D.Disk.only_now c.args.self.now.disk c.deposit.new.self.disk
    (ap (λ m. m.disk) c.deposit.ensures.kept) c.args.self.now.map c.args.self.now.jobs c.args.event.now
    c.deposit.result h s serves.1

pub returns-in-Examine-clause-crash : goal.returns-in-Examine-clause-crash
returns-in-Examine-clause-crash g c h s serves =
    untouched_event g.D.Disk.state g.met.D.Disk.only_now c.args.self.now.disk c.args.self.now.disk refl
    c.args.self.now.map c.args.self.now.jobs c.args.event.now c.examine.result h s serves.1

pub returns-in-Call-clause-crash : goal.returns-in-Call-clause-crash
returns-in-Call-clause-crash g c h s serves =
    let m = c.args.self.now in
    subst (λ event. LeavesOnly (g.D.Disk.state m.disk) (g.D.Disk.state c.call.new.self.disk)
    (StandsForEither (pack_of (g.D.Disk.state m.disk)) s event c.call.result)) (sym c.in-Call.is)
    (c.call.ensures.crash h s serves)

pub returns-in-Login-clause-still : goal.returns-in-Login-clause-still
returns-in-Login-clause-still g c = of_other _ c.args.event.now _ c.in-Login.is tt

pub returns-in-Login-clause-refused : goal.returns-in-Login-clause-refused
returns-in-Login-clause-refused g c = of_other _ c.args.event.now _ c.in-Login.is tt

pub returns-in-Login-clause-late : goal.returns-in-Login-clause-late
returns-in-Login-clause-late g c = of_other _ c.args.event.now _ c.in-Login.is tt

pub returns-in-Login-clause-kept : goal.returns-in-Login-clause-kept
returns-in-Login-clause-kept g c = of_other _ c.args.event.now _ c.in-Login.is tt

pub returns-in-Deposit-clause-still : goal.returns-in-Deposit-clause-still
returns-in-Deposit-clause-still g c = of_other _ c.args.event.now _ c.in-Deposit.is tt

pub returns-in-Deposit-clause-refused : goal.returns-in-Deposit-clause-refused
returns-in-Deposit-clause-refused g c = of_other _ c.args.event.now _ c.in-Deposit.is tt

pub returns-in-Deposit-clause-late : goal.returns-in-Deposit-clause-late
returns-in-Deposit-clause-late g c = of_other _ c.args.event.now _ c.in-Deposit.is tt

pub returns-in-Deposit-clause-kept : goal.returns-in-Deposit-clause-kept
returns-in-Deposit-clause-kept g c = of_other _ c.args.event.now _ c.in-Deposit.is tt

pub returns-in-Examine-clause-still : goal.returns-in-Examine-clause-still
returns-in-Examine-clause-still g c = of_other _ c.args.event.now _ c.in-Examine.is tt

pub returns-in-Examine-clause-refused : goal.returns-in-Examine-clause-refused
returns-in-Examine-clause-refused g c = of_other _ c.args.event.now _ c.in-Examine.is tt

pub returns-in-Examine-clause-late : goal.returns-in-Examine-clause-late
returns-in-Examine-clause-late g c = of_other _ c.args.event.now _ c.in-Examine.is tt

pub returns-in-Examine-clause-kept : goal.returns-in-Examine-clause-kept
returns-in-Examine-clause-kept g c = of_other _ c.args.event.now _ c.in-Examine.is tt

pub returns-in-Call-clause-still : goal.returns-in-Call-clause-still
returns-in-Call-clause-still g c = of_other _ c.args.event.now _ c.in-Call.is c.call.ensures.still

pub returns-in-Call-clause-refused : goal.returns-in-Call-clause-refused
returns-in-Call-clause-refused g c = of_other _ c.args.event.now _ c.in-Call.is c.call.ensures.refused

pub returns-in-Call-clause-late : goal.returns-in-Call-clause-late
returns-in-Call-clause-late g c = of_other _ c.args.event.now _ c.in-Call.is c.call.ensures.late

pub returns-in-Call-clause-kept : goal.returns-in-Call-clause-kept
returns-in-Call-clause-kept g c = of_other _ c.args.event.now _ c.in-Call.is c.call.ensures.kept

pub returns-in-Login-clause-idle : goal.returns-in-Login-clause-idle
returns-in-Login-clause-idle g c idle = ap (λ m. m.disk) c.login.ensures.kept

pub returns-in-Deposit-clause-idle : goal.returns-in-Deposit-clause-idle
returns-in-Deposit-clause-idle g c idle = ap (λ m. m.disk) c.deposit.ensures.kept

pub returns-in-Login-clause-decided : goal.returns-in-Login-clause-decided
returns-in-Login-clause-decided g c decided =
    let left = c.login.ensures.refused (λ e. subst IsDecided e decided) in
    c.login.ensures.kept ∙ (λ i. record c.args.self.now { map = left.1 i; jobs = left.0 i })

pub returns-in-Deposit-clause-decided : goal.returns-in-Deposit-clause-decided
returns-in-Deposit-clause-decided g c decided =
    let left = c.deposit.ensures.refused (λ e. subst IsDecided e decided) in
    c.deposit.ensures.kept ∙ (λ i. record c.args.self.now { jobs = left i })

pub returns-in-Login-clause-light : goal.returns-in-Login-clause-light
returns-in-Login-clause-light g c light = absurd (subst (λ e. IsLightEvent e c.args.self.now.jobs) c.in-Login.is light)

pub returns-in-Call-clause-light : goal.returns-in-Call-clause-light
returns-in-Call-clause-light g c light = c.call.ensures.light
    (subst (λ e. IsLightEvent e c.args.self.now.jobs) c.in-Call.is light)

pub returns-in-Login-clause-apart_from_disk : goal.returns-in-Login-clause-apart_from_disk
returns-in-Login-clause-apart_from_disk g c none = ap (λ m. m.disk) c.login.ensures.kept

pub returns-in-Deposit-clause-apart_from_disk : goal.returns-in-Deposit-clause-apart_from_disk
returns-in-Deposit-clause-apart_from_disk g c none = ap (λ m. m.disk) c.deposit.ensures.kept

pub returns-in-Call-clause-apart_from_disk : goal.returns-in-Call-clause-apart_from_disk
returns-in-Call-clause-apart_from_disk g c none = absurd (subst IsNoCall c.in-Call.is none)

pub returns-in-Login-clause-answered : goal.returns-in-Login-clause-answered
returns-in-Login-clause-answered g c h old serves =
    let m = c.login.new.self in
    subst (λ event. (new : Service) × Serves (g.D.Disk.state m.disk) m.map m.failed m.jobs new
    × Answers (pack_of (g.D.Disk.state c.args.self.now.disk)) old event c.login.result new) (sym c.in-Login.is)
    (c.login.ensures.answered old serves)

pub returns-in-Deposit-clause-answered : goal.returns-in-Deposit-clause-answered
returns-in-Deposit-clause-answered g c h old serves =
    let m = c.deposit.new.self in
    subst (λ event. (new : Service) × Serves (g.D.Disk.state m.disk) m.map m.failed m.jobs new
    × Answers (pack_of (g.D.Disk.state c.args.self.now.disk)) old event c.deposit.result new) (sym c.in-Deposit.is)
    (c.deposit.ensures.answered old serves)

pub returns-in-Login-clause-apart : goal.returns-in-Login-clause-apart
returns-in-Login-clause-apart g c h s serves =
    let m = c.login.new.self in
    leaves_others (λ (new : Service). Serves (g.D.Disk.state m.disk) m.map m.failed m.jobs new)
    (pack_of (g.D.Disk.state c.args.self.now.disk)) s c.args.event.now c.login.result
    (returns-in-Login-clause-answered g c h (Serving s) serves)

pub returns-in-Deposit-clause-apart : goal.returns-in-Deposit-clause-apart
returns-in-Deposit-clause-apart g c h s serves =
    let m = c.deposit.new.self in
    leaves_others (λ (new : Service). Serves (g.D.Disk.state m.disk) m.map m.failed m.jobs new)
    (pack_of (g.D.Disk.state c.args.self.now.disk)) s c.args.event.now c.deposit.result
    (returns-in-Deposit-clause-answered g c h (Serving s) serves)

pub returns-in-Examine-clause-apart : goal.returns-in-Examine-clause-apart
returns-in-Examine-clause-apart g c h s serves =
    let m = c.args.self.now in
    leaves_others (λ (new : Service). Serves (g.D.Disk.state m.disk) m.map m.failed m.jobs new)
    (pack_of (g.D.Disk.state c.args.self.now.disk)) s c.args.event.now c.examine.result
    (returns-in-Examine-clause-answered g c h (Serving s) serves)

pub returns-in-Call-clause-apart : goal.returns-in-Call-clause-apart
returns-in-Call-clause-apart g c h s serves =
    let m = c.call.new.self in
    leaves_others (λ (new : Service). Serves (g.D.Disk.state m.disk) m.map m.failed m.jobs new)
    (pack_of (g.D.Disk.state c.args.self.now.disk)) s c.args.event.now c.call.result
    (returns-in-Call-clause-answered g c h (Serving s) serves)
