use Rattle.std.proofs.Common.{◌≡◌, ◌≤◌, ◌+◌, ℕ, Some, refl, ap, subst, ◌∙◌, sym}
use Rattle.spec_machine.specs.Common.{State, job_at, Service, Serving, Answers, last_date, StandsForEither}
use Rattle.spec_image.specs.Common.{layout_number, pack_of, date_limit}
use Rattle.spec_machine.specs.declared.call.Call.TheVariants.{In}
use Rattle.spec_machine.specs.declared.call.Reply.TheVariants.{NoMemory, Device, Failed, DateRange, Refused}
use Rattle.monitor.specs.Common.{KeepsCore, Serves, IsRefused}
use Rattle.blockdisk.specs.Common.{LeavesOnly}
use Rattle.spec_machine.specs.declared.call.Event.TheVariants.{Call as Calls}
use Rattle.monitor.proofs.common.Apart.{IsApart, IsStill, in_still, apart}
use Rattle.monitor.proofs.Events.EventCrashes.{untouched_event, call_event}
use Rattle.monitor.proofs.common.Called.{called_late, all_same}
use Rattle.monitor.proofs.common.Dates.{late_in, timely_in}
use Rattle.spec_machine.specs.Jobs as machine
use Rattle.monitor.proofs.monitor.Monitor.call.Goals as goal

pub returns-then-moment-last_date-clause-answered : goal.returns-then-moment-last_date-clause-answered
returns-then-moment-last_date-clause-answered g c =
    let d = g.D.Disk.state c.self.inside.volume.disk in
    let v = c.self.inside.volume in
    let alive = sym c.has_failed.ensures.value ∙ c.if-has_failed.false in
    subst (λ m. (g.D.Disk.state m.disk).honest → (old : Service) → Serves (g.D.Disk.state m.disk) m.map m.failed m.jobs
    old → (new : Service) × Serves (g.D.Disk.state m.disk) m.map m.failed m.jobs new
    × Answers (pack_of (g.D.Disk.state m.disk)) old (Calls c.args.job c.args.call.now c.args.moment) DateRange new)
    c.self.view_is
    (λ h old serves. called_late (pack_of d) d v.map v.failed c.self.inside.jobs c.args.job c.args.call.now
    c.args.moment alive (late_in (pack_of d).layout c.last_date.result c.args.moment.date
    (subst (λ (n : ℕ). c.last_date.result + 1 ≡ date_limit n) (c.layout-layout.ensures.disk h alive)
    c.last_date.ensures) c.if-moment-last_date.true)
    (c.self.invariant alive).0 (c.self.invariant alive).2 old serves)

pub returns-clause-answered : goal.returns-clause-answered
returns-clause-answered g c =
    let d = g.D.Disk.state c.self.inside.volume.disk in
    let v = c.self.inside.volume in
    let w = c.serve.new.volume in
    subst (λ m. (g.D.Disk.state w.disk).honest → (old : Service) → Serves (g.D.Disk.state m.disk) m.map m.failed m.jobs
    old → (new : Service) × Serves (g.D.Disk.state w.disk) w.map w.failed c.serve.new.jobs new
    × Answers (pack_of (g.D.Disk.state m.disk)) old (Calls c.args.job c.args.call.now c.args.moment) c.serve.result new)
    c.self.view_is
    (λ h old serves. c.serve.ensures.serving.answered h old (subst (λ b. Serves d v.map b c.self.inside.jobs old)
    (sym c.has_failed.ensures.value ∙ c.if-has_failed.false) serves))

pub returns-then-has_failed-clause-crash : goal.returns-then-has_failed-clause-crash
returns-then-has_failed-clause-crash g c h s serves =
    let m = c.args.self.now in
    untouched_event g.D.Disk.state g.met.D.Disk.only_now m.disk m.disk refl m.map m.jobs
    (Calls c.args.job c.args.call.now c.args.moment) Failed h s serves.1

pub returns-then-moment-last_date-clause-crash : goal.returns-then-moment-last_date-clause-crash
returns-then-moment-last_date-clause-crash g c h s serves =
    let m = c.args.self.now in
    untouched_event g.D.Disk.state g.met.D.Disk.only_now m.disk m.disk refl m.map m.jobs
    (Calls c.args.job c.args.call.now c.args.moment) DateRange h s serves.1

pub returns-clause-crash : goal.returns-clause-crash
returns-clause-crash g c =
    let end = g.D.Disk.state c.serve.new.volume.disk in
    subst (λ m. end.honest → (s : State) → Serves (g.D.Disk.state m.disk) m.map m.failed m.jobs (Serving s)
    → LeavesOnly (g.D.Disk.state m.disk) end (StandsForEither (pack_of (g.D.Disk.state m.disk)) s
    (Calls c.args.job c.args.call.now c.args.moment) c.serve.result)) c.self.view_is
    (λ h s serves.
    call_event g.D.Disk.state g.met.D.Disk.only_now c.self.inside.volume.disk c.serve.new.volume.disk
    c.self.inside.volume.map c.self.inside.jobs c.args.job c.args.call.now c.args.moment
    c.serve.ensures.serving.crash h s serves.1 c.serve.result c.serve.ensures.serving.idle
    (c.serve.ensures.serving.blamed h))

pub returns-clause-memory : goal.returns-clause-memory
returns-clause-memory g c none =
    all_same c.serve.new.volume.disk c.self.inside.volume.disk c.serve.new.volume.map c.self.inside.volume.map
    c.serve.new.volume.failed c.self.inside.volume.failed (sym c.has_failed.ensures.value ∙ c.if-has_failed.false)
    c.serve.new.jobs c.self.inside.jobs c.serve.new.volume.layout c.self.inside.volume.layout c.serve.ensures.layout
    (c.serve.ensures.serving.memory none) ∙ c.self.view_is

pub returns-clause-decided : goal.returns-clause-decided
returns-clause-decided g c decided =
    all_same c.serve.new.volume.disk c.self.inside.volume.disk c.serve.new.volume.map c.self.inside.volume.map
    c.serve.new.volume.failed c.self.inside.volume.failed (sym c.has_failed.ensures.value ∙ c.if-has_failed.false)
    c.serve.new.jobs c.self.inside.jobs c.serve.new.volume.layout c.self.inside.volume.layout c.serve.ensures.layout
    (c.serve.ensures.serving.decided decided) ∙ c.self.view_is

pub returns-clause-still : goal.returns-clause-still
returns-clause-still g c =
    let after = λ (new : Service). Serves (g.D.Disk.state c.serve.new.volume.disk) c.serve.new.volume.map
    c.serve.new.volume.failed c.serve.new.jobs new in
    subst (λ m. (g.D.Disk.state c.serve.new.volume.disk).honest → (channel address : ℕ)
    → c.args.call.now ≡ In channel address → c.args.moment.date ≤ last_date (layout_number m.layout)
    → (s : State)
    → Serves (g.D.Disk.state m.disk) m.map m.failed m.jobs (Serving s)
    → (own : machine.SpecJob) → job_at s c.args.job ≡ Some own → (c.serve.result ≡ NoMemory → ⊥)
    → (c.serve.result ≡ Device → ⊥) → IsStill after (pack_of (g.D.Disk.state m.disk)) s c.args.job c.args.moment
    c.serve.result own channel address) c.self.view_is
    (λ h channel address asked timely s serves own there room works.
    let d = g.D.Disk.state c.self.inside.volume.disk in
    let led = c.serve.ensures.serving.answered h (Serving s) (refl, serves.1) in
    in_still after (pack_of d) s c.args.job c.args.moment c.serve.result own channel address c.args.call.now
    asked there (subst (λ (n : ℕ). c.args.moment.date ≤ last_date n)
    (sym (ap layout_number c.layout-layout.ensures.value)
    ∙ c.layout-layout.ensures.disk (c.serve.ensures.serving.same.was_honest h)
    (sym c.has_failed.ensures.value ∙ c.if-has_failed.false)) timely) room works led.0 led.1 led.2)

pub returns-clause-apart : goal.returns-clause-apart
returns-clause-apart g c =
    let after = λ (new : Service). Serves (g.D.Disk.state c.serve.new.volume.disk) c.serve.new.volume.map
    c.serve.new.volume.failed c.serve.new.jobs new in
    subst (λ m. (g.D.Disk.state c.serve.new.volume.disk).honest
    → (s : State) → Serves (g.D.Disk.state m.disk) m.map m.failed m.jobs (Serving s)
    → IsApart after (pack_of (g.D.Disk.state m.disk)) s c.args.job c.args.moment c.serve.result c.args.call.now)
    c.self.view_is
    (λ h s serves.
    let d = g.D.Disk.state c.self.inside.volume.disk in
    let led = c.serve.ensures.serving.answered h (Serving s) (refl, serves.1) in
    apart after (pack_of d) s c.args.job c.args.moment c.serve.result c.args.call.now led.0 led.1 led.2)

pub returns-then-moment-last_date-clause-apart : goal.returns-then-moment-last_date-clause-apart
returns-then-moment-last_date-clause-apart g c =
    subst (λ m. (g.D.Disk.state m.disk).honest → (s : State)
    → Serves (g.D.Disk.state m.disk) m.map m.failed m.jobs (Serving s)
    → IsApart (Serves (g.D.Disk.state m.disk) m.map m.failed m.jobs) (pack_of (g.D.Disk.state m.disk))
    s c.args.job c.args.moment DateRange c.args.call.now) c.self.view_is
    (λ h s serves.
    let m = c.self.inside in
    let d = g.D.Disk.state m.volume.disk in
    let alive = sym c.has_failed.ensures.value ∙ c.if-has_failed.false in
    let led = called_late (pack_of d) d m.volume.map m.volume.failed m.jobs c.args.job c.args.call.now c.args.moment
    alive (late_in (pack_of d).layout c.last_date.result c.args.moment.date
    (subst (λ (n : ℕ). c.last_date.result + 1 ≡ date_limit n) (c.layout-layout.ensures.disk h alive)
    c.last_date.ensures) c.if-moment-last_date.true)
    (c.self.invariant alive).0 (c.self.invariant alive).2 (Serving s) serves in
    apart (Serves d m.volume.map m.volume.failed m.jobs) (pack_of d) s c.args.job c.args.moment DateRange
    c.args.call.now led.0 led.1 led.2)

pub returns-clause-refused : goal.returns-clause-refused
returns-clause-refused g c =
    subst (λ m. (code : ℕ) → c.serve.result ≡ Refused code
    → IsRefused c.args.call.now c.args.job code m.jobs c.serve.new.jobs) c.self.view_is c.serve.ensures.serving.refused

pub returns-clause-kept : goal.returns-clause-kept
returns-clause-kept g c = subst (λ m. KeepsCore c.args.call.now
    → c.serve.new.volume.map ≡ m.map) c.self.view_is c.serve.ensures.serving.kept

pub serve-requires-clause-timely : goal.serve-requires-clause-timely
serve-requires-clause-timely g c h =
    let d = g.D.Disk.state c.self.inside.volume.disk in
    timely_in (pack_of d).layout c.last_date.result c.args.moment.date
    (subst (λ (n : ℕ). c.last_date.result + 1 ≡ date_limit n)
    (c.layout-layout.ensures.disk h (sym c.has_failed.ensures.value ∙ c.if-has_failed.false)) c.last_date.ensures)
    c.if-moment-last_date.false
