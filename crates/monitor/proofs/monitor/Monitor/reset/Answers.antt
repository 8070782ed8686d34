use Rattle.std.proofs.Common.{◌≡◌, ◌+◌, ℕ, Some, refl, ap, subst, sym, ◌∙◌}
use Rattle.spec_machine.specs.Common.{slot, Service, Answers}
use Rattle.spec_image.specs.Common.{layout_number, pack_in, pack_of, date_limit}
use Rattle.spec_machine.specs.declared.call.Call.TheVariants.{Reset}
use Rattle.spec_machine.specs.declared.call.Event.TheVariants.{Call as Calls}
use Rattle.spec_machine.specs.declared.call.Reply.TheVariants.{Done, NoJob, DateRange}
use Rattle.spec_machine.proofs.Common.{slot-set_other}
use Rattle.monitor.specs.Common.{Serves, reset_job}
use Rattle.monitor.proofs.common.EventAnswers.{late}
use Rattle.monitor.proofs.common.Dates.{late_in, timely_in}
use Rattle.monitor.proofs.common.Dropped.{leaves_none}
use Rattle.monitor.proofs.OtherCalls.Resets.{reset_row, nobody_row, reset_leads}
use Rattle.monitor.proofs.monitor.Monitor.reset.Goals as goal

pub returns-then-moment-last_date-clause-answered : goal.returns-then-moment-last_date-clause-answered
returns-then-moment-last_date-clause-answered g c =
    let v = c.self.inside.volume in
    let jobs = c.self.inside.jobs in
    let alive = sym c.has_failed.ensures.value ∙ c.if-has_failed.false in
    let state = g.D.Disk.state in
    subst (λ m. (state m.disk).honest → (old : Service) → Serves (state m.disk) m.map m.failed m.jobs old
    → (new : Service) × Serves (state m.disk) m.map m.failed m.jobs new
    × Answers (pack_of (state m.disk)) old (Calls c.args.job Reset c.args.moment) DateRange new) c.self.view_is
    (λ h. reset_leads state v.disk v.disk v.map v.map v.failed v.failed jobs jobs c.args.job c.args.moment alive
    (refl, refl) (c.self.invariant alive).0 (c.self.invariant alive).2 (leaves_none v.map)
    (pack_of (state v.disk)) DateRange
    (λ serial files w. late (pack_of (state v.disk)) jobs c.args.job Reset c.args.moment serial files w
    (late_in (pack_of (state v.disk)).layout c.last_date.result c.args.moment.date
    (subst (λ (n : ℕ). c.last_date.result + 1 ≡ date_limit n) (c.layout-layout.ensures.disk h alive)
    c.last_date.ensures) c.if-moment-last_date.true)))

pub returns-then-moment-last_date-clause-in_layout : goal.returns-then-moment-last_date-clause-in_layout
returns-then-moment-last_date-clause-in_layout g c =
    let v = c.self.inside.volume in
    let jobs = c.self.inside.jobs in
    let alive = sym c.has_failed.ensures.value ∙ c.if-has_failed.false in
    let state = g.D.Disk.state in
    subst (λ m. (old : Service) → Serves (state m.disk) m.map m.failed m.jobs old
    → (new : Service) × Serves (state m.disk) m.map m.failed m.jobs new
    × Answers (pack_in (layout_number m.layout) (state m.disk).size) old
    (Calls c.args.job Reset c.args.moment) DateRange new) c.self.view_is
    (reset_leads state v.disk v.disk v.map v.map v.failed v.failed jobs jobs c.args.job c.args.moment alive
    (refl, refl) (c.self.invariant alive).0 (c.self.invariant alive).2 (leaves_none v.map)
    (pack_in (layout_number v.layout) (state v.disk).size) DateRange
    (λ serial files w. late (pack_in (layout_number v.layout) (state v.disk).size) jobs c.args.job Reset c.args.moment
    serial files w (late_in (layout_number v.layout) c.last_date.result c.args.moment.date
    (subst (λ l. c.last_date.result + 1 ≡ date_limit (layout_number l)) c.layout-layout.ensures.value
    c.last_date.ensures) c.if-moment-last_date.true)))

pub returns-then-not-reset-clause-answered : goal.returns-then-not-reset-clause-answered
returns-then-not-reset-clause-answered g c =
    let v = c.self.inside.volume in
    let new = c.reset.new.volume in
    let jobs = c.self.inside.jobs in
    let alive = sym c.has_failed.ensures.value ∙ c.if-has_failed.false in
    let state = g.D.Disk.state in
    let none = c.reset.ensures.none c.if-not-reset.true in
    subst (λ m. (state m.disk).honest → (old : Service) → Serves (state m.disk) m.map m.failed m.jobs old
    → (t : Service) × Serves (state new.disk) new.map new.failed c.reset.new.jobs t
    × Answers (pack_of (state m.disk)) old (Calls c.args.job Reset c.args.moment) NoJob t) c.self.view_is
    (λ h. reset_leads state v.disk new.disk v.map new.map v.failed new.failed jobs c.reset.new.jobs c.args.job
    c.args.moment alive c.reset.ensures.untouched c.reset.ensures.keyed c.reset.ensures.reading c.reset.ensures.leaves
    (pack_of (state v.disk)) NoJob
    (nobody_row (pack_of (state v.disk)) jobs c.reset.new.jobs c.args.job c.args.moment
    (timely_in (pack_of (state v.disk)).layout c.last_date.result c.args.moment.date
    (subst (λ (n : ℕ). c.last_date.result + 1 ≡ date_limit n) (c.layout-layout.ensures.disk h alive)
    c.last_date.ensures) c.if-moment-last_date.false) none.0 none.1))

pub returns-then-not-reset-clause-in_layout : goal.returns-then-not-reset-clause-in_layout
returns-then-not-reset-clause-in_layout g c =
    let v = c.self.inside.volume in
    let new = c.reset.new.volume in
    let jobs = c.self.inside.jobs in
    let alive = sym c.has_failed.ensures.value ∙ c.if-has_failed.false in
    let state = g.D.Disk.state in
    let none = c.reset.ensures.none c.if-not-reset.true in
    subst (λ m. (old : Service) → Serves (state m.disk) m.map m.failed m.jobs old
    → (t : Service) × Serves (state new.disk) new.map new.failed c.reset.new.jobs t
    × Answers (pack_in (layout_number m.layout) (state m.disk).size) old
    (Calls c.args.job Reset c.args.moment) NoJob t) c.self.view_is
    (reset_leads state v.disk new.disk v.map new.map v.failed new.failed jobs c.reset.new.jobs c.args.job
    c.args.moment alive c.reset.ensures.untouched c.reset.ensures.keyed c.reset.ensures.reading c.reset.ensures.leaves
    (pack_in (layout_number v.layout) (state v.disk).size) NoJob
    (nobody_row (pack_in (layout_number v.layout) (state v.disk).size) jobs c.reset.new.jobs c.args.job c.args.moment
    (timely_in (layout_number v.layout) c.last_date.result c.args.moment.date
    (subst (λ l. c.last_date.result + 1 ≡ date_limit (layout_number l)) c.layout-layout.ensures.value
    c.last_date.ensures) c.if-moment-last_date.false) none.0 none.1))

pub returns-clause-answered : goal.returns-clause-answered
returns-clause-answered g c =
    let v = c.self.inside.volume in
    let new = c.reset.new.volume in
    let jobs = c.self.inside.jobs in
    let alive = sym c.has_failed.ensures.value ∙ c.if-has_failed.false in
    let state = g.D.Disk.state in
    subst (λ m. (state m.disk).honest → (old : Service) → Serves (state m.disk) m.map m.failed m.jobs old
    → (t : Service) × Serves (state new.disk) new.map new.failed c.reset.new.jobs t
    × Answers (pack_of (state m.disk)) old (Calls c.args.job Reset c.args.moment) Done t) c.self.view_is
    (λ h. reset_leads state v.disk new.disk v.map new.map v.failed new.failed jobs c.reset.new.jobs c.args.job
    c.args.moment alive c.reset.ensures.untouched c.reset.ensures.keyed c.reset.ensures.reading c.reset.ensures.leaves
    (pack_of (state v.disk)) Done
    (reset_row (pack_of (state v.disk)) jobs c.reset.new.jobs c.args.job c.args.moment
    (timely_in (pack_of (state v.disk)).layout c.last_date.result c.args.moment.date
    (subst (λ (n : ℕ). c.last_date.result + 1 ≡ date_limit n) (c.layout-layout.ensures.disk h alive)
    c.last_date.ensures) c.if-moment-last_date.false) (c.reset.ensures.found c.if-not-reset.false)))

pub returns-clause-in_layout : goal.returns-clause-in_layout
returns-clause-in_layout g c =
    let v = c.self.inside.volume in
    let new = c.reset.new.volume in
    let jobs = c.self.inside.jobs in
    let alive = sym c.has_failed.ensures.value ∙ c.if-has_failed.false in
    let state = g.D.Disk.state in
    subst (λ m. (old : Service) → Serves (state m.disk) m.map m.failed m.jobs old
    → (t : Service) × Serves (state new.disk) new.map new.failed c.reset.new.jobs t
    × Answers (pack_in (layout_number m.layout) (state m.disk).size) old
    (Calls c.args.job Reset c.args.moment) Done t) c.self.view_is
    (reset_leads state v.disk new.disk v.map new.map v.failed new.failed jobs c.reset.new.jobs c.args.job
    c.args.moment alive c.reset.ensures.untouched c.reset.ensures.keyed c.reset.ensures.reading c.reset.ensures.leaves
    (pack_in (layout_number v.layout) (state v.disk).size) Done
    (reset_row (pack_in (layout_number v.layout) (state v.disk).size) jobs c.reset.new.jobs c.args.job c.args.moment
    (timely_in (layout_number v.layout) c.last_date.result c.args.moment.date
    (subst (λ l. c.last_date.result + 1 ≡ date_limit (layout_number l)) c.layout-layout.ensures.value
    c.last_date.ensures) c.if-moment-last_date.false) (c.reset.ensures.found c.if-not-reset.false)))

pub returns-clause-others : goal.returns-clause-others
returns-clause-others g c m other =
    let found = c.reset.ensures.found c.if-not-reset.false in
    ap (λ js. slot js m) found.2
    ∙ slot-set_other c.self.inside.jobs c.args.job m (Some (reset_job found.0)) other
    ∙ ap (λ s. slot s.jobs m) c.self.view_is
