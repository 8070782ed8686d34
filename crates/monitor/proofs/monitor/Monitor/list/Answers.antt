use Rattle.std.proofs.Common.{◌≡◌, ◌∙◌, refl, sym, ap, subst, inl, Result, Ok, Err, List}
use Rattle.spec_image.specs.declared.entry.Entry.{Entry}
use Rattle.spec_machine.specs.declared.call.Reply.{Reply}
use Rattle.spec_machine.specs.declared.call.Reply.TheVariants.{Refused}
use Rattle.spec_image.specs.Common.{without_serials}
use Rattle.spec_machine.specs.Common.{Service, Lists}
use Rattle.monitor.specs.Common.{Serves, jobs_of}
use Rattle.monitor.proofs.common.EventAnswers.{in_state, slot_of, contrary}
use Rattle.monitor.proofs.Events.Lists.{absent, forbidden, given, unlisted}
use Rattle.monitor.proofs.monitor.Monitor.list.Goals as goal

pub returns-in-Err-clause-listed : goal.returns-in-Err-clause-listed
returns-in-Err-clause-listed g c =
    subst (λ m. (g.D.Disk.state m.disk).honest → (service : Service)
    → Serves (g.D.Disk.state m.disk) m.map m.failed m.jobs service
    → (answer : Result (List Entry) Reply) × (answer ≡ Err (Refused c.number.result))
    × Lists service c.args.job c.args.ppn answer service) c.self.view_is
    (λ h. in_state (g.D.Disk.state c.self.inside.volume.disk) c.self.inside.volume.map c.self.inside.volume.failed
    c.self.inside.jobs
    (λ service. (answer : Result (List Entry) Reply) × (answer ≡ Err (Refused c.number.result))
    × Lists service c.args.job c.args.ppn answer service)
    (sym c.has_failed.ensures.value ∙ c.if-has_failed.false)
    (λ s state. (
      Err (Refused c.number.result),
      refl,
      (
        refl,
        inl (ap (λ n. Err (Refused n)) c.number.ensures
            ∙ sym (absent s (jobs_of state.under c.self.inside.jobs) c.args.job c.args.ppn _ state.jobs_are
            (slot_of state.under c.self.inside.jobs c.args.job _ c.in-Some.ensures.found) _
            (c.in-Err.ensures.value h (sym c.has_failed.ensures.value ∙ c.if-has_failed.false)
            (without_serials s.files) state.files))),
      ),
    )))

pub returns-then-not-dir_right-clause-listed : goal.returns-then-not-dir_right-clause-listed
returns-then-not-dir_right-clause-listed g c =
    subst (λ m. (g.D.Disk.state m.disk).honest → (service : Service)
    → Serves (g.D.Disk.state m.disk) m.map m.failed m.jobs service
    → (answer : Result (List Entry) Reply) × (answer ≡ Err (Refused c.number-then-not-dir_right.result))
    × Lists service c.args.job c.args.ppn answer service) c.self.view_is
    (λ h. in_state (g.D.Disk.state c.self.inside.volume.disk) c.self.inside.volume.map c.self.inside.volume.failed
    c.self.inside.jobs
    (λ service. (answer : Result (List Entry) Reply) × (answer ≡ Err (Refused c.number-then-not-dir_right.result))
    × Lists service c.args.job c.args.ppn answer service)
    (sym c.has_failed.ensures.value ∙ c.if-has_failed.false)
    (λ s state. (
      Err (Refused c.number-then-not-dir_right.result),
      refl,
      (
        refl,
        inl (ap (λ n. Err (Refused n)) c.number-then-not-dir_right.ensures
            ∙ sym (forbidden s (jobs_of state.under c.self.inside.jobs) c.args.job c.args.ppn _ state.jobs_are
            (slot_of state.under c.self.inside.jobs c.args.job _ c.in-Some.ensures.found) c.in-Ok.protection
            (c.in-Ok.ensures.value h (sym c.has_failed.ensures.value ∙ c.if-has_failed.false)
            (without_serials s.files) state.files)
            (sym c.dir_right.ensures.allowed ∙ c.if-not-dir_right.true))),
      ),
    )))

pub returns-in-Ok-list-clause-listed : goal.returns-in-Ok-list-clause-listed
returns-in-Ok-list-clause-listed g c =
    subst (λ m. (g.D.Disk.state m.disk).honest → (service : Service)
    → Serves (g.D.Disk.state m.disk) m.map m.failed m.jobs service
    → (answer : Result (List Entry) Reply) × (answer ≡ Ok c.in-Ok-list.lines.items)
    × Lists service c.args.job c.args.ppn answer service) c.self.view_is
    (λ h. in_state (g.D.Disk.state c.self.inside.volume.disk) c.self.inside.volume.map c.self.inside.volume.failed
    c.self.inside.jobs
    (λ service. (answer : Result (List Entry) Reply) × (answer ≡ Ok c.in-Ok-list.lines.items)
    × Lists service c.args.job c.args.ppn answer service)
    (sym c.has_failed.ensures.value ∙ c.if-has_failed.false)
    (λ s state. (
      Ok c.in-Ok-list.lines.items,
      refl,
      (
        refl,
        inl
            (sym (given s (jobs_of state.under c.self.inside.jobs) c.args.job c.args.ppn _ state.jobs_are
            (slot_of state.under c.self.inside.jobs c.args.job _ c.in-Some.ensures.found) c.in-Ok.protection
            (c.in-Ok.ensures.value h (sym c.has_failed.ensures.value ∙ c.if-has_failed.false)
            (without_serials s.files) state.files)
            c.in-Ok-list.lines.items (sym c.dir_right.ensures.allowed ∙ c.if-not-dir_right.false)
            (c.in-Ok-list.ensures.listed h (sym c.has_failed.ensures.value ∙ c.if-has_failed.false)
            (without_serials s.files) state.files))),
      ),
    )))

pub returns-in-Err-list-clause-listed : goal.returns-in-Err-list-clause-listed
returns-in-Err-list-clause-listed g c =
    subst (λ m. (g.D.Disk.state m.disk).honest → (service : Service)
    → Serves (g.D.Disk.state m.disk) m.map m.failed m.jobs service
    → (answer : Result (List Entry) Reply) × (answer ≡ Err c.reply_of.result)
    × Lists service c.args.job c.args.ppn answer service) c.self.view_is
    (λ h. in_state (g.D.Disk.state c.self.inside.volume.disk) c.self.inside.volume.map c.self.inside.volume.failed
    c.self.inside.jobs
    (λ service. (answer : Result (List Entry) Reply) × (answer ≡ Err c.reply_of.result)
    × Lists service c.args.job c.args.ppn answer service)
    (sym c.has_failed.ensures.value ∙ c.if-has_failed.false)
    (λ s state. (
      Err c.reply_of.result,
      refl,
      (
        refl,
        unlisted s (jobs_of state.under c.self.inside.jobs) c.args.job c.args.ppn _ state.jobs_are
            (slot_of state.under c.self.inside.jobs c.args.job _ c.in-Some.ensures.found) c.in-Ok.protection
            (c.in-Ok.ensures.value h (sym c.has_failed.ensures.value ∙ c.if-has_failed.false)
            (without_serials s.files) state.files)
            c.in-Err-list.error c.reply_of.result (sym c.dir_right.ensures.allowed
            ∙ c.if-not-dir_right.false) c.in-Err-list.ensures.only c.reply_of.ensures
            (λ e. (c.in-Err-list.ensures.refused h (sym c.has_failed.ensures.value
            ∙ c.if-has_failed.false) (without_serials s.files) state.files).0 (ap Err e))
            (λ e. contrary (sym c.has_failed.ensures.value ∙ c.if-has_failed.false)
            (c.in-Err-list.ensures.failed.0 (ap Err e))),
      ),
    )))
