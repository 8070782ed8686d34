use Rattle.std.proofs.Common.{◌≡◌, refl, sym, ap, ◌∙◌, subst, true, false, Some, slice_set}
use Rattle.std.specs.Prelude.{is_some}
use Rattle.spec_machine.specs.declared.call.Call.TheVariants.{Open}
use Rattle.spec_machine.specs.declared.call.Reply.TheVariants.{Done, Refused}
use Rattle.monitor.specs.Common.{IsRow, KeepsSides, KeepsReading, improper_at, opened_at, rings_opened}
use Rattle.monitor.proofs.common.CallRows.{keeps_same, keeps_core, reads_core}
use Rattle.monitor.proofs.OtherCalls.Opens.{answer_is, no_channel_row, refused_row, done_row, keeps_opened}
use Rattle.monitor.proofs.OtherCalls.Opens.{reads_opened, opened_job}
use Rattle.monitor.proofs.open.open.Goals as goal

pub returns-then-number-ge-CHANNELS-clause-row : goal.returns-then-number-ge-CHANNELS-clause-row
returns-then-number-ge-CHANNELS-clause-row c = no_channel_row c.args.job.now c.args.number c.args.address
    c.if-number-ge-CHANNELS.true

pub returns-then-number-ge-CHANNELS-clause-keeps : goal.returns-then-number-ge-CHANNELS-clause-keeps
returns-then-number-ge-CHANNELS-clause-keeps c pending = keeps_same pending c.args.job.now

pub returns-then-lies_outside-clause-keeps : goal.returns-then-lies_outside-clause-keeps
returns-then-lies_outside-clause-keeps c pending = keeps_same pending c.args.job.now

pub returns-then-misses_headers-clause-keeps : goal.returns-then-misses_headers-clause-keeps
returns-then-misses_headers-clause-keeps c pending = keeps_same pending c.args.job.now

pub returns-then-is_some-clause-keeps : goal.returns-then-is_some-clause-keeps
returns-then-is_some-clause-keeps c pending = keeps_same pending c.args.job.now

pub returns-then-is_some-clause-row : goal.returns-then-is_some-clause-row
returns-then-is_some-clause-row c =
    subst (λ code. IsRow c.args.job.now c.args.job.now (Open c.args.number c.args.address) (Refused code))
    (sym c.number.ensures)
    (refused_row c.args.job.now c.args.number c.args.address c.if-number-ge-CHANNELS.false (Refused 5)
    (λ w. answer_is c.args.job.now c.args.number c.args.address w false false true
    (improper_at c.args.job.now.core c.args.address) (sym c.lies_outside.ensures.value
    ∙ c.if-lies_outside.false) (sym c.misses_headers.ensures ∙ c.if-misses_headers.false)
    (ap is_some (sym c.channel.ensures) ∙ sym c.is_some.ensures ∙ c.if-is_some.true) refl) (λ e. cc e))

pub returns-in_default-clause-keeps : goal.returns-in_default-clause-keeps
returns-in_default-clause-keeps c pending = keeps_same pending c.args.job.now

-- the job that is opened
opened : (c : goal.After-set_channel) → c.set_channel.new.self
    ≡ opened_job c.args.job.now c.args.number c.args.address c.in-Some.mode
opened c = c.set_channel.ensures
    ∙ ap (λ core. record c.args.job.now {
      core = core;
      channels = slice_set c.args.job.now.channels c.args.number (Some c.opened-channel.result);
    }) c.open_rings.ensures
    ∙ ap (λ x. record c.args.job.now {
      core = rings_opened c.args.job.now.core x;
      channels = slice_set c.args.job.now.channels c.args.number (Some x);
    }) c.opened-channel.ensures

pub returns-clause-row : goal.returns-clause-row
returns-clause-row c =
    let found = c.in-Some.ensures.some in
    subst (λ job. IsRow c.args.job.now job (Open c.args.number c.args.address) Done) (sym (opened c))
    (done_row c.args.job.now c.args.number c.args.address c.if-number-ge-CHANNELS.false
    (λ w. answer_is c.args.job.now c.args.number c.args.address w false false false false
    (sym c.lies_outside.ensures.value ∙ c.if-lies_outside.false) (sym c.misses_headers.ensures
    ∙ c.if-misses_headers.false) (ap is_some (sym c.channel.ensures) ∙ sym c.is_some.ensures
    ∙ c.if-is_some.false) found.0) c.in-Some.mode found.1)

pub returns-clause-keeps : goal.returns-clause-keeps
returns-clause-keeps c pending =
    let channel = opened_at c.in-Some.mode c.args.job.now.core c.args.address in
    subst (KeepsSides pending pending c.args.job.now) (sym (opened c))
    (keeps_core pending pending c.args.job.now _ (rings_opened c.args.job.now.core channel)
    (keeps_opened pending c.args.job.now c.args.number channel
    (ap is_some (sym c.channel.ensures) ∙ sym c.is_some.ensures ∙ c.if-is_some.false) refl))

pub returns-clause-reads : goal.returns-clause-reads
returns-clause-reads c live =
    let channel = opened_at c.in-Some.mode c.args.job.now.core c.args.address in
    subst (KeepsReading live live c.args.job.now) (sym (opened c))
    (reads_core live live c.args.job.now _ (rings_opened c.args.job.now.core channel)
    (reads_opened live c.args.job.now c.args.number channel
    (ap is_some (sym c.channel.ensures) ∙ sym c.is_some.ensures ∙ c.if-is_some.false) refl))
