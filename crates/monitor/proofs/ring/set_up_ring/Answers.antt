use Rattle.std.proofs.Common.{rules, refl, sym, ap, ◌∙◌, subst, slice_set, Some}
use Rattle.spec_machine.specs.Common.{setup, buffers_of}
use Rattle.retrieval.specs.Common.{mode_number}
use Rattle.spec_machine.specs.declared.call.Reply.TheVariants.{Done}
use Rattle.monitor.specs.Common.{KeepsSides, KeepsReading, job_of}
use Rattle.monitor.proofs.common.CallRows.{keeps_same, keeps_core, reads_core}
use Rattle.monitor.proofs.OtherCalls.RingsMade.{ring_done, ring_there, ok_gives}
use Rattle.monitor.proofs.OtherCalls.Usetos.{keeps_status, reads_status}
use Rattle.monitor.proofs.ring.set_up_ring.Goals as goal

pub returns-then-not-is_buffered-clause-keeps : goal.returns-then-not-is_buffered-clause-keeps
returns-then-not-is_buffered-clause-keeps c pending = keeps_same pending c.args.job.now

pub returns-then-is_err-clause-keeps : goal.returns-then-is_err-clause-keeps
returns-then-is_err-clause-keeps c pending = keeps_core pending pending c.args.job.now c.args.job.now
    c.ring_setup.new.self (keeps_same pending c.args.job.now)

pub returns-clause-row : goal.returns-clause-row
returns-clause-row c w =
    ring_done c.args.job.now c.args.number c.args.channel c.args.header c.args.count w
    (ring_there (mode_number c.args.channel.mode) c.args.header c.is_buffered.result c.is_buffered.ensures
    c.if-not-is_buffered.false (search rules)) c.ring_setup.new.self
    (ap (λ size. setup c.args.job.now.core c.args.header size (buffers_of c.args.count)) (sym c.bytes.ensures)
    ∙ ok_gives c.ring_setup.result c.ring_setup.ensures.done (sym c.is_err.ensures.value ∙ c.if-is_err.false))
    ∙ ap (λ j. (Done, job_of w j)) (sym (c.set_channel.ensures ∙ ap (λ status. record c.args.job.now {
      core = c.ring_setup.new.self;
      channels = slice_set c.args.job.now.channels c.args.number (Some (record c.args.channel { status = status }));
    }) c.cleared-status.ensures.value))

pub returns-clause-keeps : goal.returns-clause-keeps
returns-clause-keeps c pending =
    subst (KeepsSides pending pending c.args.job.now) (sym c.set_channel.ensures)
    (keeps_core pending pending c.args.job.now _ c.ring_setup.new.self
    (keeps_status c.args.job.now c.args.number 0 c.args.channel c.requires.there pending _ c.cleared-status.result
    refl))

pub returns-clause-reads : goal.returns-clause-reads
returns-clause-reads c live =
    subst (KeepsReading live live c.args.job.now) (sym c.set_channel.ensures)
    (reads_core live live c.args.job.now _ c.ring_setup.new.self
    (reads_status c.args.job.now c.args.number 0 c.args.channel c.requires.there live _ c.cleared-status.result refl))
