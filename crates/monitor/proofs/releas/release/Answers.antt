use Rattle.std.proofs.Common.{sym, ap, false, None, slice_set, ◌∙◌, arith}
use Rattle.monitor.specs.Common.{rings_closed}
use Rattle.monitor.proofs.common.CallRows.{keeps_same, reads_same}
use Rattle.monitor.proofs.CloseChannel.Closes.{release_none, release_row, release_keeps, release_reads, input_held}
use Rattle.monitor.proofs.common.Dropped.{closes_none, leaves_none}
use Rattle.monitor.proofs.releas.release.Goals as goal

pub returns-in_default-clause-row : goal.returns-in_default-clause-row
returns-in_default-clause-row g c = release_none c.args.job.now c.args.number (sym c.channel.ensures ∙ c.in_default.is)

pub returns-in_default-clause-keeps : goal.returns-in_default-clause-keeps
returns-in_default-clause-keeps g c = keeps_same c.args.volume.now.map.pending c.args.job.now

pub returns-in_default-clause-reads : goal.returns-in_default-clause-reads
returns-in_default-clause-reads g c = reads_same c.args.volume.now.map.live c.args.job.now

pub returns-in_default-clause-leaves : goal.returns-in_default-clause-leaves
returns-in_default-clause-leaves g c = leaves_none c.args.volume.now.map

pub release_input-requires : goal.release_input-requires
release_input-requires g c = record {
  held =
      input_held c.args.job.now c.args.number c.in-Some.channel (sym c.channel.ensures
      ∙ c.in-Some.is) c.args.volume.now.map c.args.volume.now.map _ (closes_none c.args.volume.now.map)
      c.requires.held c.in-Some.channel.input (λ key. omega arith);
}

pub returns-clause-row : goal.returns-clause-row
returns-clause-row g c = release_row c.args.job.now c.set_channel.new.self c.args.number c.in-Some.channel
    (sym c.channel.ensures ∙ c.in-Some.is) c.requires.unpublished (c.set_channel.ensures
    ∙ ap (λ core. record c.args.job.now {
      core = core;
      channels = slice_set c.args.job.now.channels c.args.number None;
    }) (c.close_rings.ensures
    ∙ ap (rings_closed c.args.job.now.core c.in-Some.channel false) c.is_some.ensures))

pub returns-clause-keeps : goal.returns-clause-keeps
returns-clause-keeps g c =
    release_keeps c.args.volume.now.map c.release_input.new.volume.map c.args.job.now c.set_channel.new.self
    c.args.number c.in-Some.channel (sym c.channel.ensures
    ∙ c.in-Some.is) c.requires.unpublished _ c.set_channel.ensures c.release_input.ensures.closed

pub returns-clause-reads : goal.returns-clause-reads
returns-clause-reads g c =
    release_reads c.args.volume.now.map c.release_input.new.volume.map c.args.job.now c.set_channel.new.self
    c.args.number c.in-Some.channel (sym c.channel.ensures
    ∙ c.in-Some.is) c.requires.unpublished _ c.set_channel.ensures c.release_input.ensures.closed

pub returns-clause-leaves : goal.returns-clause-leaves
returns-clause-leaves g c = c.release_input.ensures.closed.leaves
