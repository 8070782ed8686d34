use Rattle.std.proofs.Common.{sym, ap, Some, slice_set, ◌∙◌}
use Rattle.monitor.proofs.common.CallRows.{keeps_same, reads_same}
use Rattle.monitor.proofs.CloseChannel.Closes.{close_none, close_row, closed_back, closed_both, dropped_live}
use Rattle.monitor.proofs.CloseChannel.Closes.{released_held, closed_as, close_keeps, close_reads, ends_is}
use Rattle.monitor.proofs.common.Dropped.{leaves_none, leaves_on}
use Rattle.monitor.proofs.close.close.Goals as goal

pub returns-in_default-clause-row : goal.returns-in_default-clause-row
returns-in_default-clause-row g c = close_none c.args.job.now c.args.number c.args.bits (sym c.channel.ensures
    ∙ c.in_default.is)

pub returns-in_default-clause-keeps : goal.returns-in_default-clause-keeps
returns-in_default-clause-keeps g c = keeps_same c.args.volume.now.map.pending c.args.job.now

pub returns-in_default-clause-reads : goal.returns-in_default-clause-reads
returns-in_default-clause-reads g c = reads_same c.args.volume.now.map.live c.args.job.now

pub returns-in_default-clause-leaves : goal.returns-in_default-clause-leaves
returns-in_default-clause-leaves g c = leaves_none c.args.volume.now.map

pub drop_output-requires : goal.drop_output-requires
drop_output-requires g c = record {
  live =
      dropped_live c.args.job.now c.args.number c.in-Some.channel (sym c.channel.ensures
      ∙ c.in-Some.is) c.args.bits c.args.volume.now.map.pending c.parted-output.result.1 c.parted-output.ensures.closed
      c.requires.live;
}

pub release_input-requires : goal.release_input-requires
release_input-requires g c = record {
  held =
      released_held c.args.job.now c.args.number c.in-Some.channel (sym c.channel.ensures
      ∙ c.in-Some.is) c.args.bits c.args.volume.now.map c.drop_output.new.volume.map _ c.drop_output.ensures.closed
      c.requires.held c.parted.result.1 c.parted.ensures.closed;
}

pub returns-clause-row : goal.returns-clause-row
returns-clause-row g c =
    let ends = ends_is c.in-Some.channel c.args.bits c.parted.result.1 c.parted.ensures.closed
    c.ends_ring-ends.result c.ends_ring-ends.ensures in
    close_row c.args.job.now c.set_channel.new.self c.args.number c.args.bits c.in-Some.channel (sym c.channel.ensures
    ∙ c.in-Some.is) c.requires.unpublished c.ends_ring-ends.result ends
    (closed_back c.args.job.now c.set_channel.new.self c.args.number c.args.bits c.in-Some.channel
    c.close_rings.new.core c.cleared.result
    c.parted.result.0 c.parted-output.result.0 c.cleared.ensures.value c.parted.ensures.kept
    c.parted-output.ensures.kept c.set_channel.ensures
    ∙ ap (λ core. record c.args.job.now {
      core = core;
      channels = slice_set c.args.job.now.channels c.args.number (Some (closed_as c.in-Some.channel c.args.bits));
    }) c.close_rings.ensures)

pub returns-clause-keeps : goal.returns-clause-keeps
returns-clause-keeps g c =
    close_keeps c.args.job.now c.args.number c.in-Some.channel (sym c.channel.ensures
    ∙ c.in-Some.is) c.args.bits c.args.volume.now.map c.release_input.new.volume.map c.set_channel.new.self
    c.close_rings.new.core
    c.parted-output.result.1 c.parted.result.1 c.parted-output.ensures.closed c.parted.ensures.closed
    (closed_back c.args.job.now c.set_channel.new.self c.args.number c.args.bits c.in-Some.channel
    c.close_rings.new.core c.cleared.result
    c.parted.result.0 c.parted-output.result.0 c.cleared.ensures.value c.parted.ensures.kept
    c.parted-output.ensures.kept c.set_channel.ensures)
    (closed_both c.args.volume.now.map c.drop_output.new.volume.map c.release_input.new.volume.map _
    _ c.drop_output.ensures.closed c.release_input.ensures.closed)

pub returns-clause-reads : goal.returns-clause-reads
returns-clause-reads g c =
    close_reads c.args.job.now c.args.number c.in-Some.channel (sym c.channel.ensures
    ∙ c.in-Some.is) c.args.bits c.args.volume.now.map c.release_input.new.volume.map c.set_channel.new.self
    c.close_rings.new.core
    c.parted-output.result.1 c.parted.result.1 c.parted-output.ensures.closed c.parted.ensures.closed
    (closed_back c.args.job.now c.set_channel.new.self c.args.number c.args.bits c.in-Some.channel
    c.close_rings.new.core c.cleared.result
    c.parted.result.0 c.parted-output.result.0 c.cleared.ensures.value c.parted.ensures.kept
    c.parted-output.ensures.kept c.set_channel.ensures)
    (closed_both c.args.volume.now.map c.drop_output.new.volume.map c.release_input.new.volume.map _
    _ c.drop_output.ensures.closed c.release_input.ensures.closed)

pub returns-clause-leaves : goal.returns-clause-leaves
returns-clause-leaves g c =
    leaves_on c.args.volume.now.map c.drop_output.new.volume.map c.release_input.new.volume.map
    c.drop_output.ensures.closed.leaves c.release_input.ensures.closed.leaves
