use Rattle.std.proofs.Common.{sym, ◌∙◌}
use Rattle.monitor.proofs.common.CallRows.{keeps_same, reads_same}
use Rattle.monitor.proofs.OtherCalls.RingsMade.{outbuf_none, outbuf_row}
use Rattle.monitor.proofs.outbuf.outbuf.Goals as goal

pub returns-in_default-clause-row : goal.returns-in_default-clause-row
returns-in_default-clause-row c = outbuf_none c.args.job.now c.args.number c.args.count
    (sym c.channel.ensures ∙ c.in_default.is)

pub returns-in_default-clause-keeps : goal.returns-in_default-clause-keeps
returns-in_default-clause-keeps c pending = keeps_same pending c.args.job.now

pub returns-in_default-clause-reads : goal.returns-in_default-clause-reads
returns-in_default-clause-reads c live = reads_same live c.args.job.now

pub returns-clause-row : goal.returns-clause-row
returns-clause-row c = outbuf_row c.args.job.now c.args.number c.args.count c.in-Some.channel
    (sym c.channel.ensures ∙ c.in-Some.is) c.set_up_ring.new.job c.set_up_ring.result c.set_up_ring.ensures.row
