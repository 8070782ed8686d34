use Rattle.std.proofs.Common.{None, ap, ◌∙◌}
use Rattle.monitor.specs.Common.{side_of, reader_of}
use Rattle.monitor.proofs.common.Dropped.{get_there, next_live, next_held, closed_more}
use Rattle.monitor.proofs.close_job.close_channels.Goals as goal

pub close_sides-requires-clause-live : goal.close_sides-requires-clause-live
close_sides-requires-clause-live g c =
    let here = c.channel-item.is ∙ get_there c.args.channels.now c.loop-channel.channel-index c.channel-item.result
    None c.loop-channel-test.true in
    next_live c.args.volume.now.map c.loop-channel.volume.map c.args.channels.now c.loop-channel.channel-index
    (side_of c.channel-item.result) (reader_of c.channel-item.result) c.loop-channel-test.true
    (ap side_of here) (ap reader_of here) c.loop-channel.invariant.closed c.requires.live

pub close_sides-requires-clause-held : goal.close_sides-requires-clause-held
close_sides-requires-clause-held g c =
    let here = c.channel-item.is ∙ get_there c.args.channels.now c.loop-channel.channel-index c.channel-item.result
    None c.loop-channel-test.true in
    next_held c.args.volume.now.map c.loop-channel.volume.map c.args.channels.now c.loop-channel.channel-index
    (side_of c.channel-item.result) (reader_of c.channel-item.result) c.loop-channel-test.true
    (ap side_of here) (ap reader_of here) c.loop-channel.invariant.closed c.requires.held

pub loop-channel-preserved : goal.loop-channel-preserved
loop-channel-preserved g c =
    let here = c.channel-item.is ∙ get_there c.args.channels.now c.loop-channel.channel-index c.channel-item.result
    None c.loop-channel-test.true in
    record {
      closed = closed_more c.args.volume.now.map c.loop-channel.volume.map c.args.channels.now
          c.loop-channel.channel-index (side_of c.channel-item.result) (reader_of c.channel-item.result)
          c.loop-channel-test.true
          (ap side_of here) (ap reader_of here) c.loop-channel.invariant.closed c.close_sides.new.volume.map
          c.close_sides.ensures.closed;
      disk = c.close_sides.ensures.untouched.0 ∙ c.loop-channel.invariant.disk;
      failed = c.close_sides.ensures.untouched.1 ∙ c.loop-channel.invariant.failed;
      layout = c.close_sides.ensures.layout ∙ c.loop-channel.invariant.layout;
    }
