use Rattle.std.proofs.Common.{◌≡◌, filter_map, take}
use Rattle.monitor.specs.Common.{Closes, side_of, keys_of, reader_of, pins_of}
use Rattle.monitor.proofs.close_job.close_channels.Given as goal

abbrev pub invariant-loop-channel : goal.invariant-loop-channel
invariant-loop-channel g l = record {
  closed : Closes l.fn.volume.map l.volume.map (keys_of (filter_map side_of (take l.channel-index l.channels)))
      (pins_of (filter_map reader_of (take l.channel-index l.channels)));
  disk : l.volume.disk ≡ l.fn.volume.disk;
  failed : l.volume.failed ≡ l.fn.volume.failed;
  layout : l.volume.layout ≡ l.fn.volume.layout;
}
