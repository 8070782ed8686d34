use Rattle.std.proofs.Common.{◌+◌, refl}
use Rattle.volume.proofs.PinVersion.Pins.{readers_whole}
use Rattle.volume.proofs.live.pin_version.Goals as goal

pub returns-clause-whole : goal.returns-clause-whole
returns-clause-whole c size =
    readers_whole size c.args.map.now c.add_reader.new.versions c.args.key (λ n. n + 1) _
    refl c.requires.there c.add_reader.ensures.counted c.add_reader.ensures.others
