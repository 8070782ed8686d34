use Rattle.std.proofs.Common.{◌-◌, refl, sym, ◌∙◌}
use Rattle.volume.specs.Common.{memory_of}
use Rattle.volume.proofs.PinVersion.Pins.{readers_whole, gone_directories, gone_memory, has_ended, ended_held}
use Rattle.volume.proofs.PinVersion.Pins.{ended_booked, ended_few}
use Rattle.volume.proofs.live.unpin_version.Goals as goal

pub release_version-requires-clause-held : goal.release_version-requires-clause-held
release_version-requires-clause-held c =
    let was = sym c.try_remove.ensures.value ∙ c.in-Some.is in
    ended_held c.requires.whole.0 (memory_of c.args.map.now) c.requires.whole.1 c.args.key c.in-Some.version was
    (has_ended _ c.in-Some.version c.goes_with_reader.result was c.goes_with_reader.ensures c.if-goes_with_reader.true)

pub release_version-requires-clause-booked : goal.release_version-requires-clause-booked
release_version-requires-clause-booked c =
    let was = sym c.try_remove.ensures.value ∙ c.in-Some.is in
    ended_booked c.requires.whole.0 (memory_of c.args.map.now) c.requires.whole.1 c.args.key c.in-Some.version was
    (has_ended _ c.in-Some.version c.goes_with_reader.result was c.goes_with_reader.ensures c.if-goes_with_reader.true)

pub release_version-requires-clause-few : goal.release_version-requires-clause-few
release_version-requires-clause-few c =
    let was = sym c.try_remove.ensures.value ∙ c.in-Some.is in
    ended_few c.requires.whole.0 (memory_of c.args.map.now) c.requires.whole.1 c.args.key c.in-Some.version was
    (has_ended _ c.in-Some.version c.goes_with_reader.result was c.goes_with_reader.ensures c.if-goes_with_reader.true)

pub returns-in-Some-clause-known : goal.returns-in-Some-clause-known
returns-in-Some-clause-known c =
    let m = c.args.map.now in
    let was = sym c.try_remove.ensures.value ∙ c.in-Some.is in
    let ended = has_ended _ c.in-Some.version c.goes_with_reader.result was c.goes_with_reader.ensures
    c.if-goes_with_reader.true in
    let same = gone_directories c.requires.whole.0 m c.try_remove.new.self.slots c.args.key c.in-Some.version
    c.requires.whole.1 was ended c.try_remove.ensures.updates.others in
    λ i. record { master = (memory_of m).known.master; directories = same i; table = c.release_version.new.table }

pub returns-in-Some-clause-whole : goal.returns-in-Some-clause-whole
returns-in-Some-clause-whole c size =
    let m = c.args.map.now in
    let was = sym c.try_remove.ensures.value ∙ c.in-Some.is in
    let ended = has_ended _ c.in-Some.version c.goes_with_reader.result was c.goes_with_reader.ensures
    c.if-goes_with_reader.true in
    gone_memory size m c.try_remove.new.self c.release_version.new.table c.args.key c.in-Some.version was
    ended c.try_remove.ensures.updates c.release_version.ensures.rest c.release_version.ensures.held
    c.release_version.ensures.booked

pub returns-else-goes_with_reader-clause-whole : goal.returns-else-goes_with_reader-clause-whole
returns-else-goes_with_reader-clause-whole c size = readers_whole size c.args.map.now c.remove_reader.new.versions
    c.args.key (λ n. n - 1) _ refl c.requires.there c.remove_reader.ensures.counted c.remove_reader.ensures.others
