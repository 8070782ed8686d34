use Rattle.std.proofs.Common.{◌≡◌, ◌+◌, ◌<◌, ◌^◌, ℕ, Err, Some, ap, arith, sym, subst, ◌∙◌}
use Rattle.std.proofs.lemmas.Result.{err_from_is_err_and}
use Rattle.volume.specs.Common.{slot, memory_of}
use Rattle.volume.specs.declared.live.LiveVersion.{LiveVersion}
use Rattle.volume.proofs.common.Answers.{rest_holds}
use Rattle.volume.proofs.PinVersion.PinnedFiles.{key_file, pin_answered, pin_refused, pinned_sound}
use Rattle.volume.proofs.common.PrimeBlocks.{prime_of_place, prime_of_no_file}
use Rattle.volume.proofs.common.SoundVolumes.{volume_stays}
use Rattle.volume.proofs.volume.Volume.pin.Goals as goal

pub returns-in_err-key-clause-value : goal.returns-in_err-key-clause-value
returns-in_err-key-clause-value g c = rw (← c.self.view_is) (λ honest alive files rest.
    let s = g.D.Disk.state c.self.inside.disk in
    let memory = memory_of c.self.inside.map in
    let holds = rest_holds s memory c.self.inside.failed c.self.invariant.map honest alive files rest in
    let p = err_from_is_err_and c.from_residual.result c.from_residual.ensures.1 in
    pin_refused s memory files holds c.args.ppn c.args.name.now memory.live c.in_err-key.field-0.0
    c.from_residual.result
    (p.1 ∙ ap Err p.2) c.in_err-key.ensures.none)

pub returns-clause-pinned : goal.returns-clause-pinned
returns-clause-pinned g c = rw (← c.self.view_is) (let is = c.in_ok-key.ensures.found in
    (is.version, is.here, c.pin_version.ensures.pinned is.version is.here))

pub returns-clause-readable : goal.returns-clause-readable
returns-clause-readable g c =
    let is = c.in_ok-key.ensures.found in (
      record is.version { readers = is.version.readers + 1 },
      c.pin_version.ensures.pinned is.version is.here,
      omega
          arith,
    )

pub returns-clause-at : goal.returns-clause-at
returns-clause-at g c = rw (← c.self.view_is) (
    let is = c.in_ok-key.ensures.found in
    let found = prime_of_place (memory_of c.self.inside.map).known.master.entries
    (memory_of c.self.inside.map).known.directories is.place c.args.ppn c.args.name.now is.word is.directory
    is.there is.directory_at in
    (is.version, is.here, is.current, found ∙ is.at.found ∙ ap Some (sym is.prime_is)))

pub invariant_of-self : goal.invariant_of-self
invariant_of-self g c =
    let s = g.D.Disk.state c.self.inside.disk in
    let is = c.in_ok-key.ensures.found in
    volume_stays s (memory_of c.self.inside.map) (memory_of c.pin_version.new.map) c.self.inside.failed
    c.self.inside.layout c.self.invariant
    (pinned_sound s (memory_of c.self.inside.map) (memory_of c.pin_version.new.map) c.self.inside.failed c.args.ppn
    c.args.name.now c.in_ok-key.key c.self.invariant.map is
    (c.pin_version.ensures.whole s.size c.self.invariant.map.whole) c.pin_version.ensures.map
    (c.pin_version.ensures.pinned is.version is.here) c.pin_version.ensures.others)

pub returns-clause-value : goal.returns-clause-value
returns-clause-value g c = rw (← c.self.view_is) (λ honest alive files rest.
    let s = g.D.Disk.state c.self.inside.disk in
    let memory = memory_of c.self.inside.map in
    let is = c.in_ok-key.ensures.found in
    let holds = rest_holds s memory c.self.inside.failed c.self.invariant.map honest alive files rest in
    pin_answered s files c.args.ppn c.args.name.now is.version (memory_of c.pin_version.new.map).live
    (record { key = c.in_ok-key.key }) (is.version.readers + 1)
    (key_file s memory files holds c.args.ppn c.args.name.now c.in_ok-key.key is)
    (c.pin_version.ensures.pinned is.version is.here))

pub pin_version-requires-clause-few : goal.pin_version-requires-clause-few
pin_version-requires-clause-few g c =
    let few = subst (λ m. (key : ℕ) (v : LiveVersion) → slot m.map.live key ≡ Some v
    → v.readers + 1 < 2 ^ 32) (sym c.self.view_is) c.requires.few in
    let is = c.in_ok-key.ensures.found in
    rw is.here (few c.in_ok-key.key is.version is.here)

pub returns-in_err-key-clause-absent : goal.returns-in_err-key-clause-absent
returns-in_err-key-clause-absent g c = rw (← c.self.view_is) (λ err alive.
    prime_of_no_file (memory_of c.self.inside.map) c.args.ppn c.args.name.now c.in_err-key.field-0.0
    c.in_err-key.ensures.none)
