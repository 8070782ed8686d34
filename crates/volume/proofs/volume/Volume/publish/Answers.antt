use Rattle.std.proofs.Common.{◌≡◌, ◌↔◌, ◌⊎◌, ◌+◌, ◌-◌, ◌*◌, ◌<◌, ℕ, length, Err, IsErrOf, IsSome, Some, sym, ap}
use Rattle.std.proofs.Common.{subst, ◌∙◌}
use Rattle.spec_image.specs.Common.{version_cost, most_blocks, splice, length_after}
use Rattle.spec_image.proofs.Common.{some_same, length-splice, some_is}
use Rattle.alloctab.specs.Common.{space}
use Rattle.volume.specs.Common.{MemoryMap, slot, pending_at, memory_of, IsPlaced, IsSupplied}
use Rattle.volume.specs.declared.error.CallError.TheVariants.{Refused}
use Rattle.spec_image.specs.declared.code.ErrorCode.TheVariants.{NoRoom}
use Rattle.volume.specs.declared.pending.PendingVersion.{PendingVersion}
use Rattle.volume.proofs.PublishVersion.Publications.{unchanged_leaves, quiet_leaves_either, both_leave, placed_on}
use Rattle.volume.proofs.PublishVersion.Publications.{supplied_on, ribs_on}
use Rattle.volume.proofs.PublishVersion.Slots.{made_current_readers}
use Rattle.volume.proofs.common.UnchangedHomes.{homes_on}
use Rattle.volume.proofs.common.Edits.{copies_stay, ok_anyway}
use Rattle.volume.proofs.common.SoundVolumes.{not_both, volume_goes_on}
use Rattle.volume.proofs.volume.Volume.publish.Goals as goal

pub returns-in_err-blocks-clause-crash : goal.returns-in_err-blocks-clause-crash
returns-in_err-blocks-clause-crash g c = rw (← c.self.view_is) (λ h f rests p there body long has.
    unchanged_leaves (g.D.Disk.state c.self.inside.disk) f _ rests
    (λ d left. g.met.D.Disk.only_now c.self.inside.disk d h left))

pub returns-in_default-clause-crash : goal.returns-in_default-clause-crash
returns-in_default-clause-crash g c = rw (← c.self.view_is) (λ h f rests p there body long has.
    unchanged_leaves (g.D.Disk.state c.self.inside.disk) f _ rests
    (λ d left. g.met.D.Disk.only_now c.self.inside.disk d h left))

pub returns-in-Err-clause-crash : goal.returns-in-Err-clause-crash
returns-in-Err-clause-crash g c = rw (← c.self.view_is) (λ h f rests p there body long has.
    quiet_leaves_either (g.D.Disk.state c.self.inside.disk) (g.D.Disk.state c.put_in_memory-put.new.disk) f _
    (c.put_in_memory-put.ensures.quiet h f rests))

pub publish_written-requires-clause-placed : goal.publish_written-requires-clause-placed
publish_written-requires-clause-placed g c q here =
    let old = memory_of c.self.inside.map in
    let memory = memory_of c.preallocate_publish.new.map in
    let same = c.preallocate_publish.ensures.map in
    let p = some_is (pending_at old.pending c.args.pending.key)
    (subst (λ m. IsSome (pending_at m.map.pending c.args.pending.key)) (sym c.self.view_is) c.requires.live) in
    let put = c.in-Ok-put.ensures.put p.0 (ap (λ (x : MemoryMap). pending_at x.pending c.args.pending.key) same
    ∙ p.1) in
    subst (IsPlaced (memory_of c.put_in_memory-put.new.map)) (some_same (sym put.1 ∙ here))
    (placed_on memory (memory_of c.put_in_memory-put.new.map) c.put_in_memory-put.ensures.known p.0 put.0
    (subst (λ (x : MemoryMap). IsPlaced x p.0) (sym same) (subst (λ m. (p : PendingVersion)
    → pending_at m.map.pending c.args.pending.key ≡ Some p
    → IsPlaced m.map p) (sym c.self.view_is) c.requires.placed p.0 p.1)))

pub publish_written-requires-clause-ribs : goal.publish_written-requires-clause-ribs
publish_written-requires-clause-ribs g c q here =
    let s' = g.D.Disk.state c.put_in_memory-put.new.disk in
    let old = memory_of c.self.inside.map in
    let same = c.preallocate_publish.ensures.map in
    let p = some_is (pending_at old.pending c.args.pending.key)
    (subst (λ m. IsSome (pending_at m.map.pending c.args.pending.key)) (sym c.self.view_is) c.requires.live) in
    let put = c.in-Ok-put.ensures.put p.0 (ap (λ (x : MemoryMap). pending_at x.pending c.args.pending.key) same
    ∙ p.1) in
    let is = some_same (sym put.1 ∙ here) in
    ribs_on s'.size (memory_of c.put_in_memory-put.new.map) c.args.pending.key q _ c.in_ok-blocks.blocks _
    c.put_in_memory-put.ensures.sound.whole here (ap (λ (x : PendingVersion). x.version.words) (sym is)
    ∙ put.2) (c.in_ok-blocks.ensures.blocks p.0 p.1) c.in-Ok.ensures.ribs

pub publish_written-requires-clause-supplied : goal.publish_written-requires-clause-supplied
publish_written-requires-clause-supplied g c q here =
    let old = memory_of c.self.inside.map in
    let memory = memory_of c.preallocate_publish.new.map in
    let same = c.preallocate_publish.ensures.map in
    let p = some_is (pending_at old.pending c.args.pending.key)
    (subst (λ m. IsSome (pending_at m.map.pending c.args.pending.key)) (sym c.self.view_is) c.requires.live) in
    let put = c.in-Ok-put.ensures.put p.0 (ap (λ (x : MemoryMap). pending_at x.pending c.args.pending.key) same
    ∙ p.1) in
    let supplies = c.in-Ok.supplies in
    subst (λ (x : PendingVersion). IsSupplied (memory_of c.put_in_memory-put.new.map) x
    supplies.reserve supplies.keys) (some_same (sym put.1 ∙ here))
    (supplied_on memory (memory_of c.put_in_memory-put.new.map) c.put_in_memory-put.ensures.known
    c.put_in_memory-put.ensures.keys
    p.0 put.0 supplies.reserve supplies.keys
    (subst (λ (x : MemoryMap). IsSupplied x p.0 supplies.reserve supplies.keys)
    (sym same) (c.in-Ok.ensures.supplied p.0 p.1)))

pub returns-in-Ok-put-clause-crash : goal.returns-in-Ok-put-clause-crash
returns-in-Ok-put-clause-crash g c = rw (← c.self.view_is) (λ h f rests p there body long has.
    let s = g.D.Disk.state c.self.inside.disk in
    let mid = g.D.Disk.state c.put_in_memory-put.new.disk in
    let put = c.in-Ok-put.ensures.put p
    (ap (λ (x : MemoryMap). pending_at x.pending c.args.pending.key) c.preallocate_publish.ensures.map ∙ there) in
    both_leave s mid (g.D.Disk.state c.publish_written.new.disk) f _ c.put_in_memory-put.ensures.answer.same.size
    (c.put_in_memory-put.ensures.rests (c.publish_written.ensures.answer.same.was_honest h) f rests)
    (c.put_in_memory-put.ensures.quiet (c.publish_written.ensures.answer.same.was_honest h) f rests)
    (c.publish_written.ensures.crash h f
    (c.put_in_memory-put.ensures.rests (c.publish_written.ensures.answer.same.was_honest h) f rests)
    (record p { version = put.0 }) put.1 (splice body c.args.block c.args.words.now)
    (length-splice body c.args.block c.args.words.now
    ∙ ap (λ (n : ℕ). length_after n c.args.block (length c.args.words.now)) long
    ∙ sym put.2) (put.3 (c.publish_written.ensures.answer.same.was_honest h) body long has)))

pub returns-in-Ok-put-clause-done : goal.returns-in-Ok-put-clause-done
returns-in-Ok-put-clause-done g c = rw (← c.self.view_is) (λ h f rests p there body long has.
    let put = c.in-Ok-put.ensures.put p
    (ap (λ (x : MemoryMap). pending_at x.pending c.args.pending.key) c.preallocate_publish.ensures.map ∙ there) in
    c.publish_written.ensures.done h f
    (c.put_in_memory-put.ensures.rests (c.publish_written.ensures.answer.same.was_honest h) f rests)
    (record p { version = put.0 }) put.1 (splice body c.args.block c.args.words.now)
    (length-splice body c.args.block c.args.words.now
    ∙ ap (λ (n : ℕ). length_after n c.args.block (length c.args.words.now)) long
    ∙ sym put.2) (put.3 (c.publish_written.ensures.answer.same.was_honest h) body long has))

pub returns-in-Ok-put-clause-held : goal.returns-in-Ok-put-clause-held
returns-in-Ok-put-clause-held g c = rw (← c.self.view_is) (λ k v there read.
    let old = memory_of c.self.inside.map in
    let memory = memory_of c.put_in_memory-put.new.map in
    let new = memory_of c.publish_written.new.map in
    let same = c.preallocate_publish.ensures.map in
    let p = some_is (pending_at old.pending c.args.pending.key)
    (subst (λ m. IsSome (pending_at m.map.pending c.args.pending.key)) (sym c.self.view_is) c.requires.live) in
    let put = c.in-Ok-put.ensures.put p.0 (ap (λ (x : MemoryMap). pending_at x.pending c.args.pending.key) same
    ∙ p.1) in
    let q = record p.0 { version = put.0 } in
    let made = c.publish_written.ensures.made_current q put.1 in
    made_current_readers (g.D.Disk.state c.put_in_memory-put.new.disk).size memory new c.args.pending.key q made.0
    made.1
    made.2 made.3 k v (ap (λ l. slot l k) (c.put_in_memory-put.ensures.live ∙ ap (λ (x : MemoryMap). x.live) same)
    ∙ there) read)

pub returns-in-Err-clause-room : goal.returns-in-Err-clause-room
returns-in-Err-clause-room g c = rw (← c.self.view_is) (λ alive p there.
    let same = c.preallocate_publish.ensures.map in
    let room = c.in-Err.ensures.room alive p (ap (λ (x : MemoryMap). pending_at x.pending c.args.pending.key) same
    ∙ there) in
    let s = g.D.Disk.state c.self.inside.disk in
    let words = length_after p.version.words c.args.block (length c.args.words.now) in
    subst (λ (x : MemoryMap). IsErrOf {T = Unit {0}} (Err c.in-Err.error) (Refused NoRoom)
    ↔ ((0 < length c.args.words.now) × ((most_blocks * 128 < words)
    ⊎ (space s.size < x.known.table.booked + (version_cost words - version_cost p.version.words))))) same room)

pub preallocate_publish-requires-clause-placed : goal.preallocate_publish-requires-clause-placed
preallocate_publish-requires-clause-placed g c = subst (λ m. (p : PendingVersion)
    → pending_at m.map.pending c.args.pending.key ≡ Some p → IsPlaced m.map p) (sym c.self.view_is) c.requires.placed

-- The home copies.

pub returns-then-self-clause-homes : goal.returns-then-self-clause-homes
returns-then-self-clause-homes g c = rw (← c.self.view_is)
    (copies_stay (λ h d left. g.met.D.Disk.only_now c.self.inside.disk d h left))

pub returns-in_err-blocks-clause-homes : goal.returns-in_err-blocks-clause-homes
returns-in_err-blocks-clause-homes g c = rw (← c.self.view_is)
    (copies_stay (λ h d left. g.met.D.Disk.only_now c.self.inside.disk d h left))

pub returns-in_default-clause-homes : goal.returns-in_default-clause-homes
returns-in_default-clause-homes g c = rw (← c.self.view_is)
    (copies_stay (λ h d left. g.met.D.Disk.only_now c.self.inside.disk d h left))

pub returns-in-Ok-put-clause-homes : goal.returns-in-Ok-put-clause-homes
returns-in-Ok-put-clause-homes g c = rw (← c.self.view_is) (
    let put = c.put_in_memory-put.ensures in
    let written = c.publish_written.ensures in
    let m = written.answer.same.was_honest in
    record {
      crash = λ h. homes_on (g.D.Disk.state c.self.inside.disk) (g.D.Disk.state c.put_in_memory-put.new.disk)
          (g.D.Disk.state c.publish_written.new.disk) (put.homes (m h)) (written.homes.crash h);
      stay = λ h served n low. written.homes.stay h served n low ∙ put.home_blocks (m h) n low;
    })

pub returns-in-Err-clause-homes : goal.returns-in-Err-clause-homes
returns-in-Err-clause-homes g c = rw (← c.self.view_is) (record {
  crash = c.put_in_memory-put.ensures.homes;
  stay = λ h served. c.put_in_memory-put.ensures.home_blocks h;
})

-- What stays before the last words.

pub returns-in-Ok-put-clause-whole : goal.returns-in-Ok-put-clause-whole
returns-in-Ok-put-clause-whole g c = rw (← c.self.view_is) (λ h some p there.
    ok_anyway c.publish_written.result _
    (c.in-Ok-put.ensures.whole (c.publish_written.ensures.answer.same.was_honest h) some p
    (ap (λ (x : MemoryMap). pending_at x.pending c.args.pending.key) c.preallocate_publish.ensures.map ∙ there)))

-- The layout stays.

pub invariant_of-self-in-Ok-put : goal.invariant_of-self-in-Ok-put
invariant_of-self-in-Ok-put g c =
    let put = c.put_in_memory-put.ensures in
    let written = c.publish_written.ensures in
    volume_goes_on (g.D.Disk.state c.self.inside.disk) (g.D.Disk.state c.publish_written.new.disk)
    (memory_of c.self.inside.map) (memory_of c.publish_written.new.map) c.self.inside.failed
    c.publish_written.new.failed
    c.self.inside.layout c.self.invariant written.sound
    (written.answer.same.size ∙ put.answer.same.size)
    (λ h. put.answer.same.was_honest (written.answer.same.was_honest h)) (λ ok. c.if-self.false)
    (λ h ok n low.
    written.homes.stay h (λ is. not_both c.publish_written.new.failed (written.answer.device is) ok) n low
    ∙ put.home_blocks (written.answer.same.was_honest h) n low)
