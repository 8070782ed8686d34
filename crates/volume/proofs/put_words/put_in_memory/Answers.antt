use Rattle.std.proofs.Common.{inr, Bool, refl, sym, subst}
use Rattle.volume.specs.Common.{pending_at, memory_of, IsSoundMemory}
use Rattle.volume.specs.declared.pending.PendingVersion.{PendingVersion}
use Rattle.retrieval.specs.Common.{IsOwn}
use Rattle.volume.proofs.common.UnchangedHomes.{homes_start, homes_modified, homes_stay, clear_past}
use Rattle.volume.proofs.PutWords.Memory.{ready}
use Rattle.volume.proofs.PutWords.Disk.{keeps_read, keeps_written, none_damaged, put_failed, put_done, crash_finds}
use Rattle.volume.proofs.PutWords.Disk.{rest_finds}
use Rattle.spec_image.proofs.Common.{some_is}
use Rattle.volume.proofs.put_words.put_in_memory.Goals as goal

pub put_pending-requires-clause-ready : goal.put_pending-requires-clause-ready
put_pending-requires-clause-ready g c p was = ready (g.D.Disk.state c.args.disk.now).size
    (memory_of c.args.map.now) c.requires.sound.whole c.args.key p was

pub returns-in-Err-Device-clause-sound : goal.returns-in-Err-Device-clause-sound
returns-in-Err-Device-clause-sound g c =
    let s = g.D.Disk.state c.args.disk.now in
    let memory = memory_of c.args.map.now in
    let sound = subst (λ (b : Bool). IsSoundMemory s memory b) c.if-failed.false c.requires.sound in
    let there = some_is (pending_at memory.pending c.args.key) c.requires.live in
    let put = c.put_pending.ensures in
    put_failed sound put.disk.same c.args.key there.1 c.put_pending.new.pending.slots (put.grown there.0 there.1).1
    put.others (λ h. put.modified h there.0 there.1)

pub returns-in-Err-Device-clause-quiet : goal.returns-in-Err-Device-clause-quiet
returns-in-Err-Device-clause-quiet g c h f rests =
    let s = g.D.Disk.state c.args.disk.now in
    let memory = memory_of c.args.map.now in
    let sound = subst (λ (b : Bool). IsSoundMemory s memory b) c.if-failed.false c.requires.sound in
    let there = some_is (pending_at memory.pending c.args.key) c.requires.live in
    let put = c.put_pending.ensures in
    crash_finds sound put.disk.same c.args.key there.1 c.put_pending.new.pending.slots (put.grown there.0 there.1).1
    put.others (λ h. put.modified h there.0 there.1) h f rests
    (λ d left. g.met.D.Disk.only_now c.args.disk.now d (put.disk.same.was_honest h) left)

pub returns-in-Err-clause-quiet : goal.returns-in-Err-clause-quiet
returns-in-Err-clause-quiet g c h f rests =
    let s = g.D.Disk.state c.args.disk.now in
    let memory = memory_of c.args.map.now in
    let sound = subst (λ (b : Bool). IsSoundMemory s memory b) c.if-failed.false c.requires.sound in
    let there = some_is (pending_at memory.pending c.args.key) c.requires.live in
    let put = c.put_pending.ensures in
    crash_finds sound put.disk.same c.args.key there.1 c.put_pending.new.pending.slots (put.grown there.0 there.1).1
    put.others (λ h. put.modified h there.0 there.1) h f rests
    (λ d left. g.met.D.Disk.only_now c.args.disk.now d (put.disk.same.was_honest h) left)

pub returns-in-Ok-clause-quiet : goal.returns-in-Ok-clause-quiet
returns-in-Ok-clause-quiet g c h f rests =
    let s = g.D.Disk.state c.args.disk.now in
    let memory = memory_of c.args.map.now in
    let sound = subst (λ (b : Bool). IsSoundMemory s memory b) c.if-failed.false c.requires.sound in
    let there = some_is (pending_at memory.pending c.args.key) c.requires.live in
    let put = c.put_pending.ensures in
    crash_finds sound put.disk.same c.args.key there.1 c.put_pending.new.pending.slots (put.grown there.0 there.1).1
    put.others (λ h. put.modified h there.0 there.1) h f rests
    (λ d left. g.met.D.Disk.only_now c.args.disk.now d (put.disk.same.was_honest h) left)

pub returns-in-Err-Device-clause-rests : goal.returns-in-Err-Device-clause-rests
returns-in-Err-Device-clause-rests g c h f rests =
    let s = g.D.Disk.state c.args.disk.now in
    let memory = memory_of c.args.map.now in
    let sound = subst (λ (b : Bool). IsSoundMemory s memory b) c.if-failed.false c.requires.sound in
    let there = some_is (pending_at memory.pending c.args.key) c.requires.live in
    let put = c.put_pending.ensures in
    rest_finds sound put.disk.same c.args.key there.1 c.put_pending.new.pending.slots (put.grown there.0 there.1).1
    put.others (λ h. put.modified h there.0 there.1) h f rests

pub returns-in-Ok-clause-rests : goal.returns-in-Ok-clause-rests
returns-in-Ok-clause-rests g c h f rests =
    let s = g.D.Disk.state c.args.disk.now in
    let memory = memory_of c.args.map.now in
    let sound = subst (λ (b : Bool). IsSoundMemory s memory b) c.if-failed.false c.requires.sound in
    let there = some_is (pending_at memory.pending c.args.key) c.requires.live in
    let put = c.put_pending.ensures in
    rest_finds sound put.disk.same c.args.key there.1 c.put_pending.new.pending.slots (put.grown there.0 there.1).1
    put.others (λ h. put.modified h there.0 there.1) h f rests

pub returns-in-Err-Device-clause-given_up : goal.returns-in-Err-Device-clause-given_up
returns-in-Err-Device-clause-given_up g c gone =
    let s = g.D.Disk.state c.args.disk.now in
    let memory = memory_of c.args.map.now in
    let sound = subst (λ (b : Bool). IsSoundMemory s memory b) c.if-failed.false c.requires.sound in
    let there = some_is (pending_at memory.pending c.args.key) c.requires.live in
    let put = c.put_pending.ensures in
    inr (λ h.
    let bad = c.in-Err-Device.ensures.damaged h there.0 there.1 gone in
    none_damaged s.contents there.0.version
    (sound.written (put.disk.same.was_honest h) refl c.args.key there.0 there.1) bad.0 bad.1 bad.2)

pub returns-in-Ok-clause-sound : goal.returns-in-Ok-clause-sound
returns-in-Ok-clause-sound g c =
    let s = g.D.Disk.state c.args.disk.now in
    let memory = memory_of c.args.map.now in
    let sound = subst (λ (b : Bool). IsSoundMemory s memory b) c.if-failed.false c.requires.sound in
    let there = some_is (pending_at memory.pending c.args.key) c.requires.live in
    let put = c.put_pending.ensures in
    let new = memory_of
    (record c.args.map.now { pending = c.put_pending.new.pending; table = c.put_pending.new.table }) in
    let done = c.in-Ok.ensures.put there.0 there.1 in
    subst (λ (b : Bool). IsSoundMemory (g.D.Disk.state c.put_pending.new.disk) new b) (sym c.if-failed.false)
    (put_done sound put.disk.same c.args.key there.1 c.put_pending.new.pending.slots (put.grown there.0 there.1).1
    put.others (λ h. put.modified h there.0 there.1) done.0 c.args.block c.args.words.now done.1 done.2 done.3)

pub returns-in-Err-Device-clause-readers : goal.returns-in-Err-Device-clause-readers
returns-in-Err-Device-clause-readers g c h =
    let s = g.D.Disk.state c.args.disk.now in
    let s' = g.D.Disk.state c.put_pending.new.disk in
    let memory = memory_of c.args.map.now in
    let there = some_is (pending_at memory.pending c.args.key) c.requires.live in
    let p : PendingVersion = there.0 in
    keeps_read s.size memory c.requires.sound.whole c.args.key p there.1 s.contents s'.contents
    (c.put_pending.ensures.modified h p there.1).contents

pub returns-in-Err-Device-clause-writers : goal.returns-in-Err-Device-clause-writers
returns-in-Err-Device-clause-writers g c h =
    let s = g.D.Disk.state c.args.disk.now in
    let s' = g.D.Disk.state c.put_pending.new.disk in
    let memory = memory_of c.args.map.now in
    let there = some_is (pending_at memory.pending c.args.key) c.requires.live in
    let p : PendingVersion = there.0 in
    keeps_written s.size memory c.requires.sound.whole c.args.key p there.1 s.contents s'.contents
    (c.put_pending.ensures.modified h p there.1).contents

pub returns-in-Err-clause-readers : goal.returns-in-Err-clause-readers
returns-in-Err-clause-readers g c h =
    let s = g.D.Disk.state c.args.disk.now in
    let s' = g.D.Disk.state c.put_pending.new.disk in
    let memory = memory_of c.args.map.now in
    let there = some_is (pending_at memory.pending c.args.key) c.requires.live in
    let p : PendingVersion = there.0 in
    keeps_read s.size memory c.requires.sound.whole c.args.key p there.1 s.contents s'.contents
    (c.put_pending.ensures.modified h p there.1).contents

pub returns-in-Err-clause-writers : goal.returns-in-Err-clause-writers
returns-in-Err-clause-writers g c h =
    let s = g.D.Disk.state c.args.disk.now in
    let s' = g.D.Disk.state c.put_pending.new.disk in
    let memory = memory_of c.args.map.now in
    let there = some_is (pending_at memory.pending c.args.key) c.requires.live in
    let p : PendingVersion = there.0 in
    keeps_written s.size memory c.requires.sound.whole c.args.key p there.1 s.contents s'.contents
    (c.put_pending.ensures.modified h p there.1).contents

pub returns-in-Ok-clause-readers : goal.returns-in-Ok-clause-readers
returns-in-Ok-clause-readers g c h =
    let s = g.D.Disk.state c.args.disk.now in
    let s' = g.D.Disk.state c.put_pending.new.disk in
    let memory = memory_of c.args.map.now in
    let there = some_is (pending_at memory.pending c.args.key) c.requires.live in
    let p : PendingVersion = there.0 in
    keeps_read s.size memory c.requires.sound.whole c.args.key p there.1 s.contents s'.contents
    (c.put_pending.ensures.modified h p there.1).contents

pub returns-in-Ok-clause-writers : goal.returns-in-Ok-clause-writers
returns-in-Ok-clause-writers g c h =
    let s = g.D.Disk.state c.args.disk.now in
    let s' = g.D.Disk.state c.put_pending.new.disk in
    let memory = memory_of c.args.map.now in
    let there = some_is (pending_at memory.pending c.args.key) c.requires.live in
    let p : PendingVersion = there.0 in
    keeps_written s.size memory c.requires.sound.whole c.args.key p there.1 s.contents s'.contents
    (c.put_pending.ensures.modified h p there.1).contents

-- The home copies.

pub returns-in-Err-Device-clause-homes : goal.returns-in-Err-Device-clause-homes
returns-in-Err-Device-clause-homes g c h =
    let s = g.D.Disk.state c.args.disk.now in
    let memory = memory_of c.args.map.now in
    let there = some_is (pending_at memory.pending c.args.key) c.requires.live in
    let p : PendingVersion = there.0 in
    homes_modified (IsOwn memory.known.table p.version.blocks) s (g.D.Disk.state c.put_pending.new.disk)
    (λ n low own. clear_past s.size memory.known c.requires.sound.whole.map n low own.clear)
    (λ d left. g.met.D.Disk.only_now c.args.disk.now d (c.put_pending.ensures.disk.same.was_honest h) left)
    (c.put_pending.ensures.modified h p there.1)

pub returns-in-Err-Device-clause-home_blocks : goal.returns-in-Err-Device-clause-home_blocks
returns-in-Err-Device-clause-home_blocks g c h =
    let s = g.D.Disk.state c.args.disk.now in
    let memory = memory_of c.args.map.now in
    let there = some_is (pending_at memory.pending c.args.key) c.requires.live in
    let p : PendingVersion = there.0 in
    homes_stay (IsOwn memory.known.table p.version.blocks) s (g.D.Disk.state c.put_pending.new.disk)
    (λ n low own. clear_past s.size memory.known c.requires.sound.whole.map n low own.clear)
    (c.put_pending.ensures.modified h p there.1)

pub returns-in-Err-clause-homes : goal.returns-in-Err-clause-homes
returns-in-Err-clause-homes g c h =
    let s = g.D.Disk.state c.args.disk.now in
    let memory = memory_of c.args.map.now in
    let there = some_is (pending_at memory.pending c.args.key) c.requires.live in
    let p : PendingVersion = there.0 in
    homes_modified (IsOwn memory.known.table p.version.blocks) s (g.D.Disk.state c.put_pending.new.disk)
    (λ n low own. clear_past s.size memory.known c.requires.sound.whole.map n low own.clear)
    (λ d left. g.met.D.Disk.only_now c.args.disk.now d (c.put_pending.ensures.disk.same.was_honest h) left)
    (c.put_pending.ensures.modified h p there.1)

pub returns-in-Err-clause-home_blocks : goal.returns-in-Err-clause-home_blocks
returns-in-Err-clause-home_blocks g c h =
    let s = g.D.Disk.state c.args.disk.now in
    let memory = memory_of c.args.map.now in
    let there = some_is (pending_at memory.pending c.args.key) c.requires.live in
    let p : PendingVersion = there.0 in
    homes_stay (IsOwn memory.known.table p.version.blocks) s (g.D.Disk.state c.put_pending.new.disk)
    (λ n low own. clear_past s.size memory.known c.requires.sound.whole.map n low own.clear)
    (c.put_pending.ensures.modified h p there.1)

pub returns-in-Ok-clause-homes : goal.returns-in-Ok-clause-homes
returns-in-Ok-clause-homes g c h =
    let s = g.D.Disk.state c.args.disk.now in
    let memory = memory_of c.args.map.now in
    let there = some_is (pending_at memory.pending c.args.key) c.requires.live in
    let p : PendingVersion = there.0 in
    homes_modified (IsOwn memory.known.table p.version.blocks) s (g.D.Disk.state c.put_pending.new.disk)
    (λ n low own. clear_past s.size memory.known c.requires.sound.whole.map n low own.clear)
    (λ d left. g.met.D.Disk.only_now c.args.disk.now d (c.put_pending.ensures.disk.same.was_honest h) left)
    (c.put_pending.ensures.modified h p there.1)

pub returns-in-Ok-clause-home_blocks : goal.returns-in-Ok-clause-home_blocks
returns-in-Ok-clause-home_blocks g c h =
    let s = g.D.Disk.state c.args.disk.now in
    let memory = memory_of c.args.map.now in
    let there = some_is (pending_at memory.pending c.args.key) c.requires.live in
    let p : PendingVersion = there.0 in
    homes_stay (IsOwn memory.known.table p.version.blocks) s (g.D.Disk.state c.put_pending.new.disk)
    (λ n low own. clear_past s.size memory.known c.requires.sound.whole.map n low own.clear)
    (c.put_pending.ensures.modified h p there.1)

pub returns-then-failed-clause-homes : goal.returns-then-failed-clause-homes
returns-then-failed-clause-homes g c h = homes_start (g.D.Disk.state c.args.disk.now)
    (λ d left. g.met.D.Disk.only_now c.args.disk.now d h left)

pub returns-then-is_empty-clause-homes : goal.returns-then-is_empty-clause-homes
returns-then-is_empty-clause-homes g c h = homes_start (g.D.Disk.state c.args.disk.now)
    (λ d left. g.met.D.Disk.only_now c.args.disk.now d h left)

-- A damaged block is refused.

pub returns-in-Ok-clause-whole : goal.returns-in-Ok-clause-whole
returns-in-Ok-clause-whole g c h some = c.in-Ok.ensures.whole h
