use Rattle.std.proofs.Common.{◌≡◌, ◌∙◌, ◌<◌, false, length, replicate, sym, ap, subst, arith, vec_len}
use Rattle.imagefile.specs.Common.{FileSyncs, FileMemory, memory_of, memory_state, IsFileReplayed, bytes_synced}
use Rattle.imagefile.specs.Common.{bytes_in}
use Rattle.imagefile.proofs.Record.{made_synced, syncs_synced, replayed_synced, synced_in, length-spelled}
use Rattle.imagefile.proofs.memory.MemFileDurable.sync.Goals as goal

pub returns-then-len-self-clause-full : goal.returns-then-len-self-clause-full
returns-then-len-self-clause-full c =
    let s = c.self.inside in
    let m : FileMemory = memory_of s.bytes.items s.first.items s.calls.items s.written.items s.opened.items
    s.room s.byte_room s.failures in
    let view : m ≡ c.args.self.now = c.self.view_is in
    let is : IsFileReplayed m = c.self.invariant.3 in
    let count : length c.args.self.now.steps ≡ length s.calls.items = ap (λ (w : FileMemory). length w.steps) (sym view)
    ∙ length-spelled s.calls.items s.written.items in
    let room : c.args.self.now.room ≡ s.room = ap (λ (w : FileMemory). w.room) (sym view) in
    omega (arith, count, room, s.calls.ok, is.fits, length-spelled s.calls.items s.written.items)

-- what the fields are then
made : (c : goal.In-Ok)
    → memory_of c.self.inside.bytes.items c.self.inside.first.items c.push.new.self.items c.self.inside.written.items
    c.fill.new.self.items c.self.inside.room c.self.inside.byte_room c.self.inside.failures
    ≡ bytes_synced (memory_of c.self.inside.bytes.items c.self.inside.first.items c.self.inside.calls.items
    c.self.inside.written.items c.self.inside.opened.items c.self.inside.room c.self.inside.byte_room
    c.self.inside.failures)
made c =
    let s = c.self.inside in
    let long : vec_len s.opened ≡ length s.opened.items = omega (arith, s.opened.ok) in
    made_synced s.bytes.items s.first.items s.written.items s.calls.items s.opened.items s.room s.byte_room
    s.failures c.push.new.self.items c.fill.new.self.items c.in-Ok.ensures.items
    (c.fill.ensures.items (λ y same. same) ∙ ap (λ k. replicate k false) long)

room : (c : goal.In-Ok)
    → length (memory_of c.self.inside.bytes.items c.self.inside.first.items c.self.inside.calls.items
    c.self.inside.written.items c.self.inside.opened.items c.self.inside.room c.self.inside.byte_room
    c.self.inside.failures).steps < c.self.inside.room
room c = let s = c.self.inside in omega (arith, s.calls.ok, length-spelled s.calls.items s.written.items)

pub invariant_of-self-2 : goal.invariant_of-self-2
invariant_of-self-2 c =
    let s = c.self.inside in
    let m : FileMemory = memory_of s.bytes.items s.first.items s.calls.items s.written.items s.opened.items
    s.room s.byte_room s.failures in
    let view : m ≡ c.args.self.now = c.self.view_is in (
      omega (arith, c.self.invariant.0, c.in-Ok.ensures.capacity),
      c.self.invariant.1,
      ap (λ l. bytes_in l) c.in-Ok.ensures.items ∙ synced_in s.calls.items ∙ c.self.invariant.2,
      subst IsFileReplayed (sym (made c)) (replayed_synced m c.self.invariant.3 (room c)),
    )

pub returns-clause-synced : goal.returns-clause-synced
returns-clause-synced c = made c ∙ ap bytes_synced c.self.view_is

pub returns-clause-syncs : goal.returns-clause-syncs
returns-clause-syncs c =
    let s = c.self.inside in
    let m : FileMemory = memory_of s.bytes.items s.first.items s.calls.items s.written.items s.opened.items
    s.room s.byte_room s.failures in
    let view : m ≡ c.args.self.now = c.self.view_is in
    subst (λ (w : FileMemory). FileSyncs (memory_state c.args.self.now) (memory_state w)) (sym (made c))
    (subst (λ (w : FileMemory). FileSyncs (memory_state w) (memory_state (bytes_synced m))) view
    (syncs_synced m c.self.invariant.3 (room c)))
