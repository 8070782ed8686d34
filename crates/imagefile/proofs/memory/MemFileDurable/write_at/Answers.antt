use Rattle.std.proofs.Common.{◌≡◌, ◌∙◌, ◌+◌, ◌<◌, ◌≤◌, length, refl, sym, ap, subst, arith, length-append}
use Rattle.imagefile.specs.Common.{FileWrites, window, FileMemory, memory_of, memory_state, IsFileReplayed, HasRoom}
use Rattle.imagefile.specs.Common.{write_refused, bytes_written, bytes_in}
use Rattle.imagefile.proofs.Record.{made_written, made_refused, writes_written, writes_refused, put_written}
use Rattle.imagefile.proofs.Record.{replayed_written, replayed_refused, length-put, length-spelled, written_in}
use Rattle.imagefile.proofs.memory.MemFileDurable.write_at.Goals as goal

-- Refused

refused : (c : goal.After-self-then-not-has_room-1)
    → memory_of c.self.inside.bytes.items c.self.inside.first.items c.self.inside.calls.items
    c.self.inside.written.items c.open_bytes.new.opened.items c.len-self-inside.result c.self.inside.byte_room
    c.saturating_add-self-inside.result
    ≡ write_refused (memory_of c.self.inside.bytes.items c.self.inside.first.items c.self.inside.calls.items
    c.self.inside.written.items c.self.inside.opened.items c.self.inside.room c.self.inside.byte_room
    c.self.inside.failures) c.args.at (length c.args.bytes.now)
refused c =
    let s = c.self.inside in
    made_refused s.bytes.items s.first.items s.written.items s.calls.items s.opened.items s.room s.byte_room
    s.failures c.open_bytes.new.opened.items c.args.at (length c.args.bytes.now) c.len-self-inside.result
    c.saturating_add-self-inside.result c.open_bytes.ensures (omega (arith, c.len-self-inside.ensures, s.calls.ok))
    c.saturating_add-self-inside.ensures

pub invariant_of-self : goal.invariant_of-self
invariant_of-self c =
    let s = c.self.inside in
    let m : FileMemory = memory_of s.bytes.items s.first.items s.calls.items s.written.items s.opened.items
    s.room s.byte_room s.failures in
    let view : m ≡ c.args.self.now = c.self.view_is in
    let inside : c.args.at + length c.args.bytes.now
    ≤ length m.bytes = omega (arith, c.requires, ap (λ (w : FileMemory). length w.bytes) view) in (
      omega (arith, c.len-self-inside.ensures, s.calls.ok),
      c.self.invariant.1,
      c.self.invariant.2,
      subst IsFileReplayed (sym (refused c))
          (replayed_refused m c.args.at (length c.args.bytes.now) c.self.invariant.3 inside),
    )

pub returns-then-not-has_room-clause-refused : goal.returns-then-not-has_room-clause-refused
returns-then-not-has_room-clause-refused c = refused c
    ∙ ap (λ (w : FileMemory). write_refused w c.args.at (length c.args.bytes.now)) c.self.view_is

pub returns-then-not-has_room-clause-writes : goal.returns-then-not-has_room-clause-writes
returns-then-not-has_room-clause-writes c =
    let s = c.self.inside in
    let m : FileMemory = memory_of s.bytes.items s.first.items s.calls.items s.written.items s.opened.items
    s.room s.byte_room s.failures in
    let view : m ≡ c.args.self.now = c.self.view_is in
    let inside : c.args.at + length c.args.bytes.now
    ≤ length m.bytes = omega (arith, c.requires, ap (λ (w : FileMemory). length w.bytes) view) in
    let n = length c.args.bytes.now in
    subst (λ (w : FileMemory). FileWrites c.args.at n (memory_state c.args.self.now) (memory_state w)) (sym (refused c))
    (subst (λ (w : FileMemory). FileWrites c.args.at n (memory_state w)
    (memory_state (write_refused m c.args.at n))) view
    (writes_refused m c.args.at n c.self.invariant.3 inside))

-- Written

pub record_write-requires-clause-calls : goal.record_write-requires-clause-calls
record_write-requires-clause-calls c =
    let s = c.self.inside in
    let m : FileMemory = memory_of s.bytes.items s.first.items s.calls.items s.written.items s.opened.items
    s.room s.byte_room s.failures in
    let view : m ≡ c.args.self.now = c.self.view_is in
    let has : HasRoom c.args.self.now (length c.args.bytes.now) = c.if-not-has_room.ensures.0 refl in
    let count : length c.args.self.now.steps ≡ length s.calls.items = ap (λ (w : FileMemory). length w.steps) (sym view)
    ∙ length-spelled s.calls.items s.written.items in
    omega (arith, has.steps, count, ap (λ (w : FileMemory). w.room) view, c.self.invariant.0)

made : (c : goal.After-record_write)
    → memory_of c.put_bytes.new.all.items c.self.inside.first.items c.record_write.new.calls.items
    c.record_write.new.written.items c.open_bytes.new.opened.items c.self.inside.room c.self.inside.byte_room
    c.self.inside.failures
    ≡ bytes_written (memory_of c.self.inside.bytes.items c.self.inside.first.items c.self.inside.calls.items
    c.self.inside.written.items c.self.inside.opened.items c.self.inside.room c.self.inside.byte_room
    c.self.inside.failures) c.args.at c.args.bytes.now
made c =
    let s = c.self.inside in
    made_written s.bytes.items s.first.items s.written.items s.calls.items s.opened.items s.room s.byte_room s.failures
    c.put_bytes.new.all.items c.record_write.new.written.items c.args.bytes.now c.record_write.new.calls.items
    c.open_bytes.new.opened.items c.args.at c.self.invariant.2 c.put_bytes.ensures c.record_write.ensures.bytes
    c.record_write.ensures.call c.open_bytes.ensures

pub invariant_of-self-2 : goal.invariant_of-self-2
invariant_of-self-2 c =
    let s = c.self.inside in
    let m : FileMemory = memory_of s.bytes.items s.first.items s.calls.items s.written.items s.opened.items
    s.room s.byte_room s.failures in
    let view : m ≡ c.args.self.now = c.self.view_is in
    let inside : c.args.at + length c.args.bytes.now
    ≤ length m.bytes = omega (arith, c.requires, ap (λ (w : FileMemory). length w.bytes) view) in
    let has : HasRoom c.args.self.now (length c.args.bytes.now) = c.if-not-has_room.ensures.0 refl in
    let steps_room : length m.steps < m.room = omega (
      arith,
      has.steps,
      ap (λ (w : FileMemory). length w.steps) view,
      ap (λ (w : FileMemory). w.room) view,
    ) in
    let bytes_room : m.written + length c.args.bytes.now
    ≤ m.byte_room = omega (
      arith,
      has.bytes,
      ap (λ (w : FileMemory). w.written) view,
      ap (λ (w : FileMemory). w.byte_room) view,
    ) in (
      omega (arith, c.self.invariant.0, c.record_write.ensures.call_room),
      omega (arith, c.self.invariant.1, c.record_write.ensures.byte_room),
      ap (λ l. bytes_in l) c.record_write.ensures.call ∙ written_in s.calls.items c.args.at (length c.args.bytes.now)
          ∙ ap (λ k. k + length c.args.bytes.now) c.self.invariant.2
          ∙ sym (ap (λ l. length l) c.record_write.ensures.bytes ∙ length-append s.written.items c.args.bytes.now),
      subst IsFileReplayed (sym (made c))
          (replayed_written m c.args.at c.args.bytes.now c.self.invariant.3 inside steps_room bytes_room),
    )

pub returns-clause-written : goal.returns-clause-written
returns-clause-written c = made c ∙ ap (λ (w : FileMemory). bytes_written w c.args.at c.args.bytes.now) c.self.view_is

pub returns-clause-size : goal.returns-clause-size
returns-clause-size c =
    let s = c.self.inside in
    let m : FileMemory = memory_of s.bytes.items s.first.items s.calls.items s.written.items s.opened.items
    s.room s.byte_room s.failures in
    let view : m ≡ c.args.self.now = c.self.view_is in
    let inside : c.args.at + length c.args.bytes.now
    ≤ length m.bytes = omega (arith, c.requires, ap (λ (w : FileMemory). length w.bytes) view) in
    ap (λ (w : FileMemory). length w.bytes) (made c) ∙ length-put c.args.at c.args.bytes.now m.bytes inside
    ∙ ap (λ (w : FileMemory). length w.bytes) view

pub returns-clause-put : goal.returns-clause-put
returns-clause-put c =
    let s = c.self.inside in
    let m : FileMemory = memory_of s.bytes.items s.first.items s.calls.items s.written.items s.opened.items
    s.room s.byte_room s.failures in
    let view : m ≡ c.args.self.now = c.self.view_is in
    let inside : c.args.at + length c.args.bytes.now
    ≤ length m.bytes = omega (arith, c.requires, ap (λ (w : FileMemory). length w.bytes) view) in
    subst (λ (w : FileMemory). window (memory_state w).bytes c.args.at (length c.args.bytes.now) ≡ c.args.bytes.now)
    (sym (made c)) (put_written m c.args.at c.args.bytes.now inside)

pub returns-clause-writes : goal.returns-clause-writes
returns-clause-writes c =
    let s = c.self.inside in
    let m : FileMemory = memory_of s.bytes.items s.first.items s.calls.items s.written.items s.opened.items
    s.room s.byte_room s.failures in
    let view : m ≡ c.args.self.now = c.self.view_is in
    let inside : c.args.at + length c.args.bytes.now
    ≤ length m.bytes = omega (arith, c.requires, ap (λ (w : FileMemory). length w.bytes) view) in
    let has : HasRoom c.args.self.now (length c.args.bytes.now) = c.if-not-has_room.ensures.0 refl in
    let steps_room : length m.steps < m.room = omega (
      arith,
      has.steps,
      ap (λ (w : FileMemory). length w.steps) view,
      ap (λ (w : FileMemory). w.room) view,
    ) in
    let bytes_room : m.written + length c.args.bytes.now
    ≤ m.byte_room = omega (
      arith,
      has.bytes,
      ap (λ (w : FileMemory). w.written) view,
      ap (λ (w : FileMemory). w.byte_room) view,
    ) in
    let n = length c.args.bytes.now in
    subst (λ (w : FileMemory). FileWrites c.args.at n (memory_state c.args.self.now) (memory_state w)) (sym (made c))
    (subst (λ (w : FileMemory). FileWrites c.args.at n (memory_state w)
    (memory_state (bytes_written m c.args.at c.args.bytes.now))) view
    (writes_written m c.args.at c.args.bytes.now c.self.invariant.3 inside steps_room))
