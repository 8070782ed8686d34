use Rattle.std.proofs.Common.{◌≡◌, ◌∙◌, ℕ, ◌<◌, ◌≤◌, length, sym, ap, arith}
use Rattle.std.proofs.lemmas.Bool.{leb-true, le-leb, ltb-true, lt-ltb}
use Rattle.imagefile.specs.Common.{FileMemory, memory_of, IsFileReplayed}
use Rattle.imagefile.proofs.Record.{length-spelled}
use Rattle.imagefile.proofs.memory.MemFile.has_room.Goals as goal

pub returns-then-len-self : goal.returns-then-len-self
returns-then-len-self c =
    let s = c.self.inside in
    let m : FileMemory = memory_of s.bytes.items s.first.items s.calls.items s.written.items s.opened.items
    s.room s.byte_room s.failures in
    let view : m ≡ c.args.self.now = c.self.view_is in
    let is : IsFileReplayed m = c.self.invariant.3 in
    let count : length c.args.self.now.steps ≡ length s.calls.items = ap (λ (w : FileMemory). length w.steps) (sym view)
    ∙ length-spelled s.calls.items s.written.items in
    let room : c.args.self.now.room ≡ s.room = ap (λ (w : FileMemory). w.room) (sym view) in
    let written : c.args.self.now.written ≡ length s.written.items = ap (λ (w : FileMemory). w.written) (sym view) in
    let byte_room : c.args.self.now.byte_room ≡ s.byte_room = ap (λ (w : FileMemory). w.byte_room) (sym view) in (
      λ fits. record {
        steps = omega (arith, count, room, s.calls.ok);
        bytes = omega (arith, written, byte_room, s.written.ok, is.bytes_fit, leb-true _ _ fits);
      },
      λ has. le-leb _ _ (omega (arith, has.bytes, written, byte_room, s.written.ok)),
    )

pub returns-else-len-self : goal.returns-else-len-self
returns-else-len-self c =
    let s = c.self.inside in
    let m : FileMemory = memory_of s.bytes.items s.first.items s.calls.items s.written.items s.opened.items
    s.room s.byte_room s.failures in
    let view : m ≡ c.args.self.now = c.self.view_is in
    let count : length c.args.self.now.steps ≡ length s.calls.items = ap (λ (w : FileMemory). length w.steps) (sym view)
    ∙ length-spelled s.calls.items s.written.items in
    let room : c.args.self.now.room ≡ s.room = ap (λ (w : FileMemory). w.room) (sym view) in (
      λ less. absurd (none c.len.result s.room c.if-len-self.false (ltb-true _ _ less)),
      λ has. lt-ltb _ _ (omega (arith, has.steps, count, room, s.calls.ok)),
    )
  where
    none : (k n : ℕ) → n ≤ k → k < n → ⊥
    none k n low high = omega arith
