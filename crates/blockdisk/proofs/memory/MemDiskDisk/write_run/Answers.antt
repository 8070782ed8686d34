use Rattle.std.proofs.Common.{◌≡◌, ◌+◌, ◌<◌, ◌∙◌, Ok, Err, [], length, get_or, refl, sym, ap, subst, arith}
use Rattle.std.proofs.lemmas.List.{get_or_read}
use Rattle.std.proofs.lemmas.Result.{err_from_is_err_and}
use Rattle.blockdisk.specs.Common.{IsRunWrite, memory_state, written, no_part_write, part_write_next, part_write_ends}
use Rattle.blockdisk.proofs.Record.{run_more, write_call, write_sizes}
use Rattle.blockdisk.proofs.memory.MemDiskDisk.write_run.Goals as goal

pub loop-place-init : goal.loop-place-init
loop-place-init c = record {
  made = refl;
  size = refl;
  calls = omega arith;
  room = refl;
  written = no_part_write c.args.first c.args.blocks.now (memory_state c.args.self.now);
}

pub returns-in_err-write-clause-writes : goal.returns-in_err-write-clause-writes
returns-in_err-write-clause-writes c =
    let s = memory_state c.args.self.now in
    let now = memory_state c.loop-place.self in
    let new = memory_state c.write.new.self in
    let p = err_from_is_err_and c.from_residual.result c.from_residual.ensures.1 in
    let e = c.in_err-write.ensures in
    let write = write_call c.loop-place.self c.write.new.self (c.args.first + c.loop-place.place)
    c.index-blocks-place.result (Err c.in_err-write.field-0.0)
    (omega (arith, c.requires, c.loop-place.invariant.size, c.loop-place-test.true)) tt e.refused e.device e.writes in
    subst (IsRunWrite c.args.first c.args.blocks.now s new) (sym (p.1 ∙ ap Err p.2))
    (part_write_ends c.args.first c.loop-place.place c.args.blocks.now s now c.loop-place.invariant.written new _
    c.in_err-write.field-0.0 c.loop-place-test.true write)

pub loop-place-preserved : goal.loop-place-preserved
loop-place-preserved c =
    let inv = c.loop-place.invariant in
    let first = c.args.first in
    let place = c.loop-place.place in
    let blocks = c.args.blocks.now in
    let words = c.index-blocks-place.result in
    let read : words ≡ get_or blocks place []
    = get_or_read blocks place c.index-blocks-place.result c.loop-place-test.true c.index-blocks-place.is [] in
    let e = c.in_ok-write.ensures in
    let made = e.written in
    let sizes = write_sizes c.loop-place.self c.write.new.self (first + place) words made in
    let inside : first + place < length c.loop-place.self.blocks
    = omega (arith, c.requires, inv.size, c.loop-place-test.true) in
    record {
      made = made ∙ ap (λ ws. written c.loop-place.self (first + place) ws) read
          ∙ ap (λ m. written m (first + place) (get_or blocks place [])) inv.made
          ∙ sym (run_more c.args.self.now first blocks place c.loop-place-test.true);
      size = sizes.0 ∙ inv.size;
      calls = omega (arith, sizes.1, inv.calls);
      room = sizes.2 ∙ inv.room;
      written = part_write_next first place blocks (memory_state c.args.self.now) (memory_state c.loop-place.self)
          inv.written (memory_state c.write.new.self) words c.in_ok-write.field-0 read
          (write_call c.loop-place.self c.write.new.self (first + place) words (Ok c.in_ok-write.field-0) inside made
          tt tt e.writes);
    }
