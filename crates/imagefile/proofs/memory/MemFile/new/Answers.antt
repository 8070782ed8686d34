use Rattle.std.proofs.Common.{◌≡◌, refl, arith, sym, subst}
use Rattle.imagefile.specs.Common.{bytes_in, IsFileReplayed, memory_of, begun}
use Rattle.imagefile.proofs.Record.{begins, replayed_begun}
use Rattle.imagefile.proofs.memory.MemFile.new.Goals as goal

made : (c : goal.In_ok-vec)
    → memory_of c.in_ok-from_slice.field-0.items c.in_ok-from_slice-2.field-0.items c.in_ok-with_capacity.field-0.items
    c.in_ok-with_capacity-2.field-0.items c.in_ok-vec.field-0.items c.args.calls c.in_ok-byte_room.byte_room 0
    ≡ begun c.args.bytes.now c.args.calls
made c =
    begins _ _ _ c.args.bytes.now _ _ c.args.calls c.in_ok-byte_room.byte_room c.in_ok-from_slice.ensures.items
    c.in_ok-from_slice-2.ensures.items c.in_ok-with_capacity.ensures.items c.in_ok-with_capacity-2.ensures.items
    (c.in_ok-vec.ensures.items_if_clones_equal (λ y same. same)) c.in_ok-byte_room.ensures

pub invariant_of-result : goal.invariant_of-result
unfolding bytes_in
invariant_of-result c = (
  omega (arith, c.in_ok-with_capacity.ensures.exact),
  omega (arith, c.in_ok-with_capacity-2.ensures.exact),
  rw (c.in_ok-with_capacity.ensures.items, c.in_ok-with_capacity-2.ensures.items) refl,
  subst IsFileReplayed (sym (made c)) (replayed_begun c.args.bytes.now c.args.calls),
)

pub returns : goal.returns
returns c = made c
