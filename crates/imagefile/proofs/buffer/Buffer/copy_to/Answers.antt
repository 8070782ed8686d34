use Rattle.std.proofs.Common.{◌≡◌, ◌∙◌, ◌+◌, ◌-◌, length, take, drop, sym, subst, ap, arith}
use Rattle.imagefile.specs.Common.{IsHeld}
use Rattle.imagefile.proofs.Buffers.{part_held}
use Rattle.imagefile.proofs.buffer.Buffer.copy_to.Goals as goal

pub returns : goal.returns
returns c copied b held =
    let room = c.self.inside.room.items in
    let first = c.args.at - c.self.inside.at in
    let count = length c.args.bytes.now in
    let same : first + count - first ≡ count = omega arith in
    part_held b room c.copy_from_slice.new.self c.self.inside.at c.self.inside.held first count c.args.at
    (subst (IsHeld b) (sym c.self.view_is) held) c.self.inside.within (omega arith)
    (c.copy_from_slice.ensures.after ∙ ap (λ l. take (first + count - first) (drop first l)) c.deref.ensures.value
    ∙ ap (λ k. take k (drop first room)) same)
    (omega arith)
