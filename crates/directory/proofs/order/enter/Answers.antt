use Rattle.std.proofs.Common.{◌≡◌, Some, slice_get, subst}
use Rattle.directory.proofs.Orders.{times_at}
use Rattle.directory.proofs.order.enter.Goals as goal

pub unreachable-requires : goal.unreachable-requires
unreachable-requires g c =
    let found = c.in-Ok.ensures.found in
    c.requires.absent found.0 (times_at c.args.order.now.items c.in-Ok.field-0 found.0
    (subst (λ ps. slice_get ps c.in-Ok.field-0 ≡ Some found.0) c.deref.ensures.value found.1)) found.2
