use Rattle.std.proofs.Common.{length, ap, ◌∙◌, arith}
use Rattle.volume.proofs.BeginVersion.Counts.{created, created_from}
use Rattle.volume.proofs.begin.creations.Goals as goal

pub loop-version-init : goal.loop-version-init
loop-version-init c =
    let left = c.into_iter-version-iterator.ensures.into_iter_gives ∙ c.iter-version-items.ensures.rest in
    let all = ap (created c.args.ppn) left ∙ created_from c.args.ppn 0 c.args.pending.now.slots in
    let many = ap length c.into_iter-version-iterator.ensures.into_iter_gives ∙ c.iter-version-items.ensures.len in
    (tt, tt, omega arith, omega arith)
