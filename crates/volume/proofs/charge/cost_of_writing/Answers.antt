use Rattle.std.proofs.Common.{◌≡◌, ◌∙◌, ap, sym, subst, arith}
use Rattle.spec_image.specs.Common.{total}
use Rattle.volume.specs.Common.{writes_in}
use Rattle.volume.proofs.Charges.Sums.{written, written_from, few_from, writes_few, HaveFewBlocks}
use Rattle.volume.proofs.charge.cost_of_writing.Goals as goal

pub loop-version-init : goal.loop-version-init
loop-version-init c =
    let left = c.into_iter-version-iterator.ensures.into_iter_gives ∙ c.iter-version-items.ensures.rest in
    let all : written c.args.ppn c.into_iter-version-iterator.result
    ≡ total (writes_in c.args.ppn) c.args.pending.now.slots = ap (written c.args.ppn) left
    ∙ written_from c.args.ppn 0 c.args.pending.now.slots in (
      tt,
      tt,
      omega arith,
      subst HaveFewBlocks (sym left)
          (few_from c.requires.waiting.0 0 c.args.pending.now.slots c.requires.waiting.1),
    )

pub overflow_add-cost : goal.overflow_add-cost
overflow_add-cost c =
    let step = ap (written c.args.ppn) c.in-Some.ensures.steps in
    let all = c.loop-version.invariant.2 in
    let one = c.cost_within-cost.ensures in
    let few = writes_few c.args.ppn c.args.pending.now.slots in
    let fits = c.requires.fits in
    omega arith
