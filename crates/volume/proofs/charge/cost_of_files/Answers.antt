use Rattle.std.proofs.Common.{◌<◌, length, sym, ap, ◌∙◌, arith}
use Rattle.std.proofs.lemmas.List.{take_all}
use Rattle.spec_image.specs.Common.{total}
use Rattle.volume.proofs.Charges.Sums.{cost_under, costs_under, total_next, total_part}
use Rattle.volume.proofs.charge.cost_of_files.Goals as goal

pub overflow_add-cost : goal.overflow_add-cost
overflow_add-cost c =
    let live = c.args.versions.now.slots in
    let keys = c.args.keys.now.items in
    let below : c.loop-i.i < length keys = let a = c.loop-i-test.true in let b = c.len-i-end.ensures in omega arith in
    let part = total_part (cost_under live) keys c.loop-i.i c.at.result below c.at.ensures in
    let all = costs_under live keys in
    let fits = c.requires.fits in
    let so_far = c.loop-i.invariant in
    let cost = c.cost_before.ensures in
    let same = c.from-cost.ensures in
    omega arith

pub loop-i-preserved : goal.loop-i-preserved
loop-i-preserved c =
    let live = c.args.versions.now.slots in
    let keys = c.args.keys.now.items in
    let below : c.loop-i.i < length keys = let a = c.loop-i-test.true in let b = c.len-i-end.ensures in omega arith in
    let next = total_next (cost_under live) keys c.loop-i.i c.at.result below c.at.ensures in
    let so_far = c.loop-i.invariant in
    let cost = c.cost_before.ensures in
    let same = c.from-cost.ensures in
    omega arith

pub returns : goal.returns
returns c =
    let live = c.args.versions.now.slots in
    let keys = c.args.keys.now.items in
    c.loop-i.invariant ∙ ap (total (cost_under live)) (take_all c.loop-i.i keys (let a = c.loop-i-test.false in
    let b = c.len-i-end.ensures in omega arith)) ∙ sym (costs_under live keys)
