use Rattle.std.proofs.Common.{◌<◌, ◌≤◌}
use Rattle.blockdisk.specs.Common.{modifies_near, near_sync}
use Rattle.volume.proofs.copy.copy_part.Goals as goal

pub returns-in_err-copy_blocks-clause-near : goal.returns-in_err-copy_blocks-clause-near
returns-in_err-copy_blocks-clause-near g c h =
    modifies_near (λ n. (c.args.first ≤ n) × (n < c.args.end)) (g.E.Disk.state c.args.to.now)
    (g.E.Disk.state c.copy_blocks.new.to)
    (λ d left. g.met.E.Disk.only_now c.args.to.now d (c.copy_blocks.ensures.step.same_target.was_honest h) left)
    (c.copy_blocks.ensures.modified h)

pub returns-in-Ok-clause-near : goal.returns-in-Ok-clause-near
returns-in-Ok-clause-near g c h =
    let written = c.sync.ensures.same.was_honest h in
    near_sync c.sync.result (λ n. (c.args.first ≤ n) × (n < c.args.end)) (g.E.Disk.state c.args.to.now)
    (g.E.Disk.state c.copy_blocks.new.to) (g.E.Disk.state c.sync.new.self)
    (λ d left. g.met.E.Disk.only_now c.args.to.now d (c.copy_blocks.ensures.step.same_target.was_honest written) left)
    (λ d left. g.met.E.Disk.only_now c.copy_blocks.new.to d written left) (c.copy_blocks.ensures.modified written)
    (c.sync.ensures.syncs h) (c.sync.ensures.fails h)

pub returns-in-Err-clause-near : goal.returns-in-Err-clause-near
returns-in-Err-clause-near g c h =
    let written = c.sync.ensures.same.was_honest h in
    near_sync c.sync.result (λ n. (c.args.first ≤ n) × (n < c.args.end)) (g.E.Disk.state c.args.to.now)
    (g.E.Disk.state c.copy_blocks.new.to) (g.E.Disk.state c.sync.new.self)
    (λ d left. g.met.E.Disk.only_now c.args.to.now d (c.copy_blocks.ensures.step.same_target.was_honest written) left)
    (λ d left. g.met.E.Disk.only_now c.copy_blocks.new.to d written left) (c.copy_blocks.ensures.modified written)
    (c.sync.ensures.syncs h) (c.sync.ensures.fails h)
