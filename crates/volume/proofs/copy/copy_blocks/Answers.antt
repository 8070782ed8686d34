use Rattle.std.proofs.Common.{◌<◌, ◌≤◌, ◌∙◌, refl, arith, rules}
use Rattle.blockdisk.specs.Common.{modifies_start, same_disk_start, same_disk_on, still_start}
use Rattle.changeset.proofs.LogRead.{only_reads_on}
use Rattle.volume.proofs.CopyImage.CopyOrder.{part_modified}
use Rattle.volume.proofs.copy.copy_blocks.Goals as goal

pub loop-n-init : goal.loop-n-init
loop-n-init g c =
    let s = g.D.Disk.state c.args.from.now in
    let t = g.E.Disk.state c.args.to.now in
    record {
      reads = λ h. record { still = still_start s; is_open = λ n. refl };
      same_source = same_disk_start s;
      same_target = same_disk_start t;
      served_source = refl;
      served_target = refl;
      copied = λ h k n low high. absurd (omega arith);
      before = λ k n out. refl;
      behind = λ k n out. refl;
      modified = λ k. modifies_start (λ n. (c.args.first ≤ n) × (n < c.args.end)) t;
    }

pub returns-in_err-copy_block-clause-modified : goal.returns-in_err-copy_block-clause-modified
returns-in_err-copy_block-clause-modified g c k =
    part_modified c.args.first c.args.end c.loop-n.n (g.E.Disk.state c.args.to.now) (g.E.Disk.state c.loop-n.to)
    (g.E.Disk.state c.copy_block.new.to) (omega arith) (omega (arith, c.loop-n-test.true))
    (c.loop-n.invariant.modified (c.copy_block.ensures.step.same_target.was_honest k)) (c.copy_block.ensures.modified k)

pub loop-n-preserved : goal.loop-n-preserved
loop-n-preserved g c =
    let s = g.D.Disk.state c.args.from.now in
    let s' = g.D.Disk.state c.loop-n.from in
    let s'' = g.D.Disk.state c.copy_block.new.from in
    let t = g.E.Disk.state c.args.to.now in
    let t' = g.E.Disk.state c.loop-n.to in
    let t'' = g.E.Disk.state c.copy_block.new.to in
    let was = c.loop-n.invariant in
    let step = c.copy_block.ensures.step in
    record {
      reads = λ h. only_reads_on s s' s'' (was.reads (step.same_source.was_honest h)) (step.reads h);
      same_source = same_disk_on s s' s'' was.same_source step.same_source;
      same_target = same_disk_on t t' t'' was.same_target step.same_target;
      served_source = step.served_source (λ is. let ok = c.in_ok-copy_block.was in cc) ∙ was.served_source;
      served_target = step.served_target (λ is. let ok = c.in_ok-copy_block.was in cc) ∙ was.served_target;
      copied = search rules;
      before = search rules;
      behind = search rules;
      modified = λ k. part_modified c.args.first c.args.end c.loop-n.n t t' t'' (omega arith)
          (omega (arith, c.loop-n-test.true)) (was.modified (step.same_target.was_honest k))
          (c.copy_block.ensures.modified k);
    }
