use Rattle.std.proofs.Common.{sym, subst, ◌+◌}
use Rattle.salvage.proofs.CopySteps.{IsCopying, copying_read, copying_starts, copying_unread}
use Rattle.salvage.proofs.copied.copy_blocks.Goals.{then-not-copy_block, else-not-copy_block}
use Rattle.salvage.proofs.copied.copy_blocks.Goals as goal

pub loop-n-init : goal.loop-n-init
loop-n-init g c = copying_starts (g.D.Disk.state c.args.disk.now) c.in_ok-copy.copy c.args.size 74
    c.in_ok-copy.ensures

pub loop-n-preserved : goal.loop-n-preserved
loop-n-preserved g c =
    let p = c.copy_block.ensures in
    let inside = c.loop-n-test.true in
    elim c.if-not-copy_block.branch [
      | then-not-copy_block w ↦ subst (IsCopying (g.D.Disk.state c.args.disk.now) (g.D.Disk.state c.copy_block.new.disk)
          c.args.size (c.loop-n.n + 1) c.copy_block.new.copy) (sym w.unread-is)
          (copying_unread (g.D.Disk.state c.args.disk.now) (g.D.Disk.state c.loop-n.disk)
          (g.D.Disk.state c.copy_block.new.disk) c.args.size c.loop-n.n c.loop-n.copy c.copy_block.new.copy
          c.loop-n.unread inside (p.inside w.if-not-copy_block.true) c.loop-n.invariant
          (p.unread w.if-not-copy_block.true) p.reads p.same (p.failed w.if-not-copy_block.true) p.size)
      | else-not-copy_block w ↦ subst (IsCopying (g.D.Disk.state c.args.disk.now) (g.D.Disk.state c.copy_block.new.disk)
          c.args.size (c.loop-n.n + 1) c.copy_block.new.copy) (sym w.unread-is)
          (copying_read (g.D.Disk.state c.args.disk.now) (g.D.Disk.state c.loop-n.disk)
          (g.D.Disk.state c.copy_block.new.disk) c.args.size c.loop-n.n c.loop-n.copy c.copy_block.new.copy
          c.loop-n.unread inside c.loop-n.invariant (λ h. p.read h w.if-not-copy_block.false) p.size p.reads p.same
          (p.served w.if-not-copy_block.false))
    ]
