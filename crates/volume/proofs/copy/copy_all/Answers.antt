use Rattle.std.proofs.Common.{subst}
use Rattle.blockdisk.specs.Common.{LeavesOnly}
use Rattle.volume.specs.Common.{HomesComeLast}
use Rattle.volume.proofs.CopyImage.CopyOrder.{behind_first, gate_or_end}
use Rattle.volume.proofs.copy.copy_all.Goals as goal

pub returns-in_err-copy_part-clause-last : goal.returns-in_err-copy_part-clause-last
returns-in_err-copy_part-clause-last g c h k =
    let s = g.D.Disk.state c.args.from.now in
    let t = g.E.Disk.state c.args.to.now in
    let t' = g.E.Disk.state c.copy_part.new.to in
    subst (λ size. LeavesOnly t t' (HomesComeLast size s.contents t)) c.blocks-blocks.ensures
    (behind_first c.blocks-blocks.result c.min-behind_home.result s.contents t t'
    (gate_or_end c.blocks-blocks.result c.min-behind_home.result c.min-behind_home.ensures)
    (c.copy_part.ensures.near k))
