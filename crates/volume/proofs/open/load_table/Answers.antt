use Rattle.std.proofs.Common.{◌≡◌, subst}
use Rattle.volume.specs.Common.{IsWrongFor}
use Rattle.volume.proofs.VolumeStart.Opens.{bad_block_wrong}
use Rattle.volume.proofs.open.load_table.Goals as goal

pub returns-in-Err-TableWrong-clause-wrong : goal.returns-in-Err-TableWrong-clause-wrong
returns-in-Err-TableWrong-clause-wrong g c h n is =
    let s = g.D.Disk.state c.args.disk.now in
    let same : c.in-Err-TableWrong.n ≡ n = cc in
    subst (IsWrongFor s.size s.contents c.args.reached.now) same
    (bad_block_wrong s.size s.contents c.args.reached.now c.in-Err-TableWrong.n c.requires.volume c.requires.marks
    (c.load.ensures.wrong h c.in-Err-TableWrong.n (cc)))
