use Rattle.blockdisk.proofs.CopyLaws.{first_leaves, both_leave}
use Rattle.blockdisk.proofs.copies.write_copies.Goals as goal

pub returns-in_err-write_through-clause-leaves : goal.returns-in_err-write_through-clause-leaves
returns-in_err-write_through-clause-leaves g c h none =
    first_leaves c.args.first c.args.second c.args.block.now c.requires.apart (g.D.Disk.state c.args.disk.now)
    (g.D.Disk.state c.write_through.new.disk) (c.write_through.ensures.near h) none

pub returns-clause-leaves : goal.returns-clause-leaves
returns-clause-leaves g c h none =
    let honest = c.write_through-2.ensures.same.was_honest h in
    both_leave c.args.first c.args.second c.args.block.now c.requires.apart (g.D.Disk.state c.args.disk.now)
    (g.D.Disk.state c.write_through.new.disk) (c.write_through.ensures.near honest)
    (g.D.Disk.state c.write_through-2.new.disk)
    none (c.in_ok-write_through.ensures.modified honest)
    (c.in_ok-write_through.ensures.settled honest) (c.in_ok-write_through.ensures.put honest)
    (c.write_through-2.ensures.near h)
