use Rattle.std.proofs.Common.{◌≡◌, ◌+◌, length, subst}
use Rattle.blockdisk.specs.Common.{IsRead, read_whole, verify_on}
use Rattle.blockdisk.proofs.disk.Disk.verify.Goals as goal

pub loop-n-preserved : goal.loop-n-preserved
loop-n-preserved g c =
    let s = g.Self.Disk.state c.args.self.now in
    let now = g.Self.Disk.state c.loop-n.self in
    let new = g.Self.Disk.state c.read.new.self in
    let n = c.loop-n.n in
    let long : length c.in-Ok.field-0 ≡ 128 = let inv = rw c.in-Ok.is at c.read.type_inv in assumption inv in
    let read : IsRead n now new c.read.result = record {
      words = c.read.ensures.words;
      damaged = c.read.ensures.damaged;
      keeps = c.read.ensures.keeps;
      same = c.read.ensures.same;
      failed = c.read.ensures.failed;
      served = c.read.ensures.served;
    } in
    verify_on c.args.first n (n + 1) s now new c.loop-n.invariant
    (read_whole n now new c.in-Ok.field-0 long (subst (IsRead n now new) c.in-Ok.is read))
