use Rattle.std.proofs.Common.{◌≡◌, ◌+◌, ◌-◌, ⊎_elim, Err, length, ap, subst, arith}
use Rattle.std.proofs.lemmas.Bool.{cases_lt}
use Rattle.blockdisk.specs.Common.{fuse_state, HavePassed, read_whole, verify_on}
use Rattle.blockdisk.specs.declared.fault.Fault.TheVariants.{Device}
use Rattle.blockdisk.proofs.FuseRuns.{no_fault, read_passed, read_failed}
use Rattle.blockdisk.proofs.fuse.FuseDiskDisk.verify.Goals as goal

pub returns-in-Err-Device-clause-failed : goal.returns-in-Err-Device-clause-failed
returns-in-Err-Device-clause-failed g c =
    let inv = c.loop-n.invariant in
    read_failed (c.loop-n.n - c.args.first) c.args.self.now c.loop-n.self c.read.new.self inv.passed
    g.D.Disk.state inv.below c.loop-n.n (c.args.end - c.args.first) (Err c.in-Err-Device.field-0) (omega arith)
    (ap Err c.in-Err-Device.field-0-is) c.in-Err-Device.ensures.blown c.in-Err-Device.ensures.passed

pub loop-n-preserved : goal.loop-n-preserved
loop-n-preserved g c =
    let inv = c.loop-n.invariant in
    let first = c.args.first in
    let n = c.loop-n.n in
    let s = fuse_state g.D.Disk.state c.args.self.now in
    let now = fuse_state g.D.Disk.state c.loop-n.self in
    let new = fuse_state g.D.Disk.state c.read.new.self in
    let long : length c.in-Ok.field-0 ≡ 128 = let inv = rw c.in-Ok.is at c.read.type_inv in assumption inv in
    let both = read_passed (n - first) c.args.self.now c.loop-n.self c.read.new.self inv.passed g.D.Disk.state inv.below
    n _ (no_fault c.in-Ok.field-0 Device) c.in-Ok.ensures.blown c.in-Ok.ensures.passed in
    let behind : n - first + 1 ≡ n + 1 - first = omega arith in
    record {
      verified = verify_on first n (n + 1) s now new inv.verified
          (read_whole n now new c.in-Ok.field-0 long c.in-Ok.ensures.reads);
      none = λ empty. absurd (omega (arith, empty));
      passed = subst (λ k. HavePassed k c.args.self.now c.read.new.self) behind both.0;
      below = both.1;
    }

pub returns-clause-passed : goal.returns-clause-passed
returns-clause-passed g c =
    let inv = c.loop-n.invariant in
    let all : c.loop-n.n - c.args.first ≡ c.args.end - c.args.first
    = ⊎_elim (λ some. omega (arith, some, c.loop-n.auto.n-end (omega (arith, some))))
    (λ empty. omega (arith, empty, inv.none empty)) (cases_lt c.args.first c.args.end) in
    subst (λ k. HavePassed k c.args.self.now c.loop-n.self) all c.loop-n.invariant.passed
