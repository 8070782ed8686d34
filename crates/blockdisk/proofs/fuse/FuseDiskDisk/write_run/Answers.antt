use Rattle.std.proofs.Common.{◌+◌, ◌∙◌, OnErr, Err, [], length, refl, sym, ap, subst}
use Rattle.std.proofs.lemmas.List.{get_or_read}
use Rattle.std.proofs.lemmas.Result.{err_from_is_err_and}
use Rattle.blockdisk.specs.Common.{IsRunWrite, fuse_state, HasFailedWrite, no_part_write, part_write_next}
use Rattle.blockdisk.specs.Common.{part_write_ends}
use Rattle.blockdisk.proofs.FuseRuns.{none_passed, write_passed, write_failed}
use Rattle.blockdisk.proofs.fuse.FuseDiskDisk.write_run.Goals as goal

pub loop-place-init : goal.loop-place-init
loop-place-init g c = record {
  written = no_part_write c.args.first c.args.blocks.now (fuse_state g.D.Disk.state c.args.self.now);
  passed = none_passed c.args.self.now;
  below = refl;
}

pub returns-in_err-write-clause-failed : goal.returns-in_err-write-clause-failed
returns-in_err-write-clause-failed g c =
    let inv = c.loop-place.invariant in
    let e = c.in_err-write.ensures in
    let p = err_from_is_err_and c.from_residual.result c.from_residual.ensures.1 in
    subst (λ answer. OnErr answer (HasFailedWrite g.D.Disk.state c.args.first (length c.args.blocks.now)
    c.args.self.now c.write.new.self)) (sym (p.1 ∙ ap Err p.2))
    (write_failed c.loop-place.place c.args.self.now c.loop-place.self c.write.new.self inv.passed g.D.Disk.state
    inv.below c.args.first (c.args.first + c.loop-place.place) (length c.args.blocks.now) c.args.blocks.now _
    c.in_err-write.field-0.0 c.loop-place-test.true refl inv.written e.writes e.blown e.passed)

pub returns-in_err-write-clause-writes : goal.returns-in_err-write-clause-writes
returns-in_err-write-clause-writes g c =
    let s = fuse_state g.D.Disk.state c.args.self.now in
    let now = fuse_state g.D.Disk.state c.loop-place.self in
    let new = fuse_state g.D.Disk.state c.write.new.self in
    let p = err_from_is_err_and c.from_residual.result c.from_residual.ensures.1 in
    subst (IsRunWrite c.args.first c.args.blocks.now s new) (sym (p.1 ∙ ap Err p.2))
    (part_write_ends c.args.first c.loop-place.place c.args.blocks.now s now c.loop-place.invariant.written new _
    c.in_err-write.field-0.0 c.loop-place-test.true c.in_err-write.ensures.writes)

pub loop-place-preserved : goal.loop-place-preserved
loop-place-preserved g c =
    let inv = c.loop-place.invariant in
    let first = c.args.first in
    let place = c.loop-place.place in
    let blocks = c.args.blocks.now in
    let e = c.in_ok-write.ensures in
    let both = write_passed place c.args.self.now c.loop-place.self c.write.new.self inv.passed g.D.Disk.state inv.below
    (first + place) _ c.in_ok-write.field-0 e.blown e.passed in
    record {
      written = part_write_next first place blocks (fuse_state g.D.Disk.state c.args.self.now)
          (fuse_state g.D.Disk.state c.loop-place.self) inv.written (fuse_state g.D.Disk.state c.write.new.self) _
          c.in_ok-write.field-0
          (get_or_read blocks place c.index-blocks-place.result c.loop-place-test.true c.index-blocks-place.is [])
          e.writes;
      passed = both.0;
      below = both.1;
    }
