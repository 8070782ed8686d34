use Rattle.std.proofs.Common.{◌+◌, ◌≡◌, ◌⊎◌, arith, inl, inr, rules}
use Rattle.changeset.proofs.LogRead.{only_reads_on}
use Rattle.spec_image.specs.Common.{IsVolumeSize}
use Rattle.salvage.proofs.CopySizes.{either_copy, said_copy, unsaid}
use Rattle.salvage.proofs.CopySteps.{failed_on}
use Rattle.salvage.proofs.copied.Copied.of.Goals.{else-size-blocks-via-then-size-blocks+else-is_volume_size}
use Rattle.salvage.proofs.copied.Copied.of.Goals.{else-size-blocks-via-else-size-blocks}
use Rattle.salvage.proofs.copied.Copied.of.Goals as goal

pub returns-then-not-is_volume_size-clause-unsaid : goal.returns-then-not-is_volume_size-clause-unsaid
returns-then-not-is_volume_size-clause-unsaid g c h not_volume =
    let d = g.D.Disk.state c.args.disk.now in
    let sizes = c.read_sizes-size.ensures.size h in
    unsaid d.size d.contents c.read_sizes-size.result.1 c.read_sizes-size.result.0 sizes.0 sizes.1 sizes.2 sizes.3
    (c.no_volume.ensures.volume cc)
    (λ volume. let yes = c.is_volume_size.ensures.1 volume in let no = c.if-not-is_volume_size.true in absurd cc)

pub returns-then-is_volume_size-clause-copied : goal.returns-then-is_volume_size-clause-copied
returns-then-is_volume_size-clause-copied g c h =
    let d = g.D.Disk.state c.args.disk.now in
    let mid = g.D.Disk.state c.read_sizes-size.new.disk in
    let p = c.copy_either.ensures in
    let was = p.same.was_honest h in
    let r = c.read_sizes-size.ensures in
    let sizes = r.size was in
    either_copy d mid r.same (r.reads was) c.copy_either.result c.read_sizes-size.result.0 c.read_sizes-size.result.1
    sizes.0 sizes.1 sizes.2 sizes.3 (p.copied h)

pub returns-then-is_volume_size-clause-reads : goal.returns-then-is_volume_size-clause-reads
returns-then-is_volume_size-clause-reads g c h =
    let p = c.copy_either.ensures in
    only_reads_on (g.D.Disk.state c.args.disk.now) (g.D.Disk.state c.read_sizes-size.new.disk)
    (g.D.Disk.state c.copy_either.new.disk) (c.read_sizes-size.ensures.reads (p.same.was_honest h)) (p.reads h)

pub returns-then-is_volume_size-clause-failures : goal.returns-then-is_volume_size-clause-failures
returns-then-is_volume_size-clause-failures g c =
    let r = c.read_sizes-size in
    let f = c.copy_either.ensures.failures in
    let size = r.ensures.same.size in (
      r.result.1 + f.0,
      (let few = f.1 in let fewer = r.ensures.few in omega arith),
      failed_on r.result.1 f.0 _ _ _ r.ensures.failures f.2,
      f.3,
      search rules,
    )

pub returns-clause-copied : goal.returns-clause-copied
returns-clause-copied g c h =
    let d = g.D.Disk.state c.args.disk.now in
    let mid = g.D.Disk.state c.read_sizes-size.new.disk in
    let p = c.copy_at.ensures in
    let was = p.same.was_honest h in
    let r = c.read_sizes-size.ensures in
    let sizes = r.size was in
    let either : (c.read_sizes-size.result.0 ≡ d.size) ⊎ (IsVolumeSize d.size → ⊥) =
    elim c.else-size-blocks.branch [
      | else-size-blocks-via-then-size-blocks+else-is_volume_size w ↦ inr (search rules)
      | else-size-blocks-via-else-size-blocks w ↦ inl (search rules)
    ] in
    said_copy d mid c.copy_at.result c.read_sizes-size.result.0 c.read_sizes-size.result.1 sizes.0 sizes.1 r.same
    (r.reads was) either sizes.3 sizes.2 (p.copied h)

pub returns-clause-reads : goal.returns-clause-reads
returns-clause-reads g c h =
    let p = c.copy_at.ensures in
    only_reads_on (g.D.Disk.state c.args.disk.now) (g.D.Disk.state c.read_sizes-size.new.disk)
    (g.D.Disk.state c.copy_at.new.disk) (c.read_sizes-size.ensures.reads (p.same.was_honest h)) (p.reads h)

pub returns-clause-failures : goal.returns-clause-failures
returns-clause-failures g c =
    let r = c.read_sizes-size in
    let f = c.copy_at.ensures.failures in
    let size = r.ensures.same.size in (
      r.result.1 + f.0,
      (let few = f.1 in let fewer = r.ensures.few in omega arith),
      failed_on r.result.1 f.0 _ _ _ r.ensures.failures f.3,
      f.4,
      search rules,
    )
