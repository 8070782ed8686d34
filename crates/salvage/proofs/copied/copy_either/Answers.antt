use Rattle.std.proofs.Common.{◌+◌, ◌≡◌, arith}
use Rattle.std.proofs.lemmas.Result.{err_from_is_err_and}
use Rattle.changeset.proofs.LogRead.{only_reads_on}
use Rattle.salvage.specs.declared.copied.Copied.{Copied}
use Rattle.salvage.proofs.CopySizes.{agreed_copy, ok_then, other_copy}
use Rattle.salvage.proofs.CopySteps.{failed_on}
use Rattle.salvage.proofs.copied.copy_either.Goals as goal

pub returns-then-has_home-clause-copied : goal.returns-then-has_home-clause-copied
returns-then-has_home-clause-copied g c h first second said is =
    let p = c.in_ok-copied.ensures in
    agreed_copy (g.D.Disk.state c.args.disk.now) c.in_ok-copied.copied.faults c.has_home.new.copy
    c.in_ok-copied.copied.disk c.blocks-blocks.result c.args.unread first second c.has_home.ensures.unchanged
    c.blocks-blocks.ensures (p.copied h)
    (c.has_home.ensures.said.0 c.if-has_home.true) said

pub returns-clause-copied : goal.returns-clause-copied
returns-clause-copied g c h first second said is =
    let p = c.in_ok-copied.ensures in
    let q = c.copy_at-2.ensures in
    let was = q.same.was_honest h in
    other_copy (g.D.Disk.state c.args.disk.now) (g.D.Disk.state c.copy_at.new.disk) c.copy_at-2.result
    c.in_ok-copied.copied c.args.size c.blocks-blocks.result c.args.unread first second p.same (p.reads was)
    c.blocks-blocks.ensures (p.copied was)
    (λ home. let yes = c.has_home.ensures.said.1 home in let no = c.if-has_home.false in absurd cc) is said
    (q.copied h)

pub returns-then-has_home-clause-failures : goal.returns-then-has_home-clause-failures
returns-then-has_home-clause-failures g c =
    let f = c.in_ok-copied.ensures.failures in
    (f.0, (let few = f.1 in omega arith), f.3, f.4)

pub returns-in_err-copied-clause-failures : goal.returns-in_err-copied-clause-failures
returns-in_err-copied-clause-failures g c =
    let f = c.in_err-copied.ensures.failures in
    let e = err_from_is_err_and c.from_residual.result c.from_residual.ensures.1 in
    (f.0, (let few = f.1 in omega arith), f.3, rw e.1 tt)

pub returns-clause-failures : goal.returns-clause-failures
returns-clause-failures g c =
    let f = c.in_ok-copied.ensures.failures in
    let q = c.copy_at-2.ensures.failures in
    let size = c.in_ok-copied.ensures.same.size in (
      f.0 + q.0,
      (let few = f.1 in let fewer = q.1 in omega arith),
      failed_on f.0 q.0 _ _ _ f.3 q.3,
      ok_then (λ (x : Copied). x.faults.unread ≡ c.in_ok-copied.copied.faults.unread + q.0)
          (λ (x : Copied). x.faults.unread ≡ c.args.unread + (f.0 + q.0)) c.copy_at-2.result
          (λ x counted. let before = f.4 in omega arith) q.4,
    )

pub returns-clause-reads : goal.returns-clause-reads
returns-clause-reads g c h =
    let q = c.copy_at-2.ensures in
    only_reads_on (g.D.Disk.state c.args.disk.now) (g.D.Disk.state c.copy_at.new.disk)
    (g.D.Disk.state c.copy_at-2.new.disk) (c.in_ok-copied.ensures.reads (q.same.was_honest h)) (q.reads h)
