use Rattle.std.proofs.Common.{◌∙◌, Err, ap, arith, refl, subst}
use Rattle.blockdisk.specs.Common.{held}
use Rattle.changeset.specs.Common.{IsLost, IsRecovered}
use Rattle.salvage.proofs.SettledCopies.{copy_lost, copy_recovered, none_pending}
use Rattle.salvage.proofs.copied.copy_at.Goals.{in-Ok, in-Err-BadLog}
use Rattle.salvage.proofs.copied.copy_at.Goals as goal

pub returns-clause-copied : goal.returns-clause-copied
returns-clause-copied g c h =
    let p = c.in_ok-copy.ensures in
    let long = c.recover.ensures.same.size ∙ p.size in
    let unread = c.in_ok-copy.unread in
    record {
      own = unread;
      all = refl;
      copied = elim c.match-recover.branch [
        | in-Ok w ↦ copy_recovered (g.D.Disk.state c.args.disk.now) _ c.recover.new.disk unread unread c.args.size
            c.match-recover.has_bad_log (p.copies h) (omega arith) long w.has_bad_log-is
            (subst (λ k. IsRecovered k (held c.in_ok-copy.copy.blocks) (held c.recover.new.disk.blocks)) p.size
            (w.in-Ok.ensures.recovered tt))
        | in-Err-BadLog w ↦
            let is = w.in-Err-BadLog.field-0-is in
            let bad = w.in-Err-BadLog.ensures.bad tt (ap Err is) in
            copy_lost (g.D.Disk.state c.args.disk.now) _ c.recover.new.disk unread unread c.args.size
            c.match-recover.has_bad_log (p.copies h) (omega arith) long w.has_bad_log-is
            (subst (λ k. IsLost k (held c.in_ok-copy.copy.blocks)) p.size bad)
            (w.in-Err-BadLog.ensures.unmodified tt (λ puts. none_pending _ _ puts bad) (λ device. cc)).contents
      ];
    }
