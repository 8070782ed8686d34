use Rattle.std.proofs.Common.{◌+◌, ◌<◌, ◌≤◌, length, refl, ◌∙◌, arith}
use Rattle.blockdisk.specs.Common.{same_disk_start, same_disk_on, modifies_start, modifies_write}
use Rattle.spec_image.specs.Common.{log_start}
use Rattle.changeset.proofs.PutLists.{images_more}
use Rattle.changeset.proofs.log.write_images.Goals as goal

pub loop-i-init : goal.loop-i-init
loop-i-init g c = record {
  same = same_disk_start (g.D.Disk.state c.args.disk.now);
  served = refl;
  modified = λ h. modifies_start (λ n. (log_start ≤ n) × (n < log_start + length c.args.puts.now))
      (g.D.Disk.state c.args.disk.now);
  images = λ h. tt;
}

pub returns-in_err-write-clause-modified : goal.returns-in_err-write-clause-modified
returns-in_err-write-clause-modified g c h =
    modifies_write (λ n. (log_start ≤ n) × (n < log_start + length c.args.puts.now)) (log_start + c.loop-i.i)
    (g.D.Disk.state c.args.disk.now) (g.D.Disk.state c.loop-i.disk) (g.D.Disk.state c.write.new.self)
    (omega arith, omega (arith, c.loop-i-test.true)) (c.loop-i.invariant.modified (c.write.ensures.same.was_honest h))
    (c.write.ensures.writes h)

pub loop-i-preserved : goal.loop-i-preserved
loop-i-preserved g c =
    let s = g.D.Disk.state c.args.disk.now in
    let now = g.D.Disk.state c.loop-i.disk in
    let new = g.D.Disk.state c.write.new.self in
    record {
      same = same_disk_on s now new c.loop-i.invariant.same c.write.ensures.same;
      served = c.in_ok-write.ensures.served ∙ c.loop-i.invariant.served;
      modified = λ h. modifies_write (λ n. (log_start ≤ n) × (n < log_start + length c.args.puts.now))
          (log_start + c.loop-i.i) s now new
          (omega arith, omega (arith, c.loop-i-test.true))
          (c.loop-i.invariant.modified (c.write.ensures.same.was_honest h)) (c.write.ensures.writes h);
      images = λ h.
          images_more c.args.puts.now c.loop-i.i c.index-puts-i.result c.loop-i-test.true c.index-puts-i.is
          now.contents new.contents log_start (log_start + c.loop-i.i) refl
          (c.loop-i.invariant.images (c.write.ensures.same.was_honest h)) (c.write.ensures.writes h).contents
          (c.in_ok-write.ensures.put h);
    }
