use Rattle.std.proofs.Common.{ℕ, ◌<◌, ◌≤◌, Some, refl, ◌∙◌, ap, arith}
use Rattle.blockdisk.specs.Common.{same_disk_start, same_disk_on, modifies_start, modifies_write}
use Rattle.spec_image.specs.Common.{layout_number}
use Rattle.volume.specs.Common.{fresh_words}
use Rattle.volume.proofs.VolumeStart.FreshVolume.{written_more}
use Rattle.volume.proofs.fresh.write_fresh.Goals as goal

pub loop-n-init : goal.loop-n-init
loop-n-init g c = record {
  same = same_disk_start (g.D.Disk.state c.args.disk.now);
  served = refl;
  modified = λ h. modifies_start (λ n. (c.args.from ≤ n) × (n < c.args.end)) (g.D.Disk.state c.args.disk.now);
  written = λ h n low high. absurd (omega arith);
}

pub returns-in_err-write-clause-modified : goal.returns-in_err-write-clause-modified
returns-in_err-write-clause-modified g c h =
    modifies_write (λ n. (c.args.from ≤ n) × (n < c.args.end)) c.loop-n.n (g.D.Disk.state c.args.disk.now)
    (g.D.Disk.state c.loop-n.disk) (g.D.Disk.state c.write.new.self)
    (omega arith, omega (arith, c.loop-n-test.true)) (c.loop-n.invariant.modified (c.write.ensures.same.was_honest h))
    (c.write.ensures.writes h)

pub loop-n-preserved : goal.loop-n-preserved
loop-n-preserved g c =
    let s = g.D.Disk.state c.args.disk.now in
    let now = g.D.Disk.state c.loop-n.disk in
    let new = g.D.Disk.state c.write.new.self in
    record {
      same = same_disk_on s now new c.loop-n.invariant.same c.write.ensures.same;
      served = c.in_ok-write.ensures.served ∙ c.loop-n.invariant.served;
      modified = λ h. modifies_write (λ n. (c.args.from ≤ n) × (n < c.args.end)) c.loop-n.n s now new
          (omega arith, omega (arith, c.loop-n-test.true))
          (c.loop-n.invariant.modified (c.write.ensures.same.was_honest h)) (c.write.ensures.writes h);
      written = λ h.
          written_more (layout_number c.args.layout) s.size c.args.from c.loop-n.n now.contents new.contents
          (c.loop-n.invariant.written (c.write.ensures.same.was_honest h)) (c.write.ensures.writes h).contents
          (c.in_ok-write.ensures.put h
          ∙ ap Some (c.fresh_block.ensures
          ∙ ap (λ (size : ℕ). fresh_words (layout_number c.args.layout) size c.loop-n.n) c.blocks-size.ensures));
    }
