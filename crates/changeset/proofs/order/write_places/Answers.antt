use Rattle.std.proofs.Common.{◌<◌, refl, ◌∙◌, arith}
use Rattle.std.proofs.lemmas.Result.{on_ok_weaker}
use Rattle.blockdisk.specs.Common.{Syncs, same_disk_start, same_disk_on, modifies_start, modifies_write}
use Rattle.blockdisk.specs.Common.{modifies_still, syncs_still, modifies_near, near_sync}
use Rattle.changeset.specs.Common.{IsPutIn}
use Rattle.changeset.proofs.PutLists.{all_at, placed_more, put_in}
use Rattle.changeset.proofs.order.write_places.Goals as goal

pub loop-put-init : goal.loop-put-init
loop-put-init g c = record {
  same = same_disk_start (g.D.Disk.state c.args.disk.now);
  served = refl;
  modified = λ h. modifies_start (IsPutIn c.args.puts.now) (g.D.Disk.state c.args.disk.now);
  placed = λ h n. refl;
}

pub write-requires : goal.write-requires
write-requires g c =
    let inside : c.put-item.result.block
    < (g.D.Disk.state c.args.disk.now).size = all_at (λ n. n < (g.D.Disk.state c.args.disk.now).size) c.args.puts.now
    c.loop-put.put-index c.put-item.result c.loop-put-test.true c.put-item.is c.requires.in_range in
    omega (arith, c.loop-put.invariant.same.size)

pub returns-in_err-write-clause-near : goal.returns-in_err-write-clause-near
returns-in_err-write-clause-near g c h =
    let s = g.D.Disk.state c.args.disk.now in
    let now = g.D.Disk.state c.loop-put.disk in
    let new = g.D.Disk.state c.write.new.self in
    let honest = c.write.ensures.same.was_honest h in
    modifies_near (IsPutIn c.args.puts.now) s new
    (λ d left. g.met.D.Disk.only_now c.args.disk.now d (c.loop-put.invariant.same.was_honest honest) left)
    (modifies_write (IsPutIn c.args.puts.now) c.put-item.result.block s now new
    (put_in c.args.puts.now c.loop-put.put-index c.put-item.result c.loop-put-test.true c.put-item.is)
    (c.loop-put.invariant.modified honest) (c.write.ensures.writes h))

pub returns-clause-near : goal.returns-clause-near
returns-clause-near g c h =
    let honest = c.sync.ensures.same.was_honest h in
    near_sync c.sync.result (IsPutIn c.args.puts.now) (g.D.Disk.state c.args.disk.now) (g.D.Disk.state c.loop-put.disk)
    (g.D.Disk.state c.sync.new.self)
    (λ d left. g.met.D.Disk.only_now c.args.disk.now d (c.loop-put.invariant.same.was_honest honest) left)
    (λ d left. g.met.D.Disk.only_now c.loop-put.disk d honest left)
    (c.loop-put.invariant.modified honest) (c.sync.ensures.syncs h) (c.sync.ensures.fails h)

pub returns-clause-modified : goal.returns-clause-modified
returns-clause-modified g c h =
    let now = g.D.Disk.state c.loop-put.disk in
    let end = g.D.Disk.state c.sync.new.self in
    on_ok_weaker c.sync.result
    (λ (syncs : Syncs now end). modifies_still (IsPutIn c.args.puts.now) (g.D.Disk.state c.args.disk.now) now end
    (c.loop-put.invariant.modified (c.sync.ensures.same.was_honest h)) (syncs_still now end syncs))
    (c.sync.ensures.syncs h)

pub loop-put-preserved : goal.loop-put-preserved
loop-put-preserved g c =
    let s = g.D.Disk.state c.args.disk.now in
    let now = g.D.Disk.state c.loop-put.disk in
    let new = g.D.Disk.state c.write.new.self in
    record {
      same = same_disk_on s now new c.loop-put.invariant.same c.write.ensures.same;
      served = c.in_ok-write.ensures.served ∙ c.loop-put.invariant.served;
      modified = λ h. modifies_write (IsPutIn c.args.puts.now) c.put-item.result.block s now new
          (put_in c.args.puts.now c.loop-put.put-index c.put-item.result c.loop-put-test.true c.put-item.is)
          (c.loop-put.invariant.modified (c.write.ensures.same.was_honest h)) (c.write.ensures.writes h);
      placed = λ h.
          placed_more c.args.puts.now c.loop-put.put-index c.put-item.result c.loop-put-test.true c.put-item.is
          c.requires.distinct s.contents now.contents new.contents
          (c.loop-put.invariant.placed (c.write.ensures.same.was_honest h)) (c.write.ensures.writes h).contents
          (c.in_ok-write.ensures.put h);
    }
