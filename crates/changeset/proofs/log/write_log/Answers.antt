use Rattle.std.proofs.Common.{ℕ, ◌+◌, ◌<◌, ◌≤◌, length, Some, ◌∙◌, ap, arith}
use Rattle.std.proofs.lemmas.Result.{on_ok_weaker}
use Rattle.blockdisk.specs.Common.{DiskState, Modifies, Syncs, modifies_wider, modifies_write, modifies_still}
use Rattle.blockdisk.specs.Common.{syncs_still, modifies_near, near_sync}
use Rattle.spec_image.specs.Common.{log_start, log_images}
use Rattle.changeset.specs.Common.{IsInLog}
use Rattle.changeset.proofs.PutLists.{images_same}
use Rattle.changeset.proofs.log.write_log.Goals as goal

-- the images lie in the log
images_modified : (s s' : DiskState) (count : ℕ) → count ≤ log_images s.size
    → Modifies (λ n. (log_start ≤ n) × (n < log_start + count)) s s' → Modifies (IsInLog s.size) s s'
images_modified s s' count few = modifies_wider (λ n. (log_start ≤ n) × (n < log_start + count)) (IsInLog s.size) s s'
    (λ n is. (let low = is.0 in omega arith, let high = is.1 in omega arith))

pub returns-in_err-write_images-clause-near : goal.returns-in_err-write_images-clause-near
returns-in_err-write_images-clause-near g c h =
    let s = g.D.Disk.state c.args.disk.now in
    let imaged = g.D.Disk.state c.write_images.new.disk in
    modifies_near (IsInLog s.size) s imaged
    (λ d left. g.met.D.Disk.only_now c.args.disk.now d (c.write_images.ensures.same.was_honest h) left)
    (images_modified s imaged (length c.args.puts.now) c.requires.few (c.write_images.ensures.modified h))

pub returns-in_err-write-clause-near : goal.returns-in_err-write-clause-near
returns-in_err-write-clause-near g c h =
    let s = g.D.Disk.state c.args.disk.now in
    let imaged = g.D.Disk.state c.write_images.new.disk in
    let written = g.D.Disk.state c.write.new.self in
    let honest = c.write.ensures.same.was_honest h in
    modifies_near (IsInLog s.size) s written
    (λ d left. g.met.D.Disk.only_now c.args.disk.now d (c.write_images.ensures.same.was_honest honest) left)
    (modifies_write (IsInLog s.size) 4 s imaged written (omega arith, omega arith)
    (images_modified s imaged (length c.args.puts.now) c.requires.few (c.write_images.ensures.modified honest))
    (c.write.ensures.writes h))

pub returns-clause-near : goal.returns-clause-near
returns-clause-near g c h =
    let s = g.D.Disk.state c.args.disk.now in
    let imaged = g.D.Disk.state c.write_images.new.disk in
    let written = g.D.Disk.state c.write.new.self in
    let synced = c.sync.ensures.same.was_honest h in
    let honest = c.write.ensures.same.was_honest synced in
    near_sync c.sync.result (IsInLog s.size) s written (g.D.Disk.state c.sync.new.self)
    (λ d left. g.met.D.Disk.only_now c.args.disk.now d (c.write_images.ensures.same.was_honest honest) left)
    (λ d left. g.met.D.Disk.only_now c.write.new.self d synced left)
    (modifies_write (IsInLog s.size) 4 s imaged written (omega arith, omega arith)
    (images_modified s imaged (length c.args.puts.now) c.requires.few (c.write_images.ensures.modified honest))
    (c.write.ensures.writes synced))
    (c.sync.ensures.syncs h) (c.sync.ensures.fails h)

pub returns-clause-modified : goal.returns-clause-modified
returns-clause-modified g c h =
    let s = g.D.Disk.state c.args.disk.now in
    let imaged = g.D.Disk.state c.write_images.new.disk in
    let written = g.D.Disk.state c.write.new.self in
    let end = g.D.Disk.state c.sync.new.self in
    on_ok_weaker c.sync.result (λ (syncs : Syncs written end). modifies_still (IsInLog s.size) s written end
    (modifies_write (IsInLog s.size) 4 s imaged written (omega arith, omega arith)
    (images_modified s imaged (length c.args.puts.now) c.requires.few
    (c.write_images.ensures.modified (c.write.ensures.same.was_honest (c.sync.ensures.same.was_honest h))))
    (c.write.ensures.writes (c.sync.ensures.same.was_honest h)))
    (syncs_still written end syncs)) (c.sync.ensures.syncs h)

pub returns-clause-logged : goal.returns-clause-logged
returns-clause-logged g c h =
    let imaged = g.D.Disk.state c.write_images.new.disk in
    let end = g.D.Disk.state c.sync.new.self in
    on_ok_weaker c.sync.result (λ (syncs : Syncs (g.D.Disk.state c.write.new.self) end). record {
      header = syncs.contents 4 ∙ c.in_ok-write.ensures.put (c.sync.ensures.same.was_honest h)
          ∙ ap Some c.header_of-header.ensures;
      some = c.requires.some;
      few = c.requires.few;
      distinct = c.requires.distinct;
      in_range = c.requires.in_range;
      images = images_same imaged.contents end.contents log_start c.args.puts.now
          (c.in_ok-write_images.ensures.images (c.write.ensures.same.was_honest (c.sync.ensures.same.was_honest h)))
          (λ n low high. syncs.contents n
          ∙ (c.write.ensures.writes (c.sync.ensures.same.was_honest h)).contents n (λ is. omega arith));
    }) (c.sync.ensures.syncs h)
