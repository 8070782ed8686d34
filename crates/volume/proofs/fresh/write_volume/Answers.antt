use Rattle.std.proofs.Common.{ℕ, ◌+◌, ◌∙◌, ap}
use Rattle.std.proofs.lemmas.Result.{on_ok_weaker}
use Rattle.blockdisk.specs.Common.{Syncs, modifies_still, syncs_still, modifies_near, near_sync}
use Rattle.spec_image.specs.Common.{table_start, space_start}
use Rattle.volume.specs.Common.{IsInitBlock}
use Rattle.volume.proofs.VolumeStart.FreshVolume.{first_modified, volume_modified}
use Rattle.volume.proofs.fresh.write_volume.Goals as goal

pub returns-in_err-write_fresh-clause-near : goal.returns-in_err-write_fresh-clause-near
returns-in_err-write_fresh-clause-near g c h =
    let s = g.D.Disk.state c.args.disk.now in
    let first = g.D.Disk.state c.write_fresh.new.disk in
    modifies_near (IsInitBlock s.size) s first
    (λ d left. g.met.D.Disk.only_now c.args.disk.now d (c.write_fresh.ensures.disk.same.was_honest h) left)
    (first_modified s first (c.write_fresh.ensures.modified h))

pub returns-in_err-write_fresh-2-clause-near : goal.returns-in_err-write_fresh-2-clause-near
returns-in_err-write_fresh-2-clause-near g c h =
    let s = g.D.Disk.state c.args.disk.now in
    let written = g.D.Disk.state c.write_fresh-2.new.disk in
    let honest = c.write_fresh-2.ensures.disk.same.was_honest h in
    modifies_near (IsInitBlock s.size) s written
    (λ d left. g.met.D.Disk.only_now c.args.disk.now d (c.write_fresh.ensures.disk.same.was_honest honest) left)
    (volume_modified s (g.D.Disk.state c.write_fresh.new.disk) written c.table_start.result (c.space_start.result + 1)
    (c.table_start.ensures ∙ ap table_start c.blocks-size.ensures) (ap (λ (k : ℕ). k + 1) (c.space_start.ensures
    ∙ ap space_start c.blocks-size.ensures)) (c.write_fresh.ensures.modified honest)
    (c.write_fresh-2.ensures.modified h))

pub returns-clause-near : goal.returns-clause-near
returns-clause-near g c h =
    let s = g.D.Disk.state c.args.disk.now in
    let written = g.D.Disk.state c.write_fresh-2.new.disk in
    let end = g.D.Disk.state c.sync.new.self in
    let synced = c.sync.ensures.same.was_honest h in
    let honest = c.write_fresh-2.ensures.disk.same.was_honest synced in
    near_sync c.sync.result (IsInitBlock s.size) s written end
    (λ d left. g.met.D.Disk.only_now c.args.disk.now d (c.write_fresh.ensures.disk.same.was_honest honest) left)
    (λ d left. g.met.D.Disk.only_now c.write_fresh-2.new.disk d synced left)
    (volume_modified s (g.D.Disk.state c.write_fresh.new.disk) written c.table_start.result (c.space_start.result + 1)
    (c.table_start.ensures ∙ ap table_start c.blocks-size.ensures) (ap (λ (k : ℕ). k + 1) (c.space_start.ensures
    ∙ ap space_start c.blocks-size.ensures)) (c.write_fresh.ensures.modified honest)
    (c.write_fresh-2.ensures.modified synced))
    (c.sync.ensures.syncs h) (c.sync.ensures.fails h)

pub returns-clause-modified : goal.returns-clause-modified
returns-clause-modified g c h =
    let s = g.D.Disk.state c.args.disk.now in
    let written = g.D.Disk.state c.write_fresh-2.new.disk in
    let end = g.D.Disk.state c.sync.new.self in
    let synced = c.sync.ensures.same.was_honest h in
    let honest = c.write_fresh-2.ensures.disk.same.was_honest synced in
    on_ok_weaker c.sync.result (λ (syncs : Syncs written end). modifies_still (IsInitBlock s.size) s written end
    (volume_modified s (g.D.Disk.state c.write_fresh.new.disk) written c.table_start.result (c.space_start.result + 1)
    (c.table_start.ensures ∙ ap table_start c.blocks-size.ensures) (ap (λ (k : ℕ). k + 1) (c.space_start.ensures
    ∙ ap space_start c.blocks-size.ensures)) (c.write_fresh.ensures.modified honest)
    (c.write_fresh-2.ensures.modified synced))
    (syncs_still written end syncs)) (c.sync.ensures.syncs h)
