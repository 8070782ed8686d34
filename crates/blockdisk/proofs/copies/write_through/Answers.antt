use Rattle.std.proofs.Common.{◌≡◌, refl}
use Rattle.std.proofs.lemmas.Result.{on_ok_weaker}
use Rattle.blockdisk.specs.Common.{Syncs, writes_modifies, modifies_still, syncs_still, modifies_near, near_sync}
use Rattle.blockdisk.proofs.copies.write_through.Goals as goal

pub returns-in_err-write-clause-near : goal.returns-in_err-write-clause-near
returns-in_err-write-clause-near g c h =
    let s = g.D.Disk.state c.args.disk.now in
    let written = g.D.Disk.state c.write.new.self in
    modifies_near (λ m. m ≡ c.args.n) s written
    (λ d left. g.met.D.Disk.only_now c.args.disk.now d (c.write.ensures.same.was_honest h) left)
    (writes_modifies (λ m. m ≡ c.args.n) c.args.n s written refl (c.write.ensures.writes h))

pub returns-clause-near : goal.returns-clause-near
returns-clause-near g c h =
    let s = g.D.Disk.state c.args.disk.now in
    let written = g.D.Disk.state c.write.new.self in
    let synced = g.D.Disk.state c.sync.new.self in
    let honest = c.sync.ensures.same.was_honest h in
    near_sync c.sync.result (λ m. m ≡ c.args.n) s written synced
    (λ d left. g.met.D.Disk.only_now c.args.disk.now d (c.write.ensures.same.was_honest honest) left)
    (λ d left. g.met.D.Disk.only_now c.write.new.self d honest left)
    (writes_modifies (λ m. m ≡ c.args.n) c.args.n s written refl (c.write.ensures.writes honest))
    (c.sync.ensures.syncs h) (c.sync.ensures.fails h)

pub returns-clause-modified : goal.returns-clause-modified
returns-clause-modified g c h =
    let s = g.D.Disk.state c.args.disk.now in
    let written = g.D.Disk.state c.write.new.self in
    let synced = g.D.Disk.state c.sync.new.self in
    on_ok_weaker c.sync.result
    (λ (syncs : Syncs written synced). modifies_still (λ m. m ≡ c.args.n) s written synced
    (writes_modifies (λ m. m ≡ c.args.n) c.args.n s written refl
    (c.write.ensures.writes (c.sync.ensures.same.was_honest h))) (syncs_still written synced syncs))
    (c.sync.ensures.syncs h)
