use Rattle.std.proofs.Common.{inr}
use Rattle.std.proofs.lemmas.Result.{on_ok_weaker}
use Rattle.blockdisk.specs.Common.{MayLeave, syncs_still, still_on, leaves_still, fails_leaves}
use Rattle.changeset.specs.Common.{IsLost, ArePending, IsRecovered}
use Rattle.changeset.proofs.RecoveryCrashes.{along, syncing_leaves, recovering_leaves, synced_leaves}
use Rattle.changeset.proofs.recovery.recover.Goals as goal

pub returns-in_err-sync-clause-crash : goal.returns-in_err-sync-clause-crash
returns-in_err-sync-clause-crash g c h =
    let s = g.D.Disk.state c.args.disk.now in
    let synced = g.D.Disk.state c.sync.new.self in
    syncing_leaves s synced (fails_leaves s synced (λ d left. g.met.D.Disk.only_now c.args.disk.now d
    (c.sync.ensures.same.was_honest h) left) (c.in_err-sync.ensures.fails h))

pub returns-in_err-sync-clause-unwritten : goal.returns-in_err-sync-clause-unwritten
returns-in_err-sync-clause-unwritten g c h none_pending =
    fails_leaves (g.D.Disk.state c.args.disk.now) (g.D.Disk.state c.sync.new.self)
    (λ d left. g.met.D.Disk.only_now c.args.disk.now d (c.sync.ensures.same.was_honest h) left)
    (c.in_err-sync.ensures.fails h)

pub returns-clause-crash : goal.returns-clause-crash
returns-clause-crash g c h =
    let s = g.D.Disk.state c.args.disk.now in
    let synced = g.D.Disk.state c.sync.new.self in
    let honest = c.recover_synced.ensures.same.was_honest h in
    let syncs = c.in_ok-sync.ensures.syncs honest in
    recovering_leaves s synced
    (leaves_still s synced (MayLeave s)
    (λ d left. g.met.D.Disk.only_now c.args.disk.now d (c.sync.ensures.same.was_honest honest) left)
    (syncs_still s synced syncs) (λ d left. left)) (g.D.Disk.state c.recover_synced.new.disk)
    (syncs_still s synced syncs)
    c.sync.ensures.same.size (c.recover_synced.ensures.crash h syncs.closed)

pub returns-clause-synced : goal.returns-clause-synced
returns-clause-synced g c h =
    let s = g.D.Disk.state c.args.disk.now in
    let synced = g.D.Disk.state c.sync.new.self in
    let syncs = c.in_ok-sync.ensures.syncs (c.recover_synced.ensures.same.was_honest h) in
    inr (
      c.sync.new.self,
      syncs,
      synced_leaves s synced (g.D.Disk.state c.recover_synced.new.disk)
          (syncs_still s synced syncs) c.sync.ensures.same.size (c.recover_synced.ensures.crash h syncs.closed),
    )

pub returns-clause-bad : goal.returns-clause-bad
returns-clause-bad g c h bad =
    along IsLost (g.D.Disk.state c.args.disk.now) (g.D.Disk.state c.sync.new.self) c.sync.ensures.same.size
    (c.in_ok-sync.ensures.syncs (c.recover_synced.ensures.same.was_honest h)).contents
    (c.recover_synced.ensures.bad h bad)

pub returns-clause-unmodified : goal.returns-clause-unmodified
returns-clause-unmodified g c h none_pending served =
    let s = g.D.Disk.state c.args.disk.now in
    let synced = g.D.Disk.state c.sync.new.self in
    let syncs = c.in_ok-sync.ensures.syncs (c.recover_synced.ensures.same.was_honest h) in
    still_on s synced (g.D.Disk.state c.recover_synced.new.disk) (syncs_still s synced syncs)
    (c.recover_synced.ensures.unmodified h (λ puts pending. none_pending puts
    (along (λ n d. ArePending n d puts) s synced c.sync.ensures.same.size syncs.contents pending)))

pub returns-clause-unwritten : goal.returns-clause-unwritten
returns-clause-unwritten g c h none_pending =
    let s = g.D.Disk.state c.args.disk.now in
    let synced = g.D.Disk.state c.sync.new.self in
    let end = g.D.Disk.state c.recover_synced.new.disk in
    let honest = c.recover_synced.ensures.same.was_honest h in
    let syncs = c.in_ok-sync.ensures.syncs honest in
    leaves_still s end (MayLeave s) (λ d left. g.met.D.Disk.only_now c.args.disk.now d
    (c.sync.ensures.same.was_honest honest) left) (still_on s synced end (syncs_still s synced syncs)
    (c.recover_synced.ensures.unmodified h (λ puts pending. none_pending puts
    (along (λ n d. ArePending n d puts) s synced c.sync.ensures.same.size syncs.contents pending))))
    (λ d left. left)

pub returns-clause-recovered : goal.returns-clause-recovered
returns-clause-recovered g c h =
    let end = g.D.Disk.state c.recover_synced.new.disk in
    let synced = g.D.Disk.state c.sync.new.self in
    on_ok_weaker c.recover_synced.result
    (λ (recovered : IsRecovered synced.size synced.contents end.contents). along (λ n d. IsRecovered n d end.contents)
    (g.D.Disk.state c.args.disk.now) synced c.sync.ensures.same.size
    (c.in_ok-sync.ensures.syncs (c.recover_synced.ensures.same.was_honest h)).contents recovered)
    (c.recover_synced.ensures.recovered h)
