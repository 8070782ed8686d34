use Rattle.std.proofs.Common.{◌⊎◌, ℕ, List, subst}
use Rattle.blockdisk.specs.Common.{MayLeave, Near, Modifies, LeavesOnly, syncs_still, still_modifies, near_self}
use Rattle.blockdisk.specs.Common.{leaves_start, leaves_weaker, sync_leaves}
use Rattle.spec_image.specs.declared.put.Put.{Put}
use Rattle.changeset.specs.Common.{IsGateOrLog, IsPutIn}
use Rattle.changeset.proofs.Moments.{still_leaves}
use Rattle.changeset.proofs.order.commit.Goals as goal

-- A set of no puts.

pub returns-in_err-sync-clause-unwritten : goal.returns-in_err-sync-clause-unwritten
returns-in_err-sync-clause-unwritten g c h none =
    sync_leaves c.sync.result (g.D.Disk.state c.args.disk.now) (g.D.Disk.state c.sync.new.self)
    (λ d left. g.met.D.Disk.only_now c.args.disk.now d (c.sync.ensures.same.was_honest h) left)
    (c.sync.ensures.syncs h) (c.sync.ensures.fails h)

pub returns-in_err-sync-clause-crash : goal.returns-in_err-sync-clause-crash
returns-in_err-sync-clause-crash g c h shut =
    let s = g.D.Disk.state c.args.disk.now in
    let synced = g.D.Disk.state c.sync.new.self in
    still_leaves c.args.set.now s synced shut
    (sync_leaves c.sync.result s synced (λ d left. g.met.D.Disk.only_now c.args.disk.now d
    (c.sync.ensures.same.was_honest h) left) (c.sync.ensures.syncs h) (c.sync.ensures.fails h))

pub returns-in_err-sync-clause-near : goal.returns-in_err-sync-clause-near
returns-in_err-sync-clause-near g c h =
    let s = g.D.Disk.state c.args.disk.now in
    let synced = g.D.Disk.state c.sync.new.self in
    let Written : ℕ → Type 0 = λ n. IsGateOrLog s.size n ⊎ IsPutIn c.args.set.now n in
    leaves_weaker s synced (MayLeave s) (Near Written s)
    (sync_leaves c.sync.result s synced (λ d left. g.met.D.Disk.only_now c.args.disk.now d
    (c.sync.ensures.same.was_honest h) left) (c.sync.ensures.syncs h) (c.sync.ensures.fails h))
    (near_self Written s)

pub returns-then-is_empty-clause-unwritten : goal.returns-then-is_empty-clause-unwritten
returns-then-is_empty-clause-unwritten g c h none =
    sync_leaves c.sync.result (g.D.Disk.state c.args.disk.now) (g.D.Disk.state c.sync.new.self)
    (λ d left. g.met.D.Disk.only_now c.args.disk.now d (c.sync.ensures.same.was_honest h) left)
    (c.sync.ensures.syncs h) (c.sync.ensures.fails h)

pub returns-then-is_empty-clause-nothing : goal.returns-then-is_empty-clause-nothing
returns-then-is_empty-clause-nothing g c h none = syncs_still (g.D.Disk.state c.args.disk.now)
    (g.D.Disk.state c.sync.new.self) (c.in_ok-sync.ensures.syncs h)

pub returns-then-is_empty-clause-crash : goal.returns-then-is_empty-clause-crash
returns-then-is_empty-clause-crash g c h shut =
    let s = g.D.Disk.state c.args.disk.now in
    let synced = g.D.Disk.state c.sync.new.self in
    still_leaves c.args.set.now s synced shut
    (sync_leaves c.sync.result s synced (λ d left. g.met.D.Disk.only_now c.args.disk.now d
    (c.sync.ensures.same.was_honest h) left) (c.sync.ensures.syncs h) (c.sync.ensures.fails h))

pub returns-then-is_empty-clause-modified : goal.returns-then-is_empty-clause-modified
returns-then-is_empty-clause-modified g c h =
    let s = g.D.Disk.state c.args.disk.now in
    let synced = g.D.Disk.state c.sync.new.self in
    still_modifies (λ n. IsGateOrLog s.size n ⊎ IsPutIn c.args.set.now n) s synced
    (syncs_still s synced (c.in_ok-sync.ensures.syncs h))

pub returns-then-is_empty-clause-near : goal.returns-then-is_empty-clause-near
returns-then-is_empty-clause-near g c h =
    let s = g.D.Disk.state c.args.disk.now in
    let synced = g.D.Disk.state c.sync.new.self in
    let Written : ℕ → Type 0 = λ n. IsGateOrLog s.size n ⊎ IsPutIn c.args.set.now n in
    leaves_weaker s synced (MayLeave s) (Near Written s)
    (sync_leaves c.sync.result s synced (λ d left. g.met.D.Disk.only_now c.args.disk.now d
    (c.sync.ensures.same.was_honest h) left) (c.sync.ensures.syncs h) (c.sync.ensures.fails h))
    (near_self Written s)

-- Too many puts.

pub returns-then-puts-log_images-clause-crash : goal.returns-then-puts-log_images-clause-crash
returns-then-puts-log_images-clause-crash g c h shut =
    let s = g.D.Disk.state c.args.disk.now in
    still_leaves c.args.set.now s s shut
    (leaves_start s (MayLeave s) (λ d left. g.met.D.Disk.only_now c.args.disk.now d h left) (λ d left. left))

pub returns-then-puts-log_images-clause-near : goal.returns-then-puts-log_images-clause-near
returns-then-puts-log_images-clause-near g c h =
    let s = g.D.Disk.state c.args.disk.now in
    let Written : ℕ → Type 0 = λ n. IsGateOrLog s.size n ⊎ IsPutIn c.args.set.now n in
    leaves_start s (Near Written s) (λ d left. g.met.D.Disk.only_now c.args.disk.now d h left) (near_self Written s)

-- Some puts.

pub returns-in_err-commit_some-clause-near : goal.returns-in_err-commit_some-clause-near
returns-in_err-commit_some-clause-near g c h =
    let s = g.D.Disk.state c.args.disk.now in
    subst (λ (puts : List Put). LeavesOnly s (g.D.Disk.state c.commit_some.new.disk)
    (Near (λ n. IsGateOrLog s.size n ⊎ IsPutIn puts n) s)) c.puts-puts.ensures.puts (c.commit_some.ensures.near h)

pub returns-clause-near : goal.returns-clause-near
returns-clause-near g c h =
    let s = g.D.Disk.state c.args.disk.now in
    subst (λ (puts : List Put). LeavesOnly s (g.D.Disk.state c.commit_some.new.disk)
    (Near (λ n. IsGateOrLog s.size n ⊎ IsPutIn puts n) s)) c.puts-puts.ensures.puts (c.commit_some.ensures.near h)

pub returns-clause-modified : goal.returns-clause-modified
returns-clause-modified g c h =
    let s = g.D.Disk.state c.args.disk.now in
    subst (λ (puts : List Put). Modifies (λ n. IsGateOrLog s.size n ⊎ IsPutIn puts n) s
    (g.D.Disk.state c.commit_some.new.disk)) c.puts-puts.ensures.puts (c.in_ok-commit_some.ensures.modified h)
