use Rattle.std.proofs.Common.{◌≡◌, Bool, Result, Ok, true, false, sym, ap, subst, ◌∙◌}
use Rattle.std.proofs.lemmas.Result.{err_from_is_err_and}
use Rattle.changeset.specs.Common.{ArePending}
use Rattle.changeset.specs.declared.error.LogError.TheVariants.{BadLog}
use Rattle.changeset.proofs.LogRead.{passed_on}
use Rattle.changeset.proofs.RecoveryCrashes.{reading_leaves, redone_leaves, redone_recovered, closed_recovered}
use Rattle.changeset.proofs.recovery.recover_synced.Goals as goal

-- what was found
found_is : {E : Type 0} (r : Result Bool E) (found known : Bool) → r ≡ Ok found → found ≡ known → r ≡ Ok known
found_is r found known is same = is ∙ ap (λ (b : Bool). Ok b) same

pub returns-in_err-find_pending-clause-crash : goal.returns-in_err-find_pending-clause-crash
returns-in_err-find_pending-clause-crash g c h none =
    reading_leaves (g.D.Disk.state c.args.disk.now) (g.D.Disk.state c.find_pending.new.disk)
    (λ d left. g.met.D.Disk.only_now c.args.disk.now d (c.find_pending.ensures.same.was_honest h) left) none
    (c.find_pending.ensures.reads h)

pub returns-in_err-find_pending-clause-bad : goal.returns-in_err-find_pending-clause-bad
returns-in_err-find_pending-clause-bad g c h bad =
    let p = err_from_is_err_and c.from_residual.result c.from_residual.ensures.1 in
    c.find_pending.ensures.bad h (passed_on c.from_residual.result c.find_pending.result p.0
    c.in_err-find_pending.field-0.0 BadLog bad p.1 p.2 c.in_err-find_pending.was)

pub returns-else-branch-clause-crash : goal.returns-else-branch-clause-crash
returns-else-branch-clause-crash g c h none =
    reading_leaves (g.D.Disk.state c.args.disk.now) (g.D.Disk.state c.find_pending.new.disk)
    (λ d left. g.met.D.Disk.only_now c.args.disk.now d (c.find_pending.ensures.same.was_honest h) left) none
    (c.find_pending.ensures.reads h)

pub returns-else-branch-clause-recovered : goal.returns-else-branch-clause-recovered
returns-else-branch-clause-recovered g c h =
    closed_recovered (g.D.Disk.state c.args.disk.now) (g.D.Disk.state c.find_pending.new.disk)
    (c.find_pending.ensures.reads h) (c.find_pending.ensures.closed h
    (found_is c.find_pending.result c.in_ok-find_pending.field-0 false c.in_ok-find_pending.was c.if-branch.false))

pub returns-in_err-redo-clause-crash : goal.returns-in_err-redo-clause-crash
returns-in_err-redo-clause-crash g c h none =
    let s = g.D.Disk.state c.args.disk.now in
    redone_leaves s (g.D.Disk.state c.find_pending.new.disk) (g.D.Disk.state c.redo.new.disk)
    (c.find_pending.ensures.reads (c.redo.ensures.same.was_honest h)) c.as_slice.result.now
    (subst (ArePending s.size s.contents) (sym c.as_slice.ensures.value)
    (c.find_pending.ensures.pending (c.redo.ensures.same.was_honest h)
    (found_is c.find_pending.result c.in_ok-find_pending.field-0 true c.in_ok-find_pending.was c.if-branch.true)))
    (λ d left. g.met.D.Disk.only_now c.args.disk.now d
    (c.find_pending.ensures.same.was_honest (c.redo.ensures.same.was_honest h)) left) none (c.redo.ensures.crash h)

pub returns-in_ok-redo-clause-crash : goal.returns-in_ok-redo-clause-crash
returns-in_ok-redo-clause-crash g c h none =
    let s = g.D.Disk.state c.args.disk.now in
    redone_leaves s (g.D.Disk.state c.find_pending.new.disk) (g.D.Disk.state c.redo.new.disk)
    (c.find_pending.ensures.reads (c.redo.ensures.same.was_honest h)) c.as_slice.result.now
    (subst (ArePending s.size s.contents) (sym c.as_slice.ensures.value)
    (c.find_pending.ensures.pending (c.redo.ensures.same.was_honest h)
    (found_is c.find_pending.result c.in_ok-find_pending.field-0 true c.in_ok-find_pending.was c.if-branch.true)))
    (λ d left. g.met.D.Disk.only_now c.args.disk.now d
    (c.find_pending.ensures.same.was_honest (c.redo.ensures.same.was_honest h)) left) none (c.redo.ensures.crash h)

pub returns-in_ok-redo-clause-recovered : goal.returns-in_ok-redo-clause-recovered
returns-in_ok-redo-clause-recovered g c h =
    let s = g.D.Disk.state c.args.disk.now in
    let before = c.in_ok-redo.ensures.same.was_honest h in
    redone_recovered s (g.D.Disk.state c.find_pending.new.disk) (g.D.Disk.state c.redo.new.disk)
    (c.find_pending.ensures.reads before) c.as_slice.result.now
    (subst (ArePending s.size s.contents) (sym c.as_slice.ensures.value) (c.find_pending.ensures.pending before
    (found_is c.find_pending.result c.in_ok-find_pending.field-0 true c.in_ok-find_pending.was c.if-branch.true)))
    (c.in_ok-redo.ensures.all h) (c.in_ok-redo.ensures.gate h)
