use Rattle.std.proofs.Common.{◌⊎◌, inl, inr, ℕ}
use Rattle.std.proofs.lemmas.Result.{on_ok_weaker}
use Rattle.blockdisk.specs.Common.{Modifies, modifies_on, modifies_wider, near_then, leaves_wider}
use Rattle.changeset.specs.Common.{IsGate, IsPutIn}
use Rattle.changeset.proofs.Moments.{placing_leaves, redo_leaves}
use Rattle.changeset.proofs.order.redo.Goals as goal

pub returns-in_err-write_places-clause-crash : goal.returns-in_err-write_places-clause-crash
returns-in_err-write_places-clause-crash g c h none size pending =
    placing_leaves size c.args.puts.now (g.D.Disk.state c.args.disk.now)
    (g.D.Disk.state c.write_places.new.disk) none pending (c.write_places.ensures.near h)

pub returns-clause-crash : goal.returns-clause-crash
returns-clause-crash g c h none size pending =
    let honest = c.close_gate.ensures.same.was_honest h in
    redo_leaves size c.args.puts.now (g.D.Disk.state c.args.disk.now)
    (g.D.Disk.state c.write_places.new.disk) none pending (c.write_places.ensures.near honest)
    (g.D.Disk.state c.close_gate.new.disk) (c.in_ok-write_places.ensures.settled honest)
    (c.in_ok-write_places.ensures.placed honest) (c.close_gate.ensures.near h)

pub returns-in_err-write_places-clause-near : goal.returns-in_err-write_places-clause-near
returns-in_err-write_places-clause-near g c h =
    leaves_wider (IsPutIn c.args.puts.now) (λ n. IsGate n ⊎ IsPutIn c.args.puts.now n) (g.D.Disk.state c.args.disk.now)
    (g.D.Disk.state c.write_places.new.disk)
    (λ n there. inr there) (c.write_places.ensures.near h)

pub returns-clause-near : goal.returns-clause-near
returns-clause-near g c h =
    let Written : ℕ → Type 0 = λ n. IsGate n ⊎ IsPutIn c.args.puts.now n in
    let s = g.D.Disk.state c.args.disk.now in
    let placed = g.D.Disk.state c.write_places.new.disk in
    let end = g.D.Disk.state c.close_gate.new.disk in
    let honest = c.close_gate.ensures.same.was_honest h in
    near_then Written s placed end
    (λ d left. g.met.D.Disk.only_now c.args.disk.now d (c.write_places.ensures.same.was_honest honest) left)
    (modifies_wider (IsPutIn c.args.puts.now) Written s placed (λ n there. inr there)
    (c.in_ok-write_places.ensures.modified honest))
    (leaves_wider IsGate Written placed end (λ n here. inl here) (c.close_gate.ensures.near h))

pub returns-clause-modified : goal.returns-clause-modified
returns-clause-modified g c h =
    let Written : ℕ → Type 0 = λ n. IsGate n ⊎ IsPutIn c.args.puts.now n in
    let s = g.D.Disk.state c.args.disk.now in
    let placed = g.D.Disk.state c.write_places.new.disk in
    let end = g.D.Disk.state c.close_gate.new.disk in
    on_ok_weaker c.close_gate.result (λ (closes : Modifies IsGate placed end). modifies_on Written s placed end
    (modifies_wider (IsPutIn c.args.puts.now) Written s placed (λ n there. inr there)
    (c.in_ok-write_places.ensures.modified (c.close_gate.ensures.same.was_honest h)))
    (modifies_wider IsGate Written placed end (λ n here. inl here) closes)) (c.close_gate.ensures.modified h)
