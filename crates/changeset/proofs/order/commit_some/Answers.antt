use Rattle.std.proofs.Common.{◌⊎◌, inl, inr, ⊎_elim, ℕ, ◌∙◌, arith}
use Rattle.std.proofs.lemmas.Result.{on_ok_weaker}
use Rattle.blockdisk.specs.Common.{SameOutside, Modifies, modifies_on, modifies_wider, near_then, leaves_wider}
use Rattle.spec_image.specs.Common.{with_puts}
use Rattle.changeset.specs.Common.{IsGate, IsInLog, IsGateOrLog, IsPutIn}
use Rattle.changeset.proofs.Moments.{opened_pending, logging_leaves, opening_leaves, opening_modifies, commit_leaves}
use Rattle.changeset.proofs.Moments.{all_outside}
use Rattle.changeset.proofs.order.commit_some.Goals as goal

pub returns-in_err-write_log-clause-crash : goal.returns-in_err-write_log-clause-crash
returns-in_err-write_log-clause-crash g c h shut =
    logging_leaves c.args.puts.now (g.D.Disk.state c.args.disk.now) (g.D.Disk.state c.write_log.new.disk)
    c.requires.volume shut (c.write_log.ensures.near h)

pub returns-in_err-open_gate-clause-crash : goal.returns-in_err-open_gate-clause-crash
returns-in_err-open_gate-clause-crash g c h shut =
    let honest = c.open_gate.ensures.same.was_honest h in
    opening_leaves c.args.puts.now (g.D.Disk.state c.args.disk.now) (g.D.Disk.state c.write_log.new.disk)
    c.requires.volume shut (c.write_log.ensures.near honest)
    (c.in_ok-write_log.ensures.modified honest) (c.in_ok-write_log.ensures.settled honest)
    (c.in_ok-write_log.ensures.logged honest) (g.D.Disk.state c.open_gate.new.disk) (c.open_gate.ensures.near h)

pub returns-clause-crash : goal.returns-clause-crash
returns-clause-crash g c h shut =
    let s = g.D.Disk.state c.args.disk.now in
    let logged = g.D.Disk.state c.write_log.new.disk in
    let opened = g.D.Disk.state c.open_gate.new.disk in
    let honest = c.redo.ensures.same.was_honest h in
    let was = c.open_gate.ensures.same.was_honest honest in
    let opens = c.in_ok-open_gate.ensures.modified honest in
    let log = c.in_ok-write_log.ensures.logged was in
    let redone = c.redo.ensures.crash h (c.in_ok-open_gate.ensures.settled honest) s.size
    (opened_pending s.size c.args.puts.now logged.contents c.requires.volume log opened.contents opens.contents
    (c.in_ok-open_gate.ensures.gate honest)) in
    commit_leaves c.args.puts.now s logged c.requires.volume shut (c.write_log.ensures.near was)
    (c.in_ok-write_log.ensures.modified was)
    (c.in_ok-write_log.ensures.settled was) log opened (c.open_gate.ensures.near honest) opens
    (g.D.Disk.state c.redo.new.disk) redone

pub returns-clause-all : goal.returns-clause-all
returns-clause-all g c h =
    let s = g.D.Disk.state c.args.disk.now in
    let opened = g.D.Disk.state c.open_gate.new.disk in
    let end = g.D.Disk.state c.redo.new.disk in
    let honest = c.redo.ensures.same.was_honest h in
    on_ok_weaker c.redo.result
    (λ (all : SameOutside IsGate (with_puts c.args.puts.now opened.contents) end.contents) n out.
    all n (λ here. out (omega arith, omega arith))
    ∙ all_outside c.args.puts.now s (g.D.Disk.state c.write_log.new.disk) opened
    (c.in_ok-write_log.ensures.modified (c.open_gate.ensures.same.was_honest honest))
    (c.in_ok-open_gate.ensures.modified honest) n out)
    (c.redo.ensures.all h)

pub returns-in_err-write_log-clause-near : goal.returns-in_err-write_log-clause-near
returns-in_err-write_log-clause-near g c h =
    let s = g.D.Disk.state c.args.disk.now in
    leaves_wider (IsInLog s.size) (λ n. IsGateOrLog s.size n ⊎ IsPutIn c.args.puts.now n) s
    (g.D.Disk.state c.write_log.new.disk)
    (λ n behind. inl (omega (arith, behind.0), behind.1)) (c.write_log.ensures.near h)

pub returns-in_err-open_gate-clause-near : goal.returns-in_err-open_gate-clause-near
returns-in_err-open_gate-clause-near g c h =
    let s = g.D.Disk.state c.args.disk.now in
    let logged = g.D.Disk.state c.write_log.new.disk in
    let opened = g.D.Disk.state c.open_gate.new.disk in
    let honest = c.open_gate.ensures.same.was_honest h in
    let Written : ℕ → Type 0 = λ n. IsGateOrLog s.size n ⊎ IsPutIn c.args.puts.now n in
    near_then Written s logged opened
    (λ d left. g.met.D.Disk.only_now c.args.disk.now d (c.write_log.ensures.same.was_honest honest) left)
    (modifies_wider (IsInLog s.size) Written s logged (λ n behind. inl (omega (arith, behind.0), behind.1))
    (c.in_ok-write_log.ensures.modified honest))
    (leaves_wider IsGate Written logged opened (λ n here. inl (omega arith, omega arith)) (c.open_gate.ensures.near h))

pub returns-clause-near : goal.returns-clause-near
returns-clause-near g c h =
    let s = g.D.Disk.state c.args.disk.now in
    let opened = g.D.Disk.state c.open_gate.new.disk in
    let end = g.D.Disk.state c.redo.new.disk in
    let honest = c.redo.ensures.same.was_honest h in
    let was = c.open_gate.ensures.same.was_honest honest in
    let Written : ℕ → Type 0 = λ n. IsGateOrLog s.size n ⊎ IsPutIn c.args.puts.now n in
    near_then Written s opened end
    (λ d left. g.met.D.Disk.only_now c.args.disk.now d (c.write_log.ensures.same.was_honest was) left)
    (opening_modifies c.args.puts.now s (g.D.Disk.state c.write_log.new.disk) opened
    (c.in_ok-write_log.ensures.modified was) (c.in_ok-open_gate.ensures.modified honest))
    (leaves_wider (λ n. IsGate n ⊎ IsPutIn c.args.puts.now n) Written opened end
    (λ n. ⊎_elim (λ here. inl (omega arith, omega arith)) (λ there. inr there)) (c.redo.ensures.near h))

pub returns-clause-modified : goal.returns-clause-modified
returns-clause-modified g c h =
    let s = g.D.Disk.state c.args.disk.now in
    let opened = g.D.Disk.state c.open_gate.new.disk in
    let end = g.D.Disk.state c.redo.new.disk in
    let honest = c.redo.ensures.same.was_honest h in
    let Written : ℕ → Type 0 = λ n. IsGateOrLog s.size n ⊎ IsPutIn c.args.puts.now n in
    on_ok_weaker c.redo.result (λ (redoes : Modifies (λ n. IsGate n ⊎ IsPutIn c.args.puts.now n) opened end).
    modifies_on Written s opened end
    (opening_modifies c.args.puts.now s (g.D.Disk.state c.write_log.new.disk) opened
    (c.in_ok-write_log.ensures.modified (c.open_gate.ensures.same.was_honest honest))
    (c.in_ok-open_gate.ensures.modified honest))
    (modifies_wider (λ n. IsGate n ⊎ IsPutIn c.args.puts.now n) Written opened end
    (λ n. ⊎_elim (λ here. inl (omega arith, omega arith)) (λ there. inr there)) redoes))
    (c.redo.ensures.modified h)
