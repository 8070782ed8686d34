use Rattle.std.proofs.Common.{ℕ, sym, subst, eqb-true}
use Rattle.volume.specs.Common.{ChangesFiles, files_moved}
use Rattle.volume.proofs.RenameAcross.Refusals.{within_exists}
use Rattle.volume.proofs.volume.Volume.rename.Goals as goal

pub returns-then-eq-clause-exists : goal.returns-then-eq-clause-exists
returns-then-eq-clause-exists g c alive =
    within_exists c.args.self.now.map c.args.ppn c.args.name.now c.args.to_ppn c.args.to.now
    (eqb-true c.args.to_ppn c.args.ppn (sym c.if-eq.ensures)) c.rename_within.result
    (c.rename_within.ensures.exists alive)

pub returns-then-eq-clause-files : goal.returns-then-eq-clause-files
returns-then-eq-clause-files g c =
    let same = eqb-true c.args.to_ppn c.args.ppn (sym c.if-eq.ensures) in
    subst (λ (q : ℕ). ChangesFiles (g.D.Disk.state c.args.self.now.disk) (g.D.Disk.state c.rename_within.new.self.disk)
    c.args.self.now.map (λ f. files_moved f c.args.ppn c.args.name.now q c.args.to.now c.args.protection)
    c.rename_within.result) (sym same) c.rename_within.ensures.files
