use Rattle.std.proofs.Common.{subst}
use Rattle.spec_image.specs.Common.{without_serials}
use Rattle.volume.specs.Common.{IsSoundMemory}
use Rattle.monitor.proofs.RenameFile.ChangeAnswers.{found_answered}
use Rattle.monitor.proofs.rename.may_change.Goals as goal

pub returns-clause-answered : goal.returns-clause-answered
returns-clause-answered g c h alive s known job e same asks =
    let d = g.D.Disk.state c.args.volume.now.disk in
    let map = c.args.volume.now.map in
    let input = c.args.input.now in
    found_answered d map s known (subst (IsSoundMemory d map) alive c.requires.sound) h job e input.ppn input.file
    c.args.who
    c.bits-is_zero.result c.args.protection c.find-found.result c.is_claimed-claimed.result c.allow_change.result
    c.allow_change.ensures (c.find-found.ensures h alive (without_serials s.files) known.files) same
    c.bits-is_zero.ensures.value asks c.is_claimed-claimed.ensures
