use Rattle.spec_image.specs.Common.{place_of, without_serials}
use Rattle.monitor.proofs.RenameFile.Arrivals.{arrival_answered}
use Rattle.monitor.proofs.rename.may_come.Goals as goal

pub returns-clause-answered : goal.returns-clause-answered
returns-clause-answered g c honest alive s known job who =
    arrival_answered (g.D.Disk.state c.args.volume.now.disk) c.args.volume.now.map s known job c.args.who
    (place_of c.args.input.now.ppn c.args.input.now.file) (place_of c.args.ppn c.args.name.now) c.find-found.result
    c.ne.result c.is_place_of-same.result c.is_claimed-claimed.result c.allow_arrival.result who
    (c.find-found.ensures honest alive (without_serials s.files) known.files) c.ne.ensures c.is_place_of-same.ensures
    c.is_claimed-claimed.ensures c.allow_arrival.ensures
