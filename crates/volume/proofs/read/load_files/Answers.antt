use Rattle.std.proofs.Common.{inl, inr, Err, ap, ◌∙◌}
use Rattle.volume.specs.Common.{NamesInSpace, IsFaultOfDirectory}
use Rattle.alloctab.specs.Common.{digit_at}
use Rattle.volume.proofs.VolumeStart.FaultyDirectories.{chain_twice}
use Rattle.volume.proofs.common.PassedErrors.{by_chain}
use Rattle.volume.proofs.read.load_files.Goals as goal

pub returns-in-Err-clause-fault : goal.returns-in-Err-clause-fault
returns-in-Err-clause-fault g c h layout ppn =
    let s = g.D.Disk.state c.args.disk.now in
    by_chain (IsFaultOfDirectory s.size layout s.contents (digit_at c.args.reached.now) ppn c.args.first) c.in-Err.error
    c.from.result c.from.ensures
    (λ n is. c.load.ensures.bad h n (c.in-Err.is ∙ ap Err is))
    (λ n is. chain_twice s.size layout s.contents c.args.reached.now ppn c.args.first n
    (c.load.ensures.twice h n (c.in-Err.is ∙ ap Err is))) tt tt

pub returns-in-Err-clause-named : goal.returns-in-Err-clause-named
returns-in-Err-clause-named g c =
    let s = g.D.Disk.state c.args.disk.now in
    by_chain (NamesInSpace s.size) c.in-Err.error c.from.result c.from.ensures
    (λ n is. c.load.ensures.named n (inl (c.in-Err.is ∙ ap Err is)))
    (λ n is. c.load.ensures.named n (inr (c.in-Err.is ∙ ap Err is))) tt tt
