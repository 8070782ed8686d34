use Rattle.std.proofs.Common.{inl, inr, Err, ap, ◌∙◌}
use Rattle.salvage.proofs.Refusals.{twice_named, inside_named}
use Rattle.salvage.proofs.tree.load_chain.Goals as goal

pub returns-clause-twice : goal.returns-clause-twice
returns-clause-twice g c h =
    let s = g.D.Disk.state c.args.disk.now in
    twice_named g.E.ChainEntry.words_of s.contents c.in_ok-reached.reached c.blocks-2.result c.args.first c.in-Err.error
    c.from.result c.from.ensures c.in_ok-reached.ensures (λ n is. c.load.ensures.twice h n (c.in-Err.is ∙ ap Err is))

pub returns-clause-named : goal.returns-clause-named
returns-clause-named g c =
    inside_named (g.D.Disk.state c.args.disk.now).size c.in-Err.error c.from.result c.from.ensures
    (λ n is. c.load.ensures.named n (inl (c.in-Err.is ∙ ap Err is)))
    (λ n is. c.load.ensures.named n (inr (c.in-Err.is ∙ ap Err is)))
