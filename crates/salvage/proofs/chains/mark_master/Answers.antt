use Rattle.std.proofs.Common.{◌∙◌, length, ap, Bool, false}
use Rattle.std.proofs.lemmas.List.{length-replicate}
use Rattle.spec_image.specs.Common.{IsMasterEntryOf, master_words}
use Rattle.salvage.proofs.WalkedChains.{fresh_walked}
use Rattle.salvage.proofs.chains.mark_master.Goals as goal

pub mark_chain-requires-clause-long : goal.mark_chain-requires-clause-long
mark_chain-requires-clause-long g c =
    ap length c.requires.fresh ∙ length-replicate {A = Bool} (g.D.Disk.state c.args.disk.now).size false

pub returns-clause-marked : goal.returns-clause-marked
returns-clause-marked g c h =
    let s = g.D.Disk.state c.args.disk.now in
    let ensures = c.in_ok-_met.ensures in
    fresh_walked master_words (IsMasterEntryOf 2) s.size s.contents c.args.marks.now c.mark_chain.new.marks s.size
    c.args.first c.requires.fresh (ensures.begins h) (ensures.only h) (ensures.closed h)
