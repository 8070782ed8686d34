use Rattle.salvage.proofs.MarkedCounts.{all_uses}
use Rattle.salvage.proofs.take.count_uses.Goals as goal

pub returns-clause-counted : goal.returns-clause-counted
returns-clause-counted c =
    all_uses c.args.size c.in_ok-counts.counts c.count_files.new.self c.count_marked.new.self
    c.count_marked-2.new.self c.count_marked-3.new.self c.args.named.now c.args.chains.now.master
    c.args.chains.now.directories c.args.free.now c.in_ok-counts.ensures.zeros c.count_files.ensures.counted
    c.count_marked.ensures.counted c.count_marked-2.ensures.counted c.count_marked-3.ensures.counted
