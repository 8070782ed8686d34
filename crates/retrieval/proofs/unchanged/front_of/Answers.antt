use Rattle.std.proofs.Common.{refl, rules}
use Rattle.retrieval.proofs.UnchangedWords.{front_zeros}
use Rattle.retrieval.proofs.unchanged.front_of.Goals as goal

pub returns-clause-zeros : goal.returns-clause-zeros
returns-clause-zeros c = front_zeros c.args.block.now c.copy_from_slice.new.self _ c.args.count c.min-count.result
    (search rules) (search rules) c.copy_from_slice.ensures.after refl
