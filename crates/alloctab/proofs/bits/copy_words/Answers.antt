use Rattle.std.proofs.Common.{arith, rules}
use Rattle.alloctab.proofs.BitPuts.{copies_words}
use Rattle.alloctab.proofs.bits.copy_words.Goals as goal

pub returns : goal.returns
returns c = copies_words c.args.words.now c.args.all.now c.copy_from_slice.new.self c.args.i _ _ (omega arith)
    (omega arith) c.requires.inside (search rules) c.copy_from_slice.ensures.after
