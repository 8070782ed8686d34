use Rattle.std.proofs.Common.{ℕ, List, ◌+◌, length, slice_set, ap, ◌∙◌, arith}
use Rattle.changeset.proofs.PutLists.{header_more}
use Rattle.changeset.proofs.log.header_of.Goals as goal

pub loop-i-preserved : goal.loop-i-preserved
loop-i-preserved c =
    ap (λ (n : ℕ). slice_set c.loop-i.words (c.loop-i.i + 2) n) c.word_of-in-loop-i.ensures
    ∙ ap (λ (l : List ℕ). slice_set l (c.loop-i.i + 2) c.index-puts-i.result.block) c.loop-i.invariant
    ∙ header_more c.args.puts.now c.loop-i.i c.index-puts-i.result c.loop-i-test.true c.index-puts-i.is
    (length c.args.puts.now) (omega (arith, c.requires))
