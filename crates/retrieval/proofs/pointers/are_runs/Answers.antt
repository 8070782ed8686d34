use Rattle.retrieval.proofs.PointerLists.{run_at}
use Rattle.retrieval.proofs.pointers.are_runs.Goals as goal

pub returns-then-not-is_pointer : goal.returns-then-not-is_pointer
returns-then-not-is_pointer c = (
  λ h. absurd (cc),
  λ all. let e = c.is_pointer.ensures.1
      (run_at c.args.words.now c.loop-word.word-index c.word-item.result c.loop-word-test.true c.word-item.is all) in
      cc,
)
