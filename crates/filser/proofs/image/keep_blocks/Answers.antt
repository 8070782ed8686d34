use Rattle.filser.proofs.image.keep_blocks.Goals as goal

pub returns-in-Ok-clause-began : goal.returns-in-Ok-clause-began
returns-in-Ok-clause-began c form u p = rw c.in-Ok.ensures.inner p
