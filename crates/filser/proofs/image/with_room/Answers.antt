use Rattle.filser.proofs.image.with_room.Goals as goal

pub returns-clause-began : goal.returns-clause-began
returns-clause-began c form u began =
    rw c.with_room.ensures.file (rw c.with_room.ensures.form (rw c.with_room.ensures.blocks began))
