use Rattle.std.proofs.Common.{inl, inr, ◌∙◌}
use Rattle.collection.proofs.MovedParts.{made_at, no_folder}
use Rattle.collection.proofs.save_files.save_wanted.Goals as goal

pub returns-in-Err : goal.returns-in-Err
returns-in-Err g c = inr (inl (
  c.if-task.false,
  no_folder _ _ _ _ _ _ _ _ (c.as_str-folder.ensures.value ∙ c.in-Ok.ensures) c.in-Err.ensures c.turn_down.ensures,
))
