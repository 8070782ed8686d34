use Rattle.std.proofs.Common.{inl, ◌∙◌}
use Rattle.collection.proofs.MovedParts.{taken_at}
use Rattle.collection.proofs.exports.export_one.Goals as goal

pub returns : goal.returns
returns g c = inl (
  c.if-task.false,
  taken_at _ _ _ _ _ _ _ _ _ _ _ (c.as_str-2.ensures.value ∙ c.in-Ok.ensures) c.take_out.ensures,
)
