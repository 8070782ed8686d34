use Rattle.std.proofs.Common.{arith}
use Rattle.commands.proofs.FieldLaws.{is_split, is_first, begins}
use Rattle.commands.proofs.fields.first_field.Goals.{else-is_empty-2-via-then-is_empty-2+else-not-is_empty}
use Rattle.commands.proofs.fields.first_field.Goals.{else-is_empty-2-via-else-is_empty-2}
use Rattle.commands.proofs.fields.first_field.Goals as goal

pub returns-then-is_empty-clause-none : goal.returns-then-is_empty-clause-none
returns-then-is_empty-clause-none c = λ one more a.
    let s = is_split c.args.text.now _ _ _ _ c.word_length.result c.gap_length.result c.split_at.ensures.front
    c.split_at.ensures.back c.split_at-2.ensures.front c.split_at-2.ensures.back
    c.word_length.ensures.visible c.word_length.ensures.space c.gap_length.ensures.spaces
    c.gap_length.ensures.visible in
    let some = (is_first c.args.text.now _ _ _ _ one more s a).some in
    grind arith

pub returns-then-not-is_empty-clause-none : goal.returns-then-not-is_empty-clause-none
returns-then-not-is_empty-clause-none c = λ one more a.
    let s = is_split c.args.text.now _ _ _ _ c.word_length.result c.gap_length.result c.split_at.ensures.front
    c.split_at.ensures.back c.split_at-2.ensures.front c.split_at-2.ensures.back
    c.word_length.ensures.visible c.word_length.ensures.space c.gap_length.ensures.spaces
    c.gap_length.ensures.visible in
    let ended = (is_first c.args.text.now _ _ _ _ one more s a).ended in
    grind arith

pub returns-clause-some : goal.returns-clause-some
returns-clause-some c =
    let s = is_split c.args.text.now _ _ _ _ c.word_length.result c.gap_length.result c.split_at.ensures.front
    c.split_at.ensures.back c.split_at-2.ensures.front c.split_at-2.ensures.back
    c.word_length.ensures.visible c.word_length.ensures.space c.gap_length.ensures.spaces
    c.gap_length.ensures.visible in
    begins c.args.text.now _ _ _ _ s (grind arith) (elim c.else-is_empty-2.branch [
      | else-is_empty-2-via-then-is_empty-2+else-not-is_empty w ↦ λ h. grind arith
      | else-is_empty-2-via-else-is_empty-2 w ↦ λ h. grind arith
    ])
