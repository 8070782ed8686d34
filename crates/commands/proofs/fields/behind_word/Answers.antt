use Rattle.std.proofs.Common.{arith}
use Rattle.commands.proofs.FieldLaws.{is_split}
use Rattle.commands.proofs.LimitLaws.{unlike, alike, is_behind, follows_first}
use Rattle.commands.proofs.fields.behind_word.Goals as goal

pub returns-then-ne-clause-none : goal.returns-then-ne-clause-none
returns-then-ne-clause-none c = λ rest b.
    let s = is_split c.args.text.now _ _ _ _ c.word_length.result c.gap_length.result c.split_at.ensures.front
    c.split_at.ensures.back c.split_at-2.ensures.front c.split_at-2.ensures.back
    c.word_length.ensures.visible c.word_length.ensures.space c.gap_length.ensures.spaces
    c.gap_length.ensures.visible in
    unlike _ c.args.word.now _ c.ne.ensures c.if-ne.true
    (follows_first c.args.text.now _ c.args.word.now _ _ _ rest s c.requires b).is

pub returns-then-is_empty-clause-none : goal.returns-then-is_empty-clause-none
returns-then-is_empty-clause-none c = λ rest b.
    let s = is_split c.args.text.now _ _ _ _ c.word_length.result c.gap_length.result c.split_at.ensures.front
    c.split_at.ensures.back c.split_at-2.ensures.front c.split_at-2.ensures.back
    c.word_length.ensures.visible c.word_length.ensures.space c.gap_length.ensures.spaces
    c.gap_length.ensures.visible in
    let some = (follows_first c.args.text.now _ c.args.word.now _ _ _ rest s c.requires b).some in
    grind arith

pub returns-clause-some : goal.returns-clause-some
returns-clause-some c =
    let s = is_split c.args.text.now _ _ _ _ c.word_length.result c.gap_length.result c.split_at.ensures.front
    c.split_at.ensures.back c.split_at-2.ensures.front c.split_at-2.ensures.back
    c.word_length.ensures.visible c.word_length.ensures.space c.gap_length.ensures.spaces
    c.gap_length.ensures.visible in
    is_behind c.args.text.now _ c.args.word.now _ _ _ s (alike _ c.args.word.now _ c.ne.ensures c.if-ne.false)
    (grind arith)
