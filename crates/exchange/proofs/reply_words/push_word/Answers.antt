use Rattle.std.proofs.Common.{ap, ◌∙◌, [], ◌∷◌, ◌++◌}
use Rattle.exchange.proofs.ReplyLaws.{told_one, told_read, untold_one}
use Rattle.exchange.proofs.reply_words.push_word.Goals as goal

pub returns-in-Value-clause-told : goal.returns-in-Value-clause-told
returns-in-Value-clause-told g c = told_read g.S.FileService.machine _ _ _ _ _ _
    (told_one g.S.FileService.machine g.met.S.FileService.stands _ _ c.args.job c.args.address c.in-Value.word
    c.event.result c.args.groups.now.items c.put.new.groups.items (rw c.into.ensures at c.event.ensures) c.in-Value.is
    (c.put.ensures.items ∙ ap (λ n. c.args.groups.now.items ++ n ∷ []) c.group_of.ensures))

pub returns-in_default-clause-untold : goal.returns-in_default-clause-untold
returns-in_default-clause-untold g c = untold_one g.S.FileService.machine g.met.S.FileService.stands _ _ c.args.job
    c.args.address c.event.result c.args.groups.now.items (rw c.into.ensures at c.event.ensures) c.in_default.not-Value
