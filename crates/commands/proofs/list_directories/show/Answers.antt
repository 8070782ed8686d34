use Rattle.commands.proofs.AnswerLaws.{shown_list, shown_refused}
use Rattle.commands.proofs.list_directories.show.Goals as goal

pub returns-in-Ok : goal.returns-in-Ok
returns-in-Ok g c = shown_list g.S.FileService.machine g.met.S.FileService.stands
    (λ bytes. bytes.items) c.list_text.result c.args.tally.now _ _ c.args.style c.args.owner c.in-Ok.entries.items
    c.deref.result.now c.in-Ok.ensures c.deref.ensures.value c.list_text.ensures

pub returns-in-Err : goal.returns-in-Err
returns-in-Err g c = shown_refused g.S.FileService.machine g.met.S.FileService.stands
    (λ bytes. bytes.items) c.refuse.result c.args.tally.now c.refuse.new.tally _ _ c.args.style c.args.owner
    c.in-Err.reply
    c.refusal.result.now c.is_broken.result c.in-Err.ensures c.refusal.ensures c.is_broken.ensures
    c.refuse.ensures.refused c.refuse.ensures.broke c.refuse.ensures.reason c.refuse.ensures.text
