use Rattle.commands.proofs.TypeLaws.{typed_out, typed_refused}
use Rattle.commands.proofs.type_line.read_out.Goals as goal

pub returns-in-Ok : goal.returns-in-Ok
returns-in-Ok g c =
    typed_out g.S.FileService.machine (λ bytes. bytes.items) c.file_text.result _ _ _ c.args.moment c.args.encoding
    c.args.spec c.args.tally.now c.file_text.new.tally c.type_file-read.result c.new-typed.result
    c.type_file-read.new.typed c.type_file-read.ensures c.reset.ensures
    c.in-Ok.field-0 c.in-Ok.is c.new-typed.ensures c.file_text.ensures

pub returns-in-Err : goal.returns-in-Err
returns-in-Err g c =
    typed_refused g.S.FileService.machine (λ bytes. bytes.items) c.refuse.result _ _ _ c.args.moment c.args.encoding
    c.args.spec c.args.tally.now c.refuse.new.tally c.type_file-read.result c.new-typed.result
    c.type_file-read.new.typed c.type_file-read.ensures c.reset.ensures
    c.in-Err.reply c.refusal.result.now c.is_broken.result c.in-Err.is c.refusal.ensures c.is_broken.ensures
    c.refuse.ensures.refused c.refuse.ensures.broke c.refuse.ensures.reason c.refuse.ensures.text
