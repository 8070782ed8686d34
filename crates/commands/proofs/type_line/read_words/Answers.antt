use Rattle.commands.proofs.ExportLaws.{words_out, words_refused}
use Rattle.commands.proofs.type_line.read_words.Goals as goal

pub returns-in-Ok : goal.returns-in-Ok
returns-in-Ok g c =
    words_out g.S.FileService.machine (λ v. v.items) _ _ _ c.args.moment c.args.spec c.type_file-read.result
    c.new-typed.result c.type_file-read.new.typed c.type_file-read.ensures c.reset.ensures c.in-Ok.field-0
    c.into_words.result c.in-Ok.is c.new-typed.ensures c.into_words.ensures

pub returns-in-Err : goal.returns-in-Err
returns-in-Err g c =
    words_refused g.S.FileService.machine (λ v. v.items) _ _ _ c.args.moment c.args.spec c.type_file-read.result
    c.new-typed.result c.type_file-read.new.typed c.type_file-read.ensures c.reset.ensures c.in-Err.reply c.in-Err.is
