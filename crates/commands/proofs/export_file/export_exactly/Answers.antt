use Rattle.commands.specs.Common.{encodings_for}
use Rattle.commands.proofs.ExportLaws.{last_exact}
use Rattle.commands.proofs.WordBytes.{none_of, words_exact}
use Rattle.commands.proofs.export_file.export_exactly.Goals as goal

pub returns : goal.returns
returns c =
    last_exact c.args.words.now (encodings_for c.args.mode) c.encodings_for-first.result.0
    c.encodings_for-first.result.1 c.encodings_for-first.ensures c.in_ok-bytes_of.field-0.items
    (none_of c.in_ok-bytes.field-0 c.in_default.not-Some c.in_ok-bytes.ensures.none)
    (none_of c.in_ok-bytes-2.field-0 c.in_default-2.not-Some c.in_ok-bytes-2.ensures.none)
    (words_exact c.args.words.now c.in_ok-bytes_of.field-0.items c.requires c.in_ok-bytes_of.ensures)
