use Rattle.commands.proofs.WordBytes.{words_exact}
use Rattle.commands.proofs.export_file.exact_bytes.Goals as goal

pub returns-in_ok-bytes_of-in-Words-clause-some : goal.returns-in_ok-bytes_of-in-Words-clause-some
returns-in_ok-bytes_of-in-Words-clause-some c = rw c.in-Words.is (words_exact c.args.words.now
    c.in_ok-bytes_of-in-Words.field-0.items c.requires c.in_ok-bytes_of-in-Words.ensures)
