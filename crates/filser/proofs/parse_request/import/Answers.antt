use Rattle.std.proofs.Common.{◌∙◌, Some, ap, codes, map, refl, sym}
use Rattle.clap.specs.Words.{found_of, rows_of}
use Rattle.filser.proofs.MatchedWords.{no_files, no_import}
use Rattle.filser.proofs.parse_request.import.Goals as goal

pub returns-in-None : goal.returns-in-None
returns-in-None c =
    no_import (codes "import") (rows_of (found_of c.args.matches.now)) refl
    (no_files (rows_of (found_of c.args.matches.now)) c.in-None.ensures)

pub import_of-requires : goal.import_of-requires
import_of-requires c =
    c.in-Some.ensures
    ∙ ap (λ xs. Some (map (λ p. p.now) xs))
    (sym (c.in_ok-to_vec-in-Some.ensures.items_if_clones_equal (λ x y e. e)))
