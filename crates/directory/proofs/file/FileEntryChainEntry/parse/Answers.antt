use Rattle.std.proofs.Common.{rules, refl}
use Rattle.directory.proofs.OutsideEntries.{file_outside}
use Rattle.directory.proofs.file.FileEntryChainEntry.parse.Goals as goal

pub returns-in_default-clause-outside : goal.returns-in_default-clause-outside
returns-in_default-clause-outside c e =
    file_outside c.args.words c.index-words-0.result c.index-words-1.result c.index-words-2.result
    (search rules) c.bits.result _ _ c.bits.ensures.value refl refl
    (search rules) c.bits.ensures.fits (search rules) (search rules) c.in_default.ensures.none
