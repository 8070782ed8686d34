use Rattle.std.proofs.Common.{rules, refl, ◌∙◌}
use Rattle.directory.proofs.OutsideEntries.{master_outside}
use Rattle.directory.proofs.master.MasterEntryChainEntry.parse.Goals as goal

pub returns-in_default-block_number-clause-outside : goal.returns-in_default-block_number-clause-outside
returns-in_default-block_number-clause-outside c e =
    master_outside c.args.words c.index-words-0.result c.index-words-1.result c.index-words-2.result
    (search rules) _ _ _ refl refl refl
    (search rules) c.bits-left.result (c.bits-left.ensures.value ∙ c.left.ensures.value) c.bits-left.ensures.fits
    c.if-left-ne0.false c.in_default-block_number.ensures.none
