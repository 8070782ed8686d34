use Rattle.std.specs.Cmp.{nat_cmp_total}
use Rattle.std.specs.FinMap.{nat_cmp-IsAntisymmetric}
use Rattle.spec_image.specs.Directories.{master_words, IsMasterEntry}
use Rattle.spec_image.proofs.ChainEdits.{entry_replaced, entry_added, entry_grown, chain_length}
use Rattle.spec_image.proofs.ChainRemoval.{entry_removed_in_last, entry_removed_in_last_moved, last_dropped}
use Rattle.spec_image.proofs.ChainRemoval.{entry_removed_filled, entry_removed_filled_dropped_adjacent}
use Rattle.spec_image.proofs.ChainRemoval.{entry_removed_filled_dropped}
use Rattle.spec_image.proofs.edits.master_edits.Goals as goal

pub returns-clause-replaced : goal.returns-clause-replaced
returns-clause-replaced c = entry_replaced nat_cmp_total nat_cmp-IsAntisymmetric master_words IsMasterEntry

pub returns-clause-added : goal.returns-clause-added
returns-clause-added c = entry_added nat_cmp_total nat_cmp-IsAntisymmetric master_words IsMasterEntry

pub returns-clause-grown : goal.returns-clause-grown
returns-clause-grown c = entry_grown nat_cmp_total nat_cmp-IsAntisymmetric master_words IsMasterEntry

pub returns-clause-removed : goal.returns-clause-removed
returns-clause-removed c = entry_removed_in_last nat_cmp_total nat_cmp-IsAntisymmetric master_words IsMasterEntry

pub returns-clause-removed_moved : goal.returns-clause-removed_moved
returns-clause-removed_moved c = entry_removed_in_last_moved nat_cmp_total nat_cmp-IsAntisymmetric master_words
    IsMasterEntry

pub returns-clause-last_dropped : goal.returns-clause-last_dropped
returns-clause-last_dropped c = last_dropped nat_cmp_total nat_cmp-IsAntisymmetric master_words IsMasterEntry

pub returns-clause-hole_filled : goal.returns-clause-hole_filled
returns-clause-hole_filled c = entry_removed_filled nat_cmp_total nat_cmp-IsAntisymmetric master_words IsMasterEntry

pub returns-clause-hole_filled_adjacent : goal.returns-clause-hole_filled_adjacent
returns-clause-hole_filled_adjacent c = entry_removed_filled_dropped_adjacent nat_cmp_total nat_cmp-IsAntisymmetric
    master_words IsMasterEntry

pub returns-clause-hole_filled_dropped : goal.returns-clause-hole_filled_dropped
returns-clause-hole_filled_dropped c = entry_removed_filled_dropped nat_cmp_total nat_cmp-IsAntisymmetric
    master_words IsMasterEntry

pub returns-clause-costs : goal.returns-clause-costs
returns-clause-costs c = chain_length nat_cmp_total nat_cmp-IsAntisymmetric master_words IsMasterEntry
