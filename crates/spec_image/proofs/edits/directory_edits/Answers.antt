use Rattle.spec_image.proofs.Names.{name_total, name_exact}
use Rattle.spec_image.specs.Directories.{file_words, IsFileEntry}
use Rattle.spec_image.proofs.ChainEdits.{entry_replaced, entry_added, entry_grown, chain_length}
use Rattle.spec_image.proofs.ChainRemoval.{entry_removed_in_last, entry_removed_in_last_moved, last_dropped}
use Rattle.spec_image.proofs.ChainRemoval.{entry_removed_filled, entry_removed_filled_dropped_adjacent}
use Rattle.spec_image.proofs.ChainRemoval.{entry_removed_filled_dropped}
use Rattle.spec_image.proofs.edits.directory_edits.Goals as goal

pub returns-clause-replaced : goal.returns-clause-replaced
returns-clause-replaced c = entry_replaced name_total name_exact file_words IsFileEntry

pub returns-clause-added : goal.returns-clause-added
returns-clause-added c = entry_added name_total name_exact file_words IsFileEntry

pub returns-clause-grown : goal.returns-clause-grown
returns-clause-grown c = entry_grown name_total name_exact file_words IsFileEntry

pub returns-clause-removed : goal.returns-clause-removed
returns-clause-removed c = entry_removed_in_last name_total name_exact file_words IsFileEntry

pub returns-clause-removed_moved : goal.returns-clause-removed_moved
returns-clause-removed_moved c = entry_removed_in_last_moved name_total name_exact file_words IsFileEntry

pub returns-clause-last_dropped : goal.returns-clause-last_dropped
returns-clause-last_dropped c = last_dropped name_total name_exact file_words IsFileEntry

pub returns-clause-hole_filled : goal.returns-clause-hole_filled
returns-clause-hole_filled c = entry_removed_filled name_total name_exact file_words IsFileEntry

pub returns-clause-hole_filled_adjacent : goal.returns-clause-hole_filled_adjacent
returns-clause-hole_filled_adjacent c = entry_removed_filled_dropped_adjacent name_total name_exact file_words
    IsFileEntry

pub returns-clause-hole_filled_dropped : goal.returns-clause-hole_filled_dropped
returns-clause-hole_filled_dropped c = entry_removed_filled_dropped name_total name_exact file_words IsFileEntry

pub returns-clause-costs : goal.returns-clause-costs
returns-clause-costs c = chain_length name_total name_exact file_words IsFileEntry
