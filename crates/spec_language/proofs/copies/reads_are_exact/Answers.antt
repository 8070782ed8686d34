use Rattle.spec_language.proofs.ReadLaws.{reads_are_exact}
use Rattle.spec_language.proofs.ToldLaws.{octets_are_told, no_octets_are_told}
use Rattle.spec_language.proofs.copies.reads_are_exact.Goals as goal

pub returns-clause-reads : goal.returns-clause-reads
returns-clause-reads c = reads_are_exact

pub returns-clause-bytes : goal.returns-clause-bytes
returns-clause-bytes c = octets_are_told

pub returns-clause-no_bytes : goal.returns-clause-no_bytes
returns-clause-no_bytes c = no_octets_are_told
