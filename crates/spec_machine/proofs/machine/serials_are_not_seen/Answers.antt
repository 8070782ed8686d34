use Rattle.spec_machine.proofs.SerialLaws.{same_files, same_reply}
use Rattle.spec_machine.proofs.machine.serials_are_not_seen.Goals as goal

pub returns-clause-files : goal.returns-clause-files
returns-clause-files c = same_files

pub returns-clause-reply : goal.returns-clause-reply
returns-clause-reply c = same_reply
