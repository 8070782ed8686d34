use Rattle.spec_machine.proofs.ReaderLaws.{renamed_holds, removed_holds, refused_rename}
use Rattle.spec_machine.proofs.machine.readers_keep_versions.Goals as goal

pub returns-clause-renamed : goal.returns-clause-renamed
returns-clause-renamed c = renamed_holds

pub returns-clause-removed : goal.returns-clause-removed
returns-clause-removed c = removed_holds

pub returns-clause-refused : goal.returns-clause-refused
returns-clause-refused c = refused_rename
