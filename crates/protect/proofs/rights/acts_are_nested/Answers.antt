use Rattle.protect.proofs.Digits.{executes, reads, appends, updates, supersedes, renames, protects}
use Rattle.protect.proofs.rights.acts_are_nested.Goals as goal

pub returns-clause-execute : goal.returns-clause-execute
returns-clause-execute c = executes

pub returns-clause-read : goal.returns-clause-read
returns-clause-read c = reads

pub returns-clause-append : goal.returns-clause-append
returns-clause-append c = appends

pub returns-clause-update : goal.returns-clause-update
returns-clause-update c = updates

pub returns-clause-supersede : goal.returns-clause-supersede
returns-clause-supersede c = supersedes

pub returns-clause-rename : goal.returns-clause-rename
returns-clause-rename c = renames

pub returns-clause-protect : goal.returns-clause-protect
returns-clause-protect c = protects
