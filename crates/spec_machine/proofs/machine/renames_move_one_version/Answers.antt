use Rattle.spec_machine.proofs.MoveLaws.{is_moved, is_gone, is_left, is_untouched}
use Rattle.spec_machine.proofs.machine.renames_move_one_version.Goals as goal

pub returns-clause-moved : goal.returns-clause-moved
returns-clause-moved c = is_moved

pub returns-clause-gone : goal.returns-clause-gone
returns-clause-gone c = is_gone

pub returns-clause-left : goal.returns-clause-left
returns-clause-left c = is_left

pub returns-clause-untouched : goal.returns-clause-untouched
returns-clause-untouched c = is_untouched
