use Rattle.commands.proofs.OutcomeLaws.{deliveries_keep_files, deliveries_make_files, errands_show_files}
use Rattle.commands.proofs.OutcomeLaws.{exports_show_files, imports_make_files}
use Rattle.commands.proofs.laws.errands_reach_files.Goals as goal

pub returns-clause-put : goal.returns-clause-put
returns-clause-put g c = deliveries_keep_files g.S.FileService.machine

pub returns-clause-new : goal.returns-clause-new
returns-clause-new g c = deliveries_make_files g.S.FileService.machine

pub returns-clause-imported : goal.returns-clause-imported
returns-clause-imported g c = imports_make_files g.S.FileService.machine

pub returns-clause-got : goal.returns-clause-got
returns-clause-got g c = errands_show_files g.S.FileService.machine

pub returns-clause-exported : goal.returns-clause-exported
returns-clause-exported g c = exports_show_files g.S.FileService.machine
