use Rattle.std.proofs.Common.{arith, true, ◌∙◌}
use Rattle.collection.specs.Common.{unnamed_folder}
use Rattle.collection.proofs.SaveLaws.{some_apart}
use Rattle.collection.proofs.save_files.save_unnamed.Goals as goal

pub returns : goal.returns
returns g c = some_apart g.D.Disk.state c.args.task.now
    (unnamed_folder c.args.task.now.folder.now) true c.args.files.now c.as_str.result.now _ _ _ _ _ (search arith)
    (c.as_str.ensures.value ∙ c.in-Ok.ensures) c.save_files.ensures
