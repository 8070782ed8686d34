use Rattle.std.proofs.Common.{◌<◌, length, ◌∙◌, arith}
use Rattle.std.proofs.lemmas.List.{length-map}
use Rattle.volume.specs.Common.{file_view}
use Rattle.volume.proofs.PublishVersion.StepPremises.{index_is}
use Rattle.directory.proofs.EditedEntries.{swap_removed}
use Rattle.volume.proofs.delete.remove_entry.Goals as goal

pub returns-clause-keys : goal.returns-clause-keys
returns-clause-keys c =
    let keys = c.args.directory.now.keys.items in
    let i = c.in-Some.i in
    let key = c.swap_remove-key.result in
    let found = c.in-Some.ensures.found in
    let below : i < length keys =
    let within = found.1.within in
    let many = length-map c.args.directory.now.chain.entries file_view in
    let aligned = c.requires.aligned in
    omega arith in (
      i,
      found.0,
      found.1,
      index_is keys i key _ below c.swap_remove-key.ensures.value,
      c.swap_remove-key.ensures.items ∙ swap_removed keys i key below,
    )
