use Rattle.std.proofs.Common.{arith}
use Rattle.std.proofs.lemmas.List.{length-map}
use Rattle.volume.specs.Common.{master_view, memory_of, live_directory}
use Rattle.volume.proofs.common.UsedBlocks.{element_at}
use Rattle.volume.proofs.discard.shrinkage.Goals as goal

pub returns-clause-value : goal.returns-clause-value
returns-clause-value c new =
    let memory = c.args.memory.now in
    let stands = c.in-Ok.ensures.found in
    let within = stands.1.within in
    let entries = length-map memory.master.entries master_view in
    let directories = length-map memory.directories.items (live_directory memory.versions.slots) in
    let aligned = c.requires.aligned in
    let there = element_at (memory_of memory).known.directories c.in-Ok.place (omega arith) in
    (there.0, (c.in-Ok.place, stands.0, stands.1, there.1), c.growth_at.ensures.value there.0 there.1)
