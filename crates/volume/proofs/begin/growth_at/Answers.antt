use Rattle.std.proofs.Common.{◌≡◌, ap, sym, ◌∙◌, arith}
use Rattle.std.proofs.lemmas.List.{length-map}
use Rattle.spec_image.proofs.Common.{some_same}
use Rattle.spec_image.specs.Common.{growth}
use Rattle.volume.specs.Common.{entries_with, file_view, CurrentDirectory, memory_of, live_directory}
use Rattle.volume.proofs.common.Answers.{viewed_there}
use Rattle.volume.proofs.begin.growth_at.Goals as goal

pub overflow_add-entries : goal.overflow_add-entries
overflow_add-entries c =
    let memory = c.args.memory.now in
    let at = viewed_there (live_directory memory.versions.slots) memory.directories.items c.args.place
    c.index.result.now
    c.index.result.now c.requires.inside c.index.ensures in
    let few = c.requires.few (live_directory memory.versions.slots c.index.result.now) at in
    let many = length-map c.index.result.now.chain.entries file_view in
    let entries = c.len-entries.ensures in
    let created = c.creations.ensures in
    omega arith

pub returns-clause-value : goal.returns-clause-value
returns-clause-value c d is =
    let memory = c.args.memory.now in
    let at = viewed_there (live_directory memory.versions.slots) memory.directories.items c.args.place
    c.index.result.now
    c.index.result.now c.requires.inside c.index.ensures in
    let same : live_directory memory.versions.slots c.index.result.now ≡ d = some_same (sym at ∙ is) in
    let many = length-map c.index.result.now.chain.entries file_view in
    let entries = c.len-entries.ensures in
    let created = c.creations.ensures in
    c.growth.ensures.value ∙ ap growth (omega arith)
    ∙ ap (λ (x : CurrentDirectory). growth (entries_with (memory_of memory) x c.args.ppn)) same
