use Rattle.std.proofs.Common.{◌≡◌, ◌+◌, ap, sym, ◌∙◌, arith}
use Rattle.std.proofs.lemmas.List.{length-map}
use Rattle.spec_image.proofs.Common.{some_same}
use Rattle.spec_image.specs.Common.{directory_cost}
use Rattle.volume.specs.Common.{entries_with, used_by, file_view, CurrentDirectory, memory_of, live_directory}
use Rattle.volume.proofs.Charges.Sums.{charge_fits}
use Rattle.volume.proofs.common.Growths.{entries_few}
use Rattle.volume.proofs.common.Answers.{viewed_there}
use Rattle.volume.proofs.charge.used_at.Goals as goal

pub overflow_add-entries : goal.overflow_add-entries
overflow_add-entries c =
    let m = c.args.memory.now in
    let item = c.index-directory.result.now in
    let d = live_directory m.versions.slots item in
    let at = viewed_there (live_directory m.versions.slots) m.directories.items c.args.place item item c.requires.inside
    c.index-directory.ensures in
    let few = entries_few m.table.size (memory_of m) c.args.ppn c.args.place d c.requires.whole at in
    let many = length-map item.chain.entries file_view in
    let entries = c.len.ensures in
    let created = c.creations.ensures in
    omega arith

pub cost_of_files-files-requires-clause-fits : goal.cost_of_files-files-requires-clause-fits
cost_of_files-files-requires-clause-fits c =
    let m = c.args.memory.now in
    let item = c.index-directory.result.now in
    let d = live_directory m.versions.slots item in
    let at = viewed_there (live_directory m.versions.slots) m.directories.items c.args.place item item c.requires.inside
    c.index-directory.ensures in
    let fits = charge_fits m.table.size (memory_of m) c.args.ppn c.args.place d c.requires.whole at in
    omega arith

pub overflow_add-result : goal.overflow_add-result
overflow_add-result c =
    let m = c.args.memory.now in
    let item = c.index-directory.result.now in
    let d = live_directory m.versions.slots item in
    let at = viewed_there (live_directory m.versions.slots) m.directories.items c.args.place item item c.requires.inside
    c.index-directory.ensures in
    let few = entries_few m.table.size (memory_of m) c.args.ppn c.args.place d c.requires.whole at in
    let many = length-map item.chain.entries file_view in
    let entries = c.len.ensures in
    let created = c.creations.ensures in
    let fits = charge_fits m.table.size (memory_of m) c.args.ppn c.args.place d c.requires.whole at in
    let own = c.directory_cost.ensures in
    let files = c.cost_of_files-files.ensures in
    omega arith

pub overflow_add-result-2 : goal.overflow_add-result-2
overflow_add-result-2 c =
    let m = c.args.memory.now in
    let item = c.index-directory.result.now in
    let d = live_directory m.versions.slots item in
    let at = viewed_there (live_directory m.versions.slots) m.directories.items c.args.place item item c.requires.inside
    c.index-directory.ensures in
    let few = entries_few m.table.size (memory_of m) c.args.ppn c.args.place d c.requires.whole at in
    let many = length-map item.chain.entries file_view in
    let entries = c.len.ensures in
    let created = c.creations.ensures in
    let fits = charge_fits m.table.size (memory_of m) c.args.ppn c.args.place d c.requires.whole at in
    let own = c.directory_cost.ensures in
    let files = c.cost_of_files-files.ensures in
    let writing = c.cost_of_writing-writing.ensures in
    omega arith

pub returns-clause-few : goal.returns-clause-few
returns-clause-few c =
    let m = c.args.memory.now in
    let item = c.index-directory.result.now in
    let d = live_directory m.versions.slots item in
    let at = viewed_there (live_directory m.versions.slots) m.directories.items c.args.place item item c.requires.inside
    c.index-directory.ensures in
    let few = entries_few m.table.size (memory_of m) c.args.ppn c.args.place d c.requires.whole at in
    let many = length-map item.chain.entries file_view in
    let entries = c.len.ensures in
    let created = c.creations.ensures in
    let fits = charge_fits m.table.size (memory_of m) c.args.ppn c.args.place d c.requires.whole at in
    let own = c.directory_cost.ensures in
    let files = c.cost_of_files-files.ensures in
    let writing = c.cost_of_writing-writing.ensures in
    omega arith

pub returns-clause-value : goal.returns-clause-value
returns-clause-value c d is =
    let m = c.args.memory.now in
    let item = c.index-directory.result.now in
    let x = live_directory m.versions.slots item in
    let at = viewed_there (live_directory m.versions.slots) m.directories.items c.args.place item item c.requires.inside
    c.index-directory.ensures in
    let same : x ≡ d = some_same (sym at ∙ is) in
    let many = length-map item.chain.entries file_view in
    let entries = c.len.ensures in
    let created = c.creations.ensures in
    let own : c.directory_cost.result ≡ directory_cost (entries_with (memory_of m) x c.args.ppn) =
    c.directory_cost.ensures ∙ ap directory_cost (omega arith) in
    (λ i. own i + c.cost_of_files-files.ensures i + c.cost_of_writing-writing.ensures i)
    ∙ ap (λ (k : CurrentDirectory). used_by (memory_of m) k c.args.ppn) same
