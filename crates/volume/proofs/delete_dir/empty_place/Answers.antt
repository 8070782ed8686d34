use Rattle.std.proofs.Common.{◌<◌, refl, ap, arith}
use Rattle.std.proofs.lemmas.List.{length-map}
use Rattle.volume.specs.Common.{entries_with, file_view, CurrentDirectory, memory_of, live_directory}
use Rattle.volume.proofs.BeginVersion.Beginnings.{directory_at, same_directory}
use Rattle.volume.proofs.delete_dir.empty_place.Goals.{then-entries-gt0-via-then-entries-gt0}
use Rattle.volume.proofs.delete_dir.empty_place.Goals.{then-entries-gt0-via-else-entries-gt0+then-created-gt0}
use Rattle.volume.proofs.delete_dir.empty_place.Goals as goal

pub returns-then-entries-gt0-clause-filled : goal.returns-then-entries-gt0-clause-filled
returns-then-entries-gt0-clause-filled c =
    let m = c.args.memory.now in
    let x = c.index.result.now in
    let found = c.in-Ok.ensures.found in
    let at = directory_at m.table.size m c.args.ppn c.in-Ok.place found.0 x c.requires.whole found.1 c.index.ensures in
    let many = length-map x.chain.entries file_view in
    let entries = c.len-entries.ensures in
    let created = c.creations-created.ensures in
    let some : 0 < entries_with (memory_of m) (live_directory m.versions.slots x) c.args.ppn =
    elim c.then-entries-gt0.branch [
      | then-entries-gt0-via-then-entries-gt0 w ↦ let more = w.if-entries-gt0.true in omega arith
      | then-entries-gt0-via-else-entries-gt0+then-created-gt0 w ↦ let more = w.if-created-gt0.true in omega arith
    ] in
    (λ any. (live_directory m.versions.slots x, (c.in-Ok.place, found.0, found.1, at), some), λ has. refl)

pub returns-clause-found : goal.returns-clause-found
returns-clause-found c =
    let m = c.args.memory.now in
    let x = c.index.result.now in
    let found = c.in-Ok.ensures.found in
    let many = length-map x.chain.entries file_view in
    let entries = c.len-entries.ensures in
    let created = c.creations-created.ensures in
    let none = c.if-entries-gt0.false in
    let also = c.if-created-gt0.false in
    record {
      word = found.0;
      there = found.1;
      directory = live_directory m.versions.slots x;
      directory_at = directory_at m.table.size m c.args.ppn c.in-Ok.place found.0 x c.requires.whole found.1
          c.index.ensures;
      empty = omega arith;
    }

pub returns-clause-filled : goal.returns-clause-filled
returns-clause-filled c =
    let m = c.args.memory.now in
    let x = c.index.result.now in
    let found = c.in-Ok.ensures.found in
    let at = directory_at m.table.size m c.args.ppn c.in-Ok.place found.0 x c.requires.whole found.1 c.index.ensures in
    let many = length-map x.chain.entries file_view in
    let entries = c.len-entries.ensures in
    let created = c.creations-created.ensures in
    let none = c.if-entries-gt0.false in
    let also = c.if-created-gt0.false in (
      λ is. absurd (cc),
      λ has. absurd (let same = ap (λ (d : CurrentDirectory). entries_with (memory_of m) d c.args.ppn)
          (same_directory m.table.size (memory_of m) c.args.ppn c.in-Ok.place found.0 has.0
          (live_directory m.versions.slots x) c.requires.whole has.1 found.1.is at) in let more = has.2 in omega arith),
    )
