use Rattle.std.proofs.Common.{map, take}
use Rattle.std.specs.List.{AllZip}
use Rattle.volume.specs.Common.{file_view, live_directory, IsLine}
use Rattle.volume.proofs.list.directory_lines.Given as goal

abbrev pub invariant-loop-entry : goal.invariant-loop-entry
invariant-loop-entry l = AllZip (λ e line. IsLine (live_directory l.versions.slots l.directory) e.0 line)
    (map file_view (take l.entry-index l.names)) l.lines.items
