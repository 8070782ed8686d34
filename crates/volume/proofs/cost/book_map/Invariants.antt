use Rattle.std.proofs.Common.{◌≡◌, ◌+◌, length, map, take}
use Rattle.spec_image.specs.Common.{total}
use Rattle.volume.specs.Common.{known_directory, cost_of_directory}
use Rattle.volume.proofs.cost.book_map.Given as goal

abbrev pub invariant-loop-directory : goal.invariant-loop-directory
invariant-loop-directory l =
    l.table ≡ record l.fn.table {
      booked = length l.fn.master.blocks
          + total cost_of_directory (map known_directory (take l.directory-index l.directories));
    }
