use Rattle.std.proofs.Common.{◌≡◌, ◌+◌, length, map, take}
use Rattle.spec_image.specs.Common.{total}
use Rattle.volume.specs.Common.{known_version, cost_of_version}
use Rattle.volume.proofs.cost.book_directory.Given as goal

abbrev pub invariant-loop-version : goal.invariant-loop-version
invariant-loop-version l =
    l.table ≡ record l.fn.table {
      booked = l.fn.table.booked + (length l.fn.directory.chain.blocks
          + total cost_of_version (map known_version (take l.version-index l.versions)));
    }
