use Rattle.std.proofs.Common.{◌≡◌, ℕ, map, length, take, IfSome}
use Rattle.std.specs.List.{AllZip}
use Rattle.spec_image.specs.Common.{total}
use Rattle.volume.specs.Common.{known_directory, IsKeyed, IsFirstRead, current_reaches, entry_reaches, slot}
use Rattle.volume.specs.Common.{live_directory}
use Rattle.volume.proofs.live.keep.Given as goal

abbrev pub invariant-loop-directory : goal.invariant-loop-directory
invariant-loop-directory l = record {
  read : (key : ℕ) → IfSome (slot l.versions.slots key) IsFirstRead;
  keyed : AllZip (IsKeyed l.versions.slots) (map known_directory (take (length l.yielded) l.fn.map.directories.items))
      (map (λ d. d.keys.items) l.directories.items);
  known : map (live_directory l.versions.slots) l.directories.items
      ≡ map known_directory (take (length l.yielded) l.fn.map.directories.items);
  current : (n : ℕ) → total (current_reaches n) l.versions.slots
      ≡ entry_reaches n (map (live_directory l.versions.slots) l.directories.items);
}
