use Rattle.std.proofs.Common.{◌≡◌, ℕ, ◌+◌, Some, map, filter_map, length, take, IfSome}
use Rattle.std.specs.List.{AllZip}
use Rattle.spec_image.specs.Common.{total}
use Rattle.volume.specs.Common.{reaches_in_entries, file_view, known_version, IsCurrent, IsFirstRead, current_reaches}
use Rattle.volume.specs.Common.{slot, known_at}
use Rattle.volume.specs.declared.live.LiveVersion.{LiveVersion}
use Rattle.volume.proofs.live.into_live_versions.Given as goal

abbrev pub invariant-loop-entry : goal.invariant-loop-entry
invariant-loop-entry l = record {
  stay : (key : ℕ) (v : LiveVersion) → slot l.fn.versions.slots key ≡ Some v → slot l.versions.slots key ≡ Some v;
  read : (key : ℕ) → IfSome (slot l.versions.slots key) IsFirstRead;
  keyed : AllZip (λ e key. IsCurrent l.versions.slots key e.1) (map file_view (take (length l.yielded) l.fn.entries))
      l.keys.items;
  known : filter_map (known_at l.versions.slots) l.keys.items
      ≡ map known_version (take (length l.yielded) l.fn.stored.items);
  current : (n : ℕ) → total (current_reaches n) l.versions.slots ≡ total (current_reaches n) l.fn.versions.slots
      + reaches_in_entries n (map file_view (take (length l.yielded) l.fn.entries))
      (map known_version (take (length l.yielded) l.fn.stored.items));
}
