-- What a volume has in memory, as values.
use Rattle.std.specs.Prelude.{ℕ, List, Option, map, filter_map, option_map}
use Rattle.directory.specs.Common.{viewed}
use Rattle.volume.specs.MemoryValues.{file_view, master_view}
use Rattle.volume.specs.CurrentMap.{CurrentVersion, CurrentDirectory}
use Rattle.volume.specs.MemoryMap.{MemoryMap, slot, as_known}
use Rattle.volume.specs.declared.live.LiveVersion.{LiveVersion}
use Rattle.volume.specs.declared.live.LiveDirectory.{LiveDirectory}
use Rattle.volume.specs.declared.live.LiveMap.{LiveMap}

-- what is known of the version under a key
abbrev pub known_at : List (Option LiveVersion) → ℕ → Option CurrentVersion
known_at live key = option_map as_known (slot live key)

abbrev pub live_directory : List (Option LiveVersion) → LiveDirectory → CurrentDirectory
live_directory live d = record { chain = viewed file_view d.chain; versions = filter_map (known_at live) d.keys.items }

abbrev pub memory_of : LiveMap → MemoryMap
memory_of m = record {
  known = record {
    master = viewed master_view m.master;
    directories = map (live_directory m.versions.slots) m.directories.items;
    table = m.table;
  };
  keys = map (λ d. d.keys.items) m.directories.items;
  live = m.versions.slots;
  pending = m.pending.slots;
}
