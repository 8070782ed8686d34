-- The place of a file: a project-programmer number and a name.
use Rattle.std.specs.Prelude.{ℕ, Option}
use Rattle.words36.specs.declared.names.FileName.{FileName}
use Rattle.volume.specs.CurrentMap.{prime_in}
use Rattle.volume.specs.MemoryMap.{MemoryMap}

-- the prime block that the entry of a place has; `None` if there is no such directory, or no such entry in it
abbrev pub prime_at : MemoryMap → ℕ → FileName → Option ℕ
prime_at c ppn name = prime_in c.known.master.entries c.known.directories ppn name
