-- What a directory in memory is charged for, what its quota leaves, and what another quota changes in memory.
use Rattle.std.specs.Prelude.{◌≡◌, ℕ, ◌+◌, ◌-◌, ◌*◌, ◌/◌, ◌%◌, ◌^◌, ◌==◌, ◌<◌, ◌≤◌, if◌then◌else◌, List, [], length}
use Rattle.std.specs.Prelude.{Option, Some, None, slice_get}
use Rattle.std.specs.Ordering.{nat_cmp}
use Rattle.std.specs.FinMap.Entries.{find}
use Rattle.spec_image.specs.declared.put.Put.{Put}
use Rattle.spec_image.specs.Common.{directory_cost, version_cost, master_words, File, Directory, size, sum_over}
use Rattle.spec_image.specs.Common.{total, most_blocks, length_after}
use Rattle.directory.specs.Common.{StandsAt, PutsChain, inserted}
use Rattle.volume.specs.BeginVersion.{entries_with}
use Rattle.volume.specs.CurrentMap.{CurrentDirectory, cost_of_version}
use Rattle.volume.specs.MemoryMap.{MemoryMap, pending_cost}
use Rattle.volume.specs.declared.charge.Charge.{Charge}
use Rattle.volume.specs.declared.pending.PendingVersion.{PendingVersion}

-- what a version costs that is being written in a directory
abbrev pub writes_in : ℕ → Option PendingVersion → ℕ
writes_in ppn None = 0
writes_in ppn (Some p) = if p.prime.ppn == ppn then pending_cost (Some p) else 0

-- the directory's own cost with what is being created in it, its current files, and what is being written in it
abbrev pub used_by : MemoryMap → CurrentDirectory → ℕ → ℕ
used_by c d ppn = directory_cost (entries_with c d ppn) + total cost_of_version d.versions
    + total (writes_in ppn) c.pending

-- The directory is there, and this is its quota and what it is charged for.
pub record IsCharged (c : MemoryMap) (ppn : ℕ) (charge : Charge) : Type 0 where
  pub place : ℕ
  pub word : ℕ × ℕ
  pub there : StandsAt nat_cmp c.known.master.entries ppn word place
  pub directory : CurrentDirectory
  pub directory_at : slice_get c.known.directories place ≡ Some directory
  pub quota_is : charge.quota ≡ word.0 % 2 ^ 18
  pub used_is : charge.used ≡ used_by c directory ppn

-- n blocks more are more than the directory has left; a quota of 0 is no limit
abbrev pub IsOver : MemoryMap → ℕ → ℕ → Type 0
IsOver c ppn more = (charge : Charge) × IsCharged c ppn charge × (0 < charge.quota)
    × (charge.quota < charge.used + more)

-- by how much a version that is being written costs more with `count` words at a block
abbrev pub rise : PendingVersion → ℕ → ℕ → ℕ
rise p block count = version_cost (length_after p.version.words block count) - version_cost p.version.words

-- it costs more then, and by more than its directory has left
abbrev pub Outgrows : MemoryMap → PendingVersion → ℕ → ℕ → Type 0
Outgrows c p block count = (0 < rise p block count) × IsOver c p.prime.ppn (rise p block count)

-- no file has as many words
abbrev pub IsTooLong : PendingVersion → ℕ → ℕ → Type 0
IsTooLong p block count = most_blocks * 128 < length_after p.version.words block count

-- The same in terms of the files.

abbrev pub charge_answer : Option (Directory File) → ℕ → ℕ → Option Charge
charge_answer None creations writing = None
charge_answer (Some d) creations writing = Some (record {
  quota = d.quota;
  used = directory_cost (size d.files + creations) + sum_over (λ f. version_cost (length f.body)) d.files + writing;
})

abbrev pub quota_in_files : Option (Directory File) → ℕ
quota_in_files None = 0
quota_in_files (Some d) = d.quota

-- the quota of a directory in memory, 0 if there is no such directory
abbrev pub quota_in_word : Option (ℕ × ℕ) → ℕ
quota_in_word None = 0
quota_in_word (Some word) = word.0 % 2 ^ 18

abbrev pub quota_in_memory : MemoryMap → ℕ → ℕ
quota_in_memory c ppn = quota_in_word (find nat_cmp ppn c.known.master.entries)

-- Another quota.

-- the word of a directory's entry with another quota
abbrev pub word_limited : ℕ × ℕ → ℕ → ℕ × ℕ
word_limited word quota = (word.0 / 2 ^ 18 * 2 ^ 18 + quota, word.1)

-- The directory's entry has this quota, and nothing else changes in memory.
pub record IsLimited (c c' : MemoryMap) (ppn quota : ℕ) : Type 0 where
  pub place : ℕ
  pub word : ℕ × ℕ
  pub there : StandsAt nat_cmp c.known.master.entries ppn word place
  pub map : c' ≡ record c {
    known = record c.known {
      master = record c.known.master {
        entries = inserted nat_cmp c.known.master.entries (ppn, word_limited word quota);
      };
    };
  }

-- The same, with the puts that will make it so on the disk.
pub record LimitsDirectory (c c' : MemoryMap) (ppn quota : ℕ) (puts : List Put) : Type 0 where
  pub limited : IsLimited c c' ppn quota
  pub put : PutsChain master_words c.known.master c'.known.master [] puts
  pub few : length puts ≤ 2
