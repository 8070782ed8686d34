-- What holds for a volume between two calls.
use Rattle.std.specs.Prelude.{◌≡◌, ◌⊎◌, ◌<◌, ℕ, Bool, false, List, length, Some}
use Rattle.blockdisk.specs.Common.{Contents, DiskState, MayLeave}
use Rattle.spec_image.specs.Common.{File, Files, times, layout_number, pack_of, pack_in, SettledStandsOn, StandsOn}
use Rattle.spec_image.specs.Common.{Pack, DiskMap, HasBody, date_limit}
use Rattle.spec_image.specs.declared.layout.Layout.{Layout}
use Rattle.changeset.specs.Common.{AtRest}
use Rattle.volume.specs.CurrentMap.{CurrentMap, MatchesMap}
use Rattle.volume.specs.MemoryMap.{MemoryMap, slot, pending_at, IsWholeMemory}
use Rattle.volume.specs.declared.live.LiveVersion.{LiveVersion}
use Rattle.volume.specs.declared.pending.PendingVersion.{PendingVersion}
use Rattle.retrieval.specs.Common.{VersionState}

-- One map for all that a crash may leave, and the one in memory.
pub record IsAtRest (s : DiskState) (k : CurrentMap) : Type 0 where
  pub map : DiskMap
  pub rest : AtRest s (MatchesMap s.size k map)

-- the blocks of a version have some words
abbrev pub HasSomeBody : Contents → VersionState → Type 0
HasSomeBody contents v = (body : List ℕ) × (length body ≡ v.words) × HasBody contents v.blocks body

-- the layout has room for the moment of each version that is being written
abbrev pub AreDated : ℕ → MemoryMap → Type 0
AreDated layout c = (key : ℕ) (p : PendingVersion) → pending_at c.pending key ≡ Some p
    → p.prime.moment.date < date_limit layout

-- What is in memory is whole, and while the disk is honest and the volume hasn't failed it is the disk's; the versions
-- that are pinned or being written have their words then.
pub record IsSoundMemory (s : DiskState) (c : MemoryMap) (failed : Bool) : Type 0 where
  pub whole : IsWholeMemory s.size c
  pub rest : s.honest → failed ≡ false → IsAtRest s c.known
  pub read : s.honest → failed ≡ false → (key : ℕ) (v : LiveVersion) → slot c.live key ≡ Some v → 0 < v.readers
      → HasSomeBody s.contents v.version
  pub written : s.honest → failed ≡ false → (key : ℕ) (p : PendingVersion) → pending_at c.pending key ≡ Some p
      → HasSomeBody s.contents p.version
  pub dated : s.honest → failed ≡ false → AreDated (pack_of s).layout c

-- The layout in memory is the disk's, too.
pub record IsSoundVolume (s : DiskState) (c : MemoryMap) (failed : Bool) (layout : Layout) : Type 0 where
  pub map : IsSoundMemory s c failed
  pub layout_is : s.honest → failed ≡ false → layout_number layout ≡ (pack_of s).layout

-- all that a crash may leave has a closed gate and stands for these files, in the disk's layout
abbrev pub RestsAt : DiskState → Files File → Type 0
RestsAt s files = AtRest s (λ c. SettledStandsOn (pack_of s) c files)

-- it stands for the one or for the other, in the layout of the pack, whatever its gate
abbrev pub StandsForOneOf : Pack → Files File → Files File → Contents → Type 0
StandsForOneOf pack f g c = StandsOn pack c f ⊎ StandsOn pack c g

-- it stands for whatever some contents stood for that a crash could leave at s, in the same layout
abbrev pub StandsLikeBefore : DiskState → Contents → Type 0
StandsLikeBefore s c = (d : Contents) × MayLeave s d × ((layout : ℕ) (files : Files File)
    → StandsOn (pack_in layout s.size) d files → StandsOn (pack_in layout s.size) c files)

-- it stands for whatever the contents at s stand for, in the same layout
abbrev pub StandsLike : DiskState → Contents → Type 0
StandsLike s c = (layout : ℕ) (files : Files File) → StandsOn (pack_in layout s.size) s.contents files
    → StandsOn (pack_in layout s.size) c files

-- The blocks of pinned versions stay.
abbrev pub KeepsRead : Contents → Contents → MemoryMap → Type 0
KeepsRead old new c = (key : ℕ) (v : LiveVersion) → slot c.live key ≡ Some v → 0 < v.readers → (n : ℕ)
    → 0 < times n v.version.blocks → new n ≡ old n

-- So do those of the versions that are being written,
abbrev pub KeepsEachWritten : Contents → Contents → MemoryMap → Type 0
KeepsEachWritten old new c = (k : ℕ) (p : PendingVersion) → pending_at c.pending k ≡ Some p → (n : ℕ)
    → 0 < times n p.version.blocks → new n ≡ old n

-- or those of all of them except this one.
abbrev pub KeepsWritten : Contents → Contents → MemoryMap → ℕ → Type 0
KeepsWritten old new c key = (k : ℕ) (p : PendingVersion) → (k ≡ key → ⊥) → pending_at c.pending k ≡ Some p
    → (n : ℕ) → 0 < times n p.version.blocks → new n ≡ old n
