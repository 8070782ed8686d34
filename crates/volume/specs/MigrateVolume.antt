-- The migration to layout 2: what a crash leaves of it, and what it makes of a disk.
use Rattle.std.specs.Prelude.{◌≡◌, ◌⊎◌, ℕ, List, [], ◌∷◌, Some}
use Rattle.blockdisk.specs.Common.{Contents, DiskState, MayLeave, SameOutside}
use Rattle.changeset.specs.Common.{IsGateOrLog}
use Rattle.spec_image.specs.declared.put.Put.{Put}
use Rattle.spec_image.specs.Common.{File, Files, home_block, IsHome, pack_in, StandsOn, IsGateOpen, IsSettled}
use Rattle.volume.specs.Homes.{home_in}
use Rattle.volume.specs.declared.migrate.Migrated.{Migrated}
use Rattle.volume.specs.declared.migrate.Migrated.TheVariants.{Done, Already}

-- the same files, in the layout that they had or in layout 2
abbrev pub StandsOrRaised : ℕ → ℕ → Files File → Contents → Type 0
StandsOrRaised size layout files c = StandsOn (pack_in layout size) c files ⊎ StandsOn (pack_in 2 size) c files

-- It stands for whatever some contents stood for that a crash could leave at s, in the same layout or in layout 2.
abbrev pub RaisedLikeBefore : DiskState → Contents → Type 0
RaisedLikeBefore s c = (d : Contents) × MayLeave s d × ((layout : ℕ) (files : Files File)
    → StandsOn (pack_in layout s.size) d files → StandsOrRaised s.size layout files c)

-- It stands for whatever the contents at s stand for, in the same layout or in layout 2.
abbrev pub RaisedLike : DiskState → Contents → Type 0
RaisedLike s c = (layout : ℕ) (files : Files File) → StandsOn (pack_in layout s.size) s.contents files
    → StandsOrRaised s.size layout files c

-- the answer if the files stood in this layout
abbrev pub IsTold : ℕ → Migrated → Type 0
IsTold layout Done = layout ≡ 1
IsTold layout Already = layout ≡ 2

abbrev pub IsHomeBlock : ℕ → Type 0
IsHomeBlock n = (n ≡ 1) ⊎ (n ≡ 2)

abbrev pub AreCopies : List ℕ → Contents → Type 0
AreCopies words c = (c 1 ≡ Some words) × (c 2 ≡ Some words)

-- the change of both copies
abbrev pub home_puts : List ℕ → List Put
home_puts words = record { block = 1; words = words } ∷ record { block = 2; words = words } ∷ []

-- The contents are now those that settled before, with the gate closed and both home copies for layout 2. They name the
-- master directory that the first valid copy named.
pub record IsMigrated (size : ℕ) (before now : Contents) : Type 0 where
  pub settled : Contents
  pub is_settled : IsSettled size before settled
  pub others : SameOutside (λ n. IsGateOrLog size n ⊎ IsHomeBlock n) settled now
  pub gate : IsGateOpen size now → ⊥
  pub master : ℕ
  pub home : IsHome size settled (home_in 1 master)
  pub copies : AreCopies (home_block size (home_in 2 master)) now
