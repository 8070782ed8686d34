-- Which layout contents have, and which files they stand for in it. A home copy names a layout, and the first valid
-- copy counts, so the layout is a function of the contents.
use Rattle.std.specs.Prelude.{◌≡◌, ℕ, ◌==◌, ◌&&◌, ◌||◌, nat_le, nat_lt, Bool, if◌then◌else◌, List, get_or, Option}
use Rattle.std.specs.Prelude.{Some, None}
use Rattle.std.specs.Cmp.Lexicographic.{pointwise}
use Rattle.blockdisk.specs.Common.{Contents, DiskState}
use Rattle.spec_image.specs.Files.{File, Files}
use Rattle.spec_image.specs.Home.{SpecHome, home_block}
use Rattle.spec_image.specs.Log.{IsSettled}
use Rattle.spec_image.specs.Regions.{space_start}
use Rattle.spec_image.specs.Stands.{DiskMap, HasMap, files_of}
use Rattle.spec_image.specs.declared.layout.Layout.{Layout}
use Rattle.spec_image.specs.declared.layout.Layout.TheVariants.{One, Two}

-- a disk as the file machine sees it: its layout, 1 or 2, and how many blocks it has
pub record Pack : Type 0 where
  pub layout : ℕ
  pub blocks : ℕ

abbrev pub layout_number : Layout → ℕ
layout_number One = 1
layout_number Two = 2

-- The layout of contents.

-- an image may have this layout
abbrev pub is_layout : ℕ → Bool
is_layout layout = layout == 1 || layout == 2

-- what the words of a home copy name
abbrev pub home_named : List ℕ → SpecHome
home_named words = record { layout = get_or words 1 0; master = get_or words 5 0 }

-- these are the words of a valid home copy
abbrev pub is_home_copy : ℕ → List ℕ → Bool
is_home_copy size words =
    pointwise (λ a b. a == b) words (home_block size (home_named words)) && (is_layout (home_named words).layout
    && (nat_le (space_start size) (home_named words).master && nat_lt (home_named words).master size))

-- the layout that a block names, 0 if it isn't a valid home copy
abbrev pub layout_named : ℕ → Option (List ℕ) → ℕ
layout_named size None = 0
layout_named size (Some words) = if is_home_copy size words then (home_named words).layout else 0

-- that of the first valid copy; 0 if neither is valid
unfoldable pub layout_of : ℕ → Contents → ℕ
layout_of size contents =
    if layout_named size (contents 1) == 0 then layout_named size (contents 2) else layout_named size (contents 1)

-- that of a disk
abbrev pub pack_of : DiskState → Pack
pack_of d = record { layout = layout_of d.size d.contents; blocks = d.size }

-- a disk of this size in this layout
abbrev pub pack_in : ℕ → ℕ → Pack
pack_in layout size = record { layout = layout; blocks = size }

-- What contents stand for in a layout.

abbrev pub SettledStandsOn : Pack → Contents → Files File → Type 0
SettledStandsOn pack settled files =
    (m : DiskMap) × HasMap pack.blocks settled m × (files_of m ≡ files) × (m.layout ≡ pack.layout)

-- The contents of a disk, whatever its gate, stand for these files in the layout of the pack.
abbrev pub StandsOn : Pack → Contents → Files File → Type 0
StandsOn pack contents files =
    (settled : Contents) × IsSettled pack.blocks contents settled × SettledStandsOn pack settled files
