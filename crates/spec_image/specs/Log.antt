-- The gate and the log. A change of several blocks is written as images into the log. From the moment when the gate in
-- block 3 is open, the disk counts as changed, and what it then has is `Settled`: each image at its target. If no
-- volume has a disk's number of blocks, its gate counts as closed.
use Rattle.std.specs.Prelude.{◌≡◌, ℕ, ◌+◌, ◌-◌, ◌<◌, ◌≤◌, ◌⊎◌, ◌==◌, if◌then◌else◌, List, [], ◌∷◌, ◌++◌, map, length}
use Rattle.std.specs.Prelude.{replicate, Some}
use Rattle.std.specs.List.{AllByRecursion}
use Rattle.blockdisk.specs.Common.{Contents}
use Rattle.spec_image.specs.declared.put.Put.{Put}
use Rattle.spec_image.specs.Maps.{times}
use Rattle.spec_image.specs.Regions.{IsVolumeSize, log_images, log_start, table_start}

-- the words of an open gate; with any other words, or if the block is damaged, the gate is closed
abbrev pub open_gate : List ℕ
open_gate = replicate 128 0o252525252525

-- The gate of a volume is open.
pub record IsGateOpen (size : ℕ) (contents : Contents) : Type 0 where
  pub volume : IsVolumeSize size
  pub gate : contents 3 ≡ Some open_gate

abbrev pub targets : List Put → List ℕ
targets puts = map (λ put. put.block) puts

-- LOG in SIXBIT
abbrev pub log_word : ℕ
log_word = 0o545747000000

abbrev pub log_header : List Put → List ℕ
log_header puts = log_word ∷ length puts ∷ (targets puts ++ replicate (126 - length puts) 0)

-- the images are in consecutive blocks, the first of them in this one
abbrev pub AreImages : Contents → ℕ → List Put → Type 0
AreImages contents at [] = Unit {0}
AreImages contents at (put ∷ puts) = (contents at ≡ Some put.words) × AreImages contents (at + 1) puts

-- a home copy, or a block of the table or the free space
abbrev pub IsTarget : ℕ → ℕ → Type 0
IsTarget size n = (n ≡ 1) ⊎ (n ≡ 2) ⊎ ((table_start size ≤ n) × (n < size))

-- The log is good, and has these images for these targets.
pub record IsLog (size : ℕ) (contents : Contents) (puts : List Put) : Type 0 where
  pub header : contents 4 ≡ Some (log_header puts)
  pub some : 0 < length puts
  pub few : length puts ≤ log_images size
  pub distinct : (n : ℕ) → times n (targets puts) ≤ 1
  pub in_range : AllByRecursion (IsTarget size) (targets puts)
  pub images : AreImages contents log_start puts

-- the contents with each image at its target
abbrev pub with_puts : List Put → Contents → Contents
with_puts [] contents n = contents n
with_puts (put ∷ puts) contents n = if n == put.block then Some put.words else with_puts puts contents n

-- The settled contents. There are none if the gate is open and the log isn't good.
abbrev pub IsSettled : ℕ → Contents → Contents → Type 0
IsSettled size contents settled =
    ((IsGateOpen size contents → ⊥) × ((n : ℕ) → settled n ≡ contents n))
    ⊎ (IsGateOpen size contents × (puts : List Put) × IsLog size contents puts
    × ((n : ℕ) → settled n ≡ with_puts puts contents n))
