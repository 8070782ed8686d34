-- How many of a disk's blocks files and directories take. A version takes its data blocks, a prime retrieval block, and
-- an extension for each 126 blocks after the first 112. The cost counts every run of blocks as if it had one block.
use Rattle.std.specs.Prelude.{ℕ, ◌+◌, ◌-◌, ◌/◌, max, length}
use Rattle.spec_image.specs.Maps.{size, sum_over}
use Rattle.spec_image.specs.Files.{File, Files, Directory}

-- how many blocks this number of words takes
abbrev pub blocks_of : ℕ → ℕ
blocks_of words = (words + 127) / 128

-- what a version of n blocks costs
abbrev pub cost_of_blocks : ℕ → ℕ
cost_of_blocks n = n + 1 + (n - 112 + 125) / 126

-- what a version of this number of words costs
abbrev pub version_cost : ℕ → ℕ
version_cost words = cost_of_blocks (blocks_of words)

-- what a directory with this number of entries costs, and the master directory with this number of directories
abbrev pub directory_cost : ℕ → ℕ
directory_cost entries = max 1 ((entries + 41) / 42)

-- by how much a directory's cost grows with one more entry, and the master directory's with one more directory
abbrev pub growth : ℕ → ℕ
growth entries = directory_cost (entries + 1) - directory_cost entries

-- what a directory costs with all its files
abbrev pub cost_of_directory : Directory File → ℕ
cost_of_directory d = directory_cost (size d.files) + sum_over (λ f. version_cost (length f.body)) d.files

-- what files cost: the master directory, the directories and the versions
abbrev pub cost_of_files : Files File → ℕ
cost_of_files files = directory_cost (size files) + sum_over cost_of_directory files
