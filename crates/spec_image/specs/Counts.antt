-- How many blocks a map of a disk reaches, and how many bits are set.
use Rattle.std.specs.Prelude.{ℕ, zero, suc, ◌+◌, length}
use Rattle.spec_image.specs.Maps.{sum_over}
use Rattle.spec_image.specs.Stands.{StoredFile, StoredDirectory, DiskMap, blocks_of_file}

-- the sum of f below a number
abbrev pub sum_below : (ℕ → ℕ) → ℕ → ℕ
sum_below f zero = 0
sum_below f (suc k) = f k + sum_below f k

abbrev pub size_of_file : StoredFile → ℕ
size_of_file f = length (blocks_of_file f)

abbrev pub size_of_directory : StoredDirectory → ℕ
size_of_directory d = length d.chain + sum_over size_of_file d.files

abbrev pub size_of_map : DiskMap → ℕ
size_of_map m = length m.chain + sum_over size_of_directory m.directories
