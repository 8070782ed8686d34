-- A map has no more blocks than its files cost.
use Rattle.std.proofs.Common.{◌≡◌, ℕ, ◌≤◌, List, length, sym, ap, ◌∙◌, arith, nat_cmp}
use Rattle.std.specs.Cmp.{nat_cmp_total}
use Rattle.blockdisk.specs.Common.{Contents}
use Rattle.spec_image.specs.Maps.{FinMap, size}
use Rattle.spec_image.specs.Files.{name_cmp}
use Rattle.spec_image.specs.Costs.{version_cost, directory_cost, cost_of_directory, cost_of_files}
use Rattle.spec_image.specs.Counts.{size_of_file, size_of_directory, size_of_map}
use Rattle.spec_image.specs.Stands.{StoredDirectory, DiskMap, directory_of, files_of, entry_of, place_of, IsWhole}
use Rattle.spec_image.specs.Stands.{HasMap}
use Rattle.spec_image.specs.Changes.{IsFileChain, IsMasterChain}
use Rattle.spec_image.proofs.Names.{name_total}
use Rattle.spec_image.proofs.MapSums.{size-map_values, sum_le, sum-map_values}
use Rattle.spec_image.proofs.BitCounts.{size-le-cost}

directory-le-cost : (layout : ℕ) (contents : Contents) (ppn : ℕ) (d : StoredDirectory)
    (file_chains : (blocks : List ℕ) (primes : FinMap name_cmp ℕ) → IsFileChain contents blocks primes
    → length blocks ≡ directory_cost (size primes))
    → IsWhole layout contents ppn d → size_of_directory d ≤ cost_of_directory (directory_of d)
directory-le-cost layout contents ppn d file_chains w =
    let chain : length d.chain ≡ directory_cost (size (directory_of d).files) =
    file_chains d.chain _ w.chain ∙ ap directory_cost (size-map_values name_total (λ f. f.prime) d.files
    ∙ sym (size-map_values name_total (λ f. f.file) d.files)) in
    let files = sum_le name_total size_of_file (λ f. version_cost (length f.file.body)) d.files
    (λ name f is. size-le-cost layout contents (place_of ppn name) f (w.files name f is)) in
    let same = sum-map_values name_total (λ f. version_cost (length f.body)) (λ f. f.file) d.files in
    omega arith

-- `file_chains` and `master_chains` state how long the chains are.
pub map_costs : (disk_size : ℕ) (contents : Contents) (m : DiskMap)
    (file_chains : (blocks : List ℕ) (primes : FinMap name_cmp ℕ) → IsFileChain contents blocks primes
    → length blocks ≡ directory_cost (size primes))
    (master_chains : (blocks : List ℕ) (entries : FinMap nat_cmp (ℕ × ℕ)) → IsMasterChain contents blocks entries
    → length blocks ≡ directory_cost (size entries))
    → HasMap disk_size contents m → size_of_map m ≤ cost_of_files (files_of m)
map_costs disk_size contents m file_chains master_chains s =
    let chain : length m.chain ≡ directory_cost (size (files_of m)) =
    master_chains m.chain _ s.mapped.master ∙ ap directory_cost (size-map_values nat_cmp_total entry_of m.directories
    ∙ sym (size-map_values nat_cmp_total directory_of m.directories)) in
    let directories = sum_le nat_cmp_total size_of_directory (λ d. cost_of_directory (directory_of d)) m.directories
    (λ ppn d is. directory-le-cost m.layout contents ppn d file_chains (s.mapped.directories ppn d is)) in
    let same = sum-map_values nat_cmp_total cost_of_directory directory_of m.directories in
    omega arith
