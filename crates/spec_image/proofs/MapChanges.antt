-- What a change makes of a map: the law of any change, and changes of whole directories.
use Rattle.std.proofs.Common.{◌≡◌, ℕ, ◌+◌, ◌≤◌, ◌≢◌, ⊎_elim, List, Option, option_map, Some, refl, sym, ap, subst}
use Rattle.std.proofs.Common.{◌∙◌, arith, nat_cmp}
use Rattle.std.specs.Cmp.{nat_cmp_total}
use Rattle.std.specs.FinMap.{nat_cmp-IsAntisymmetric}
use Rattle.blockdisk.specs.Common.{Contents}
use Rattle.spec_image.specs.Maps.{FinMap, get, insert, map_values, sum_over, times}
use Rattle.spec_image.specs.Blocks.{head_or_zero}
use Rattle.spec_image.specs.Home.{IsHome}
use Rattle.spec_image.specs.Directories.{master_words, IsMasterEntry}
use Rattle.spec_image.specs.Stands.{StoredDirectory, DiskMap, reaches_in_directory, reaches, entry_of, IsWhole}
use Rattle.spec_image.specs.Stands.{IsMapped, HasMap}
use Rattle.spec_image.specs.Changes.{TableFollows, ChangesOnly, IsMasterChain, entries_of, with_directory}
use Rattle.spec_image.proofs.MapLaws.{get-insert_other, insert_same}
use Rattle.spec_image.proofs.MapLists.{get-map_values, map_values-insert}
use Rattle.spec_image.proofs.MapSums.{part, sum-insert, sum-insert_over, at-le-sum, two-le-sum}
use Rattle.spec_image.proofs.MapParts.{IsNewOrStays, each_put, each_of_two}
use Rattle.spec_image.proofs.Chains.{directory_kept}
use Rattle.spec_image.proofs.DiskMaps.{home_kept, whole_kept, once}

-- The law of any change: the new map is on the disk, and the table follows.
pub map_changed : (size : ℕ) (old new : Contents) (m after : DiskMap) (given_up taken : ℕ → ℕ)
    → HasMap size old m → IsMapped size new after → TableFollows size old new given_up taken
    → ((n : ℕ) → reaches n after + given_up n ≡ reaches n m + taken n)
    → HasMap size new after
map_changed size old new m after given_up taken s mapped table sums = record {
  volume = s.volume;
  mapped = mapped;
  marked = record {
    undamaged = table.undamaged;
    inside = λ n h. omega (arith, sums n, table.inside n h, s.marked.inside n h);
    bits = λ n. omega (arith, sums n, table.bits n, s.marked.bits n);
  };
}

-- Each directory of the new map is whole, or stays.
pub directories_changed : (size : ℕ) (old new : Contents) (m : DiskMap) (chain : List ℕ)
    (directories : FinMap nat_cmp StoredDirectory) (gone given_up taken : ℕ → ℕ)
    → HasMap size old m → IsMasterChain new chain (map_values entry_of directories)
    → head_or_zero chain ≡ head_or_zero m.chain
    → ((ppn : ℕ) (d : StoredDirectory) → get directories ppn ≡ Some d
    → IsNewOrStays (IsWhole m.layout new) reaches_in_directory gone m.directories ppn d)
    → ChangesOnly old new m (λ n. times n m.chain + gone n) → TableFollows size old new given_up taken
    → ((n : ℕ) → times n chain + sum_over (reaches_in_directory n) directories + given_up n ≡ reaches n m + taken n)
    → HasMap size new (record { layout = m.layout; chain = chain; directories = directories })
directories_changed size old new m chain directories gone given_up taken s master first each only table sums =
    map_changed size old new m (record { layout = m.layout; chain = chain; directories = directories }) given_up taken s
    (record {
      home = subst (λ n. IsHome size new (record { layout = m.layout; master = n })) (sym first)
          (home_kept size old new _ only.home.first only.home.second s.mapped.home);
      master = master;
      directories = λ ppn d is. ⊎_elim (λ whole. whole)
          (λ stays. whole_kept m.layout old new ppn d (s.mapped.directories ppn d stays.0) (λ n h.
          let apart = stays.1 n in
          let one = once size old m s.marked n in
          only.others n (omega arith) (omega arith))) (each ppn d is);
    }) table sums

-- One directory is put, whether there was one before or not.
pub directory_put : (size : ℕ) (old new : Contents) (m : DiskMap) (chain : List ℕ) (ppn : ℕ)
    (was : Option StoredDirectory) (d : StoredDirectory) (modified given_up taken : ℕ → ℕ)
    → HasMap size old m → get m.directories ppn ≡ was → IsWhole m.layout new ppn d
    → IsMasterChain new chain (insert (entries_of m) ppn (entry_of d)) → head_or_zero chain ≡ head_or_zero m.chain
    → ChangesOnly old new m modified → ((n : ℕ) → modified n ≤ times n m.chain + part (reaches_in_directory n) was)
    → TableFollows size old new given_up taken
    → ((n : ℕ) → times n chain + reaches_in_directory n d + given_up n
    ≡ times n m.chain + part (reaches_in_directory n) was + taken n)
    → HasMap size new (with_directory m chain ppn d)
directory_put size old new m chain ppn was d modified given_up taken s at whole master first only inside table sums =
    directories_changed size old new m chain (insert m.directories ppn d)
    (λ n. part (reaches_in_directory n) was) given_up taken s
    (subst (IsMasterChain new chain)
    (sym (map_values-insert nat_cmp_total nat_cmp-IsAntisymmetric entry_of m.directories ppn d)) master) first
    (each_put nat_cmp_total nat_cmp-IsAntisymmetric (IsWhole m.layout new) reaches_in_directory m.directories
    ppn was d at whole)
    (record { home = only.home; others = λ n h none. only.others n h (omega (arith, inside n)) }) table
    (λ n. let e = sum-insert nat_cmp_total nat_cmp-IsAntisymmetric (reaches_in_directory n) m.directories
    ppn d was at in omega (arith, sums n))

-- Directories that keep their words and their first blocks leave the entries of the master directory.

entry_stays : (directories : FinMap nat_cmp StoredDirectory) (ppn : ℕ) (d changed : StoredDirectory)
    → get directories ppn ≡ Some d → entry_of changed ≡ entry_of d
    → insert (map_values entry_of directories) ppn (entry_of changed) ≡ map_values entry_of directories
entry_stays directories ppn d changed at same =
    ap (insert (map_values entry_of directories) ppn) same
    ∙ insert_same nat_cmp_total nat_cmp-IsAntisymmetric (map_values entry_of directories) ppn (entry_of d)
    (get-map_values nat_cmp_total entry_of directories ppn ∙ ap (option_map entry_of) at)

master_stays : (size : ℕ) (old new : Contents) (m : DiskMap) (modified : ℕ → ℕ) → HasMap size old m
    → ChangesOnly old new m modified → ((n : ℕ) → modified n ≤ sum_over (reaches_in_directory n) m.directories)
    → IsMasterChain new m.chain (entries_of m)
master_stays size old new m modified s only inside =
    directory_kept master_words IsMasterEntry old new m.chain _ s.mapped.master
    (λ n h. only.others n (omega arith) (let one = once size old m s.marked n in omega (arith, inside n)))

-- One directory changes with its files: its protection, its quota and its first block stay.
pub directory_changed : (size : ℕ) (old new : Contents) (m : DiskMap) (ppn : ℕ) (d changed : StoredDirectory)
    (given_up taken : ℕ → ℕ)
    → HasMap size old m → get m.directories ppn ≡ Some d → IsWhole m.layout new ppn changed
    → entry_of changed ≡ entry_of d
    → ChangesOnly old new m (λ n. reaches_in_directory n d) → TableFollows size old new given_up taken
    → ((n : ℕ) → reaches_in_directory n changed + given_up n ≡ reaches_in_directory n d + taken n)
    → HasMap size new (with_directory m m.chain ppn changed)
directory_changed size old new m ppn d changed given_up taken s at whole same only table sums =
    let master = master_stays size old new m (λ n. reaches_in_directory n d) s only
    (λ n. at-le-sum nat_cmp_total nat_cmp-IsAntisymmetric (reaches_in_directory n) m.directories ppn d at) in
    directory_put size old new m m.chain ppn (Some d) changed (λ n. reaches_in_directory n d) given_up taken s at whole
    (subst (IsMasterChain new m.chain) (sym (entry_stays m.directories ppn d changed at same)) master) refl only
    (λ n. omega arith) table (λ n. omega (arith, sums n))

-- Two directories change at once.
pub two_directories_changed : (size : ℕ) (old new : Contents) (m : DiskMap) (ppn : ℕ) (d changed : StoredDirectory)
    (other : ℕ) (e other_changed : StoredDirectory) (given_up taken : ℕ → ℕ)
    → HasMap size old m → get m.directories ppn ≡ Some d → get m.directories other ≡ Some e → other ≢ ppn
    → IsWhole m.layout new ppn changed → entry_of changed ≡ entry_of d → IsWhole m.layout new other other_changed
    → entry_of other_changed ≡ entry_of e
    → ChangesOnly old new m (λ n. reaches_in_directory n d + reaches_in_directory n e)
    → TableFollows size old new given_up taken
    → ((n : ℕ) → reaches_in_directory n changed + reaches_in_directory n other_changed + given_up n
    ≡ reaches_in_directory n d + reaches_in_directory n e + taken n)
    → HasMap size new (with_directory (with_directory m m.chain ppn changed) m.chain other other_changed)
two_directories_changed size old new m ppn d changed other e other_changed given_up taken s at at_other
    differ whole same whole_other same_other only table sums =
    let still : get (insert m.directories ppn changed) other
    ≡ Some e = get-insert_other nat_cmp_total nat_cmp-IsAntisymmetric m.directories ppn changed other differ
    ∙ at_other in
    let entries : map_values entry_of (insert (insert m.directories ppn changed) other other_changed) ≡ entries_of m =
    map_values-insert nat_cmp_total nat_cmp-IsAntisymmetric entry_of (insert m.directories ppn changed)
    other other_changed ∙ entry_stays (insert m.directories ppn changed) other e other_changed still same_other
    ∙ map_values-insert nat_cmp_total nat_cmp-IsAntisymmetric entry_of m.directories ppn changed
    ∙ entry_stays m.directories ppn d changed at same in
    let master = master_stays size old new m (λ n. reaches_in_directory n d + reaches_in_directory n e) s only
    (λ n. two-le-sum nat_cmp_total nat_cmp-IsAntisymmetric (reaches_in_directory n) m.directories ppn other
    d e at at_other differ) in
    directories_changed size old new m m.chain (insert (insert m.directories ppn changed) other other_changed)
    (λ n. reaches_in_directory n d + reaches_in_directory n e) given_up taken s
    (subst (IsMasterChain new m.chain) (sym entries) master) refl
    (each_of_two nat_cmp_total nat_cmp-IsAntisymmetric (IsWhole m.layout new) reaches_in_directory m.directories
    ppn d changed other e other_changed at at_other differ whole whole_other)
    (record { home = only.home; others = λ n h none. only.others n h (omega arith) }) table
    (λ n. let x = sum-insert_over nat_cmp_total nat_cmp-IsAntisymmetric
    (reaches_in_directory n) m.directories ppn changed d at in
    let y = sum-insert_over nat_cmp_total nat_cmp-IsAntisymmetric (reaches_in_directory n)
    (insert m.directories ppn changed) other other_changed e still in omega (arith, sums n))
