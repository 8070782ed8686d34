-- What a change makes of the files in directories: a version is published, a file is removed or renamed. What a law
-- takes for granted of the new contents is stated by the layers below: that a directory's chain has the edited entries,
-- that a version is on the disk, and which blocks stay.
use Rattle.std.proofs.Common.{◌≡◌, ℕ, ◌+◌, ◌*◌, ◌^◌, ◌<◌, ◌≤◌, ◌≢◌, ◌⊎◌, ⊎_elim, List, Option, option_map, Some, None}
use Rattle.std.proofs.Common.{refl, sym, ap, subst, ◌∙◌, arith}
use Rattle.std.specs.Cmp.{nat_cmp_total}
use Rattle.std.specs.FinMap.{nat_cmp-IsAntisymmetric}
use Rattle.words36.specs.declared.names.FileName.{FileName}
use Rattle.blockdisk.specs.Common.{Contents}
use Rattle.spec_image.specs.Maps.{FinMap, get, insert, remove, map_values, sum_over, times}
use Rattle.spec_image.specs.Blocks.{head_or_zero}
use Rattle.spec_image.specs.Files.{File, name_cmp}
use Rattle.spec_image.specs.Directories.{file_words, IsFileEntry}
use Rattle.spec_image.specs.Stands.{StoredFile, StoredDirectory, DiskMap, reaches_in_file, reaches_in_directory}
use Rattle.spec_image.specs.Stands.{reaches, place_of, IsVersion, IsWhole, HasMap}
use Rattle.spec_image.specs.Changes.{TableFollows, ChangesOnly, IsFileChain, primes_of, reaches_in_found}
use Rattle.spec_image.specs.Changes.{with_directory, with_file, without_file, in_place_of}
use Rattle.spec_image.proofs.Names.{name_total, name_exact}
use Rattle.spec_image.proofs.MapLaws.{insert_same, get-removed}
use Rattle.spec_image.proofs.MapLists.{get-map_values, map_values-insert, map_values-remove}
use Rattle.spec_image.proofs.MapSums.{sum-insert, sum-insert_new, sum-remove, at-le-sum, two-le-sum}
use Rattle.spec_image.proofs.MapParts.{IsNewOrStays, still_none, found-le-sum, each_put, each_removed, each_renamed}
use Rattle.spec_image.proofs.Chains.{directory_kept}
use Rattle.spec_image.proofs.Versions.{version_kept}
use Rattle.spec_image.proofs.DiskMaps.{once, directory_part}
use Rattle.spec_image.proofs.MapChanges.{directory_changed, two_directories_changed}

-- The prime blocks after a change are the changed prime blocks.

primes-insert : (files : FinMap name_cmp StoredFile) (name : FileName) (f : StoredFile)
    → map_values (λ x. x.prime) (insert files name f) ≡ insert (map_values (λ x. x.prime) files) name f.prime
primes-insert = map_values-insert name_total name_exact (λ x. x.prime)

primes-remove : (files : FinMap name_cmp StoredFile) (name : FileName)
    → map_values (λ x. x.prime) (remove files name) ≡ remove (map_values (λ x. x.prime) files) name
primes-remove = map_values-remove name_total name_exact (λ x. x.prime)

-- A directory is whole with other files in a chain of its own, if each of them is a version, or stays.
whole_changed : (layout : ℕ) (old new : Contents) (ppn : ℕ) (d : StoredDirectory) (chain : List ℕ)
    (files : FinMap name_cmp StoredFile) (gone : ℕ → ℕ)
    → IsWhole layout old ppn d → ((n : ℕ) → reaches_in_directory n d ≤ 1)
    → IsFileChain new chain (map_values (λ f. f.prime) files)
    → ((name : FileName) (f : StoredFile) → get files name ≡ Some f
    → IsNewOrStays (λ z g. IsVersion layout new (place_of ppn z) g) reaches_in_file gone d.files name f)
    → ((n : ℕ) → 0 < reaches_in_directory n d → times n d.chain + gone n ≡ 0 → new n ≡ old n)
    → IsWhole layout new ppn (record { protection = d.protection; quota = d.quota; chain = chain; files = files })
whole_changed layout old new ppn d chain files gone w one c each same = record {
  protection = w.protection;
  quota = w.quota;
  chain = c;
  files = λ name f is. ⊎_elim (λ version. version)
      (λ stays. version_kept layout old new (place_of ppn name) f (w.files name f stays.0) (λ n h.
      let apart = stays.1 n in
      same n (omega arith) (omega (arith, one n)))) (each name f is);
}

-- The files of one directory change.
files_changed : (size : ℕ) (old new : Contents) (m : DiskMap) (ppn : ℕ) (d : StoredDirectory) (chain : List ℕ)
    (files : FinMap name_cmp StoredFile) (gone modified given_up taken : ℕ → ℕ)
    → HasMap size old m → get m.directories ppn ≡ Some d → IsFileChain new chain (map_values (λ f. f.prime) files)
    → head_or_zero chain ≡ head_or_zero d.chain
    → ((name : FileName) (f : StoredFile) → get files name ≡ Some f
    → IsNewOrStays (λ z g. IsVersion m.layout new (place_of ppn z) g) reaches_in_file gone d.files name f)
    → ((n : ℕ) → gone n ≤ sum_over (reaches_in_file n) d.files)
    → ChangesOnly old new m modified → ((n : ℕ) → modified n ≤ times n d.chain + gone n)
    → TableFollows size old new given_up taken
    → ((n : ℕ) → times n chain + sum_over (reaches_in_file n) files + given_up n ≡ reaches_in_directory n d + taken n)
    → HasMap size new (with_directory m m.chain ppn
    (record { protection = d.protection; quota = d.quota; chain = chain; files = files }))
files_changed size old new m ppn d chain files gone modified given_up taken s at c first each part only
    inside table sums =
    let in_map : (n : ℕ) → reaches_in_directory n d ≤ reaches n m = directory_part m ppn d at in
    directory_changed size old new m ppn d
    (record { protection = d.protection; quota = d.quota; chain = chain; files = files }) given_up taken s at
    (whole_changed m.layout old new ppn d chain files gone (s.mapped.directories ppn d at)
    (λ n. omega (arith, once size old m s.marked n, in_map n)) c each
    (λ n h none. only.others n (omega (arith, in_map n)) (omega (arith, inside n))))
    (ap (λ n. (d.protection * 2 ^ 27 + d.quota, n)) first)
    (record { home = only.home; others = λ n h none. only.others n h (omega (arith, inside n, part n)) }) table sums

-- A version is published under a name, whether the name is new or not.
pub published : (size : ℕ) (old new : Contents) (m : DiskMap) (ppn : ℕ) (d : StoredDirectory) (name : FileName)
    (was : Option StoredFile) (f : StoredFile) (chain : List ℕ)
    → HasMap size old m → get m.directories ppn ≡ Some d → get d.files name ≡ was
    → IsFileChain new chain (insert (primes_of d) name f.prime) → head_or_zero chain ≡ head_or_zero d.chain
    → IsVersion m.layout new (place_of ppn name) f
    → ChangesOnly old new m (λ n. times n d.chain + reaches_in_found n was)
    → TableFollows size old new (λ n. times n d.chain + reaches_in_found n was)
    (λ n. times n chain + reaches_in_file n f)
    → HasMap size new (with_directory m m.chain ppn (with_file d chain name f))
published size old new m ppn d name was f chain s at has c first version only table =
    files_changed size old new m ppn d chain (insert d.files name f) (λ n. reaches_in_found n was)
    (λ n. times n d.chain + reaches_in_found n was)
    (λ n. times n d.chain + reaches_in_found n was) (λ n. times n chain + reaches_in_file n f) s
    at (subst (IsFileChain new chain) (sym (primes-insert d.files name f)) c) first
    (each_put name_total name_exact (λ z g. IsVersion m.layout new (place_of ppn z) g) reaches_in_file
    d.files name was f has version)
    (λ n. found-le-sum name_total name_exact (reaches_in_file n) d.files name was has) only (λ n. omega arith) table
    (λ n. let e = sum-insert name_total name_exact (reaches_in_file n) d.files name f was has in omega arith)

pub removed : (size : ℕ) (old new : Contents) (m : DiskMap) (ppn : ℕ) (d : StoredDirectory) (name : FileName)
    (f : StoredFile) (chain : List ℕ)
    → HasMap size old m → get m.directories ppn ≡ Some d → get d.files name ≡ Some f
    → IsFileChain new chain (remove (primes_of d) name) → head_or_zero chain ≡ head_or_zero d.chain
    → ChangesOnly old new m (λ n. times n d.chain + reaches_in_file n f)
    → TableFollows size old new (λ n. times n d.chain + reaches_in_file n f) (λ n. times n chain)
    → HasMap size new (with_directory m m.chain ppn (without_file d chain name))
removed size old new m ppn d name f chain s at has c first only table =
    files_changed size old new m ppn d chain (remove d.files name) (λ n. reaches_in_file n f)
    (λ n. times n d.chain + reaches_in_file n f)
    (λ n. times n d.chain + reaches_in_file n f)
    (λ n. times n chain) s at (subst (IsFileChain new chain) (sym (primes-remove d.files name)) c) first
    (each_removed name_total name_exact (λ z g. IsVersion m.layout new (place_of ppn z) g) reaches_in_file
    d.files name f has)
    (λ n. at-le-sum name_total name_exact (reaches_in_file n) d.files name f has) only (λ n. omega arith) table
    (λ n. let e = sum-remove name_total name_exact (reaches_in_file n) d.files name f has in omega arith)

-- The attributes of a file change: its prime block is rewritten, in the same place.
pub attributes_changed : (size : ℕ) (old new : Contents) (m : DiskMap) (ppn : ℕ) (d : StoredDirectory)
    (name : FileName) (f : StoredFile) (file : File)
    → HasMap size old m → get m.directories ppn ≡ Some d → get d.files name ≡ Some f
    → IsVersion m.layout new (place_of ppn name) (in_place_of f file)
    → ChangesOnly old new m (λ n. reaches_in_file n f) → TableFollows size old new (λ n. 0) (λ n. 0)
    → HasMap size new (with_directory m m.chain ppn (with_file d d.chain name (in_place_of f file)))
attributes_changed size old new m ppn d name f file s at has version only table =
    let same : insert (primes_of d) name f.prime ≡ primes_of d =
    insert_same name_total name_exact (primes_of d) name f.prime (get-map_values name_total (λ x. x.prime) d.files name
    ∙ ap (option_map (λ x. x.prime)) has) in
    let c = directory_kept file_words IsFileEntry old new d.chain (primes_of d) (s.mapped.directories ppn d at).chain
    (λ n h.
    let one = once size old m s.marked n in
    let part = at-le-sum name_total name_exact (reaches_in_file n) d.files name f has in
    let in_map = directory_part m ppn d at n in
    only.others n (omega arith) (omega arith)) in
    files_changed size old new m ppn d d.chain (insert d.files name (in_place_of f file)) (λ n. reaches_in_file n f)
    (λ n. reaches_in_file n f) (λ n. 0) (λ n. 0) s at
    (subst (IsFileChain new d.chain) (sym (primes-insert d.files name (in_place_of f file) ∙ same)) c) refl
    (each_put name_total name_exact (λ z g. IsVersion m.layout new (place_of ppn z) g) reaches_in_file d.files name
    (Some f) (in_place_of f file) has version)
    (λ n. at-le-sum name_total name_exact (reaches_in_file n) d.files name f has) only (λ n. omega arith) table
    (λ n. let e = sum-insert name_total name_exact (reaches_in_file n) d.files name (in_place_of f file) (Some f) has in
    omega arith)

-- A file is renamed within its directory, to a name that is absent or to its own, perhaps with other attributes.
pub renamed_within : (size : ℕ) (old new : Contents) (m : DiskMap) (ppn : ℕ) (d : StoredDirectory) (name to : FileName)
    (f : StoredFile) (file : File) (chain : List ℕ)
    → HasMap size old m → get m.directories ppn ≡ Some d → get d.files name ≡ Some f
    → (to ≡ name) ⊎ (get d.files to ≡ None)
    → IsFileChain new chain (insert (remove (primes_of d) name) to f.prime) → head_or_zero chain ≡ head_or_zero d.chain
    → IsVersion m.layout new (place_of ppn to) (in_place_of f file)
    → ChangesOnly old new m (λ n. times n d.chain + reaches_in_file n f)
    → TableFollows size old new (λ n. times n d.chain) (λ n. times n chain)
    → HasMap size new
    (with_directory m m.chain ppn (with_file (without_file d chain name) chain to (in_place_of f file)))
renamed_within size old new m ppn d name to f file chain s at has free c first version only table =
    let absent : get (remove d.files name) to ≡ None =
    ⊎_elim (λ same. subst (λ z. get (remove d.files name) z ≡ None) (sym same) (get-removed name_total d.files name))
    (λ none. still_none name_total d.files name to none) free in
    files_changed size old new m ppn d chain (insert (remove d.files name) to (in_place_of f file))
    (λ n. reaches_in_file n f) (λ n. times n d.chain + reaches_in_file n f)
    (λ n. times n d.chain) (λ n. times n chain) s at
    (subst (IsFileChain new chain) (sym (primes-insert (remove d.files name) to (in_place_of f file)
    ∙ ap (λ primes. insert primes to f.prime) (primes-remove d.files name))) c) first
    (each_renamed name_total name_exact (λ z g. IsVersion m.layout new (place_of ppn z) g) reaches_in_file
    d.files name f to (in_place_of f file) has version)
    (λ n. at-le-sum name_total name_exact (reaches_in_file n) d.files name f has) only (λ n. omega arith) table
    (λ n. let e = sum-remove name_total name_exact (reaches_in_file n) d.files name f has in
    let i = sum-insert_new name_total name_exact (reaches_in_file n) (remove d.files name) to
    (in_place_of f file) absent in omega arith)

-- A file is renamed from one directory into another, in which the name is absent.
pub renamed_across : (size : ℕ) (old new : Contents) (m : DiskMap) (ppn : ℕ) (d : StoredDirectory) (name : FileName)
    (f : StoredFile) (chain : List ℕ)
    (other : ℕ) (e : StoredDirectory) (to : FileName) (file : File) (other_chain : List ℕ)
    → HasMap size old m → get m.directories ppn ≡ Some d → get d.files name ≡ Some f → get m.directories other ≡ Some e
    → get e.files to ≡ None → other ≢ ppn
    → IsFileChain new chain (remove (primes_of d) name) → head_or_zero chain ≡ head_or_zero d.chain
    → IsFileChain new other_chain (insert (primes_of e) to f.prime) → head_or_zero other_chain ≡ head_or_zero e.chain
    → IsVersion m.layout new (place_of other to) (in_place_of f file)
    → ChangesOnly old new m (λ n. times n d.chain + times n e.chain + reaches_in_file n f)
    → TableFollows size old new (λ n. times n d.chain + times n e.chain) (λ n. times n chain + times n other_chain)
    → HasMap size new (with_directory (with_directory m m.chain ppn (without_file d chain name)) m.chain other
    (with_file e other_chain to (in_place_of f file)))
renamed_across size old new m ppn d name f chain other e to file other_chain s at has at_other absent
    differ c first edited_other first_other version only table =
    let one : (n : ℕ) → reaches_in_directory n d + reaches_in_directory n e ≤ 1 = λ n.
    let x = two-le-sum nat_cmp_total nat_cmp-IsAntisymmetric (reaches_in_directory n) m.directories ppn
    other d e at at_other differ in
    let y = once size old m s.marked n in omega arith in
    let parts : (n : ℕ) → sum_over (reaches_in_file n) d.files
    ≡ reaches_in_file n f + sum_over (reaches_in_file n) (remove d.files name) = λ n.
    sum-remove name_total name_exact (reaches_in_file n) d.files name f has in
    two_directories_changed size old new m ppn d (without_file d chain name) other e
    (with_file e other_chain to (in_place_of f file))
    (λ n. times n d.chain + times n e.chain) (λ n. times n chain + times n other_chain) s at at_other differ
    (whole_changed m.layout old new ppn d chain (remove d.files name) (λ n. reaches_in_file n f)
    (s.mapped.directories ppn d at) (λ n. omega (arith, one n))
    (subst (IsFileChain new chain) (sym (primes-remove d.files name)) c)
    (each_removed name_total name_exact (λ z g. IsVersion m.layout new (place_of ppn z) g) reaches_in_file
    d.files name f has)
    (λ n h none. only.others n (omega (arith, directory_part m ppn d at n)) (omega (arith, one n))))
    (ap (λ n. (d.protection * 2 ^ 27 + d.quota, n)) first)
    (whole_changed m.layout old new other e other_chain (insert e.files to (in_place_of f file)) (λ n. 0)
    (s.mapped.directories other e at_other) (λ n. omega (arith, one n))
    (subst (IsFileChain new other_chain) (sym (primes-insert e.files to (in_place_of f file))) edited_other)
    (each_put name_total name_exact (λ z g. IsVersion m.layout new (place_of other z) g) reaches_in_file e.files to None
    (in_place_of f file) absent version)
    (λ n h none. only.others n (omega (arith, directory_part m other e at_other n)) (omega (arith, one n, parts n))))
    (ap (λ n. (e.protection * 2 ^ 27 + e.quota, n)) first_other)
    (record { home = only.home; others = λ n h none. only.others n h (omega (arith, parts n)) }) table
    (λ n. let i = sum-insert_new name_total name_exact (reaches_in_file n) e.files to (in_place_of f file) absent in
    omega (arith, parts n))
