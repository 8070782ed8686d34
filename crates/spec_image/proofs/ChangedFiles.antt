-- The files of a map after each change.
use Rattle.std.proofs.Common.{◌≡◌, ℕ, List, map, ap, ◌∙◌}
use Rattle.std.specs.Cmp.{nat_cmp_total}
use Rattle.std.specs.FinMap.{nat_cmp-IsAntisymmetric}
use Rattle.words36.specs.declared.names.FileName.{FileName}
use Rattle.spec_image.specs.Maps.{FinMap, empty, insert, remove, map_values, from_entries}
use Rattle.spec_image.specs.Files.{File, Directory, name_cmp}
use Rattle.spec_image.specs.Stands.{StoredFile, StoredDirectory, DiskMap, directory_of, files_of}
use Rattle.spec_image.specs.Changes.{with_directory, without_directory, with_file, without_file, bare_directory}
use Rattle.spec_image.specs.Changes.{with_protection, in_place_of, file_put, file_removed}
use Rattle.spec_image.proofs.Names.{name_total, name_exact}
use Rattle.spec_image.proofs.MapLaws.{entries-empty}
use Rattle.spec_image.proofs.MapLists.{map_values-insert, map_values-remove}

-- Directories.

pub files_put : (m : DiskMap) (chain : List ℕ) (ppn : ℕ) (d : StoredDirectory)
    → files_of (with_directory m chain ppn d) ≡ insert (files_of m) ppn (directory_of d)
files_put m chain ppn d = map_values-insert nat_cmp_total nat_cmp-IsAntisymmetric directory_of m.directories ppn d

pub files_made : (m : DiskMap) (chain : List ℕ) (ppn protection quota : ℕ) (blocks : List ℕ)
    → files_of (with_directory m chain ppn (bare_directory protection quota blocks))
    ≡ insert (files_of m) ppn (record { protection = protection; quota = quota; files = empty })
files_made m chain ppn protection quota blocks =
    files_put m chain ppn (bare_directory protection quota blocks)
    ∙ ap (λ files. insert (files_of m) ppn (record { protection = protection; quota = quota; files = files })) none
  where
    none : map_values (λ (f : StoredFile). f.file) (empty {R = name_cmp}) ≡ empty
    none = ap (λ es. from_entries (map (λ e. (e.0, e.1.file)) es)) (entries-empty name_cmp StoredFile)

pub files_protected : (m : DiskMap) (chain : List ℕ) (ppn : ℕ) (d : StoredDirectory) (protection quota : ℕ)
    → files_of (with_directory m chain ppn (with_protection d protection quota))
    ≡ insert (files_of m) ppn (record { protection = protection; quota = quota; files = (directory_of d).files })
files_protected m chain ppn d protection quota = files_put m chain ppn (with_protection d protection quota)

pub files_without : (m : DiskMap) (chain : List ℕ) (ppn : ℕ) → files_of (without_directory m chain ppn)
    ≡ remove (files_of m) ppn
files_without m chain ppn = map_values-remove nat_cmp_total nat_cmp-IsAntisymmetric directory_of m.directories ppn

-- Files.

-- the directory with other files
abbrev with_files : StoredDirectory → FinMap name_cmp File → Directory File
with_files d files = record { protection = d.protection; quota = d.quota; files = files }

directory-with : (d : StoredDirectory) (chain : List ℕ) (name : FileName) (f : StoredFile)
    → directory_of (with_file d chain name f) ≡ file_put (directory_of d) name f.file
directory-with d chain name f = ap (with_files d) (map_values-insert name_total name_exact (λ x. x.file) d.files name f)

directory-without : (d : StoredDirectory) (chain : List ℕ) (name : FileName)
    → directory_of (without_file d chain name) ≡ file_removed (directory_of d) name
directory-without d chain name = ap (with_files d) (map_values-remove name_total name_exact (λ x. x.file) d.files name)

pub files_published : (m : DiskMap) (ppn : ℕ) (d : StoredDirectory) (name : FileName) (f : StoredFile) (chain : List ℕ)
    → files_of (with_directory m m.chain ppn (with_file d chain name f))
    ≡ insert (files_of m) ppn (file_put (directory_of d) name f.file)
files_published m ppn d name f chain = files_put m m.chain ppn (with_file d chain name f)
    ∙ ap (insert (files_of m) ppn) (directory-with d chain name f)

pub files_attributes : (m : DiskMap) (ppn : ℕ) (d : StoredDirectory) (name : FileName) (f : StoredFile) (file : File)
    → files_of (with_directory m m.chain ppn (with_file d d.chain name (in_place_of f file)))
    ≡ insert (files_of m) ppn (file_put (directory_of d) name file)
files_attributes m ppn d name f file = files_published m ppn d name (in_place_of f file) d.chain

pub files_removed : (m : DiskMap) (ppn : ℕ) (d : StoredDirectory) (name : FileName) (chain : List ℕ)
    → files_of (with_directory m m.chain ppn (without_file d chain name))
    ≡ insert (files_of m) ppn (file_removed (directory_of d) name)
files_removed m ppn d name chain = files_put m m.chain ppn (without_file d chain name)
    ∙ ap (insert (files_of m) ppn) (directory-without d chain name)

pub files_renamed_within : (m : DiskMap) (ppn : ℕ) (d : StoredDirectory) (name to : FileName) (f : StoredFile)
    (file : File) (chain : List ℕ)
    → files_of (with_directory m m.chain ppn (with_file (without_file d chain name) chain to (in_place_of f file)))
    ≡ insert (files_of m) ppn (file_put (file_removed (directory_of d) name) to file)
files_renamed_within m ppn d name to f file chain =
    files_published m ppn (without_file d chain name) to (in_place_of f file) chain
    ∙ ap (λ e. insert (files_of m) ppn (file_put e to file)) (directory-without d chain name)

pub files_renamed_across : (m : DiskMap) (ppn : ℕ) (d : StoredDirectory) (name : FileName) (f : StoredFile)
    (chain : List ℕ) (other : ℕ) (e : StoredDirectory) (to : FileName) (file : File) (other_chain : List ℕ)
    → files_of (with_directory (with_directory m m.chain ppn (without_file d chain name)) m.chain other
    (with_file e other_chain to (in_place_of f file)))
    ≡ insert (insert (files_of m) ppn (file_removed (directory_of d) name)) other (file_put (directory_of e) to file)
files_renamed_across m ppn d name f chain other e to file other_chain =
    files_published (with_directory m m.chain ppn (without_file d chain name)) other e to
    (in_place_of f file) other_chain
    ∙ ap (λ files. insert files other (file_put (directory_of e) to file)) (files_removed m ppn d name chain)
