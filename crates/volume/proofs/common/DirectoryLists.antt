-- The list of a directory.
use Rattle.std.proofs.Common.{◌≡◌, ℕ, ◌+◌, ◌<◌, ◌≤◌, List, [], ◌∷◌, ◌++◌, map, length, get_or, take, Some, Result, Ok}
use Rattle.std.proofs.Common.{Err, IfOk, refl, sym, ap, subst, ◌∙◌}
use Rattle.std.specs.FinMap.Entries.{find}
use Rattle.std.specs.Cmp.{nat_cmp_total}
use Rattle.std.specs.List.{AllByRecursion, AllZip}
use Rattle.words36.specs.declared.names.FileName.{FileName}
use Rattle.spec_image.specs.declared.entry.Entry.{Entry}
use Rattle.spec_image.specs.Common.{SpecFileEntry, SpecMasterEntry, File, Files, name_cmp, entries, keys, from_entries}
use Rattle.spec_image.specs.Common.{get}
use Rattle.spec_image.specs.Common.{StoredFile, directory_of, entry_of}
use Rattle.directory.specs.declared.master.MasterEntry.{MasterEntry as Entries}
use Rattle.blockdisk.specs.Common.{DiskState}
use Rattle.std.specs.Ordering.{nat_cmp}
use Rattle.std.proofs.lemmas.List.{take_all}
use Rattle.spec_image.proofs.Common.{some_same, get-from_entries, each_in_entries, entries-map_values}
use Rattle.spec_image.proofs.Common.{keys-map_values, name_total}
use Rattle.volume.specs.Common.{CurrentMap, CurrentDirectory, line, IsLine, IsShown, IsAdded, master_view}
use Rattle.volume.proofs.common.Answers.{Holds, IsThere, shown_of}
use Rattle.volume.proofs.common.Lookups.{viewed_more, zip_behind}

-- what is in the sorted list is found in the directory
pub sorted_there : (es : List SpecFileEntry)
    → AllByRecursion (λ e. find name_cmp e.0 es ≡ Some e.1) (entries (from_entries {R = name_cmp} es))
sorted_there es = each_in_entries name_total (λ q x. find name_cmp q es ≡ Some x) (from_entries es)
    (λ q x is. sym (get-from_entries name_total es q) ∙ is)

line_is : (k : CurrentMap) (files : Files File) (ppn : ℕ) (d : CurrentDirectory) (there : IsThere k files ppn d)
    (e : FileName
    × StoredFile) (l : Entry) → get there.stored.files e.0 ≡ Some e.1 → IsLine d e.0 l → l ≡ line (e.0, e.1.file)
line_is k files ppn d there e l is named =
    let v = named.1 in
    let found = there.known.each v.place (e.0, v.prime) v.version v.at.is v.version_at in
    let shown = shown_of found.0 v.version v.prime named.0 found.2 v.protection v.mode v.moment v.words v.blocks in
    let same : found.0 ≡ e.1 = some_same (sym found.1 ∙ is) in
    let here = subst (λ (f : StoredFile). IsShown f.file named.0) same shown in
    named.2 ∙ (λ i. record {
      name = e.0;
      protection = here.protection i;
      mode = here.mode i;
      date = here.date i;
      time = here.time i;
      length = here.words i;
      blocks = here.blocks i;
    })

lines_by : (k : CurrentMap) (files : Files File) (ppn : ℕ) (d : CurrentDirectory) (there : IsThere k files ppn d)
    (es : List (FileName × StoredFile)) (lines : List Entry)
    → AllByRecursion (λ e. get there.stored.files e.0 ≡ Some e.1) es
    → AllZip (λ e l. IsLine d e.0 l) (map {B = SpecFileEntry} (λ e. (e.0, e.1.prime)) es) lines
    → lines ≡ map line (map (λ e. (e.0, e.1.file)) es)
lines_by k files ppn d there [] [] all zip = refl
lines_by k files ppn d there [] (l ∷ lines) all zip = absurd zip
lines_by k files ppn d there (e ∷ es) [] all zip = absurd zip
lines_by k files ppn d there (e ∷ es) (l ∷ lines) all zip = let here = line_is k files ppn d there e l all.0 zip.0 in
    let rest = lines_by k files ppn d there es lines all.1 zip.1 in λ i. here i ∷ rest i

pub lines_are : (k : CurrentMap) (files : Files File) (ppn : ℕ) (d : CurrentDirectory) (there : IsThere k files ppn d)
    (lines : List Entry) → AllZip (λ e l. IsLine d e.0 l) (entries (from_entries {R = name_cmp} d.chain.entries)) lines
    → lines ≡ map line (entries (directory_of there.stored).files)
lines_are k files ppn d there lines zip =
    let named = ap entries (sym there.known.names)
    ∙ entries-map_values name_total (λ (f : StoredFile). f.prime) there.stored.files in
    lines_by k files ppn d there (entries there.stored.files) lines
    (each_in_entries name_total (λ q x. get there.stored.files q ≡ Some x) there.stored.files (λ q x is. is))
    (subst (λ (es : List SpecFileEntry). AllZip (λ e l. IsLine d e.0 l) es lines) named zip)
    ∙ ap (map line) (sym (entries-map_values name_total (λ (f : StoredFile). f.file) there.stored.files))

-- one line more
pub line_more : {A : Type 0} (d : CurrentDirectory) (view : A
    → SpecFileEntry) (xs : List A) (i : ℕ) (x : A) (old new : List Entry) → i < length xs → x ≡ get_or xs i x
    → AllZip (λ e l. IsLine d e.0 l) (map view (take i xs)) old
    → IsAdded (λ l. l) old new (IsLine d (view x).0) → AllZip (λ e l. IsLine d e.0 l) (map view (take (i + 1) xs)) new
line_more d view xs i x old new below is zip added =
    subst (λ (ls : List Entry). AllZip (λ e l. IsLine d e.0 l) (map view (take (i + 1) xs)) ls) (sym added.pushed)
    (subst (λ (es : List SpecFileEntry). AllZip (λ e l. IsLine d e.0 l) es (old ++ added.added ∷ []))
    (sym (viewed_more view xs i x below is))
    (zip_behind (λ e l. IsLine d e.0 l) (map view (take i xs)) old (view x) added.added zip added.is))

-- The owners of directories, by the entries of the master directory in their order.

pub owner_more : (xs : List Entries) (i : ℕ) (x : Entries) (old new : List ℕ) → i < length xs → x ≡ get_or xs i x
    → old ≡ map (λ e. e.ppn) (take i xs) → new ≡ old ++ x.ppn ∷ [] → new ≡ map (λ e. e.ppn) (take (i + 1) xs)
owner_more xs i x old new below is so_far pushed =
    pushed ∙ ap (λ (l : List ℕ). l ++ x.ppn ∷ []) so_far ∙ sym (viewed_more (λ (e : Entries). e.ppn) xs i x below is)

owners_viewed : (xs : List Entries) → map (λ e. e.ppn) xs ≡ map (λ (e : SpecMasterEntry). e.0) (map master_view xs)
owners_viewed [] = refl
owners_viewed (x ∷ xs) = ap (λ (l : List ℕ). x.ppn ∷ l) (owners_viewed xs)

pub owners_sorted : (es : List SpecMasterEntry) (sorted : List Entries) (owners : List ℕ) (i : ℕ) (xs : List Entries)
    → length xs ≤ i → xs ≡ sorted → map master_view sorted ≡ es → owners ≡ map (λ e. e.ppn) (take i xs)
    → owners ≡ map (λ e. e.0) es
owners_sorted es sorted owners i xs all same viewed so_far =
    so_far ∙ ap (map (λ (e : Entries). e.ppn)) (take_all i xs all ∙ same) ∙ owners_viewed sorted
    ∙ ap (map (λ (e : SpecMasterEntry). e.0)) viewed

pub owners_are : (s : DiskState) (k : CurrentMap) (files : Files File) → Holds s k files → (owners : List ℕ)
    → owners ≡ keys (from_entries {R = nat_cmp} k.master.entries) → owners ≡ keys files
owners_are s k files holds owners is =
    is ∙ ap keys (sym holds.held.known.names) ∙ keys-map_values nat_cmp_total entry_of holds.map.directories
    ∙ sym (keys-map_values nat_cmp_total directory_of holds.map.directories) ∙ ap keys holds.files_are

pub if_ok_on : {T E : Type 0} {P Q : T → Type 0} (result : Result T E) → ((x : T) → P x → Q x) → IfOk result P
    → IfOk result Q
if_ok_on (Ok x) on is = on x is
if_ok_on (Err e) on is = tt
