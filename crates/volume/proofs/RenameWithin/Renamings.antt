-- A file gets another name in its directory in memory: what each step requires, and the whole of it from what each did.
use Rattle.std.proofs.Common.{◌≡◌, ℕ, zero, suc, ◌≤◌, ◌⊎◌, ◌==◌, ◌&&◌, inl, inr, Bool, true, false, List, [], ◌∷◌}
use Rattle.std.proofs.Common.{map, filter_map, length, slice_get, slice_set, Option, Some, None, IfSome, IfNone}
use Rattle.std.proofs.Common.{IsSome, is_some, refl, sym, ap, subst, ◌∙◌, arith}
use Rattle.std.proofs.lemmas.Bool.Decides.{nat_tests}
use Rattle.std.specs.List.{AllZip}
use Rattle.std.specs.Ordering.{nat_cmp}
use Rattle.std.specs.FinMap.Entries.{find}
use Rattle.words36.specs.declared.names.FileName.{FileName}
use Rattle.changeset.specs.Common.{replaced}
use Rattle.spec_image.specs.declared.put.Put.{Put}
use Rattle.spec_image.specs.Common.{SpecFileEntry, file_words, IsFileEntry, name_cmp, insert, remove, from_entries}
use Rattle.spec_image.proofs.Common.{some_same, some_none}
use Rattle.directory.specs.Common.{IsChain, viewed, StandsAt, PutsChain, renamed}
use Rattle.retrieval.specs.Common.{IsRewritten}
use Rattle.retrieval.specs.declared.prime.Prime.{Prime}
use Rattle.volume.specs.declared.live.LiveDirectory.{LiveDirectory}
use Rattle.volume.specs.declared.live.LiveMap.{LiveMap}
use Rattle.volume.specs.declared.live.LiveVersion.{LiveVersion}
use Rattle.volume.specs.Common.{IsDirectoryOf, file_view, master_view, CurrentDirectory, IsWholeDirectory, MemoryMap}
use Rattle.volume.specs.Common.{slot, as_known, IsCurrent, IsKeyed, IsWholeMemory, memory_of, known_at, live_directory}
use Rattle.volume.specs.Common.{IsFreeFor, IsPrimeMoved, IsEntryRenamed, MovesWithin, IsKeyOf}
use Rattle.volume.proofs.BeginVersion.Beginnings.{same_directory}
use Rattle.volume.proofs.VolumeStart.FoundDirectories.{mapped_at, zip_at, all_at}
use Rattle.volume.proofs.common.LiveLookups.{as_many}
use Rattle.volume.proofs.common.UsedBlocks.{element_at}
use Rattle.volume.proofs.common.OnePlace.{one_key}
use Rattle.volume.proofs.PublishVersion.Keys.{keys_apart, made_current_directories, made_current_keyed}
use Rattle.volume.proofs.PublishVersion.Keys.{replaced_known, replaced_keyed}
use Rattle.volume.proofs.RenameWithin.Entries.{set_itself, renamed_is, entry_renamed}

pub map_set : {A B : Type 0} (f : A → B) (xs : List A) (i : ℕ) (x : A) → map f (slice_set xs i x)
    ≡ slice_set (map f xs) i (f x)
map_set f [] i x = refl
map_set f (y ∷ xs) zero x = refl
map_set f (y ∷ xs) (suc i) x = ap (λ ys. f y ∷ ys) (map_set f xs i x)

-- One directory, at its place, and a file of it.

module _ (m : LiveMap) (whole : IsWholeMemory m.table.size (memory_of m)) (ppn : ℕ) (name to : FileName) (key : ℕ)
    (file : IsKeyOf (memory_of m) ppn name key)
    (free : (x : CurrentDirectory) → IsDirectoryOf (memory_of m) ppn x → IsFreeFor x name to)
    (place : ℕ) (w : ℕ × ℕ) (stands : StandsAt nat_cmp (map master_view m.master.entries) ppn w place)
    (d : LiveDirectory) (at : slice_get m.directories.items place ≡ Some d) where
  abbrev c : MemoryMap
  c = memory_of m

  abbrev dk : CurrentDirectory
  dk = live_directory m.versions.slots d

  abbrev u : LiveVersion
  u = file.version

  known_here : slice_get c.known.directories place ≡ Some dk
  known_here = mapped_at (live_directory m.versions.slots) m.directories.items place d at

  keys_here : slice_get c.keys place ≡ Some d.keys.items
  keys_here = mapped_at (λ (x : LiveDirectory). x.keys.items) m.directories.items place d at

  keyed_here : IsKeyed c.live dk d.keys.items
  keyed_here =
      let pair = zip_at (IsKeyed c.live) c.known.directories c.keys place d.keys.items whole.keyed keys_here in
      subst (λ (x : CurrentDirectory). IsKeyed c.live x d.keys.items) (some_same (sym pair.1 ∙ known_here)) pair.2

  whole_here : IsWholeDirectory m.table.size dk
  whole_here = all_at (IsWholeDirectory m.table.size) c.known.directories place dk whole.map.each known_here

  same_here : file.directory ≡ dk
  same_here = same_directory m.table.size c ppn place w file.directory dk whole
      (file.place, file.word, file.there, file.directory_at) stands.is known_here

  named : StandsAt name_cmp dk.chain.entries name u.at file.index
  named = subst (λ (n : ℕ). StandsAt name_cmp dk.chain.entries name n file.index) (sym file.prime_is)
      (subst (λ (x : CurrentDirectory). StandsAt name_cmp x.chain.entries name file.prime file.index) same_here file.at)

  version_at : slice_get dk.versions file.index ≡ Some (as_known u)
  version_at = ap (λ (x : CurrentDirectory). slice_get x.versions file.index) (sym same_here) ∙ file.known

  free_here : IsFreeFor dk name to
  free_here = free dk (place, w, stands, known_here)

  pub renames_there : IsSome (find name_cmp name (map file_view d.chain.entries))
  renames_there = subst IsSome (sym named.found) refl

  pub renames_free : (new : FileName) → new ≡ to
      → (name ≡ new) ⊎ (find name_cmp new (map file_view d.chain.entries) ≡ None)
  renames_free new is = by free_here
    where
      by : IsFreeFor dk name to → (name ≡ new) ⊎ (find name_cmp new (map file_view d.chain.entries) ≡ None)
      by (inl same) = inl (sym (is ∙ same))
      by (inr none) = inr (ap (λ (q : FileName). find name_cmp q (map file_view d.chain.entries)) is ∙ none)

  -- the entry's key is that of the file's version
  key_at : slice_get d.keys.items file.index ≡ Some key
  key_at =
      let many = as_many c.live dk.chain.entries d.keys.items keyed_here in
      let within = named.within in
      let k = element_at d.keys.items file.index (omega arith) in
      let pair = zip_at (λ (e : SpecFileEntry) (n : ℕ). IsCurrent c.live n e.1) dk.chain.entries d.keys.items
      file.index k.0 keyed_here k.1 in
      let entry : pair.0 ≡ (name, u.at) = some_same (sym pair.1 ∙ named.is) in
      let current = pair.2 in
      let same : k.0 ≡ key = one_key m.table.size c whole k.0 key current.version u current.there file.here
      current.current file.current (current.at ∙ ap (λ (e : SpecFileEntry). e.1) entry) in
      k.1 ∙ ap Some same

  only : (j : ℕ) → slice_get d.keys.items j ≡ Some key → j ≡ file.index
  only j is = sym (keys_apart m.table.size c whole place file.index place j d.keys.items d.keys.items key keys_here
      key_at
      keys_here is).1

  -- With the entry renamed, and the version's prime another.
  module _ (d' : LiveDirectory) (new : FileName) (prime_at : ℕ) (new_is : new ≡ to) (prime_at_is : prime_at ≡ u.at)
      (items : map file_view d'.chain.entries ≡ renamed name_cmp (map file_view d.chain.entries) name (new, prime_at))
      (names : from_entries {R = name_cmp} (map file_view d'.chain.entries)
      ≡ insert (remove (from_entries (map file_view d.chain.entries)) name) new prime_at)
      (blocks : d'.chain.blocks ≡ d.chain.blocks) (keys : d'.keys.items ≡ d.keys.items)
      (chain : IsChain name_cmp IsFileEntry (viewed file_view d'.chain))
      (set : List Put) (put_chain : PutsChain file_words (viewed file_view d.chain) (viewed file_view d'.chain) [] set)
      (few : length set ≤ 1) (protection : ℕ) (prime : Prime) (prime_is : IsPrimeMoved u.prime prime ppn to protection)
      (words anew : List ℕ) (rewritten : IsRewritten words anew prime)
      (m' : LiveMap) (puts : List Put) (puts_are : puts ≡ replaced (record { block = u.at; words = anew }) set)
      (master : m'.master ≡ m.master)
      (directories : m'.directories.items ≡ slice_set m.directories.items place d')
      (pending : m'.pending ≡ m.pending) (table : m'.table ≡ m.table)
      (here : slot m'.versions.slots key ≡ Some (record u { prime = prime }))
      (others : (j : ℕ) → (j ≡ key → ⊥) → slot m'.versions.slots j ≡ slot m.versions.slots j) where
    abbrev v : LiveVersion
    v = record u { prime = prime }

    items_are : map file_view d'.chain.entries ≡ renamed name_cmp (map file_view d.chain.entries) name (to, u.at)
    items_are = items ∙ (λ i. renamed name_cmp (map file_view d.chain.entries) name (new_is i, prime_at_is i))

    names_are : from_entries {R = name_cmp} (map file_view d'.chain.entries)
        ≡ insert (remove (from_entries (map file_view d.chain.entries)) name) to u.at
    names_are = names
        ∙ (λ i. insert (remove (from_entries (map file_view d.chain.entries)) name) (new_is i) (prime_at_is i))

    set_is : map file_view d'.chain.entries ≡ slice_set (map file_view d.chain.entries) file.index (to, u.at)
    set_is = items_are ∙ renamed_is (map file_view d.chain.entries) file.index name u.at (to, u.at) named

    kept : d.keys.items ≡ slice_set d.keys.items file.index key
    kept = sym (set_itself d.keys.items file.index key key_at)

    stay : (j : ℕ) (x : LiveVersion) → slot m.versions.slots j ≡ Some x → (j ≡ key → ⊥)
        → slot m'.versions.slots j ≡ Some x
    stay j x there other = others j other ∙ there

    known : live_directory m'.versions.slots d'
        ≡ record { chain = viewed file_view d'.chain; versions = slice_set dk.versions file.index (as_known v) }
    known =
        let versions = ap (filter_map (known_at m'.versions.slots)) (keys ∙ kept)
        ∙ replaced_known m.versions.slots m'.versions.slots d.keys.items dk.chain.entries file.index key (key, u) v
        keyed_here only here stay in
        λ j. record { chain = viewed file_view d'.chain; versions = versions j }

    keyed : IsKeyed m'.versions.slots (live_directory m'.versions.slots d') d'.keys.items
    keyed =
        subst (λ es. AllZip (λ e j. IsCurrent m'.versions.slots j e.1) es d'.keys.items) (sym set_is)
        (subst (AllZip (λ e j. IsCurrent m'.versions.slots j e.1)
        (slice_set (map file_view d.chain.entries) file.index (to, u.at))) (sym (keys ∙ kept))
        (replaced_keyed m.versions.slots m'.versions.slots d.keys.items dk.chain.entries file.index key (key, u) v
        keyed_here only here stay (to, u.at) refl file.current))

    entered : map (live_directory m'.versions.slots) (slice_set m.directories.items place d')
        ≡ slice_set c.known.directories place (live_directory m'.versions.slots d')
    entered = made_current_directories m.table.size m whole m'.versions.slots place d d' at (Some (key, u))
        (file.index, key_at) stay

    same_keys : map (λ (x : LiveDirectory). x.keys.items) (slice_set m.directories.items place d') ≡ c.keys
    same_keys = map_set (λ (x : LiveDirectory). x.keys.items) m.directories.items place d'
        ∙ set_itself c.keys place d'.keys.items (keys_here ∙ ap Some (sym keys))

    pub moves_within : MovesWithin m.table.size c (memory_of m') ppn name to protection key u words puts
    moves_within = record {
      prime = prime;
      prime_is = prime_is;
      moved = record {
        place = place;
        word = w;
        there = stands;
        directory = dk;
        directory' = live_directory m'.versions.slots d';
        directory_at = known_here;
        master = ap (viewed master_view) master;
        directories = ap (map (live_directory m'.versions.slots)) directories ∙ entered;
        entry = subst (λ (x : CurrentDirectory). IsEntryRenamed dk x name to (u.at, as_known u) (as_known v))
            (sym known)
            (entry_renamed m.table.size dk (viewed file_view d'.chain) name to u.at file.index (as_known u) (as_known v)
            whole_here named version_at free_here refl items_are blocks chain names_are);
        chain_puts = set;
        put_chain = put_chain;
        few = few;
        table = table;
        anew = anew;
        rewritten = rewritten;
        puts_are = puts_are;
      };
      pending = ap (λ s. s.slots) pending;
      keys = ap (map (λ (x : LiveDirectory). x.keys.items)) directories ∙ same_keys;
      there = file.here;
      current = file.current;
      here = here;
      others = others;
      keyed =
          subst (λ ds. AllZip (IsKeyed m'.versions.slots) (map (live_directory m'.versions.slots) ds)
          (map (λ x. x.keys.items) ds)) (sym directories)
          (subst (λ ds. AllZip (IsKeyed m'.versions.slots) ds
          (map (λ x. x.keys.items) (slice_set m.directories.items place d')))
          (sym entered)
          (made_current_keyed m.table.size m whole m'.versions.slots place d d' at (Some (key, u))
          (file.index, key_at) stay keyed));
    }

-- What has the new name.

module _ (m : LiveMap) (whole : IsWholeMemory m.table.size (memory_of m)) (ppn place : ℕ) (w : ℕ × ℕ)
    (stands : StandsAt nat_cmp (map master_view m.master.entries) ppn w place)
    (d : LiveDirectory) (at : slice_get m.directories.items place ≡ Some d) where
  -- the directory is the one at its place
  one_directory : (x : CurrentDirectory) → IsDirectoryOf (memory_of m) ppn x → x ≡ live_directory m.versions.slots d
  one_directory x there = same_directory m.table.size (memory_of m) ppn place w x (live_directory m.versions.slots d)
      whole
      there stands.is (mapped_at (live_directory m.versions.slots) m.directories.items place d at)

  pub name_free : (to : FileName) (found : Option ℕ) → is_some found ≡ false
      → IfNone found (find name_cmp to (map file_view d.chain.entries) ≡ None) → (x : CurrentDirectory)
      → IsDirectoryOf (memory_of m) ppn x → find name_cmp to x.chain.entries ≡ None
  name_free to None none absent x there =
      ap (λ (y : CurrentDirectory). find name_cmp to y.chain.entries) (one_directory x there) ∙ absent
  name_free to (Some i) none absent x there = cc

  pub name_taken : (to : FileName) (found : Option ℕ) → is_some found ≡ true
      → IfSome found (λ i. (v : ℕ) × StandsAt name_cmp (map file_view d.chain.entries) to v i) → (x : CurrentDirectory)
      → IsDirectoryOf (memory_of m) ppn x → find name_cmp to x.chain.entries ≡ None → ⊥
  name_taken to None some stands_at x there none = cc
  name_taken to (Some i) some stands_at x there none =
      some_none (sym stands_at.1.found
      ∙ sym (ap (λ (y : CurrentDirectory). find name_cmp to y.chain.entries) (one_directory x there)) ∙ none)

-- names that differ in their words
pub names_differ : (a b : FileName) → false ≡ ((a.name == b.name) && (a.ext == b.ext)) → a ≡ b → ⊥
names_differ a b differ same = by (b.name == b.name) (b.ext == b.ext) (itself b.name) (itself b.ext)
    (differ ∙ ap (λ (x : FileName). (x.name == b.name) && (x.ext == b.ext)) same)
  where
    itself : (n : ℕ) → (n == n) ≡ true
    itself n = grind (arith, nat_tests)

    by : (x y : Bool) → x ≡ true → y ≡ true → false ≡ (x && y) → ⊥
    by x y p q differs = let both : (x && y) ≡ true = λ i. p i && q i in let apart : false ≡ true = differs ∙ both in cc

-- The version under a key.

slot_set : (slots : List (Option LiveVersion)) (key : ℕ) (u : LiveVersion) (o : Option LiveVersion)
    → slot slots key ≡ Some u → slot (slice_set slots key o) key ≡ o
slot_set [] key u o there = absurd (some_none (sym there))
slot_set (x ∷ slots) zero u o there = refl
slot_set (x ∷ slots) (suc key) u o there = slot_set slots key u o there

pub slot_moved : (slots : List (Option LiveVersion)) (key : ℕ) (u v : LiveVersion) (prime : Prime)
    → Some u ≡ slot slots key → u ≡ v
    → slot (slice_set slots key (Some (record u { prime = prime }))) key ≡ Some (record v { prime = prime })
slot_moved slots key u v prime there same =
    slot_set slots key u (Some (record u { prime = prime })) (sym there)
    ∙ ap (λ (x : LiveVersion). Some (record x { prime = prime })) same
