-- A file moves to another directory in memory: what each step requires, and the whole of it from what each step did.
use Rattle.std.proofs.Common.{◌≡◌, ℕ, zero, suc, ◌+◌, ◌-◌, ◌<◌, ◌≤◌, ⊎_elim, true, false, List, [], ◌∷◌, ◌++◌, map}
use Rattle.std.proofs.Common.{filter_map, length, replicate, slice_get, slice_set, Option, Some, None, IsSome}
use Rattle.std.proofs.Common.{option_map, refl, sym, ap, subst, ◌∙◌, arith}
use Rattle.std.proofs.lemmas.Bool.Decides.{nat_tests}
use Rattle.std.proofs.lemmas.List.{length-map, length-set}
use Rattle.std.proofs.lemmas.Option.{slice_get_within}
use Rattle.std.specs.List.{AllByRecursion, AllZip}
use Rattle.std.specs.Ordering.{nat_cmp}
use Rattle.std.specs.FinMap.Entries.{find}
use Rattle.blockdisk.specs.Common.{Contents}
use Rattle.words36.specs.declared.names.FileName.{FileName}
use Rattle.changeset.specs.Common.{replaced, length-replaced}
use Rattle.spec_image.specs.declared.put.Put.{Put}
use Rattle.spec_image.specs.Common.{directory_cost, SpecFileEntry, InSpace, name_cmp, IsTarget, targets, with_puts}
use Rattle.spec_image.specs.Common.{total}
use Rattle.spec_image.specs.Common.{times, insert, from_entries, table_blocks, growth}
use Rattle.spec_image.proofs.Common.{some_same, some_none, all_times}
use Rattle.alloctab.specs.Common.{IsChangedBlock, SpellsTable, sound-unchanged, changed_blocks-le-most, TableState}
use Rattle.alloctab.specs.Common.{IsTable, bit, holds, space, changed_blocks}
use Rattle.directory.specs.Common.{viewed, StandsAt, inserted}
use Rattle.retrieval.specs.Common.{IsRewritten}
use Rattle.retrieval.specs.declared.prime.Prime.{Prime}
use Rattle.volume.specs.declared.live.LiveDirectory.{LiveDirectory}
use Rattle.volume.specs.declared.live.LiveMap.{LiveMap}
use Rattle.volume.specs.declared.live.LiveVersion.{LiveVersion}
use Rattle.volume.specs.Common.{entries_with, IsDirectoryOf, file_view, master_view, CurrentDirectory, IsWholeDirectory}
use Rattle.volume.specs.Common.{MemoryMap, slot, as_known, creates, IsCurrent, IsKeyed, IsWholeMemory, memory_of}
use Rattle.volume.specs.Common.{known_at, live_directory, PutsTable, IsPrimeMoved, MovesAcross, Arrives}
use Rattle.volume.specs.Common.{MayGiveUpEntry, GivesUpEntry, entries_there, IsKeyOf, Marks, IsEntryPut}
use Rattle.volume.specs.Common.{IsEntryRemoved}
use Rattle.volume.proofs.RenameAcross.Arrivals.{known_here, keys_here, whole_here, directory_here, as_many_keys}
use Rattle.volume.proofs.RenameAcross.Arrivals.{entries_fit}
use Rattle.volume.proofs.BeginVersion.Beginnings.{same_directory}
use Rattle.volume.proofs.common.BlockLists.{marks_then}
use Rattle.volume.proofs.VolumeStart.FoundDirectories.{mapped_at}
use Rattle.volume.proofs.common.VersionKeys.{filter_map_push}
use Rattle.volume.proofs.common.Lookups.{zip_behind}
use Rattle.volume.proofs.PublishVersion.StepPremises.{part_of}
use Rattle.volume.proofs.common.Tables.{puts_marked}
use Rattle.volume.proofs.common.OnePlace.{one_key}
use Rattle.volume.proofs.PublishVersion.Entries.{inserted_new, entry_added}
use Rattle.volume.proofs.PublishVersion.Keys.{StayIn, mapped_alike, mapped_set, pair_at, pairs_of, kept_keyed}
use Rattle.volume.proofs.PublishVersion.Keys.{kept_known, keys_apart}
use Rattle.volume.proofs.common.Lists.{set_cases}
use Rattle.volume.proofs.PutWords.Memory.{chains_within}
use Rattle.volume.proofs.DeleteFile.Removals.{had, removes_there, cost_of_last}
use Rattle.volume.proofs.DeleteFile.Entries.{removed_known, removed_keyed, entry_removed}
use Rattle.volume.proofs.common.HoleLists.{hole, hole_is, removed_is}

-- two elements change, and each one except that at the second place is seen as before
mapped_two : {A B : Type 0} (f g : A → B) (xs : List A) (i j : ℕ) (x y : A)
    → ((k : ℕ) (z : A) → slice_get xs k ≡ Some z → (k ≡ j → ⊥) → f z ≡ g z)
    → map f (slice_set (slice_set xs i x) j y) ≡ slice_set (slice_set (map g xs) i (f x)) j (f y)
mapped_two f g [] i j x y same = refl
mapped_two f g (z ∷ xs) zero zero x y same = ap (λ zs. f y ∷ zs)
    (mapped_alike f g xs (λ k w is. same (suc k) w is (λ e. omega arith)))
mapped_two f g (z ∷ xs) zero (suc j) x y same = ap (λ zs. f x ∷ zs)
    (mapped_set f g xs j y (λ k w is other. same (suc k) w is (λ e. other (omega arith))))
mapped_two f g (z ∷ xs) (suc i) zero x y same = ap (λ zs. f y ∷ zs)
    (mapped_set f g xs i x (λ k w is other. same (suc k) w is (λ e. omega arith)))
mapped_two f g (z ∷ xs) (suc i) (suc j) x y same =
    let here = same 0 z refl (λ e. omega arith) in
    let rest = mapped_two f g xs i j x y (λ k w is other. same (suc k) w is (λ e. other (omega arith))) in
    λ k. here k ∷ rest k

-- any directory costs a block
costs_one : (n : ℕ) → 1 ≤ directory_cost n
costs_one n = grind (arith, nat_tests)

-- The file has arrived.

module _ (m m1 : LiveMap) (whole : IsWholeMemory m.table.size (memory_of m)) (ppn : ℕ) (name : FileName) (to_ppn : ℕ)
    (to : FileName) (key : ℕ) (file : IsKeyOf (memory_of m) ppn name key) (apart : to_ppn ≡ ppn → ⊥) (set1 : List Put)
    (arrives : Arrives m m1 to_ppn to key set1) where
  abbrev c : MemoryMap
  c = memory_of m

  abbrev u : LiveVersion
  u = file.version

  pub leaves_there : find nat_cmp ppn (map master_view m1.master.entries) ≡ None → ⊥
  leaves_there none = some_none (sym file.there.found
      ∙ ap (λ x. find nat_cmp ppn (map master_view x.entries)) (sym arrives.master) ∙ none)

  pub leaves_aligned : length m1.directories.items ≡ length m1.master.entries
  leaves_aligned =
      let set = ap (λ (ds : List LiveDirectory). length ds) arrives.directories
      ∙ length-set m.directories.items arrives.place arrives.directory' in
      let master = ap (λ x. length x.entries) arrives.master in
      let aligned = whole.map.aligned in
      let a = length-map m.directories.items (live_directory m.versions.slots) in
      let b = length-map m.master.entries master_view in
      omega arith

  -- it is another directory that the file leaves
  other_place : (place : ℕ) (w : ℕ × ℕ) → StandsAt nat_cmp (map master_view m.master.entries) ppn w place
      → place ≡ arrives.place → ⊥
  other_place place w stands same =
      let both : (to_ppn, arrives.word) ≡ (ppn, w) = some_same (sym arrives.there.is
      ∙ ap (slice_get (map master_view m.master.entries)) (sym same) ∙ stands.is) in
      apart (ap (λ (x : ℕ × (ℕ × ℕ)). x.0) both)

  stood_there : (place : ℕ) (w : ℕ × ℕ) → StandsAt nat_cmp (map master_view m1.master.entries) ppn w place
      → StandsAt nat_cmp (map master_view m.master.entries) ppn w place
  stood_there place w = subst (λ x. StandsAt nat_cmp (map master_view x.entries) ppn w place) arrives.master

  was_at : (place : ℕ) (d : LiveDirectory) → (place ≡ arrives.place → ⊥) → slice_get m1.directories.items place ≡ Some d
      → slice_get m.directories.items place ≡ Some d
  was_at place d other is = ⊎_elim (λ here. absurd (other here.0)) (λ there. there.1)
      (set_cases m.directories.items arrives.place place arrives.directory' d
      (ap (λ (ds : List LiveDirectory). slice_get ds place) (sym arrives.directories) ∙ is))

  pub may_leave : (d : LiveDirectory) (place : ℕ) (w : ℕ × ℕ)
      → StandsAt nat_cmp (map master_view m1.master.entries) ppn w place
      → slice_get m1.directories.items place ≡ Some d → MayGiveUpEntry m1 d ppn name
  may_leave d place w stands1 at1 =
      let stands = stood_there place w stands1 in
      let at = was_at place d (other_place place w stands) at1 in
      let fits = entries_fit m whole ppn place w stands d at in
      let known = known_here m whole ppn place w stands d at in
      record {
        named = removes_there m whole ppn name place w stands d at (key, file);
        aligned = as_many_keys m whole ppn place w stands d at;
        few = let same = ap (λ s. total (creates ppn) s.slots) arrives.pending in omega arith;
        set = λ n.
            let part = part_of (λ (x : CurrentDirectory). times n x.chain.blocks) c.known.directories place
            (live_directory m.versions.slots d) known in
            let chains = chains_within n c.known.directories in
            let bits = whole.map.bits n in
            let more = arrives.bits n in
            omega arith;
      }

  pub some_booked : 0 < m1.table.booked
  some_booked =
      let one = costs_one (length c.known.master.entries) in
      let counted = whole.map.chain.counted in
      let booked = whole.booked in
      let more = arrives.booked in
      omega arith

  -- It has left.

  module _ (m2 : LiveMap) (set2 : List Put) (leaves : GivesUpEntry m1 m2 ppn name set1 set2) where
    same_live : m2.versions.slots ≡ m.versions.slots
    same_live = ap (λ s. s.slots) leaves.versions ∙ ap (λ s. s.slots) arrives.versions

    pub moves_there : IsSome (slot m2.versions.slots key)
    moves_there = subst IsSome (sym (ap (λ l. slot l key) same_live ∙ file.here)) refl

    pub moves_here : slot m2.versions.slots key ≡ Some u
    moves_here = ap (λ l. slot l key) same_live ∙ file.here

    pub moves_few : length set2 ≤ 4
    moves_few = let one = arrives.few in let two = leaves.few in omega arith

    stands : StandsAt nat_cmp (map master_view m.master.entries) ppn leaves.word leaves.place
    stands = stood_there leaves.place leaves.word leaves.there

    at : slice_get m.directories.items leaves.place ≡ Some leaves.directory
    at = was_at leaves.place leaves.directory (other_place leaves.place leaves.word stands) leaves.directory_at

    abbrev dk : CurrentDirectory
    dk = live_directory m.versions.slots leaves.directory

    abbrev ek : CurrentDirectory
    ek = live_directory m.versions.slots arrives.directory

    known_source : slice_get c.known.directories leaves.place ≡ Some dk
    known_source = known_here m whole ppn leaves.place leaves.word stands leaves.directory at

    -- The entry that went was that of the file's version.

    same_source : file.directory ≡ dk
    same_source = same_directory m.table.size c ppn leaves.place leaves.word file.directory dk whole
        (file.place, file.word, file.there, file.directory_at) stands.is known_source

    was : (x : LiveVersion) × (slot m.versions.slots leaves.key ≡ Some x) × (x.is_current ≡ true) × (x.at ≡ leaves.at)
        × (slice_get dk.versions leaves.index ≡ Some (as_known x))
    was = had m whole ppn name leaves.place leaves.word stands leaves.directory at leaves.index leaves.at leaves.key
        leaves.stood leaves.key_at

    prime_was : u.at ≡ leaves.at
    prime_was = file.prime_is ∙ some_same (sym file.at.found
        ∙ ap (λ (x : CurrentDirectory). find name_cmp name x.chain.entries) same_source ∙ leaves.stood.found)

    same_key : leaves.key ≡ key
    same_key = one_key m.table.size c whole leaves.key key was.0 u was.1 file.here was.2 file.current
        (was.3 ∙ sym prime_was)

    same_version : was.0 ≡ u
    same_version = some_same (sym was.1 ∙ ap (slot m.versions.slots) same_key ∙ file.here)

    key_there : slice_get leaves.directory.keys.items leaves.index ≡ Some key
    key_there = leaves.key_at ∙ ap Some same_key

    keys_source : slice_get c.keys leaves.place ≡ Some leaves.directory.keys.items
    keys_source = keys_here m whole ppn leaves.place leaves.word stands leaves.directory at

    -- its key occurs only there
    only : (j : ℕ) → slice_get leaves.directory.keys.items j ≡ Some key → j ≡ leaves.index
    only j is = sym (keys_apart m.table.size c whole leaves.place leaves.index leaves.place j
        leaves.directory.keys.items leaves.directory.keys.items key keys_source key_there keys_source is).1

    not_elsewhere : (other j : ℕ) (x : LiveDirectory) → slice_get m.directories.items other ≡ Some x
        → (other ≡ leaves.place → ⊥) → slice_get x.keys.items j ≡ Some key → ⊥
    not_elsewhere other j x is far here = far (sym (keys_apart m.table.size c whole leaves.place leaves.index other j
        leaves.directory.keys.items x.keys.items key keys_source key_there
        (mapped_at (λ (y : LiveDirectory). y.keys.items) m.directories.items other x is) here).0)

    target_apart : arrives.place ≡ leaves.place → ⊥
    target_apart same = other_place leaves.place leaves.word stands (sym same)

    -- The prime block is put.

    module _ (words anew : List ℕ) (set3 : List Put)
        (set_is : set3 ≡ replaced (record { block = u.at; words = anew }) set2) where
      pub changes_many : length set3 + changed_blocks m2.table ≤ 37
      changes_many =
          let most = changed_blocks-le-most m2.table leaves.marks.sound in
          let one = ap (λ (l : List Put). length l) set_is in
          let more = length-replaced (record { block = u.at; words = anew }) set2 in
          let few = moves_few in
          omega arith

      -- And the table's blocks that changed.
      module _ (protection : ℕ) (prime : Prime) (prime_is : IsPrimeMoved u.prime prime to_ppn to protection)
          (rewritten : IsRewritten words anew prime)
          (free : (x : CurrentDirectory) → IsDirectoryOf c to_ppn x → find name_cmp to x.chain.entries ≡ None)
          (room : (x : CurrentDirectory) → IsDirectoryOf c to_ppn x → 0 < growth (entries_with c x to_ppn)
          → m.table.booked + growth (entries_with c x to_ppn) ≤ space m.table.size)
          (m' : LiveMap) (puts : List Put) (master : m'.master ≡ m2.master)
          (directories : m'.directories ≡ m2.directories) (pending : m'.pending ≡ m2.pending)
          (table : m'.table ≡ record m2.table { changed = replicate (table_blocks m2.table.size) false })
          (others_put : (x : Contents) (n : ℕ) → (IsChangedBlock m2.table n → ⊥)
          → with_puts puts x n ≡ with_puts set3 x n)
          (spells : (x : Contents) → SpellsTable m2.table (with_puts set3 x) (with_puts puts x))
          (in_range : AllByRecursion (IsTarget m2.table.size) (targets set3)
          → AllByRecursion (IsTarget m2.table.size) (targets puts))
          (few_table : length puts ≤ length set3 + changed_blocks m2.table)
          (here : slot m'.versions.slots key ≡ Some (record u { prime = prime }))
          (others2 : (k : ℕ) → (k ≡ key → ⊥) → slot m'.versions.slots k ≡ slot m2.versions.slots k) where
        abbrev live : List (Option LiveVersion)
        live = m.versions.slots

        abbrev live' : List (Option LiveVersion)
        live' = m'.versions.slots

        abbrev v : LiveVersion
        v = record u { prime = prime }

        others : (k : ℕ) → (k ≡ key → ⊥) → slot live' k ≡ slot live k
        others k other = others2 k other ∙ ap (λ l. slot l k) same_live

        -- other directories have the versions that they had
        stay_in : (j : ℕ) (x : LiveDirectory) → slice_get m.directories.items j ≡ Some x → (j ≡ leaves.place → ⊥)
            → StayIn live live' x.keys.items
        stay_in j x is far i k y key_is there = others k
            (λ same. not_elsewhere j i x is far (key_is ∙ ap Some same)) ∙ there

        keyed_at : (j : ℕ) (x : LiveDirectory) → slice_get m.directories.items j ≡ Some x
            → IsKeyed live (live_directory live x) x.keys.items
        keyed_at j x is = pair_at (IsKeyed live) (live_directory live) (λ (y : LiveDirectory). y.keys.items)
            m.directories.items j x whole.keyed is

        directories_are : m'.directories.items ≡ slice_set (slice_set m.directories.items arrives.place
            arrives.directory') leaves.place leaves.directory'
        directories_are = ap (λ ds. ds.items) directories ∙ leaves.directories
            ∙ ap (λ (ds : List LiveDirectory). slice_set ds leaves.place leaves.directory') arrives.directories

        -- The directory that it comes to.

        target_known : slice_get c.known.directories arrives.place ≡ Some ek
        target_known = known_here m whole to_ppn arrives.place arrives.word arrives.there arrives.directory
            arrives.directory_at

        target_there : IsDirectoryOf c to_ppn ek
        target_there = directory_here m whole to_ppn arrives.place arrives.word arrives.there arrives.directory
            arrives.directory_at

        target_whole : IsWholeDirectory m.table.size ek
        target_whole = whole_here m whole to_ppn arrives.place arrives.word arrives.there arrives.directory
            arrives.directory_at

        target_keyed : IsKeyed live ek arrives.directory.keys.items
        target_keyed = keyed_at arrives.place arrives.directory arrives.directory_at

        target_stay : StayIn live live' arrives.directory.keys.items
        target_stay = stay_in arrives.place arrives.directory arrives.directory_at target_apart

        prime_at : arrives.at ≡ u.at
        prime_at = arrives.at_is u file.here

        items_are : map file_view arrives.directory'.chain.entries
            ≡ inserted name_cmp (map file_view arrives.directory.chain.entries) (to, u.at)
        items_are = arrives.items
            ∙ ap (λ (n : ℕ). inserted name_cmp (map file_view arrives.directory.chain.entries) (to, n)) prime_at

        pushed : map file_view arrives.directory'.chain.entries
            ≡ map file_view arrives.directory.chain.entries ++ (to, u.at) ∷ []
        pushed = items_are ∙ inserted_new (map file_view arrives.directory.chain.entries) (to, u.at)
            (free ek target_there)

        target_now : live_directory live' arrives.directory'
            ≡ record { chain = viewed file_view arrives.directory'.chain; versions = ek.versions ++ as_known v ∷ [] }
        target_now =
            let versions = ap (filter_map (known_at live')) arrives.keys
            ∙ filter_map_push (known_at live') arrives.directory.keys.items key (as_known v)
            (ap (option_map as_known) here)
            ∙ ap (λ vs. vs ++ as_known v ∷ [])
            (kept_known live live' ek.chain.entries arrives.directory.keys.items target_keyed target_stay) in
            λ i. record { chain = viewed file_view arrives.directory'.chain; versions = versions i }

        entered : IsEntryPut ek (live_directory live' arrives.directory') to u.at (as_known v) None
        entered = subst (λ (x : CurrentDirectory). IsEntryPut ek x to u.at (as_known v) None) (sym target_now)
            (entry_added m.table.size ek (viewed file_view arrives.directory'.chain) to u.at (as_known v) target_whole
            (free ek target_there) items_are arrives.chain (arrives.names
            ∙ ap (λ (n : ℕ). insert (from_entries (map file_view arrives.directory.chain.entries)) to n) prime_at))

        target_keyed' : IsKeyed live' (live_directory live' arrives.directory') arrives.directory'.keys.items
        target_keyed' =
            subst (λ es. AllZip (λ e j. IsCurrent live' j e.1) es arrives.directory'.keys.items) (sym pushed)
            (subst (AllZip (λ e j. IsCurrent live' j e.1)
            (map file_view arrives.directory.chain.entries ++ (to, u.at) ∷ [])) (sym arrives.keys)
            (zip_behind (λ (e : SpecFileEntry) (j : ℕ). IsCurrent live' j e.1)
            (map file_view arrives.directory.chain.entries) arrives.directory.keys.items (to, u.at) key
            (kept_keyed live live' ek.chain.entries arrives.directory.keys.items target_keyed target_stay)
            (record { version = v; there = here; at = refl; current = file.current })))

        -- The one that it leaves.

        source_whole : IsWholeDirectory m.table.size dk
        source_whole = whole_here m whole ppn leaves.place leaves.word stands leaves.directory at

        source_keyed : IsKeyed live dk leaves.directory.keys.items
        source_keyed = keyed_at leaves.place leaves.directory at

        holed : leaves.directory'.keys.items ≡ hole leaves.index leaves.directory.keys.items
        holed = leaves.keys ∙ sym (hole_is leaves.directory.keys.items leaves.index
            (slice_get_within leaves.directory.keys.items leaves.index key key_there))

        set_out : map file_view leaves.directory'.chain.entries
            ≡ hole leaves.index (map file_view leaves.directory.chain.entries)
        set_out = leaves.items
            ∙ removed_is (map file_view leaves.directory.chain.entries) leaves.index name leaves.at leaves.stood

        source_now : live_directory live' leaves.directory'
            ≡ record { chain = viewed file_view leaves.directory'.chain; versions = hole leaves.index dk.versions }
        source_now =
            let versions = ap (filter_map (known_at live')) holed
            ∙ removed_known live live' dk.chain.entries leaves.directory.keys.items leaves.index key source_keyed
            key_there only others in
            λ i. record { chain = viewed file_view leaves.directory'.chain; versions = versions i }

        source_keyed' : IsKeyed live' (live_directory live' leaves.directory') leaves.directory'.keys.items
        source_keyed' =
            subst (λ es. AllZip (λ e j. IsCurrent live' j e.1) es leaves.directory'.keys.items) (sym set_out)
            (subst (AllZip (λ e j. IsCurrent live' j e.1)
            (hole leaves.index (map file_view leaves.directory.chain.entries))) (sym holed)
            (removed_keyed live live' dk.chain.entries leaves.directory.keys.items leaves.index key source_keyed
            key_there only others))

        version_was : slice_get dk.versions leaves.index ≡ Some (as_known u)
        version_was = was.4 ∙ ap (λ (x : LiveVersion). Some (as_known x)) same_version

        taken_out : IsEntryRemoved dk (record {
          chain = viewed file_view leaves.directory'.chain;
          versions = hole leaves.index dk.versions;
        }) name (u.at, as_known u)
        taken_out = subst (λ (n : ℕ). IsEntryRemoved dk (record {
          chain = viewed file_view leaves.directory'.chain;
          versions = hole leaves.index dk.versions;
        }) name (n, as_known u)) (sym prime_was)
            (entry_removed m.table.size dk (viewed file_view leaves.directory'.chain) name leaves.at leaves.index
            (as_known u) source_whole leaves.stood version_was leaves.items leaves.chain leaves.names)

        gone : IsEntryRemoved dk (live_directory live' leaves.directory') name (u.at, as_known u)
        gone = subst (λ (x : CurrentDirectory). IsEntryRemoved dk x name (u.at, as_known u)) (sym source_now) taken_out

        -- All of them.

        same_else : (j : ℕ) (x : LiveDirectory) → slice_get m.directories.items j ≡ Some x → (j ≡ leaves.place → ⊥)
            → live_directory live' x ≡ live_directory live x
        same_else j x is far =
            let versions = kept_known live live' (map file_view x.chain.entries) x.keys.items (keyed_at j x is)
            (stay_in j x is far) in
            λ i. record (live_directory live x) { versions = versions i }

        known_now : map (live_directory live') m'.directories.items
            ≡ slice_set (slice_set c.known.directories arrives.place (live_directory live' arrives.directory'))
            leaves.place (live_directory live' leaves.directory')
        known_now = ap (map (live_directory live')) directories_are
            ∙ mapped_two (live_directory live') (live_directory live) m.directories.items arrives.place leaves.place
            arrives.directory' leaves.directory' same_else

        each_keyed : (j : ℕ) (x : LiveDirectory) → slice_get m'.directories.items j ≡ Some x
            → IsKeyed live' (live_directory live' x) x.keys.items
        each_keyed j x is = ⊎_elim
            (λ source. subst (λ (y : LiveDirectory). IsKeyed live' (live_directory live' y) y.keys.items) (sym source.1)
            source_keyed')
            (λ far. ⊎_elim
            (λ target. subst (λ (y : LiveDirectory). IsKeyed live' (live_directory live' y) y.keys.items) (sym target.1)
            target_keyed')
            (λ old. kept_keyed live live' (map file_view x.chain.entries) x.keys.items (keyed_at j x old.1)
            (stay_in j x old.1 far.0))
            (set_cases m.directories.items arrives.place j arrives.directory' x far.1))
            (set_cases (slice_set m.directories.items arrives.place arrives.directory') leaves.place j
            leaves.directory' x (ap (λ (ds : List LiveDirectory). slice_get ds j) (sym directories_are) ∙ is))

        marks : Marks m.table m2.table
        marks = marks_then m.table m1.table m2.table arrives.marks leaves.marks

        less_is : growth (entries_there m1 leaves.directory' ppn)
            ≡ directory_cost (entries_with c dk ppn) - directory_cost (entries_with c dk ppn - 1)
        less_is = cost_of_last (length dk.chain.entries) (total (creates ppn) c.pending)
            (length (map file_view leaves.directory'.chain.entries)) (growth (entries_there m1 leaves.directory' ppn))
            taken_out.count
            (ap (λ s. growth (length (map file_view leaves.directory'.chain.entries) + total (creates ppn) s.slots))
            arrives.pending)

        pub moves_across : MovesAcross m.table.size c (memory_of m') ppn name to_ppn to protection key u words puts
        moves_across = record {
          prime = prime;
          prime_is = prime_is;
          moved = record {
            place = leaves.place;
            word = leaves.word;
            there = stands;
            directory = dk;
            directory' = live_directory live' leaves.directory';
            directory_at = known_source;
            removed = gone;
            left = leaves.left;
            blocks = leaves.blocks;
            to_place = arrives.place;
            to_word = arrives.word;
            to_there = arrives.there;
            target = ek;
            target' = live_directory live' arrives.directory';
            target_at = target_known;
            entered = entered;
            lies = refl;
            grown = arrives.grown;
            to_blocks = arrives.blocks;
            inside = all_times (InSpace m.table.size) arrives.grown (λ n some. (arrives.free n some).1);
            fresh = arrives.fresh;
            apart = apart;
            master = ap (viewed master_view) (master ∙ leaves.master ∙ arrives.master);
            directories = known_now;
            size_is = ap (λ (t : TableState). t.size) table ∙ marks.size;
            bits = λ n.
                let same = ap (λ (t : TableState). bit t n) table in
                let less = leaves.bits n in
                let more = arrives.bits n in
                omega arith;
            target_puts = set1;
            put_target = arrives.put_chain;
            few_target = arrives.few;
            chain_puts = set2;
            put_chain = leaves.put_chain;
            few = moves_few;
            anew = anew;
            rewritten = rewritten;
            put_table = subst (λ (l : List Put). PutsTable m.table.size m.table m'.table l puts) set_is
                (puts_marked m.table m2.table m'.table set3 puts marks table others_put spells in_range few_table);
          };
          pending = ap (λ s. s.slots) (pending ∙ leaves.pending ∙ arrives.pending);
          there = file.here;
          current = file.current;
          here = here;
          others = others;
          keyed = pairs_of (IsKeyed live') (live_directory live') (λ (x : LiveDirectory). x.keys.items)
              m'.directories.items each_keyed;
          unheld = λ n some. (arrives.free n some).0.unheld;
          held = λ n. ap (λ (t : TableState). holds t n) table ∙ leaves.held n ∙ arrives.held n;
          booked =
              let same = ap (λ (t : TableState). t.booked) table in
              let less = leaves.booked in
              let more = arrives.booked in
              let cost = less_is in
              omega arith;
          room = λ some. room ek target_there some;
          unchanged = ap (λ (t : TableState). t.changed) table
              ∙ ap (λ (n : ℕ). replicate (table_blocks n) false) marks.size;
          sound = subst IsTable (sym table) (sound-unchanged m2.table marks.sound);
        }
