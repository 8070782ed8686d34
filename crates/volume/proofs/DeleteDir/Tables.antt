-- An empty directory is deleted in memory: what each step requires, and the whole of it from what each step did.
use Rattle.std.proofs.Common.{◌≡◌, ℕ, suc, ◌+◌, ◌-◌, ◌<◌, ◌≤◌, false, List, [], ◌++◌, map, length, replicate}
use Rattle.std.proofs.Common.{take, drop, get_or, swap_remove, option_to_list, is_some, Option, Some, None, sym, ap}
use Rattle.std.proofs.Common.{subst, ◌∙◌, arith, length-append}
use Rattle.std.proofs.lemmas.List.{length-map}
use Rattle.std.proofs.lemmas.Option.{slice_get_within}
use Rattle.std.specs.List.{AllByRecursion}
use Rattle.std.specs.Cmp.{nat_cmp_total}
use Rattle.std.specs.Ordering.{nat_cmp}
use mir.Val.{bool_byte}
use Rattle.blockdisk.specs.Common.{Contents}
use Rattle.spec_image.specs.declared.put.Put.{Put}
use Rattle.spec_image.specs.Common.{directory_cost, master_words, IsMasterEntryOf, IsTarget, targets, with_puts}
use Rattle.spec_image.specs.Common.{times, remove, from_entries, table_blocks}
use Rattle.spec_image.proofs.Common.{some_same, times-append, no_length}
use Rattle.alloctab.specs.Common.{IsChangedBlock, SpellsTable, sound-unchanged, TableState, IsTable, bit}
use Rattle.alloctab.specs.Common.{changed_blocks}
use Rattle.directory.specs.declared.master.MasterEntry.{MasterEntry}
use Rattle.directory.specs.Common.{ChainState, IsChain, viewed, PutsChain, removed, last_first}
use Rattle.volume.specs.declared.live.LiveDirectory.{LiveDirectory}
use Rattle.volume.specs.declared.live.LiveMap.{LiveMap}
use Rattle.volume.specs.Common.{master_view, CurrentDirectory, IsWholeDirectory, reaches_in_known, MemoryMap}
use Rattle.volume.specs.Common.{IsWholeMemory, memory_of, live_directory, Marks, ClearsBits, IsEmptyAt, less_master}
use Rattle.volume.specs.Common.{RemovesDirectory}
use Rattle.volume.proofs.common.BlockLists.{marks_then}
use Rattle.volume.proofs.VolumeStart.FoundDirectories.{mapped_at, all_at}
use Rattle.volume.proofs.common.Holes.{entry_hole}
use Rattle.volume.proofs.PublishVersion.StepPremises.{part_of, changed_many, index_is}
use Rattle.volume.proofs.common.Tables.{puts_marked}
use Rattle.volume.proofs.DeleteFile.Removals.{marks_booked}
use Rattle.volume.proofs.common.RetiredVersions.{set_inside}
use Rattle.volume.proofs.common.HoleLists.{hole_is, hole_length, hole_map}
use Rattle.directory.proofs.EditedEntries.{swap_removed}
use Rattle.spec_image.specs.Directories as words

-- how many blocks a chain frees
pub count_left : (o : Option ℕ) (n : ℕ) → n ≡ bool_byte (is_some o) → n ≡ length (option_to_list o)
count_left None n is = is
count_left (Some x) n is = is

-- a chain frees as many blocks as it costs less with one entry fewer
pub chain_less : (chain chain' : ChainState words.SpecMasterEntry) (left : List ℕ)
    → IsChain nat_cmp (IsMasterEntryOf 2) chain
    → IsChain nat_cmp (IsMasterEntryOf 2) chain' → chain.blocks ≡ chain'.blocks ++ left
    → length chain'.entries + 1 ≡ length chain.entries
    → length left ≡ directory_cost (length chain.entries) - directory_cost (length chain.entries - 1)
chain_less chain chain' left is is' blocks fewer =
    let now = is'.counted in
    let was = is.counted in
    let parts = ap (λ ns. length ns) blocks ∙ length-append chain'.blocks left in
    let back : length chain'.entries ≡ length chain.entries - 1 = omega arith in
    let cost = ap directory_cost back in
    omega arith

-- the list without the element that was taken out, as it is seen
pub seen_out : {A B : Type 0} (f : A → B) (xs ys : List A) (i : ℕ) (x : A) → i < length xs
    → ys ≡ swap_remove xs i x → map f ys ≡ take i (map f xs) ++ last_first (drop (suc i) (map f xs))
seen_out f xs ys i x below is =
    ap (map f) (is ∙ swap_removed xs i x below ∙ sym (hole_is xs i below)) ∙ hole_map f xs i
    ∙ hole_is (map f xs) i (let many = length-map xs f in omega arith)

module _ (m : LiveMap) (whole : IsWholeMemory m.table.size (memory_of m)) (ppn place : ℕ)
    (at : IsEmptyAt (memory_of m) ppn place) where
  abbrev c : MemoryMap
  c = memory_of m

  pub place_inside : place < length m.directories.items
  place_inside =
      let within = slice_get_within c.known.directories place at.directory at.directory_at in
      let many = length-map m.directories.items (live_directory m.versions.slots) in
      omega arith

  no_entries : at.directory.chain.entries ≡ []
  no_entries = no_length at.directory.chain.entries (let none = at.empty in omega arith)

  whole_here : IsWholeDirectory m.table.size at.directory
  whole_here = all_at (IsWholeDirectory m.table.size) c.known.directories place at.directory whole.map.each
      at.directory_at

  one_block : length at.directory.chain.blocks ≡ 1
  one_block = whole_here.chain.counted ∙ ap (λ es. directory_cost (length es)) no_entries

  -- The entry and the directory are taken out.
  module _ (master : ChainState MasterEntry) (left : Option ℕ)
      (blocks : m.master.blocks ≡ master.blocks ++ option_to_list left)
      (d : LiveDirectory) (value : d ≡ get_or m.directories.items place d) where
    same_directory : live_directory m.versions.slots d ≡ at.directory
    same_directory =
        let there = index_is m.directories.items place d d place_inside value in
        some_same (sym (mapped_at (live_directory m.versions.slots) m.directories.items place d there)
        ∙ at.directory_at)

    blocks_set : (n : ℕ) → times n (option_to_list left) + times n d.chain.blocks ≤ bit m.table n
    blocks_set n =
        let is = whole.map.bits n in
        let part = part_of (reaches_in_known n) c.known.directories place at.directory at.directory_at in
        let own = ap (λ (x : CurrentDirectory). times n x.chain.blocks) same_directory in
        let parts = ap (times n) blocks ∙ times-append n master.blocks (option_to_list left) in
        omega arith

    pub left_set : (n : ℕ) → times n (option_to_list left) ≤ bit m.table n
    left_set n = let both = blocks_set n in omega arith

    module _ (own : List ℕ) (own_is : own ≡ d.chain.blocks) (t1 : TableState)
        (first : ClearsBits m.table t1 (option_to_list left)) where
      pub own_set : (n : ℕ) → times n own ≤ bit t1 n
      own_set n =
          let both = blocks_set n in
          let cleared = first.bits n in
          let same = ap (times n) own_is in
          omega arith

      pub own_inside : IsTable m.table → (n : ℕ) → 0 < times n own → n < t1.size
      own_inside sound n there =
          let both = blocks_set n in
          let same = ap (times n) own_is in
          let below : n < m.table.size = set_inside m.table n sound (omega arith) in
          subst (λ (b : ℕ). n < b) (sym first.marks.size) below

      module _ (t2 t3 : TableState) (second : ClearsBits t1 t2 own) (count : ℕ)
          (count_is : count ≡ length (option_to_list left))
          (unbooked : t3 ≡ record t2 { booked = t2.booked - (1 + count) }) (set : List Put) (few : length set ≤ 2) where
        marks_all : Marks m.table t3
        marks_all = subst (Marks m.table) (sym unbooked)
            (marks_booked m.table t2 (t2.booked - (1 + count)) (marks_then m.table t1 t2 first.marks second.marks))

        pub changes_many : length set + changed_blocks t3 ≤ 37
        changes_many = changed_many t3 (length set) marks_all.sound few

        module _ (chain : IsChain nat_cmp (IsMasterEntryOf 2) (viewed master_view master))
            (items : map master_view master.entries ≡ removed nat_cmp (map master_view m.master.entries) ppn)
            (names : from_entries {R = nat_cmp} (map master_view master.entries)
            ≡ remove (from_entries (map master_view m.master.entries)) ppn)
            (put_chain : PutsChain master_words (viewed master_view m.master) (viewed master_view master) [] set) where
          fewer : length (map master_view master.entries) + 1 ≡ length (map master_view m.master.entries)
          fewer =
              let out = ap (λ es. length es) (items
              ∙ entry_hole nat_cmp_total (map master_view m.master.entries) place ppn at.word at.there) in
              let count = hole_length (map master_view m.master.entries) place at.there.within in
              omega arith

          less : count ≡ less_master c.known
          less = count_is ∙ chain_less c.known.master (viewed master_view master) (option_to_list left) whole.map.chain
              chain blocks fewer

          costs : 1 + count ≤ m.table.booked
          costs =
              let booked = whole.booked in
              let now = chain.counted in
              let parts = ap (λ ns. length ns) blocks ∙ length-append master.blocks (option_to_list left) in
              omega arith

          module _ (m' : LiveMap) (puts : List Put) (master_is : m'.master ≡ master)
              (out : m'.directories.items ≡ swap_remove m.directories.items place d)
              (versions : m'.versions ≡ m.versions) (pending : m'.pending ≡ m.pending)
              (table : m'.table ≡ record t3 { changed = replicate (table_blocks t3.size) false })
              (others_put : (c : Contents) (n : ℕ) → (IsChangedBlock t3 n → ⊥)
              → with_puts puts c n ≡ with_puts set c n)
              (spells : (c : Contents) → SpellsTable t3 (with_puts set c) (with_puts puts c))
              (in_range : AllByRecursion (IsTarget t3.size) (targets set)
              → AllByRecursion (IsTarget t3.size) (targets puts))
              (few_table : length puts ≤ length set + changed_blocks t3) where
            pub removes_directory : RemovesDirectory m.table.size c (memory_of m') ppn puts
            removes_directory = record {
              removed = record {
                place = place;
                word = at.word;
                there = at.there;
                directory = at.directory;
                directory_at = at.directory_at;
                no_entries = no_entries;
                one_block = one_block;
                left = option_to_list left;
                chain = subst (λ x. IsChain nat_cmp (IsMasterEntryOf 2) (viewed master_view x)) (sym master_is) chain;
                blocks = blocks ∙ ap (λ (x : ChainState MasterEntry). x.blocks ++ option_to_list left) (sym master_is);
                entries = ap (λ (x : ChainState MasterEntry). map master_view x.entries) master_is ∙ items;
                names = ap (λ (x : ChainState MasterEntry). from_entries (map master_view x.entries)) master_is ∙ names;
                directories = (λ i. map (live_directory (versions i).slots) m'.directories.items)
                    ∙ seen_out (live_directory m.versions.slots) m.directories.items m'.directories.items place d
                    place_inside out;
                chain_puts = set;
                put_chain = subst (λ x. PutsChain master_words (viewed master_view m.master) (viewed master_view x)
                    [] set) (sym master_is) put_chain;
                few = few;
                size_is = ap (λ (t : TableState). t.size) table ∙ marks_all.size;
                bits = λ n.
                    let same = ap (λ (t : TableState). bit t n) table in
                    let unbook = ap (λ (t : TableState). bit t n) unbooked in
                    let one = first.bits n in
                    let two = second.bits n in
                    let parts = times-append n (option_to_list left) at.directory.chain.blocks in
                    let own = ap (times n) own_is in
                    let here = ap (λ (x : CurrentDirectory). times n x.chain.blocks) same_directory in
                    omega arith;
                held = ap (λ (t : TableState). t.held) table ∙ ap (λ (t : TableState). t.held) unbooked ∙ second.held
                    ∙ first.held;
                booked =
                    let same = ap (λ (t : TableState). t.booked) table in
                    let unbook = ap (λ (t : TableState). t.booked) unbooked in
                    let one = first.booked in
                    let two = second.booked in
                    let cost = less in
                    let most = costs in
                    omega arith;
                unchanged = ap (λ (t : TableState). t.changed) table
                    ∙ ap (λ (n : ℕ). replicate (table_blocks n) false) marks_all.size;
                put = puts_marked m.table t3 m'.table set puts marks_all table others_put spells in_range few_table;
                sound = subst IsTable (sym table) (sound-unchanged t3 marks_all.sound);
              };
              uncreated = let none = at.empty in omega arith;
              keys = seen_out (λ (x : LiveDirectory). x.keys.items) m.directories.items m'.directories.items place d
                  place_inside out;
              live = ap (λ s. s.slots) versions;
              pending = ap (λ s. s.slots) pending;
            }
