-- A version that was being written becomes current in memory: the whole of it, from what each step did.
use Rattle.std.proofs.Common.{◌≡◌, ℕ, ◌+◌, ◌<◌, ◌≤◌, ⊎_elim, true, false, List, [], ◌∷◌, ◌++◌, map, filter_map}
use Rattle.std.proofs.Common.{length, replicate, slice_get, slice_set, Option, Some, None, IfSome, IfNone, is_none}
use Rattle.std.proofs.Common.{refl, sym, ap, subst, ◌∙◌, arith}
use Rattle.std.specs.List.{AllByRecursion, AllZip}
use Rattle.std.specs.Ordering.{nat_cmp}
use Rattle.std.specs.FinMap.Entries.{find}
use Rattle.blockdisk.specs.Common.{Contents}
use Rattle.spec_image.specs.declared.put.Put.{Put}
use Rattle.spec_image.specs.Common.{file_words, IsFileEntry, InSpace, name_cmp, IsTarget, targets, with_puts}
use Rattle.spec_image.specs.Common.{from_entries, insert, times, table_blocks}
use Rattle.spec_image.proofs.Common.{some_none, all_times, each_times}
use Rattle.alloctab.specs.Common.{IsChangedBlock, SpellsTable, sound-unchanged, TableState, IsTable, bit, holds}
use Rattle.alloctab.specs.Common.{changed_blocks}
use Rattle.directory.specs.Common.{IsChain, viewed, StandsAt, PutsChain, inserted}
use Rattle.retrieval.specs.Common.{ribs_of}
use Rattle.volume.specs.declared.live.LiveDirectory.{LiveDirectory}
use Rattle.volume.specs.declared.live.LiveMap.{LiveMap}
use Rattle.volume.specs.declared.live.LiveVersion.{LiveVersion}
use Rattle.volume.specs.declared.pending.PendingVersion.{PendingVersion}
use Rattle.volume.specs.Common.{file_view, master_view, CurrentDirectory, blocks_reached, given_up, cost_before}
use Rattle.volume.specs.Common.{is_creation, MemoryMap, slot, pending_at, as_known, IsCurrent, IsKeyed, pinned_reaches}
use Rattle.volume.specs.Common.{pinned_cost, IsWholeMemory, memory_of, known_at, live_directory, Marks, PutsInUse}
use Rattle.volume.specs.Common.{TakesPlaces, Retires, Entered, before, live_left, IsEnded, HasOtherKey, IsEntryPut}
use Rattle.volume.specs.Common.{MakesCurrent, IsPlaced}
use Rattle.volume.proofs.common.BlockLists.{marks_none, marks_then}
use Rattle.volume.proofs.common.Tables.{puts_marked}
use Rattle.volume.proofs.PublishVersion.Entries.{inserted_at, inserted_new, entry_replaced, entry_added}
use Rattle.volume.proofs.PublishVersion.Keys.{keys_apart, made_current_directories, made_current_keyed}
use Rattle.volume.proofs.PublishVersion.Keys.{replaced_known, replaced_keyed, added_known, added_keyed}
use Rattle.volume.proofs.PutWords.Memory.{waits}
use Rattle.volume.proofs.PublishVersion.StepPremises.{places_split, places_behind, known_place, keys_place, new_here}
use Rattle.volume.proofs.PublishVersion.StepPremises.{keyed_here, whole_here, old_version, shared_absent}
use Rattle.volume.proofs.PublishVersion.StepPremises.{shared_named, all_once}
use Rattle.changeset.specs.Common.{some_or_none}

apart_keys : (live : List (Option LiveVersion)) (a b : ℕ) (x : LiveVersion) → slot live a ≡ Some x → slot live b ≡ None
    → a ≡ b → ⊥
apart_keys live a b x there none same = some_none (sym there ∙ ap (slot live) same ∙ none)

module _ (m m' : LiveMap) (whole : IsWholeMemory m.table.size (memory_of m)) (key : ℕ) (p : PendingVersion)
    (was : pending_at m.pending.slots key ≡ Some p) (placed : IsPlaced (memory_of m) p)
    (place : ℕ) (w : ℕ × ℕ) (stands : StandsAt nat_cmp (map master_view m.master.entries) p.prime.ppn w place)
    (d d' : LiveDirectory) (at : slice_get m.directories.items place ≡ Some d)
    (master : m'.master ≡ m.master) (directories : m'.directories.items ≡ slice_set m.directories.items place d')
    (gone : pending_at m'.pending.slots key ≡ None) (other_pending : (k : ℕ) → (k ≡ key → ⊥)
    → pending_at m'.pending.slots k ≡ pending_at m.pending.slots k)
    (grown : List ℕ) (prime : ℕ) (ribs : List ℕ) (few_ribs : length ribs ≡ ribs_of p.version.blocks)
    (t1 t2 t3 : TableState) (takes : TakesPlaces m.table t1 grown prime ribs)
    (puts_in_use : PutsInUse t2 t3 (blocks_reached prime (record p.version { ribs = ribs }) ++ grown))
    (table : m'.table ≡ record t3 { changed = replicate (table_blocks t3.size) false })
    (chain_puts puts : List Put) (put_chain : PutsChain file_words (viewed file_view d.chain)
    (viewed file_view d'.chain) [] chain_puts) (few_puts : length chain_puts ≤ 2)
    (others_put : (c : Contents) (n : ℕ) → (IsChangedBlock t3 n → ⊥) → with_puts puts c n ≡ with_puts chain_puts c n)
    (spells : (c : Contents) → SpellsTable t3 (with_puts chain_puts c) (with_puts puts c))
    (in_range : AllByRecursion (IsTarget t3.size) (targets chain_puts)
    → AllByRecursion (IsTarget t3.size) (targets puts)) (few_table : length puts
    ≤ length chain_puts + changed_blocks t3)
    (blocks : d'.chain.blocks ≡ d.chain.blocks ++ grown)
    (new_key : ℕ) (vacant : slot m.versions.slots new_key ≡ None)
    (here : slot m'.versions.slots new_key
    ≡ Some (record {
      prime = p.prime;
      version = record p.version { ribs = ribs };
      at = prime;
      readers = 0;
      is_current = true;
    }))
    (chain : IsChain name_cmp IsFileEntry (viewed file_view d'.chain)) (items : map file_view d'.chain.entries
    ≡ inserted name_cmp (map file_view d.chain.entries) (p.prime.file, prime))
    (names : from_entries {R = name_cmp} (map file_view d'.chain.entries)
    ≡ insert (from_entries (map file_view d.chain.entries)) p.prime.file prime) where
  abbrev c : MemoryMap
  c = memory_of m

  abbrev c' : MemoryMap
  c' = memory_of m'

  abbrev new : LiveVersion
  new = record {
    prime = p.prime;
    version = record p.version { ribs = ribs };
    at = prime;
    readers = 0;
    is_current = true;
  }

  abbrev dk : CurrentDirectory
  dk = live_directory m.versions.slots d

  abbrev dk' : CurrentDirectory
  dk' = live_directory m'.versions.slots d'

  -- The common part.
  module _ (old : Entered) (ended : IsEnded m.versions.slots m'.versions.slots old)
      (from : IfSome old (λ o. (i : ℕ) × (slice_get d.keys.items i ≡ Some o.0)))
      (others : (k : ℕ) → (k ≡ new_key → ⊥) → HasOtherKey old k → slot m'.versions.slots k ≡ slot m.versions.slots k)
      (entry : IsEntryPut dk dk' p.prime.file prime (as_known new) (before old)) (is_new : is_creation p
      ≡ is_none old) (keyed : IsKeyed m'.versions.slots dk' d'.keys.items)
      (marks : Marks t1 t2) (bits : (n : ℕ) → bit t2 n + given_up n (before old) ≡ bit t1 n) (held : (n : ℕ)
      → holds t2 n ≡ holds t1 n + pinned_reaches n (live_left old)) (booked : t2.booked + cost_before (before old)
      ≡ t1.booked + pinned_cost (live_left old)) (shared : (n : ℕ) → 0 < times n p.version.blocks → 0 < bit m.table n
      → 0 < given_up n (before old)) where
    stay : (k : ℕ) (v : LiveVersion) → slot m.versions.slots k ≡ Some v → HasOtherKey old k
        → slot m'.versions.slots k ≡ Some v
    stay k v there other = others k (apart_keys m.versions.slots k new_key v there vacant) other ∙ there

    all_marks : Marks m.table t3
    all_marks = marks_then m.table t2 t3 (marks_then m.table t1 t2 takes.marks marks) puts_in_use.marks

    -- what the table says in the end
    bits_after : (n : ℕ) → bit t3 n + given_up n (before old)
        ≡ bit m.table n + times n (grown ++ blocks_reached prime (record p.version { ribs = ribs }))
    bits_after n =
        let split = places_split n grown prime ribs p.version.blocks in
        let behind = places_behind n grown prime ribs p.version.blocks in
        let taken = takes.bits n in
        let given = bits n in
        let set = puts_in_use.bits n in
        omega arith

    held_after : (n : ℕ) → holds t3 n + times n p.version.blocks ≡ holds m.table n + pinned_reaches n (live_left old)
    held_after n =
        let behind = places_behind n grown prime ribs p.version.blocks in
        let taken = takes.held n in
        let left = held n in
        let used = puts_in_use.held n in
        omega arith

    booked_after : t3.booked + cost_before (before old) ≡ m.table.booked + pinned_cost (live_left old)
    booked_after =
        let taken = takes.booked in
        let used = puts_in_use.booked in
        omega arith

    made_current_into : (makes_current : MakesCurrent m.table.size c c' key p prime ribs puts)
        × (new_key ≡ makes_current.new_key)
    made_current_into = (
      record {
        old = old;
        published = record {
          place = place;
          word = w;
          there = stands;
          directory = dk;
          directory' = dk';
          directory_at = known_place m whole key was placed stands at;
          master = ap (viewed master_view) master;
          directories = ap (map (live_directory m'.versions.slots)) directories
              ∙ made_current_directories m.table.size m whole m'.versions.slots place d d' at old from stay;
          grown = grown;
          blocks = blocks;
          entry = entry;
          chain_puts = chain_puts;
          put_chain = put_chain;
          few = few_puts;
          inside = all_times (InSpace m.table.size) (grown ++ blocks_reached prime (record p.version { ribs = ribs }))
              inside_of;
          fresh = takes.fresh;
          once = all_once m whole key was placed stands at t1 grown prime ribs takes
              (λ n. given_up n (before old)) shared;
          size_is = ap (λ (t : TableState). t.size) table ∙ all_marks.size;
          bits = λ n. let same = ap (λ (t : TableState). bit t n) table in let all = bits_after n in omega arith;
          put = puts_marked m.table t3 m'.table chain_puts puts all_marks table others_put spells in_range few_table;
        };
        few_ribs = few_ribs;
        written = was;
        gone = gone;
        other_pending = other_pending;
        is_new = is_new;
        new_key = new_key;
        vacant = vacant;
        here = here;
        ended = ended;
        others = others;
        keyed =
            subst (λ ds. AllZip (IsKeyed m'.versions.slots) (map (live_directory m'.versions.slots) ds)
            (map (λ x. x.keys.items) ds)) (sym directories)
            (subst (λ ds. AllZip (IsKeyed m'.versions.slots) ds
            (map (λ x. x.keys.items) (slice_set m.directories.items place d')))
            (sym (made_current_directories m.table.size m whole m'.versions.slots place d d' at old from stay))
            (made_current_keyed m.table.size m whole m'.versions.slots place d d' at old from stay keyed));
        unheld = λ n some. (takes.free n some).0.unheld;
        held = λ n. let same = ap (λ (t : TableState). holds t n) table in let all = held_after n in omega arith;
        booked = let same = ap (λ (t : TableState). t.booked) table in let all = booked_after in omega arith;
        unchanged = ap (λ (t : TableState). t.changed) table
            ∙ ap (λ (n : ℕ). replicate (table_blocks n) false) all_marks.size;
        sound = subst IsTable (sym table) (sound-unchanged t3 all_marks.sound);
      },
      refl,
    )
      where
        inside_of : (n : ℕ) → 0 < times n (grown ++ blocks_reached prime (record p.version { ribs = ribs }))
            → InSpace m.table.size n
        inside_of n some =
            let split = places_split n grown prime ribs p.version.blocks in
            ⊎_elim
            (λ its. each_times (InSpace m.table.size) p.version.blocks n
            (waits m.table.size c whole key p was).inside its)
            (λ none. (takes.free n (omega arith)).1) (some_or_none (times n p.version.blocks))

  -- The name had a version.
  module _ (k i v : ℕ) (named : StandsAt name_cmp (map file_view d.chain.entries) p.prime.file v i)
      (key_at : slice_get d.keys.items i ≡ Some k) (keys : d'.keys.items ≡ slice_set d.keys.items i new_key)
      (retired : (u : LiveVersion) → slot m.versions.slots k ≡ Some u
      → Retires t1 t2 u (live_left (Some (k, u)))) (left : (u : LiveVersion) → slot m.versions.slots k ≡ Some u
      → slot m'.versions.slots k ≡ live_left (Some (k, u)))
      (others : (j : ℕ) → (j ≡ new_key → ⊥) → (j ≡ k → ⊥) → slot m'.versions.slots j ≡ slot m.versions.slots j) where
    had : (u : LiveVersion) × (slot m.versions.slots k ≡ Some u) × (u.is_current ≡ true) × (u.at ≡ v)
        × (slice_get dk.versions i ≡ Some (as_known u))
    had = old_version m whole key was placed stands at i v k named key_at

    u : LiveVersion
    u = had.0

    only : (j : ℕ) → slice_get d.keys.items j ≡ Some k → j ≡ i
    only j is = sym
        (keys_apart m.table.size c whole place i place j d.keys.items d.keys.items k keys_here key_at keys_here is).1
      where
        keys_here : slice_get c.keys place ≡ Some d.keys.items
        keys_here = keys_place m whole key was placed stands at

    stays : (j : ℕ) (x : LiveVersion) → slot m.versions.slots j ≡ Some x → HasOtherKey (Some (k, u)) j
        → slot m'.versions.slots j ≡ Some x
    stays j x there other = others j (apart_keys m.versions.slots j new_key x there vacant) other ∙ there

    zip : IsKeyed m.versions.slots dk d.keys.items
    zip = keyed_here m whole key was placed stands at

    set : map file_view d'.chain.entries ≡ slice_set (map file_view d.chain.entries) i (p.prime.file, prime)
    set = items ∙ inserted_at (map file_view d.chain.entries) i (p.prime.file, prime) v named.is named.before

    known : dk' ≡ record { chain = viewed file_view d'.chain; versions = slice_set dk.versions i (as_known new) }
    known =
        let versions = ap (filter_map (known_at m'.versions.slots)) keys
        ∙ replaced_known m.versions.slots m'.versions.slots d.keys.items dk.chain.entries i new_key
        (k, u) new zip only here stays in
        λ j. record { chain = viewed file_view d'.chain; versions = versions j }

    pub made_current_replaced : (makes_current : MakesCurrent m.table.size c c' key p prime ribs puts)
        × (new_key ≡ makes_current.new_key)
    unfolding u had
    made_current_replaced =
        let gone_version = retired u had.1 in
        made_current_into (Some (k, u)) (had.1, had.2, left u had.1) (i, key_at)
        (λ j new_one other. others j new_one other)
        (subst (λ (x : CurrentDirectory). IsEntryPut dk x p.prime.file prime (as_known new) (Some (u.at, as_known u)))
        (sym known)
        (subst (λ (n : ℕ). IsEntryPut dk (record {
          chain = viewed file_view d'.chain;
          versions = slice_set dk.versions i (as_known new);
        }) p.prime.file prime (as_known new) (Some (n, as_known u))) (sym had.3)
        (entry_replaced m.table.size dk (viewed file_view d'.chain) p.prime.file prime v i (as_known u)
        (as_known new) (whole_here m whole key was placed stands at) named had.4 items chain names)))
        (new_here m whole key was placed stands at ∙ ap is_none named.found)
        (subst (λ es. AllZip (λ e j. IsCurrent m'.versions.slots j e.1) es d'.keys.items) (sym set)
        (subst (AllZip (λ e j. IsCurrent m'.versions.slots j e.1)
        (slice_set (map file_view d.chain.entries) i (p.prime.file, prime))) (sym keys)
        (replaced_keyed m.versions.slots m'.versions.slots d.keys.items dk.chain.entries i new_key
        (k, u) new zip only here stays (p.prime.file, prime) refl refl)))
        gone_version.marks gone_version.bits gone_version.held gone_version.booked
        (shared_named m whole key was placed stands at i v k u named had.1 had.2 had.3)

  -- The name is new.
  module _ (absent : find name_cmp p.prime.file (map file_view d.chain.entries) ≡ None) (keys : d'.keys.items
      ≡ d.keys.items ++ new_key ∷ []) (none : t2 ≡ t1) (others : (j : ℕ) → (j ≡ new_key → ⊥)
      → slot m'.versions.slots j ≡ slot m.versions.slots j) where
    kept : (j : ℕ) (x : LiveVersion) → slot m.versions.slots j ≡ Some x → slot m'.versions.slots j ≡ Some x
    kept j x there = others j (apart_keys m.versions.slots j new_key x there vacant) ∙ there

    zip_new : IsKeyed m.versions.slots dk d.keys.items
    zip_new = keyed_here m whole key was placed stands at

    pushed : map file_view d'.chain.entries ≡ map file_view d.chain.entries ++ (p.prime.file, prime) ∷ []
    pushed = items ∙ inserted_new (map file_view d.chain.entries) (p.prime.file, prime) absent

    known_new : dk' ≡ record { chain = viewed file_view d'.chain; versions = dk.versions ++ as_known new ∷ [] }
    known_new =
        let versions = ap (filter_map (known_at m'.versions.slots)) keys
        ∙ added_known m.versions.slots m'.versions.slots d.keys.items dk.chain.entries new_key new zip_new here kept in
        λ j. record { chain = viewed file_view d'.chain; versions = versions j }

    pub made_current_added : (makes_current : MakesCurrent m.table.size c c' key p prime ribs puts)
        × (new_key ≡ makes_current.new_key)
    made_current_added =
        made_current_into None tt tt (λ j new_one other. others j new_one)
        (subst (λ (x : CurrentDirectory). IsEntryPut dk x p.prime.file prime (as_known new) None) (sym known_new)
        (entry_added m.table.size dk (viewed file_view d'.chain) p.prime.file prime (as_known new)
        (whole_here m whole key was placed stands at) absent items chain names))
        (new_here m whole key was placed stands at ∙ ap is_none absent)
        (subst (λ es. AllZip (λ e j. IsCurrent m'.versions.slots j e.1) es d'.keys.items) (sym pushed)
        (subst (AllZip (λ e j. IsCurrent m'.versions.slots j e.1) (map file_view d.chain.entries
        ++ (p.prime.file, prime) ∷ [])) (sym keys)
        (added_keyed m.versions.slots m'.versions.slots d.keys.items dk.chain.entries new_key new zip_new here kept
        (p.prime.file, prime) refl refl)))
        (subst (Marks t1) (sym none) (marks_none t1 takes.marks.sound))
        (λ n. let same = ap (λ (t : TableState). bit t n) none in
        omega arith) (λ n. let same = ap (λ (t : TableState). holds t n) none in
        omega arith) (let same = ap (λ (t : TableState). t.booked) none in omega arith)
        (λ n its set. absurd (shared_absent m whole key was placed stands at absent n its set))

  -- By what the entry returned.
  module _ (versions : List (Option LiveVersion)) (put_others : (k : ℕ) → (k ≡ new_key → ⊥)
      → slot versions k ≡ slot m.versions.slots k) (o : Option ℕ)
      (retired : (k : ℕ) (u : LiveVersion) → o ≡ Some k → slot versions k ≡ Some u
      → Retires t1 t2 u (live_left (Some (k, u)))) (left : (k : ℕ) (u : LiveVersion) → o ≡ Some k
      → slot versions k ≡ Some u → slot m'.versions.slots k ≡ live_left (Some (k, u)))
      (others : (k j : ℕ) → o ≡ Some k → (j ≡ k → ⊥) → slot m'.versions.slots j ≡ slot versions j) (none : o ≡ None
      → (m'.versions.slots ≡ versions) × (t2 ≡ t1)) where
    was_there : (k : ℕ) (u : LiveVersion) → slot m.versions.slots k ≡ Some u → slot versions k ≡ Some u
    was_there k u there = put_others k (apart_keys m.versions.slots k new_key u there vacant) ∙ there

    pub made_current_by : (q : Option ℕ) → o ≡ q
        → IfSome q (λ k. (i : ℕ) × (v : ℕ) × StandsAt name_cmp (map file_view d.chain.entries) p.prime.file v i
        × (slice_get d.keys.items i ≡ Some k) × (d'.keys.items ≡ slice_set d.keys.items i new_key))
        → IfNone q ((find name_cmp p.prime.file (map file_view d.chain.entries) ≡ None)
        × (d'.keys.items ≡ d.keys.items ++ new_key ∷ []))
        → (makes_current : MakesCurrent m.table.size c c' key p prime ribs puts) × (new_key ≡ makes_current.new_key)
    made_current_by None is replaced added =
        let same = none is in
        made_current_added added.0 added.1 same.1 (λ j new_one. ap (λ l. slot l j) same.0 ∙ put_others j new_one)
    made_current_by (Some k) is replaced added =
        made_current_replaced k replaced.0 replaced.1 replaced.2 replaced.3 replaced.4
        (λ u there. retired k u is (was_there k u there)) (λ u there. left k u is (was_there k u there))
        (λ j new_one other. others k j is other ∙ put_others j new_one)
