-- A file is deleted in memory: what each step requires, and the whole of it from what each step did.
use Rattle.std.proofs.Common.{◌≡◌, ℕ, zero, suc, ◌+◌, ◌-◌, ◌^◌, ◌<◌, ◌≤◌, Bool, true, false, if◌then◌else◌, List, []}
use Rattle.std.proofs.Common.{◌∷◌, ◌++◌, map, filter_map, length, replicate, take, drop, slice_get, slice_set}
use Rattle.std.proofs.Common.{slice_index, get_or, Option, Some, None, IfSome, IsSome, refl, sym, ap, subst, ◌∙◌}
use Rattle.std.proofs.Common.{arith, ⊎_elim}
use Rattle.std.proofs.lemmas.List.{length-map}
use Rattle.std.proofs.lemmas.Option.{slice_get_within}
use Rattle.std.specs.List.{AllByRecursion, AllZip}
use Rattle.std.specs.Ordering.{nat_cmp}
use Rattle.std.specs.FinMap.Entries.{find}
use Rattle.blockdisk.specs.Common.{Contents}
use Rattle.words36.specs.declared.names.FileName.{FileName}
use Rattle.spec_image.specs.declared.put.Put.{Put}
use Rattle.spec_image.specs.Common.{directory_cost, cost_of_blocks, SpecFileEntry, file_words, IsFileEntry, name_cmp}
use Rattle.spec_image.specs.Common.{IsTarget, targets, with_puts, total, times, remove, from_entries, table_blocks}
use Rattle.spec_image.specs.Common.{most_blocks, growth}
use Rattle.spec_image.proofs.Common.{some_same, some_none, times-append}
use Rattle.alloctab.specs.Common.{IsChangedBlock, SpellsTable, sound-booked, sound-unchanged, TableState, IsTable}
use Rattle.alloctab.specs.Common.{bit, holds, changed_blocks}
use Rattle.directory.specs.Common.{ChainState, IsChain, viewed, StandsAt, PutsChain, removed, last_first}
use Rattle.changeset.specs.Common.{some_or_none}
use Rattle.volume.specs.declared.live.LiveDirectory.{LiveDirectory}
use Rattle.volume.specs.declared.live.LiveMap.{LiveMap}
use Rattle.volume.specs.declared.live.LiveVersion.{LiveVersion}
use Rattle.volume.specs.declared.pending.PendingVersion.{PendingVersion}
use Rattle.volume.specs.Common.{entries_with, file_view, master_view, CurrentDirectory, blocks_reached}
use Rattle.volume.specs.Common.{reaches_in_known, cost_of_version, cost_of_directory, IsWholeVersion}
use Rattle.volume.specs.Common.{IsWholeDirectory, MemoryMap, slot, as_known, IsCurrent, IsKeyed, pinned_reaches}
use Rattle.volume.specs.Common.{pinned_cost, cost_beyond, pending_reaches, pending_cost, creates, IsWholeMemory}
use Rattle.volume.specs.Common.{memory_of}
use Rattle.volume.specs.Common.{known_at, live_directory, IsKeyOf, Marks, ClearsBits, MayRetire, Retires, live_left}
use Rattle.volume.specs.Common.{IsEntryRemoved, RemovesFile}
use Rattle.volume.proofs.BeginVersion.Beginnings.{same_directory}
use Rattle.volume.proofs.common.BlockLists.{marks_then}
use Rattle.volume.proofs.common.MapCosts.{few_blocks}
use Rattle.volume.proofs.VolumeStart.FoundDirectories.{mapped_at, zip_at, all_at}
use Rattle.volume.proofs.common.Growths.{cost_rises, entries_few}
use Rattle.volume.proofs.common.LiveLookups.{as_many, kept_at, standing_at}
use Rattle.volume.proofs.common.LiveTotals.{memory_holds}
use Rattle.volume.proofs.PublishVersion.StepPremises.{part_of, share_within, changed_many}
use Rattle.volume.proofs.common.Tables.{puts_marked}
use Rattle.volume.proofs.PinVersion.Pins.{current_stands}
use Rattle.volume.proofs.PublishVersion.Keys.{keys_apart, made_current_directories, made_current_keyed}
use Rattle.volume.proofs.DeleteFile.Entries.{removed_known, removed_keyed, entry_removed}
use Rattle.volume.proofs.common.HoleLists.{hole, hole_is, removed_is}
use Rattle.volume.proofs.common.Lists.{set_there}

-- No block is held more often than 32 bits can count.

uncosted : (n : ℕ) (v : LiveVersion) → pinned_cost (Some v) ≡ 0 → pinned_reaches n (Some v) ≡ 0
uncosted n v none = by v.is_current refl
  where
    by : (b : Bool) → v.is_current ≡ b → pinned_reaches n (Some v) ≡ 0
    by true is = ap (λ (b : Bool). if b then 0 else times n (blocks_reached v.at v.version)) is
    by false is =
        let here : pinned_cost (Some v) ≡ cost_of_blocks (length v.version.blocks) = ap (λ (b : Bool). if b then 0
        else cost_of_blocks (length v.version.blocks)) is in
        absurd (omega arith)

none_held : (n : ℕ) (live : List (Option LiveVersion)) → total pinned_cost live ≡ 0 → total (pinned_reaches n) live ≡ 0
none_held n [] none = refl
none_held n (None ∷ os) none = let rest = none_held n os (omega arith) in omega arith
none_held n (Some v ∷ os) none =
    let here = uncosted n v (omega arith) in
    let rest = none_held n os (omega arith) in
    omega arith

none_waits : (n : ℕ) (pending : List (Option PendingVersion)) → total pending_cost pending ≡ 0
    → total (pending_reaches n) pending ≡ 0
none_waits n [] none = refl
none_waits n (None ∷ os) none = let rest = none_waits n os (omega arith) in omega arith
none_waits n (Some p ∷ os) none = absurd (omega arith)

-- with anything beyond the files no more is booked than twice the disk; and nothing is held if there is nothing
pub holds_few : (size : ℕ) (c : MemoryMap) → IsWholeMemory size c → (n : ℕ) → holds c.known.table n + 1 < 2 ^ 32
holds_few size c whole n = ⊎_elim
    (λ (some : 0 < cost_beyond c).
    let few = memory_holds size c whole n in
    let most = whole.beyond some in
    let large = whole.map.volume.large in
    omega arith)
    (λ (none : cost_beyond c ≡ 0).
    let held = none_held n c.live (omega arith) in
    let waits = none_waits n c.pending (omega arith) in
    let all = whole.held n in
    omega arith) (some_or_none (cost_beyond c))

index_of : (xs : List ℕ) (i x : ℕ) → slice_get xs i ≡ Some x → x ≡ get_or xs i 0
index_of [] i x is = absurd (some_none (sym is))
index_of (y ∷ xs) zero x is = sym (some_same is)
index_of (y ∷ xs) (suc i) x is = index_of xs i x is

-- What is put of its chain is what is put first of all.

pub put_first : (d d' : ChainState SpecFileEntry) (old new : List Put) → old ≡ [] → PutsChain file_words d d' old new
    → PutsChain file_words d d' [] new
put_first d d' old new none put = subst (λ (before : List Put). PutsChain file_words d d' before new) none put

pub few_first : (old new : List Put) → old ≡ [] → length new ≤ length old + 2 → length new ≤ 2
few_first old new none few = let empty = ap (λ (puts : List Put). length puts) none in omega arith

-- what one directory costs less with an entry less
pub cost_of_last : (n m e less : ℕ) → e + 1 ≡ n → less ≡ growth (e + m)
    → less ≡ directory_cost (n + m) - directory_cost (n + m - 1)
cost_of_last n m e less one is =
    let up : directory_cost (e + m + 1) ≡ directory_cost (n + m) = ap directory_cost (omega arith) in
    let down : directory_cost (e + m) ≡ directory_cost (n + m - 1) = ap directory_cost (omega arith) in
    omega arith

-- what a directory grows by, if it has one entry fewer
pub grown_at : (m : LiveMap) (place : ℕ) (d d' : LiveDirectory) → slice_get m.directories.items place ≡ Some d
    → (ppn less : ℕ) → ((x : CurrentDirectory) → slice_get (map (live_directory m.versions.slots)
    (slice_set m.directories.items place d')) place ≡ Some x
    → less ≡ growth (length x.chain.entries + total (creates ppn) m.pending.slots))
    → less ≡ growth (length (map file_view d'.chain.entries) + total (creates ppn) m.pending.slots)
grown_at m place d d' at ppn less is = is (live_directory m.versions.slots d')
    (mapped_at (live_directory m.versions.slots) (slice_set m.directories.items place d') place d'
    (set_there m.directories.items place d d' at))

-- other bookings mark nothing
pub marks_booked : (t u : TableState) (n : ℕ) → Marks t u → Marks t (record u { booked = n })
marks_booked t u n marks = record {
  sound = sound-booked u n marks.sound;
  size = marks.size;
  stays = marks.stays;
  moved = marks.moved;
}

-- One directory, at its place, and a file of it.

module _ (m : LiveMap) (whole : IsWholeMemory m.table.size (memory_of m)) (ppn : ℕ) (name : FileName) (place : ℕ) (w : ℕ
    × ℕ) (stands : StandsAt nat_cmp (map master_view m.master.entries) ppn w place)
    (d : LiveDirectory) (at : slice_get m.directories.items place ≡ Some d) where
  abbrev c : MemoryMap
  c = memory_of m

  abbrev dk : CurrentDirectory
  dk = live_directory m.versions.slots d

  known_here : slice_get c.known.directories place ≡ Some dk
  known_here = mapped_at (live_directory m.versions.slots) m.directories.items place d at

  keys_here : slice_get c.keys place ≡ Some d.keys.items
  keys_here = mapped_at (λ (x : LiveDirectory). x.keys.items) m.directories.items place d at

  keyed_here : IsKeyed c.live dk d.keys.items
  keyed_here =
      let pair = zip_at (IsKeyed c.live) c.known.directories c.keys place d.keys.items whole.keyed keys_here in
      subst (λ (x : CurrentDirectory). IsKeyed c.live x d.keys.items) (some_same (sym pair.1 ∙ known_here)) pair.2

  whole_here : IsWholeDirectory m.table.size dk
  whole_here = all_at (IsWholeDirectory m.table.size) c.known.directories place dk whole.map.each known_here

  pub removes_aligned : length d.keys.items ≡ length d.chain.entries
  removes_aligned = as_many c.live dk.chain.entries d.keys.items keyed_here ∙ length-map d.chain.entries file_view

  pub removes_there : (k : ℕ) × IsKeyOf c ppn name k → IsSome (find name_cmp name (map file_view d.chain.entries))
  removes_there file =
      let is = file.1 in
      let same = same_directory m.table.size c ppn place w is.directory dk whole
      (is.place, is.word, is.there, is.directory_at) stands.is known_here in
      subst (λ (x : CurrentDirectory). IsSome (find name_cmp name x.chain.entries)) same
      (subst IsSome (sym is.at.found) refl)

  module _ (i v k : ℕ) (named : StandsAt name_cmp (map file_view d.chain.entries) name v i)
      (key_at : slice_get d.keys.items i ≡ Some k) where
    pub had : (u : LiveVersion) × (slot m.versions.slots k ≡ Some u) × (u.is_current ≡ true) × (u.at ≡ v)
        × (slice_get dk.versions i ≡ Some (as_known u))
    had =
        let pair = zip_at (λ (e : SpecFileEntry) (n : ℕ). IsCurrent c.live n e.1) dk.chain.entries d.keys.items
        i k keyed_here key_at in
        let entry : pair.0 ≡ (name, v) = some_same (sym pair.1 ∙ named.is) in
        let current = pair.2 in
        let kept = kept_at c.live dk.chain.entries d.keys.items i k 0 keyed_here named.within
        (index_of d.keys.items i k key_at) in
        let same : kept.0 ≡ current.version = some_same (sym kept.1 ∙ current.there) in (
          current.version,
          current.there,
          current.current,
          current.at ∙ ap (λ (e : SpecFileEntry). e.1) entry,
          kept.2 ∙ ap (λ (x : LiveVersion). Some (as_known x)) same,
        )

    abbrev u : LiveVersion
    u = had.0

    by_slot : (P : LiveVersion → Type 0) → P u → IfSome (slot m.versions.slots k) P
    by_slot P has = subst (λ o. IfSome o P) (sym had.1) has

    old_set : (n : ℕ) → times n (blocks_reached u.at u.version) ≤ bit m.table n
    old_set n =
        let stand = current_stands m.table.size c whole k had.0 had.1 had.2 n in
        let bits = whole.map.bits n in
        omega arith

    -- what its version and the directory cost is booked
    costs_booked : cost_of_version (as_known u)
        + directory_cost (length dk.chain.entries + total (creates ppn) c.pending) ≤ m.table.booked
    costs_booked =
        let one = part_of cost_of_version dk.versions i (as_known had.0) had.4 in
        let all = part_of cost_of_directory c.known.directories place dk known_here in
        let grown = share_within c.pending c.known.master.entries c.known.directories place ppn w dk stands.is
        known_here in
        let rises = cost_rises (length dk.chain.entries) (total (creates ppn) c.pending) in
        let counted = whole_here.chain.counted in
        let booked = whole.booked in
        omega arith

    pub may_retire : MayRetire m.table m.versions.slots k
    may_retire = record {
      there = subst IsSome (sym had.1) refl;
      set = by_slot (λ x. (n : ℕ) → times n (blocks_reached x.at x.version) ≤ bit m.table n) old_set;
      few = by_slot (λ x. length x.version.blocks ≤ most_blocks) (few_blocks (as_known u)
          (standing_at (λ x. IsWholeVersion (as_known x)) m.versions.slots k u whole.standing had.1));
      booked = by_slot (λ x. cost_of_blocks (length x.version.blocks) ≤ m.table.booked)
          (let booked = costs_booked in omega arith);
      fits = holds_few m.table.size c whole;
    }

    -- With the entry taken out.
    module _ (d' : LiveDirectory) (block : List ℕ) (blocks : d.chain.blocks ≡ d'.chain.blocks ++ block)
        (items : map file_view d'.chain.entries ≡ removed name_cmp (map file_view d.chain.entries) name)
        (names : from_entries {R = name_cmp} (map file_view d'.chain.entries)
        ≡ remove (from_entries (map file_view d.chain.entries)) name)
        (chain : IsChain name_cmp IsFileEntry (viewed file_view d'.chain)) where
      taken_out : IsEntryRemoved dk (record { chain = viewed file_view d'.chain; versions = hole i dk.versions }) name
          (u.at, as_known u)
      taken_out =
          subst (λ (n : ℕ). IsEntryRemoved dk (record {
            chain = viewed file_view d'.chain;
            versions = hole i dk.versions;
          }) name (n, as_known had.0)) (sym had.3)
          (entry_removed m.table.size dk (viewed file_view d'.chain) name v i (as_known had.0) whole_here named
          had.4 items chain names)

      fewer : length d'.chain.entries + 1 ≡ length d.chain.entries
      fewer =
          let count = taken_out.count in
          let a = length-map d.chain.entries file_view in
          let b = length-map d'.chain.entries file_view in
          omega arith

      pub grows_few : (live : List (Option LiveVersion)) (x : CurrentDirectory)
          → slice_get (map (live_directory live) (slice_set m.directories.items place d')) place ≡ Some x
          → length x.chain.entries + total (creates ppn) c.pending < 2 ^ 64
      grows_few live x is =
          let there = mapped_at (live_directory live) (slice_set m.directories.items place d') place d'
          (set_there m.directories.items place d d' at) in
          let same : live_directory live d' ≡ x = some_same (sym there ∙ is) in
          let many = ap (λ (y : CurrentDirectory). length y.chain.entries) same in
          let b = length-map d'.chain.entries file_view in
          let a = length-map d.chain.entries file_view in
          let one = fewer in
          let most = entries_few m.table.size c ppn place dk whole known_here in
          omega arith

      module _ (less : ℕ) (less_is : less ≡ growth (length (map file_view d'.chain.entries)
          + total (creates ppn) c.pending)) where
        less_cost : less ≡ directory_cost (entries_with c dk ppn) - directory_cost (entries_with c dk ppn - 1)
        less_cost = cost_of_last (length dk.chain.entries) (total (creates ppn) c.pending)
            (length (map file_view d'.chain.entries)) less taken_out.count less_is

        -- Once its version is out of use.
        module _ (t1 : TableState) (retired : (x : LiveVersion) → slot m.versions.slots k ≡ Some x
            → Retires m.table t1 x (live_left (Some (k, x)))) where
          gone : Retires m.table t1 u (live_left (Some (k, u)))
          gone = retired had.0 had.1

          pub left_sound : IsTable t1
          left_sound = gone.marks.sound

          pub left_set : (n : ℕ) → times n block ≤ bit t1 n
          left_set n =
              let cleared = gone.bits n in
              let entry = taken_out.reaches n in
              let all = part_of (reaches_in_known n) c.known.directories place dk known_here in
              let bits = whole.map.bits n in
              let parts = ap (times n) blocks ∙ times-append n d'.chain.blocks block in
              omega arith

          module _ (t2 : TableState) (cleared : ClearsBits t1 t2 block) where
            pub less_booked : less ≤ t2.booked
            less_booked =
                let a = cleared.booked in
                let b = gone.booked in
                let all = costs_booked in
                let cost = less_cost in
                omega arith

            -- What the directory costs less is unbooked, and the table's blocks that changed are put.
            module _ (t3 : TableState) (unbooked : t3 ≡ record t2 { booked = t2.booked - less }) (set : List Put)
                (put_chain : PutsChain file_words (viewed file_view d.chain) (viewed file_view d'.chain) [] set)
                (few : length set ≤ 2) where
              marks_all : Marks m.table t3
              marks_all = subst (Marks m.table) (sym unbooked)
                  (marks_booked m.table t2 (t2.booked - less) (marks_then m.table t1 t2 gone.marks cleared.marks))

              pub changes_many : length set + changed_blocks t3 ≤ 37
              changes_many = changed_many t3 (length set) marks_all.sound few

              module _ (m' : LiveMap) (puts : List Put) (master : m'.master ≡ m.master)
                  (directories : m'.directories.items ≡ slice_set m.directories.items place d')
                  (pending : m'.pending ≡ m.pending)
                  (table : m'.table ≡ record t3 { changed = replicate (table_blocks t3.size) false })
                  (others_put : (c : Contents) (n : ℕ) → (IsChangedBlock t3 n → ⊥)
                  → with_puts puts c n ≡ with_puts set c n)
                  (spells : (c : Contents) → SpellsTable t3 (with_puts set c) (with_puts puts c))
                  (in_range : AllByRecursion (IsTarget t3.size) (targets set)
                  → AllByRecursion (IsTarget t3.size) (targets puts))
                  (few_table : length puts ≤ length set + changed_blocks t3)
                  (left : (x : LiveVersion) → slot m.versions.slots k ≡ Some x
                  → slot m'.versions.slots k ≡ live_left (Some (k, x)))
                  (others : (j : ℕ) → (j ≡ k → ⊥) → slot m'.versions.slots j ≡ slot m.versions.slots j)
                  (keys : d'.keys.items ≡ take i d.keys.items ++ last_first (drop (suc i) d.keys.items)) where
                only : (j : ℕ) → slice_get d.keys.items j ≡ Some k → j ≡ i
                only j is = sym
                    (keys_apart m.table.size c whole place i place j d.keys.items d.keys.items k keys_here key_at
                    keys_here is).1

                holed : d'.keys.items ≡ hole i d.keys.items
                holed = keys ∙ sym (hole_is d.keys.items i (slice_get_within d.keys.items i k key_at))

                set_out : map file_view d'.chain.entries ≡ hole i (map file_view d.chain.entries)
                set_out = items ∙ removed_is (map file_view d.chain.entries) i name v named

                known : live_directory m'.versions.slots d'
                    ≡ record { chain = viewed file_view d'.chain; versions = hole i dk.versions }
                known =
                    let versions = ap (filter_map (known_at m'.versions.slots)) holed
                    ∙ removed_known m.versions.slots m'.versions.slots dk.chain.entries d.keys.items i k keyed_here
                    key_at only others in
                    λ j. record { chain = viewed file_view d'.chain; versions = versions j }

                keyed : IsKeyed m'.versions.slots (live_directory m'.versions.slots d') d'.keys.items
                keyed =
                    subst (λ es. AllZip (λ e j. IsCurrent m'.versions.slots j e.1) es d'.keys.items) (sym set_out)
                    (subst (AllZip (λ e j. IsCurrent m'.versions.slots j e.1) (hole i (map file_view d.chain.entries)))
                    (sym holed)
                    (removed_keyed m.versions.slots m'.versions.slots dk.chain.entries d.keys.items i k keyed_here
                    key_at only others))

                stay : (j : ℕ) (x : LiveVersion) → slot m.versions.slots j ≡ Some x → (j ≡ k → ⊥)
                    → slot m'.versions.slots j ≡ Some x
                stay j x there other = others j other ∙ there

                entered : map (live_directory m'.versions.slots) (slice_set m.directories.items place d')
                    ≡ slice_set c.known.directories place (live_directory m'.versions.slots d')
                entered = made_current_directories m.table.size m whole m'.versions.slots place d d' at (Some (k, u))
                    (i, key_at) stay

                pub removes_file : RemovesFile m.table.size c (memory_of m') ppn name k u puts
                removes_file = record {
                  removed = record {
                    place = place;
                    word = w;
                    there = stands;
                    directory = dk;
                    directory' = live_directory m'.versions.slots d';
                    directory_at = known_here;
                    master = ap (viewed master_view) master;
                    directories = ap (map (live_directory m'.versions.slots)) directories ∙ entered;
                    left = block;
                    blocks = blocks;
                    entry = subst (λ (x : CurrentDirectory). IsEntryRemoved dk x name (u.at, as_known u)) (sym known)
                        taken_out;
                    chain_puts = set;
                    put_chain = put_chain;
                    few = few;
                    size_is = ap (λ (t : TableState). t.size) table ∙ marks_all.size;
                    bits = λ n.
                        let same = ap (λ (t : TableState). bit t n) table in
                        let unbook = ap (λ (t : TableState). bit t n) unbooked in
                        let one = cleared.bits n in
                        let all = gone.bits n in
                        let parts = times-append n block (blocks_reached u.at u.version) in
                        omega arith;
                    put = puts_marked m.table t3 m'.table set puts marks_all table others_put spells in_range few_table;
                  };
                  pending = ap (λ s. s.slots) pending;
                  there = had_there;
                  current = had_current;
                  ended = had_left;
                  others = others;
                  keyed =
                      subst (λ ds. AllZip (IsKeyed m'.versions.slots) (map (live_directory m'.versions.slots) ds)
                      (map (λ x. x.keys.items) ds)) (sym directories)
                      (subst (λ ds. AllZip (IsKeyed m'.versions.slots) ds
                      (map (λ x. x.keys.items) (slice_set m.directories.items place d')))
                      (sym entered)
                      (made_current_keyed m.table.size m whole m'.versions.slots place d d' at (Some (k, u))
                      (i, key_at) stay keyed));
                  held = λ n.
                      let same = ap (λ (t : TableState). holds t n) table in
                      let unbook = ap (λ (t : TableState). holds t n) unbooked in
                      let one : holds t2 n ≡ holds t1 n = ap (λ l. slice_index l n) cleared.held in
                      let all = gone.held n in
                      omega arith;
                  booked =
                      let same = ap (λ (t : TableState). t.booked) table in
                      let unbook = ap (λ (t : TableState). t.booked) unbooked in
                      let one = cleared.booked in
                      let all = gone.booked in
                      let cost = less_cost in
                      let most = less_booked in
                      omega arith;
                  unchanged = ap (λ (t : TableState). t.changed) table
                      ∙ ap (λ (n : ℕ). replicate (table_blocks n) false) marks_all.size;
                  sound = subst IsTable (sym table) (sound-unchanged t3 marks_all.sound);
                }
                  where
                    had_there : slot m.versions.slots k ≡ Some u
                    had_there = had.1

                    had_current : u.is_current ≡ true
                    had_current = had.2

                    had_left : slot m'.versions.slots k ≡ live_left (Some (k, u))
                    had_left = left had.0 had.1
