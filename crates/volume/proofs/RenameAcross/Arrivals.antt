-- A directory in memory gets an entry of a new name: what each step requires, and the whole of it from what each did.
use Rattle.std.proofs.Common.{◌≡◌, ◌↔◌, ℕ, ◌+◌, ◌-◌, ◌^◌, ◌<◌, ◌≤◌, ⊎_elim, Bool, true, false, if◌then◌else◌, List}
use Rattle.std.proofs.Common.{[], ◌∷◌, ◌++◌, map, length, slice_get, slice_set, option_to_list, Option, Some, None}
use Rattle.std.proofs.Common.{IfSome, IfNone, IsTrue, refl, sym, ap, subst, ◌∙◌, arith, append-nil}
use Rattle.std.proofs.lemmas.List.{length-map}
use Rattle.std.specs.Ordering.{nat_cmp}
use Rattle.std.specs.FinMap.Entries.{find}
use Rattle.words36.specs.declared.names.FileName.{FileName}
use Rattle.changeset.specs.Common.{times_head, some_or_none}
use Rattle.spec_image.specs.declared.put.Put.{Put}
use Rattle.spec_image.specs.Common.{directory_cost, file_words, IsFileEntry, InSpace, name_cmp, total, times, insert}
use Rattle.spec_image.specs.Common.{from_entries, growth}
use Rattle.spec_image.proofs.Common.{some_same, some_none}
use Rattle.alloctab.specs.Common.{sound-booked, TableState, IsTable, IsFree, bit, holds, space, used_in_space}
use Rattle.directory.specs.Common.{IsChain, viewed, StandsAt, TakesBlock, PutsChain, inserted}
use Rattle.retrieval.specs.Common.{Takes, IsFixed}
use Rattle.retrieval.proofs.TakenBlocks.{Stays, takes_stays, takes_each, may_be_written}
use Rattle.volume.specs.declared.live.LiveDirectory.{LiveDirectory}
use Rattle.volume.specs.declared.live.LiveMap.{LiveMap}
use Rattle.volume.specs.declared.live.LiveVersion.{LiveVersion}
use Rattle.volume.specs.Common.{entries_with, IsDirectoryOf, file_view, master_view, CurrentDirectory, IsWholeDirectory}
use Rattle.volume.specs.Common.{MemoryMap, slot, IsKeyed, creates, growths, IsWholeMemory, memory_of, live_directory}
use Rattle.volume.specs.Common.{with_booked, Arrives, entries_there, Marks, PutsInUse}
use Rattle.volume.proofs.common.BlockLists.{marks_none, marks_then, marks_counts}
use Rattle.volume.proofs.VolumeStart.FoundDirectories.{mapped_at, zip_at, all_at}
use Rattle.volume.proofs.common.Growths.{created_cost, entries_few}
use Rattle.volume.proofs.common.LiveLookups.{as_many}
use Rattle.volume.proofs.common.LiveTotals.{memory_uses_grown, memory_used}
use Rattle.volume.proofs.PublishVersion.StepPremises.{part_of, share_within, full_grows, one_number, no_number}
use Rattle.volume.proofs.common.TableBits.{bit_few, whole_fixed}
use Rattle.volume.proofs.PutWords.Memory.{chains_within}
use Rattle.volume.proofs.DeleteFile.Removals.{marks_booked}
use Rattle.volume.proofs.PublishVersion.UsedVersions.{takes_once}
use Rattle.retrieval.proofs.GrownLists.{takes_table, takes_holds}

-- Blocks that are taken after what they cost is booked.

pub record TakesFor (t u : TableState) (grown : List ℕ) (more : ℕ) : Type 0 where
  pub marks : Marks t u
  pub bits : (n : ℕ) → bit u n ≡ bit t n
  pub held : (n : ℕ) → holds u n ≡ holds t n + times n grown
  pub booked : u.booked ≡ t.booked + more
  pub fresh : (n : ℕ) → bit t n + times n grown ≤ 1
  pub free : (n : ℕ) → 0 < times n grown → IsFree t n × InSpace t.size n

taken_for : (t u : TableState) (grown : List ℕ) (more : ℕ) → IsTable t → IsFixed t
    → Takes (with_booked t more) grown u → TakesFor t u grown more
taken_for t u grown more sound fixed takes = record {
  marks = subst (Marks t) (sym same)
      (marks_counts t b u.held (marks_booked t t (t.booked + more) (marks_none t sound))
      (subst IsTable same stays.sound));
  bits = λ n. ap (λ (w : TableState). bit w n) same;
  held = takes_holds b grown u sound' takes;
  booked = stays.booked;
  fresh = λ n. ⊎_elim
      (λ (there : 0 < times n grown).
      let free = (takes_each b grown u sound' fixed takes n there).1 in
      omega (arith, free.clear, takes_once b grown u sound' fixed takes n))
      (λ (none : times n grown ≡ 0). omega (arith, bit_few t n)) (some_or_none (times n grown));
  free = λ n there.
      let free = may_be_written b.size b grown u refl sound' fixed takes n there in
      (record { clear = free.0.clear; unheld = free.0.unheld }, free.1);
}
  where
    b : TableState
    b = with_booked t more

    sound' : IsTable b
    sound' = sound-booked t (t.booked + more) sound

    same : u ≡ record b { held = u.held }
    same = takes_table b grown u takes

    stays : Stays b u (length grown)
    stays = takes_stays b grown u sound' fixed takes

-- the chain has its additional block if it grows
grown_blocks : (grows : Bool) (full : Type 0) (o : Option ℕ) (old blocks : List ℕ) → (IsTrue grows ↔ full)
    → length (option_to_list o) ≡ (if grows then 1 else 0) → ((full → ⊥) → blocks ≡ old)
    → ((n : ℕ) → full → o ≡ Some n → blocks ≡ old ++ n ∷ []) → blocks ≡ old ++ option_to_list o
grown_blocks true full o old blocks takes count stays more =
    let one = one_number o count in
    more one.0 (takes.0 refl) one.1 ∙ ap (λ (q : Option ℕ). old ++ option_to_list q) (sym one.1)
grown_blocks false full o old blocks takes count stays more =
    stays (λ is. let yes : false ≡ true = takes.1 is in cc)
    ∙ sym (ap (λ (ns : List ℕ). old ++ ns) (no_number o count) ∙ append-nil old)

-- a new name has its key after the others
new_key : (o : Option ℕ) (A : ℕ → Type 0) (B : Type 0) → IfSome o A → IfNone o B → ((k : ℕ) → A k → ⊥) → B
new_key None A B old new never = new
new_key (Some k) A B old new never = absurd (never k old)

-- One directory in memory, at its place.

module _ (m : LiveMap) (whole : IsWholeMemory m.table.size (memory_of m)) (ppn place : ℕ) (w : ℕ × ℕ)
    (stands : StandsAt nat_cmp (map master_view m.master.entries) ppn w place)
    (d : LiveDirectory) (at : slice_get m.directories.items place ≡ Some d) where
  abbrev c : MemoryMap
  c = memory_of m

  abbrev dk : CurrentDirectory
  dk = live_directory m.versions.slots d

  pub known_here : slice_get c.known.directories place ≡ Some dk
  known_here = mapped_at (live_directory m.versions.slots) m.directories.items place d at

  pub keys_here : slice_get c.keys place ≡ Some d.keys.items
  keys_here = mapped_at (λ (x : LiveDirectory). x.keys.items) m.directories.items place d at

  pub keyed_here : IsKeyed c.live dk d.keys.items
  keyed_here =
      let pair = zip_at (IsKeyed c.live) c.known.directories c.keys place d.keys.items whole.keyed keys_here in
      subst (λ (x : CurrentDirectory). IsKeyed c.live x d.keys.items) (some_same (sym pair.1 ∙ known_here)) pair.2

  pub whole_here : IsWholeDirectory m.table.size dk
  whole_here = all_at (IsWholeDirectory m.table.size) c.known.directories place dk whole.map.each known_here

  pub directory_here : IsDirectoryOf c ppn dk
  directory_here = (place, w, stands, known_here)

  pub as_many_keys : length d.keys.items ≡ length d.chain.entries
  as_many_keys = as_many c.live dk.chain.entries d.keys.items keyed_here ∙ length-map d.chain.entries file_view

  pub entries_fit : entries_there m d ppn < 2 ^ 64
  entries_fit = let few = entries_few m.table.size c ppn place dk whole known_here in omega arith

  pub known_fit : (x : CurrentDirectory) → slice_get c.known.directories place ≡ Some x → entries_with c x ppn < 2 ^ 64
  known_fit x is = let few = entries_few m.table.size c ppn place x whole is in omega arith

  -- a block that was free is in no chain
  free_elsewhere : (n : ℕ) → bit m.table n ≡ 0 → times n d.chain.blocks ≡ 0
  free_elsewhere n clear =
      let part = part_of (λ (x : CurrentDirectory). times n x.chain.blocks) c.known.directories place dk known_here in
      let bits = whole.map.bits n in
      let chains = chains_within n c.known.directories in
      omega arith

  module _ (name : FileName) (absent : find name_cmp name (map file_view d.chain.entries) ≡ None)
      (grows : Bool) (full_is : IsTrue grows ↔ TakesBlock name_cmp (viewed file_view d.chain) name)
      (more : ℕ) (more_is : more ≡ growth (entries_there m d ppn))
      (room : 0 < growth (entries_there m d ppn) → m.table.booked + growth (entries_there m d ppn)
      ≤ space m.table.size) where
    -- It grows for an entry that is being created, or by what is booked for this one.

    full_chain : IsTrue grows → (others : ℕ) → 0 < others
        → 1 ≤ directory_cost (length dk.chain.entries + others) - directory_cost (length dk.chain.entries)
    full_chain grown others some = full_grows (length dk.chain.entries) (length dk.chain.blocks) others
        whole_here.chain.counted (full_is.0 grown).1 some

    full_more : IsTrue grows → total (creates ppn) c.pending ≡ 0 → 1 ≤ more
    full_more grown none =
        let one = full_chain grown 1 (omega arith) in
        let same : growth (entries_there m d ppn) ≡ growth (length dk.chain.entries) = ap growth (omega arith) in
        omega arith

    full_created : IsTrue grows → 0 < total (creates ppn) c.pending
        → 1 ≤ growths c.pending c.known.master.entries c.known.directories
    full_created grown some =
        let within = share_within c.pending c.known.master.entries c.known.directories place ppn w dk stands.is
        known_here in
        let one = full_chain grown (total (creates ppn) c.pending) some in
        omega arith

    pub chain_booked : (b : TableState) → b ≡ record m.table { booked = m.table.booked + more } → IsTrue grows
        → used_in_space b < b.booked
    chain_booked b is grown =
        let most = memory_used m.table.size c whole in
        let used : used_in_space b ≡ used_in_space m.table = ap used_in_space is in
        let booked : b.booked ≡ m.table.booked + more = ap (λ (t : TableState). t.booked) is in
        ⊎_elim
        (λ (some : 0 < total (creates ppn) c.pending).
        let one = memory_uses_grown m.table.size c whole 1 (full_created grown some) in
        omega arith)
        (λ (none : total (creates ppn) c.pending ≡ 0).
        let one = full_more grown none in
        let all = memory_uses_grown m.table.size c whole 0 (omega arith) in
        omega arith) (some_or_none (total (creates ppn) c.pending))

    pub chain_room : (b : TableState) → b ≡ record m.table { booked = m.table.booked + more } → IsTrue grows
        → b.booked ≤ space b.size
    chain_room b is grown =
        let booked : b.booked ≡ m.table.booked + more = ap (λ (t : TableState). t.booked) is in
        let size : space b.size ≡ space m.table.size = ap (λ (t : TableState). space t.size) is in
        ⊎_elim
        (λ (some : 0 < more). let fits = room (omega arith) in omega arith)
        (λ (none : more ≡ 0). ⊎_elim
        (λ (created : 0 < total (creates ppn) c.pending).
        let cost = created_cost ppn c.pending in
        let within = whole.within (omega arith) in
        omega arith)
        (λ (no_one : total (creates ppn) c.pending ≡ 0). absurd (let one = full_more grown no_one in omega arith))
        (some_or_none (total (creates ppn) c.pending))) (some_or_none more)

    -- Its block is taken.
    module _ (sound : IsTable m.table) (b : TableState) (is : b ≡ record m.table { booked = m.table.booked + more })
        (o : Option ℕ) (count : length (option_to_list o) ≡ (if grows then 1 else 0)) (t : TableState)
        (takes : Takes b (option_to_list o) t) where
      pub takes_for : TakesFor m.table t (option_to_list o) more
      takes_for = taken_for m.table t (option_to_list o) more sound (whole_fixed m.table.size c.known whole.map)
          (subst (λ (x : TableState). Takes x (option_to_list o) t) is takes)

      pub grown_free : (new : FileName) → new ≡ name → TakesBlock name_cmp (viewed file_view d.chain) new
          → (n : ℕ) × (o ≡ Some n) × (times n d.chain.blocks ≡ 0)
      grown_free new same full = by grows
          (full_is.1 (subst (TakesBlock name_cmp (viewed file_view d.chain)) same full)) count
        where
          by : (b : Bool) → IsTrue b → length (option_to_list o) ≡ (if b then 1 else 0) → (n : ℕ) × (o ≡ Some n)
              × (times n d.chain.blocks ≡ 0)
          by false holds count = cc
          by true holds count =
              let one = one_number o count in
              let list : times one.0 (option_to_list o) ≡ times one.0 (one.0 ∷ []) = ap (λ (q : Option ℕ). times one.0
              (option_to_list q)) one.1 in
              let first = times_head one.0 one.0 [] refl in
              (one.0, one.1, free_elsewhere one.0 (takes_for.free one.0 (omega arith)).0.clear)

      pub use_held : (n : ℕ) → times n (option_to_list o) ≤ holds t n
      use_held n = let taken = takes_for.held n in omega arith

      pub use_clear : (n : ℕ) → bit t n + times n (option_to_list o) ≤ 1
      use_clear n = let one = takes_for.fresh n in let same = takes_for.bits n in omega arith

      -- And the entry has come.
      module _ (key prime_at : ℕ) (prime_is : (v : LiveVersion) → slot m.versions.slots key ≡ Some v → prime_at ≡ v.at)
          (new : FileName) (new_is : new ≡ name) (new_at : ℕ) (at_is : new_at ≡ prime_at)
          (d' : LiveDirectory) (items : map file_view d'.chain.entries
          ≡ inserted name_cmp (map file_view d.chain.entries) (new, new_at))
          (names : from_entries {R = name_cmp} (map file_view d'.chain.entries)
          ≡ insert (from_entries (map file_view d.chain.entries)) new new_at)
          (stays : (TakesBlock name_cmp (viewed file_view d.chain) new → ⊥) → d'.chain.blocks ≡ d.chain.blocks)
          (takes_more : (n : ℕ) → TakesBlock name_cmp (viewed file_view d.chain) new → o ≡ Some n
          → d'.chain.blocks ≡ d.chain.blocks ++ n ∷ [])
          (chain : IsChain name_cmp IsFileEntry (viewed file_view d'.chain))
          (set : List Put)
          (put_chain : PutsChain file_words (viewed file_view d.chain) (viewed file_view d'.chain) [] set)
          (few : length set ≤ 2) (answer : Option ℕ) (now : ℕ → Type 0)
          (replaced : IfSome answer (λ old. (i : ℕ) × (v : ℕ)
          × StandsAt name_cmp (map file_view d.chain.entries) new v i × (slice_get d.keys.items i ≡ Some old)
          × now i))
          (added : IfNone answer ((find name_cmp new (map file_view d.chain.entries) ≡ None)
          × (d'.keys.items ≡ d.keys.items ++ key ∷ [])))
          (t2 : TableState) (used : PutsInUse t t2 (option_to_list o))
          (m' : LiveMap) (master : m'.master ≡ m.master) (versions : m'.versions ≡ m.versions)
          (pending : m'.pending ≡ m.pending)
          (directories : m'.directories.items ≡ slice_set m.directories.items place d') (table : m'.table ≡ t2) where
        absent_new : find name_cmp new (map file_view d.chain.entries) ≡ None
        absent_new = ap (λ (q : FileName). find name_cmp q (map file_view d.chain.entries)) new_is ∙ absent

        full_new : IsTrue grows ↔ TakesBlock name_cmp (viewed file_view d.chain) new
        full_new = subst (λ (q : FileName). IsTrue grows ↔ TakesBlock name_cmp (viewed file_view d.chain) q)
            (sym new_is) full_is

        pub arrives : Arrives m m' ppn name key set
        arrives = record {
          place = place;
          word = w;
          there = stands;
          directory = d;
          directory' = d';
          directory_at = at;
          master = master;
          versions = versions;
          pending = pending;
          directories = directories;
          at = new_at;
          at_is = λ v there. at_is ∙ prime_is v there;
          items = items ∙ ap (λ (q : FileName). inserted name_cmp (map file_view d.chain.entries) (q, new_at)) new_is;
          names = names ∙ ap (λ (q : FileName). insert (from_entries (map file_view d.chain.entries)) q new_at) new_is;
          keys = (new_key answer (λ old. (i : ℕ) × (v : ℕ)
              × StandsAt name_cmp (map file_view d.chain.entries) new v i
              × (slice_get d.keys.items i ≡ Some old) × now i)
              ((find name_cmp new (map file_view d.chain.entries) ≡ None)
              × (d'.keys.items ≡ d.keys.items ++ key ∷ [])) replaced added
              (λ k is. some_none (sym is.2.found ∙ absent_new))).1;
          chain = chain;
          grown = option_to_list o;
          blocks = grown_blocks grows (TakesBlock name_cmp (viewed file_view d.chain) new) o d.chain.blocks
              d'.chain.blocks full_new count stays takes_more;
          fresh = takes_for.fresh;
          free = takes_for.free;
          put_chain = put_chain;
          few = few;
          marks = subst (Marks m.table) (sym table) (marks_then m.table t t2 takes_for.marks used.marks);
          bits = λ n.
              let same = ap (λ (x : TableState). bit x n) table in
              let taken = takes_for.bits n in
              let now = used.bits n in
              omega arith;
          held = λ n.
              let same = ap (λ (x : TableState). holds x n) table in
              let taken = takes_for.held n in
              let now = used.held n in
              omega arith;
          booked =
              let same = ap (λ (x : TableState). x.booked) table in
              let taken = takes_for.booked in
              let now = used.booked in
              omega arith;
        }
