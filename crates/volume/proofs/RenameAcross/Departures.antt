-- A directory in memory loses an entry: what each step requires, and the whole of it from what each step did.
use Rattle.std.proofs.Common.{◌≡◌, ℕ, suc, ◌+◌, ◌-◌, ◌^◌, ◌<◌, ◌≤◌, List, ◌++◌, map, length, take, drop, slice_get}
use Rattle.std.proofs.Common.{slice_set, slice_index, Some, sym, ap, subst, ◌∙◌, arith}
use Rattle.std.proofs.lemmas.List.{length-map}
use Rattle.std.specs.Ordering.{nat_cmp}
use Rattle.words36.specs.declared.names.FileName.{FileName}
use Rattle.spec_image.specs.declared.put.Put.{Put}
use Rattle.spec_image.specs.Common.{file_words, IsFileEntry, name_cmp, total, times, remove, from_entries, growth}
use Rattle.spec_image.proofs.Common.{some_same, times-append}
use Rattle.alloctab.specs.Common.{TableState, bit, holds}
use Rattle.directory.specs.Common.{IsChain, viewed, StandsAt, PutsChain, removed, last_first}
use Rattle.volume.specs.declared.live.LiveDirectory.{LiveDirectory}
use Rattle.volume.specs.declared.live.LiveMap.{LiveMap}
use Rattle.volume.specs.Common.{file_view, master_view, CurrentDirectory, creates, live_directory, MayGiveUpEntry}
use Rattle.volume.specs.Common.{GivesUpEntry, entries_there, Marks, ClearsBits}
use Rattle.volume.proofs.VolumeStart.FoundDirectories.{mapped_at}
use Rattle.volume.proofs.DeleteFile.Removals.{marks_booked}
use Rattle.volume.proofs.common.Lists.{set_there}
use Rattle.volume.proofs.common.HoleLists.{hole_length, removed_is}

-- a directory that is there has its place in the list
pub place_inside : (m : LiveMap) (ppn place : ℕ) (w : ℕ × ℕ)
    → StandsAt nat_cmp (map master_view m.master.entries) ppn w place
    → length m.directories.items ≡ length m.master.entries → place < length m.directories.items
place_inside m ppn place w stands aligned =
    let within = stands.within in
    let many = length-map m.master.entries master_view in
    omega arith

module _ (m : LiveMap) (ppn : ℕ) (name : FileName) (place : ℕ) (w : ℕ × ℕ)
    (stands : StandsAt nat_cmp (map master_view m.master.entries) ppn w place)
    (d : LiveDirectory) (at : slice_get m.directories.items place ≡ Some d) (may_leave : MayGiveUpEntry m d ppn name)
    (i v : ℕ) (named : StandsAt name_cmp (map file_view d.chain.entries) name v i)
    (d' : LiveDirectory) (left : List ℕ) (blocks : d.chain.blocks ≡ d'.chain.blocks ++ left)
    (items : map file_view d'.chain.entries ≡ removed name_cmp (map file_view d.chain.entries) name) where
  fewer : length (map file_view d'.chain.entries) + 1 ≡ length (map file_view d.chain.entries)
  fewer =
      let out = ap (λ es. length es) (items ∙ removed_is (map file_view d.chain.entries) i name v named) in
      let count = hole_length (map file_view d.chain.entries) i named.within in
      omega arith

  pub leaves_few : (x : CurrentDirectory)
      → slice_get (map (live_directory m.versions.slots) (slice_set m.directories.items place d')) place ≡ Some x
      → length x.chain.entries + total (creates ppn) m.pending.slots < 2 ^ 64
  leaves_few x is =
      let there = mapped_at (live_directory m.versions.slots) (slice_set m.directories.items place d') place d'
      (set_there m.directories.items place d d' at) in
      let same : live_directory m.versions.slots d' ≡ x = some_same (sym there ∙ is) in
      let many = ap (λ (y : CurrentDirectory). length y.chain.entries) same in
      let one = fewer in
      let most = may_leave.few in
      omega arith

  pub leaves_set : (n : ℕ) → times n left ≤ bit m.table n
  leaves_set n =
      let parts = ap (times n) blocks ∙ times-append n d'.chain.blocks left in
      let set = may_leave.set n in
      omega arith

  module _ (less : ℕ) (less_is : less ≡ growth (entries_there m d' ppn)) (less_few : less < 2)
      (some : 0 < m.table.booked) (t1 t2 : TableState) (cleared : ClearsBits m.table t1 left)
      (unbooked : t2 ≡ record t1 { booked = t1.booked - less }) (key : ℕ)
      (key_at : slice_get d.keys.items i ≡ Some key)
      (keys : d'.keys.items ≡ take i d.keys.items ++ last_first (drop (suc i) d.keys.items))
      (names : from_entries {R = name_cmp} (map file_view d'.chain.entries)
      ≡ remove (from_entries (map file_view d.chain.entries)) name)
      (chain : IsChain name_cmp IsFileEntry (viewed file_view d'.chain)) (before after : List Put)
      (put_chain : PutsChain file_words (viewed file_view d.chain) (viewed file_view d'.chain) before after)
      (few : length after ≤ length before + 2)
      (m' : LiveMap) (master : m'.master ≡ m.master) (versions : m'.versions ≡ m.versions)
      (pending : m'.pending ≡ m.pending)
      (directories : m'.directories.items ≡ slice_set m.directories.items place d') (table : m'.table ≡ t2) where
    pub leaves : GivesUpEntry m m' ppn name before after
    leaves = record {
      place = place;
      word = w;
      there = stands;
      directory = d;
      directory' = d';
      directory_at = at;
      master = master;
      versions = versions;
      pending = pending;
      directories = directories;
      index = i;
      at = v;
      stood = named;
      key = key;
      key_at = key_at;
      items = items;
      names = names;
      keys = keys;
      chain = chain;
      left = left;
      blocks = blocks;
      put_chain = put_chain;
      few = few;
      marks = subst (Marks m.table) (sym (table ∙ unbooked))
          (marks_booked m.table t1 (t1.booked - less) cleared.marks);
      bits = λ n.
          let same = ap (λ (t : TableState). bit t n) (table ∙ unbooked) in
          let gone = cleared.bits n in
          omega arith;
      held = λ n. ap (λ (t : TableState). holds t n) (table ∙ unbooked) ∙ ap (λ l. slice_index l n) cleared.held;
      booked =
          let same = ap (λ (t : TableState). t.booked) (table ∙ unbooked) in
          let kept = cleared.booked in
          omega arith;
    }
