-- An empty directory is deleted: what is in memory stays whole.
use Rattle.std.proofs.Common.{◌≡◌, ◌⊎◌, ⊎_elim, ℕ, ◌+◌, ◌-◌, ◌<◌, ◌≤◌, List, [], ◌∷◌, ◌++◌, length, slice_index}
use Rattle.std.proofs.Common.{Option, Some, refl, sym, ap, subst, ◌∙◌, arith, length-append}
use Rattle.std.proofs.lemmas.Bool.{cases_eq}
use Rattle.std.specs.List.{AllByRecursion, AllZip}
use Rattle.changeset.specs.Common.{IsGateOrLog, IsPutIn}
use Rattle.spec_image.specs.declared.put.Put.{Put}
use Rattle.spec_image.specs.Common.{master_words, directory_cost, InSpace, total, times, space_start}
use Rattle.spec_image.proofs.Common.{times-append, all_left}
use Rattle.alloctab.specs.Common.{bit, holds}
use Rattle.volume.specs.declared.pending.PendingVersion.{PendingVersion}
use Rattle.volume.specs.Common.{CurrentVersion, CurrentDirectory, CurrentMap, IsWholeDirectory, IsWholeMap}
use Rattle.volume.specs.Common.{reaches_in_entries}
use Rattle.volume.specs.Common.{reaches_in_known, cost_of_version, cost_of_directory, cost_of_known, MemoryMap, slot}
use Rattle.volume.specs.Common.{pending_at, IsKeyed, AreStanding, AreWaiting, pinned_reaches, pinned_cost}
use Rattle.volume.specs.Common.{current_reaches, pending_reaches, pending_cost, creates, growths, cost_beyond}
use Rattle.volume.specs.Common.{IsWholeMemory, IsAligned, less_master, IsDirectoryRemoved, RemovesDirectory}
use Rattle.volume.proofs.common.Apart.{apart_same}
use Rattle.volume.proofs.VolumeStart.FoundDirectories.{all_at}
use Rattle.volume.proofs.common.Growths.{share}
use Rattle.volume.proofs.common.Holes.{hole_all, hole_zip, hole_growths}
use Rattle.volume.proofs.common.ChainPuts.{PutsBoth, space_not_written}
use Rattle.volume.proofs.DeleteDir.Tables.{chain_less}
use Rattle.volume.proofs.DeleteDir.Places.{within, entries_out, directories_out, found_other, primes_same}
use Rattle.volume.proofs.DeleteFile.Entries.{zip_length}
use Rattle.volume.proofs.common.HoleLists.{hole, hole_is, hole_length, hole_total}

module _ (size : ℕ) (k k' : CurrentMap) (ppn : ℕ) (puts : List Put) (whole : IsWholeMap size k)
    (removed : IsDirectoryRemoved size k k' ppn puts) where
  abbrev d : CurrentDirectory
  d = removed.directory

  whole_d : IsWholeDirectory size d
  whole_d = all_at (IsWholeDirectory size) k.directories removed.place d whole.each removed.directory_at

  -- with the files of no entry
  no_files : (n : ℕ) → reaches_in_entries n d.chain.entries d.versions ≡ 0
  no_files n = ap (λ es. reaches_in_entries n es d.versions) removed.no_entries

  no_cost : total cost_of_version d.versions ≡ 0
  no_cost = by d.versions (whole_d.aligned ∙ ap (λ es. length es) removed.no_entries)
    where
      by : (vs : List CurrentVersion) → length vs ≡ 0 → total cost_of_version vs ≡ 0
      by [] none = refl
      by (v ∷ vs) none = absurd (omega arith)

  -- each sum over the directories is one over the others and over it
  pub others_total : (f : CurrentDirectory → ℕ) → total f k'.directories + f d ≡ total f k.directories
  others_total f =
      let same = ap (total f) (directories_out size k k' ppn puts whole removed) in
      let all = hole_total f k.directories removed.place d removed.directory_at in
      omega arith

  pub removed_aligned : IsAligned k'
  removed_aligned =
      let ds = ap (λ (l : List CurrentDirectory). length l) (directories_out size k k' ppn puts whole removed) in
      let es = ap (λ l. length l) (entries_out size k k' ppn puts whole removed) in
      let fewer = hole_length k.directories removed.place (within size k k' ppn puts whole removed) in
      let fewer' = hole_length k.master.entries removed.place removed.there.within in
      let aligned = whole.aligned in
      omega arith

  pub removed_inside : AllByRecursion (InSpace size) k'.master.blocks
  removed_inside = all_left (InSpace size) k'.master.blocks removed.left
      (subst (AllByRecursion (InSpace size)) removed.blocks whole.inside)

  pub chain_times : (n : ℕ) → times n k.master.blocks ≡ times n k'.master.blocks + times n removed.left
  chain_times n = ap (times n) removed.blocks ∙ times-append n k'.master.blocks removed.left

  pub freed_times : (n : ℕ) → times n (removed.left ++ d.chain.blocks) ≡ times n removed.left + times n d.chain.blocks
  freed_times n = times-append n removed.left d.chain.blocks

  pub removed_whole : IsWholeMap size k'
  removed_whole = record {
    volume = whole.volume;
    size_is = removed.size_is ∙ whole.size_is;
    chain = removed.chain;
    inside = removed_inside;
    aligned = removed_aligned;
    each = subst (AllByRecursion (IsWholeDirectory size)) (sym (directories_out size k k' ppn puts whole removed))
        (hole_all (IsWholeDirectory size) k.directories removed.place whole.each);
    bits = λ n.
        let is = removed.bits n in
        let was = whole.bits n in
        let chain = chain_times n in
        let freed = freed_times n in
        let all = others_total (reaches_in_known n) in
        let none = no_files n in
        omega arith;
    unchanged = removed.unchanged;
  }

  less_left : length removed.left ≡ less_master k
  less_left = chain_less k.master k'.master removed.left whole.chain removed.chain removed.blocks
      (let out = ap (λ l. length l) (entries_out size k k' ppn puts whole removed) in
      let fewer = hole_length k.master.entries removed.place removed.there.within in omega arith)

  cost_less : cost_of_known k'.master k'.directories + (1 + less_master k) ≡ cost_of_known k.master k.directories
  cost_less =
      let all = others_total cost_of_directory in
      let parts = ap (λ ns. length ns) removed.blocks ∙ length-append k'.master.blocks removed.left in
      let left = less_left in
      let one = removed.one_block in
      let none = no_cost in
      omega arith

  bits_less : (n : ℕ) → bit k'.table n ≤ bit k.table n
  bits_less n = let is = removed.bits n in omega arith

  -- nothing is being created in it
  growths_same : (pending : List (Option PendingVersion)) → total (creates ppn) pending ≡ 0
      → growths pending k'.master.entries k'.directories ≡ growths pending k.master.entries k.directories
  growths_same pending none =
      let out : growths pending k'.master.entries k'.directories
      ≡ growths pending (hole removed.place k.master.entries) (hole removed.place k.directories) = λ i.
      growths pending (entries_out size k k' ppn puts whole removed i)
      (directories_out size k k' ppn puts whole removed i) in
      let all = hole_growths pending k.master.entries k.directories removed.place (ppn, removed.word) d whole.aligned
      removed.there.is removed.directory_at in
      let one : share pending ppn d ≡ directory_cost (length d.chain.entries + 0)
      - directory_cost (length d.chain.entries) = ap (λ (n : ℕ). directory_cost (length d.chain.entries + n)
      - directory_cost (length d.chain.entries)) none in
      let same : directory_cost (length d.chain.entries + 0) ≡ directory_cost
      (length d.chain.entries) = ap directory_cost
      (omega arith) in
      omega arith

  -- what is put
  abbrev pub puts_both : PutsBoth master_words size k.table k'.table k.master k'.master puts
  puts_both = record {
    chain_puts = removed.chain_puts;
    chain = removed.put_chain;
    few = removed.few;
    table = removed.put;
    inside = removed_inside;
  }

  -- no block of the free space is written, except those of the master directory
  pub not_written : (n : ℕ) → space_start size ≤ n → times n k.master.blocks ≡ 0
      → IsGateOrLog size n ⊎ IsPutIn puts n → ⊥
  not_written n from none = space_not_written puts_both n from (let chain = chain_times n in omega arith)

-- Memory, with the versions in use, which stay.
module _ (size : ℕ) (c c' : MemoryMap) (ppn : ℕ) (puts : List Put) (memory : IsWholeMemory size c)
    (removes : RemovesDirectory size c c' ppn puts) where
  abbrev k : CurrentMap
  k = c.known

  abbrev k' : CurrentMap
  k' = c'.known

  abbrev removed : IsDirectoryRemoved size c.known c'.known ppn puts
  removed = removes.removed

  holds_same : (n : ℕ) → holds k'.table n ≡ holds k.table n
  holds_same n = ap (λ l. slice_index l n) removed.held

  growths_are : growths c'.pending k'.master.entries k'.directories ≡ growths c.pending k.master.entries k.directories
  growths_are = (λ i. growths (removes.pending i) k'.master.entries k'.directories)
      ∙ growths_same size k k' ppn puts memory.map removed c.pending removes.uncreated

  beyond_same : cost_beyond c' ≡ cost_beyond c
  beyond_same =
      let grown = growths_are in
      let l = ap (total pinned_cost) removes.live in
      let p = ap (total pending_cost) removes.pending in
      omega arith

  pub removed_memory : IsWholeMemory size c'
  removed_memory = record {
    map = removed_whole size k k' ppn puts memory.map removed;
    keyed =
        subst (λ l. AllZip (IsKeyed l) k'.directories c'.keys) (sym removes.live)
        (subst (AllZip (IsKeyed c.live) k'.directories) (sym (removes.keys
        ∙ sym (hole_is c.keys removed.place keys_within)))
        (subst (λ ds. AllZip (IsKeyed c.live) ds (hole removed.place c.keys))
        (sym (directories_out size k k' ppn puts memory.map removed))
        (hole_zip (IsKeyed c.live) k.directories c.keys removed.place memory.keyed
        (within size k k' ppn puts memory.map removed))));
    standing = subst AreStanding (sym removes.live) memory.standing;
    waiting = subst (AreWaiting size) (sym removes.pending) memory.waiting;
    current = λ n.
        let same = ap (total (current_reaches n)) removes.live in
        let all = others_total size k k' ppn puts memory.map removed
        (λ (x : CurrentDirectory). reaches_in_entries n x.chain.entries x.versions) in
        let none = no_files size k k' ppn puts memory.map removed n in
        let was = memory.current n in
        omega arith;
    housed = λ q absent. ap (total (creates q)) removes.pending ∙ ⊎_elim
        (λ is. ap (λ (p : ℕ). total (creates p) c.pending) is ∙ removes.uncreated)
        (λ other. memory.housed q (sym (found_other size k k' ppn puts memory.map removed q other) ∙ absent))
        (cases_eq q ppn);
    held = λ n.
        let same = holds_same n in
        let was = memory.held n in
        let held = ap (total (pinned_reaches n)) removes.live in
        let waits = ap (total (pending_reaches n)) removes.pending in
        omega arith;
    inside = λ n some. memory.inside n (let same = holds_same n in omega arith);
    primes = λ key v there current.
        let none = memory.primes key v (sym (ap (λ ls. slot ls key) removes.live) ∙ there) current in
        let same = holds_same v.at in
        omega arith;
    own = λ key p at.
        let waited : pending_at c.pending key ≡ Some p = ap (λ ps. pending_at ps key) (sym removes.pending) ∙ at in
        apart_same c c' p (memory.own key p waited) removes.live
        (λ n there. primes_same size k k' ppn puts memory.map removed p.prime.ppn p.prime.file ∙ there)
        (λ n mine set. let less = bits_less size k k' ppn puts memory.map removed n in omega arith)
        (λ j q is. ap (λ ps. pending_at ps j) (sym removes.pending) ∙ is);
    apart = λ n some.
        let was = memory.apart n (let same = holds_same n in omega arith) in
        let chain = chain_times size k k' ppn puts memory.map removed n in
        let all = others_total size k k' ppn puts memory.map removed
        (λ (x : CurrentDirectory). times n x.chain.blocks) in
        omega arith;
    fits = let few = memory.fits in let less = removed.booked in omega arith;
    booked =
        let was = memory.booked in
        let less = removed.booked in
        let cost = cost_less size k k' ppn puts memory.map removed in
        let beyond = beyond_same in
        omega arith;
    beyond = λ some.
        let most = memory.beyond (let beyond = beyond_same in omega arith) in
        let less = removed.booked in
        omega arith;
    within = λ some.
        let waits = ap (total pending_cost) removes.pending in
        let most = memory.within (omega arith) in
        let less = removed.booked in
        omega arith;
  }
    where
      keys_within : removed.place < length c.keys
      keys_within =
          let many = zip_length (IsKeyed c.live) k.directories c.keys memory.keyed in
          let below = within size k k' ppn puts memory.map removed in
          omega arith
