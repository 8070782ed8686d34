-- A file moves to another directory: what is in memory stays whole.
use Rattle.std.proofs.Common.{◌≡◌, ℕ, ◌+◌, ◌-◌, ◌*◌, ◌^◌, ◌<◌, ◌≤◌, ⊎_elim, true, false, List, [], ◌∷◌, length}
use Rattle.std.proofs.Common.{slice_get, slice_set, Option, Some, None, IfSome, refl, sym, ap, subst, ◌∙◌, arith}
use Rattle.std.proofs.lemmas.List.{length-set}
use Rattle.std.proofs.lemmas.Option.{slice_get_within}
use Rattle.std.specs.List.{AllByRecursion}
use Rattle.std.specs.Ordering.{nat_cmp}
use Rattle.std.specs.FinMap.Entries.{find}
use Rattle.words36.specs.declared.names.FileName.{FileName}
use Rattle.spec_image.specs.declared.put.Put.{Put}
use Rattle.spec_image.specs.Common.{directory_cost, SpecMasterEntry, InSpace, IsMasterEntryOf, total, times, growth}
use Rattle.spec_image.specs.Common.{place_of}
use Rattle.spec_image.proofs.Common.{times-append, all_append, all_left}
use Rattle.alloctab.specs.Common.{holds, space}
use Rattle.changeset.specs.Common.{some_or_none}
use Rattle.directory.specs.Common.{ChainState, IsChain}
use Rattle.volume.specs.Common.{entries_with, claims, CurrentDirectory, reaches_in_known, reaches_in_entries}
use Rattle.volume.specs.Common.{cost_of_directory, cost_of_known, IsWholeVersion, IsWholeDirectory, IsWholeMap}
use Rattle.volume.specs.Common.{MemoryMap, slot, pending_at, as_known, pinned_reaches, pinned_cost, current_reaches}
use Rattle.volume.specs.Common.{pending_reaches, pending_cost, creates, growths, cost_beyond, AreWaiting, IsCurrentAt}
use Rattle.volume.specs.Common.{IsApart, IsWholeMemory, MovesAcross}
use Rattle.volume.specs.declared.live.LiveVersion.{LiveVersion}
use Rattle.volume.specs.declared.pending.PendingVersion.{PendingVersion}
use Rattle.volume.proofs.common.Apart.{apart_stays}
use Rattle.volume.proofs.VolumeStart.FoundDirectories.{all_at}
use Rattle.volume.proofs.common.LiveLookups.{standing_at}
use Rattle.volume.proofs.common.UsedBlocks.{element_at}
use Rattle.volume.proofs.RenameAcross.Places.{directory_stays, across_stays}
use Rattle.volume.proofs.PinVersion.Pins.{all_updated, total_at}
use Rattle.volume.proofs.common.Growths.{share, cost_rises, created_cost, set_growths, came}
use Rattle.volume.proofs.RenameWithin.Places.{unclaimed_place}
use Rattle.volume.proofs.common.SameVersion.{version_total, version_primes, version_stays}
use Rattle.volume.proofs.common.Lists.{set_each, all_places, total_set}

-- If no new entry is being created, no directory will cost more.
no_growths : (pending : List (Option PendingVersion)) → ((ppn : ℕ) → total (creates ppn) pending ≡ 0)
    → (es : List SpecMasterEntry) (ds : List CurrentDirectory) → growths pending es ds ≡ 0
no_growths pending none [] ds = refl
no_growths pending none (e ∷ es) [] = refl
no_growths pending none (e ∷ es) (d ∷ ds) =
    let rest = no_growths pending none es ds in
    let same : directory_cost (length d.chain.entries + total (creates e.0) pending)
    ≡ directory_cost (length d.chain.entries) = ap directory_cost (let here = none e.0 in omega arith) in
    omega arith

-- An entry is removed while others are being created: what the directory costs, and will cost more.
went : (n m n' less : ℕ) → n' + 1 ≡ n → less ≡ directory_cost (n + m) - directory_cost (n + m - 1)
    → directory_cost (n' + m) - directory_cost n' + directory_cost n' + less
    ≡ directory_cost (n + m) - directory_cost n + directory_cost n
went n m n' less count is =
    let up = cost_rises n m in
    let up' = cost_rises n' m in
    let step = cost_rises (n' + m) 1 in
    let same : directory_cost (n' + m + 1) ≡ directory_cost (n + m) = ap directory_cost (omega arith) in
    let before : directory_cost (n + m - 1) ≡ directory_cost (n' + m) = ap directory_cost (omega arith) in
    omega arith

module _ (size : ℕ) (c c' : MemoryMap) (ppn : ℕ) (name : FileName) (to_ppn : ℕ) (to : FileName)
    (protection key : ℕ) (v : LiveVersion) (words : List ℕ) (puts : List Put) (whole : IsWholeMemory size c)
    (is : MovesAcross size c c' ppn name to_ppn to protection key v words puts) where
  abbrev v' : LiveVersion
  v' = record v { prime = is.prime }

  abbrev d : CurrentDirectory
  d = is.moved.directory

  abbrev d' : CurrentDirectory
  d' = is.moved.directory'

  abbrev t : CurrentDirectory
  t = is.moved.target

  abbrev t' : CurrentDirectory
  t' = is.moved.target'

  -- the directories with the one that the file comes to
  abbrev entered : List CurrentDirectory
  entered = slice_set c.known.directories is.moved.to_place t'

  still_there : slice_get entered is.moved.place ≡ Some d
  still_there = directory_stays size c.known c'.known ppn name to_ppn to (v.at, as_known v) (as_known v') words puts
      is.moved

  -- Sums.

  live_total : (f : Option LiveVersion → ℕ) → f None ≡ 0 → f (Some v') ≡ f (Some v) → total f c'.live ≡ total f c.live
  live_total = version_total c c' key v is.prime is.there is.here is.others

  same_pending : (f : Option PendingVersion → ℕ) → total f c'.pending ≡ total f c.pending
  same_pending f = ap (total f) is.pending

  directory_total : (f : CurrentDirectory → ℕ) → total f c'.known.directories + f d + f t
      ≡ total f c.known.directories + f d' + f t'
  directory_total f =
      let first = total_set f c.known.directories is.moved.to_place t t' is.moved.target_at in
      let second = total_set f entered is.moved.place d d' still_there in
      let now = ap (total f) is.moved.directories in
      omega arith

  chain_times : (n : ℕ) → times n d.chain.blocks ≡ times n d'.chain.blocks + times n is.moved.left
  chain_times n = ap (times n) is.moved.blocks ∙ times-append n d'.chain.blocks is.moved.left

  target_times : (n : ℕ) → times n t'.chain.blocks ≡ times n t.chain.blocks + times n is.moved.grown
  target_times n = ap (times n) is.moved.to_blocks ∙ times-append n t.chain.blocks is.moved.grown

  master_times : (n : ℕ) → times n c'.known.master.blocks ≡ times n c.known.master.blocks
  master_times n = ap (λ (m : ChainState SpecMasterEntry). times n m.blocks) is.moved.master

  -- The map.

  was : IsWholeDirectory size d
  was = all_at (IsWholeDirectory size) c.known.directories is.moved.place d whole.map.each is.moved.directory_at

  target_was : IsWholeDirectory size t
  target_was = all_at (IsWholeDirectory size) c.known.directories is.moved.to_place t whole.map.each is.moved.target_at

  -- another prime says nothing of where a version lies
  new_version : IsWholeVersion (as_known v')
  new_version =
      let before = standing_at (λ w. IsWholeVersion (as_known w)) c.live key v whole.standing is.there in
      record { counted = before.counted; few = before.few; few_ribs = before.few_ribs }

  now_whole : IsWholeDirectory size d'
  now_whole = record {
    chain = is.moved.removed.chain;
    inside = all_left (InSpace size) d'.chain.blocks is.moved.left
        (subst (AllByRecursion (InSpace size)) is.moved.blocks was.inside);
    aligned = is.moved.removed.aligned;
    versions = all_places IsWholeVersion d'.versions (λ i u there.
        let within = slice_get_within d'.versions i u there in
        let e = element_at d'.chain.entries i (let aligned = is.moved.removed.aligned in omega arith) in
        let kept = is.moved.removed.each i e.0 u e.1 there in
        all_at IsWholeVersion d.versions kept.1 u was.versions kept.3);
  }

  target_whole : IsWholeDirectory size t'
  target_whole = record {
    chain = is.moved.entered.chain;
    inside = subst (AllByRecursion (InSpace size)) (sym is.moved.to_blocks)
        (all_append (InSpace size) t.chain.blocks is.moved.grown target_was.inside is.moved.inside);
    aligned = is.moved.entered.aligned;
    versions = all_places IsWholeVersion t'.versions (λ i u there.
        let within = slice_get_within t'.versions i u there in
        let e = element_at t'.chain.entries i (let aligned = is.moved.entered.aligned in omega arith) in
        ⊎_elim
        (λ of_new. subst IsWholeVersion (sym of_new.1) new_version)
        (λ kept. all_at IsWholeVersion t.versions kept.1 u target_was.versions kept.3)
        (is.moved.entered.each i e.0 u e.1 there));
  }

  moved_map : IsWholeMap size c'.known
  moved_map = record {
    volume = whole.map.volume;
    size_is = is.moved.size_is ∙ whole.map.size_is;
    chain = subst (IsChain nat_cmp (IsMasterEntryOf 2)) (sym is.moved.master) whole.map.chain;
    inside = subst (λ (m : ChainState SpecMasterEntry). AllByRecursion (InSpace size) m.blocks)
        (sym is.moved.master) whole.map.inside;
    aligned =
        let now = ap (λ (ds : List CurrentDirectory). length ds) is.moved.directories
        ∙ length-set entered is.moved.place d' ∙ length-set c.known.directories is.moved.to_place t' in
        let entries = ap (λ (m : ChainState SpecMasterEntry). length m.entries) is.moved.master in
        let aligned = whole.map.aligned in
        omega arith;
    each = subst (AllByRecursion (IsWholeDirectory size)) (sym is.moved.directories)
        (set_each (IsWholeDirectory size) entered is.moved.place d'
        (set_each (IsWholeDirectory size) c.known.directories is.moved.to_place t' whole.map.each target_whole)
        now_whole);
    bits = λ n.
        let bits = is.moved.bits n in
        let old = whole.map.bits n in
        let chain = chain_times n in
        let target = target_times n in
        let gone = is.moved.removed.reaches n in
        let come = is.moved.entered.reaches n in
        let all = directory_total (reaches_in_known n) in
        let master = master_times n in
        omega arith;
    unchanged = is.unchanged;
  }

  -- What is held.

  moved_apart : (n : ℕ) → 0 < holds c'.known.table n
      → times n c'.known.master.blocks + total (λ d. times n d.chain.blocks) c'.known.directories ≡ 0
  moved_apart n some =
      let same = is.held n in
      let none = whole.apart n (omega arith) in
      let chain = chain_times n in
      let target = target_times n in
      let all = directory_total (λ d. times n d.chain.blocks) in
      let master = master_times n in
      ⊎_elim (λ grown. absurd (let unheld = is.unheld n grown in omega arith)) (λ away. omega arith)
      (some_or_none (times n is.moved.grown))

  moved_primes : (k : ℕ) (u : LiveVersion) → slot c'.live k ≡ Some u → u.is_current ≡ true
      → holds c'.known.table u.at ≡ 0
  moved_primes k u there current = is.held u.at
      ∙ version_primes c c' key v is.prime is.there is.here is.others is.current whole.primes k u there current

  -- What is booked.

  -- the one directory costs as much less as is not booked any more, and the other one as much more as is booked for it
  moved_growths : (less : ℕ) → less ≡ directory_cost (entries_with c d ppn) - directory_cost (entries_with c d ppn - 1)
      → growths c'.pending c'.known.master.entries c'.known.directories
      + length d'.chain.blocks + length t'.chain.blocks + less
      ≡ growths c.pending c.known.master.entries c.known.directories + length d.chain.blocks + length t.chain.blocks
      + growth (entries_with c t to_ppn)
  moved_growths less less_is =
      let first = set_growths c.pending c.known.master.entries c.known.directories is.moved.to_place to_ppn
      is.moved.to_word t t' is.moved.to_there.is is.moved.target_at in
      let second = set_growths c.pending c.known.master.entries entered is.moved.place ppn is.moved.word d d'
      is.moved.there.is still_there in
      let now : growths c'.pending c'.known.master.entries c'.known.directories
      ≡ growths c.pending c.known.master.entries (slice_set entered is.moved.place d') =
      (λ i. growths (is.pending i) (is.moved.master i).entries (is.moved.directories i)) in
      let gone = went (length d.chain.entries) (total (creates ppn) c.pending) (length d'.chain.entries) less
      is.moved.removed.count less_is in
      let came_in = came (length t.chain.entries) (total (creates to_ppn) c.pending) in
      let one : share c.pending to_ppn t' + directory_cost (length t'.chain.entries)
      ≡ directory_cost (length t.chain.entries + 1 + total (creates to_ppn) c.pending)
      - directory_cost (length t.chain.entries + 1) + directory_cost (length t.chain.entries + 1) =
      ap (λ (l : ℕ). directory_cost (l + total (creates to_ppn) c.pending) - directory_cost l + directory_cost l)
      is.moved.entered.count in
      let counts_d = was.chain.counted in
      let counts_d' = is.moved.removed.chain.counted in
      let counts_t = target_was.chain.counted in
      let counts_t' = is.moved.entered.chain.counted in
      omega arith

  moved_booked : c'.known.table.booked ≡ cost_of_known c'.known.master c'.known.directories + cost_beyond c'
  moved_booked =
      let sum = is.booked in
      let was_booked = whole.booked in
      let held = live_total pinned_cost refl refl in
      let waiting = same_pending pending_cost in
      let all = directory_total cost_of_directory in
      let gone = is.moved.removed.cost in
      let come = is.moved.entered.cost in
      let grown = moved_growths _ refl in
      let master = ap (λ (m : ChainState SpecMasterEntry). length m.blocks) is.moved.master in
      omega arith

  -- what is booked was within a bound, or is within the free space
  bounded : (most : ℕ) → c.known.table.booked ≤ most → space size ≤ most → c'.known.table.booked ≤ most
  bounded most before free =
      let sum = is.booked in
      ⊎_elim
      (λ some. let room = is.room some in omega arith)
      (λ none. omega arith) (some_or_none (growth (entries_with c t to_ppn)))

  -- what is booked beyond the map was there before, if nothing new is written
  was_beyond : 0 < cost_beyond c' → 0 < cost_beyond c
  was_beyond some =
      let held = live_total pinned_cost refl refl in
      let waiting = same_pending pending_cost in
      ⊎_elim (λ there. there)
      (λ nothing.
      let none = no_growths c'.pending (λ q. let few = created_cost q c'.pending in omega arith)
      c'.known.master.entries c'.known.directories in
      absurd (omega arith)) (some_or_none (cost_beyond c))

  -- If nothing is written for the file, what is written shares nothing with it.
  module _ (unclaimed : claims c.pending (place_of ppn name) ≡ false) where
    moved_current : (p : PendingVersion) → ((p.prime.ppn ≡ ppn) × (p.prime.file ≡ name) → ⊥) → (u : LiveVersion)
        → IsCurrentAt c p.prime.ppn p.prime.file u
        → (w : LiveVersion) × IsCurrentAt c' p.prime.ppn p.prime.file w × (w.version.blocks ≡ u.version.blocks)
    moved_current p differ u current = version_stays c c' key v is.prime is.there is.here is.others is.current
        p.prime.ppn p.prime.file u current
        (across_stays size c.known c'.known ppn name to_ppn to (v.at, as_known v) (as_known v') words puts is.moved
        p.prime.ppn p.prime.file u.at differ current.at)

    -- nor is the block that the other directory takes one of them
    moved_own : (k : ℕ) (p : PendingVersion) → pending_at c'.pending k ≡ Some p → IsApart c' p
    moved_own k p there =
        let was_there : pending_at c.pending k ≡ Some p = ap (λ l. pending_at l k) (sym is.pending) ∙ there in
        apart_stays c c' p (whole.own k p was_there) (record {
          bits = λ n its set.
              let bits = is.moved.bits n in
              let held = whole.held n in
              let part = total_at (pending_reaches n) refl c.pending k in
              let here = ap (pending_reaches n) was_there in
              ⊎_elim (λ grown. absurd (let unheld = is.unheld n grown in omega arith)) (λ away. omega arith)
              (some_or_none (times n is.moved.grown));
          file = moved_current p (unclaimed_place c.pending ppn name k p unclaimed was_there);
          fewer = λ j q at. ap (λ l. pending_at l j) (sym is.pending) ∙ at;
        })

    pub moved_across_whole : IsWholeMemory size c'
    moved_across_whole = record {
      map = moved_map;
      keyed = is.keyed;
      standing = all_updated (λ o. IfSome o (λ w. IsWholeVersion (as_known w))) c.live c'.live key is.others tt
          whole.standing (subst (λ o. IfSome o (λ w. IsWholeVersion (as_known w))) (sym is.here) new_version);
      waiting = subst (AreWaiting size) (sym is.pending) whole.waiting;
      current = λ n.
          let now = live_total (current_reaches n) refl refl in
          let gone = is.moved.removed.reaches n in
          let come = is.moved.entered.reaches n in
          let all = directory_total (λ (x : CurrentDirectory). reaches_in_entries n x.chain.entries x.versions) in
          let current = whole.current n in
          omega arith;
      housed = λ q absent.
          let none = whole.housed q (subst (λ (m : ChainState SpecMasterEntry). find nat_cmp q m.entries
          ≡ None) is.moved.master absent) in
          same_pending (creates q) ∙ none;
      held = λ n.
          let same = is.held n in
          let now = live_total (pinned_reaches n) refl refl in
          let waiting = same_pending (pending_reaches n) in
          let held = whole.held n in
          omega arith;
      inside = λ n some. whole.inside n (let same = is.held n in omega arith);
      own = moved_own;
      apart = moved_apart;
      primes = moved_primes;
      fits =
          let fits = whole.fits in
          let large = whole.map.volume.large in
          let most = bounded (2 ^ 63 - 1) (omega arith) (omega arith) in
          omega arith;
      booked = moved_booked;
      beyond = λ some. bounded (2 * size) (whole.beyond (was_beyond some)) (omega arith);
      within = λ some.
          let waiting = same_pending pending_cost in
          bounded (space size) (whole.within (omega arith)) (omega arith);
    }
