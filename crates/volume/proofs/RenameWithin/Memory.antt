-- A file gets another name in its directory: what is in memory stays whole.
use Rattle.std.proofs.Common.{◌≡◌, ℕ, ◌+◌, ◌-◌, ◌<◌, ⊎_elim, true, false, List, length, slice_set, Option, Some, None}
use Rattle.std.proofs.Common.{IfSome, refl, sym, ap, subst, ◌∙◌, arith}
use Rattle.std.proofs.lemmas.Option.{slice_get_within}
use Rattle.std.specs.List.{AllByRecursion}
use Rattle.std.specs.Ordering.{nat_cmp}
use Rattle.std.specs.FinMap.Entries.{find}
use Rattle.words36.specs.declared.names.FileName.{FileName}
use Rattle.spec_image.specs.declared.put.Put.{Put}
use Rattle.spec_image.specs.Common.{directory_cost, SpecMasterEntry, InSpace, total, times, place_of}
use Rattle.alloctab.specs.Common.{TableState, bit, holds}
use Rattle.directory.specs.Common.{ChainState}
use Rattle.retrieval.specs.Common.{VersionState}
use Rattle.volume.specs.Common.{claims, CurrentVersion, CurrentDirectory, reaches_in_known, reaches_in_entries}
use Rattle.volume.specs.Common.{cost_of_directory, IsWholeVersion, IsWholeDirectory, IsWholeMap, MemoryMap, slot}
use Rattle.volume.specs.Common.{pending_at, as_known, pinned_reaches, pinned_cost, current_reaches, pending_reaches}
use Rattle.volume.specs.Common.{pending_cost, creates, growths, AreWaiting, IsCurrentAt, IsApart, IsWholeMemory}
use Rattle.volume.specs.Common.{MovesWithin}
use Rattle.volume.specs.declared.live.LiveVersion.{LiveVersion}
use Rattle.volume.specs.declared.pending.PendingVersion.{PendingVersion}
use Rattle.volume.proofs.common.Apart.{apart_stays}
use Rattle.volume.proofs.VolumeStart.FoundDirectories.{all_at}
use Rattle.volume.proofs.common.LiveLookups.{standing_at}
use Rattle.volume.proofs.common.UsedBlocks.{element_at}
use Rattle.volume.proofs.common.OneDirectory.{one_directory_whole}
use Rattle.volume.proofs.PinVersion.Pins.{all_updated}
use Rattle.volume.proofs.common.Growths.{share, set_growths}
use Rattle.volume.proofs.RenameWithin.Places.{moved_stays, unclaimed_place}
use Rattle.volume.proofs.common.SameVersion.{version_total, version_primes, version_stays}
use Rattle.volume.proofs.common.Lists.{all_places, total_set}

module _ (size : ℕ) (c c' : MemoryMap) (ppn : ℕ) (name to : FileName) (protection key : ℕ) (v : LiveVersion)
    (words : List ℕ) (puts : List Put) (whole : IsWholeMemory size c)
    (is : MovesWithin size c c' ppn name to protection key v words puts) where
  abbrev v' : LiveVersion
  v' = record v { prime = is.prime }

  -- Sums.

  live_total : (f : Option LiveVersion → ℕ) → f None ≡ 0 → f (Some v') ≡ f (Some v) → total f c'.live ≡ total f c.live
  live_total = version_total c c' key v is.prime is.there is.here is.others

  directory_total : (f : CurrentDirectory → ℕ) → f is.moved.directory' ≡ f is.moved.directory
      → total f c'.known.directories ≡ total f c.known.directories
  directory_total f same =
      let all = total_set f c.known.directories is.moved.place is.moved.directory is.moved.directory'
      is.moved.directory_at in
      let now = ap (total f) is.moved.directories in
      omega arith

  chain_times : (n : ℕ) → times n is.moved.directory'.chain.blocks ≡ times n is.moved.directory.chain.blocks
  chain_times n = ap (times n) is.moved.entry.blocks

  master_times : (n : ℕ) → times n c'.known.master.blocks ≡ times n c.known.master.blocks
  master_times n = ap (λ (m : ChainState SpecMasterEntry). times n m.blocks) is.moved.master

  -- The map.

  was : IsWholeDirectory size is.moved.directory
  was = all_at (IsWholeDirectory size) c.known.directories is.moved.place is.moved.directory whole.map.each
      is.moved.directory_at

  -- another prime says nothing of where a version lies
  whole_version : (u w : CurrentVersion) → u.version ≡ w.version → IsWholeVersion w → IsWholeVersion u
  whole_version u w same of_w = subst (λ (x : VersionState). IsWholeVersion (record { prime = u.prime; version = x }))
      (sym same) (record { counted = of_w.counted; few = of_w.few; few_ribs = of_w.few_ribs })

  was_version : IsWholeVersion (as_known v)
  was_version = standing_at (λ w. IsWholeVersion (as_known w)) c.live key v whole.standing is.there

  new_version : IsWholeVersion (as_known v')
  new_version = whole_version (as_known v') (as_known v) refl was_version

  now_whole : IsWholeDirectory size is.moved.directory'
  now_whole = record {
    chain = is.moved.entry.chain;
    inside = subst (AllByRecursion (InSpace size)) (sym is.moved.entry.blocks) was.inside;
    aligned = is.moved.entry.aligned;
    versions = all_places IsWholeVersion is.moved.directory'.versions (λ i u there.
        let within = slice_get_within is.moved.directory'.versions i u there in
        let e = element_at is.moved.directory'.chain.entries i (let aligned = is.moved.entry.aligned in omega arith) in
        ⊎_elim
        (λ of_new. subst IsWholeVersion (sym of_new.1) new_version)
        (λ kept. all_at IsWholeVersion is.moved.directory.versions kept.2 u was.versions kept.4)
        (is.moved.entry.each i e.0 u e.1 there));
  }

  moved_map : IsWholeMap size c'.known
  moved_map = one_directory_whole size c.known c'.known is.moved.place is.moved.directory' whole.map is.moved.master
      is.moved.directories now_whole (ap (λ (t : TableState). t.size) is.moved.table)
      (λ n.
      let bits = ap (λ (t : TableState). bit t n) is.moved.table in
      let old = whole.map.bits n in
      let all = directory_total (reaches_in_known n) (let chain = chain_times n in
      let entry = is.moved.entry.reaches n in omega arith) in
      let master = master_times n in
      omega arith) (ap (λ (t : TableState). t.changed) is.moved.table ∙ whole.map.unchanged)

  -- What is booked.

  moved_growths : growths c'.pending c'.known.master.entries c'.known.directories
      ≡ growths c.pending c.known.master.entries c.known.directories
  moved_growths =
      let now : growths c'.pending c'.known.master.entries c'.known.directories
      ≡ growths c.pending c.known.master.entries
      (slice_set c.known.directories is.moved.place is.moved.directory') =
      (λ i. growths (is.pending i) (is.moved.master i).entries (is.moved.directories i)) in
      let other = set_growths c.pending c.known.master.entries c.known.directories is.moved.place ppn is.moved.word
      is.moved.directory is.moved.directory' is.moved.there.is is.moved.directory_at in
      let same : share c.pending ppn is.moved.directory' ≡ share c.pending ppn is.moved.directory = ap
      (λ (l : ℕ). directory_cost (l + total (creates ppn) c.pending) - directory_cost l) is.moved.entry.count in
      omega arith

  moved_held_cost : total pinned_cost c'.live ≡ total pinned_cost c.live
  moved_held_cost = live_total pinned_cost refl refl

  moved_pending_cost : total pending_cost c'.pending ≡ total pending_cost c.pending
  moved_pending_cost = ap (total pending_cost) is.pending

  same_booked : c'.known.table.booked ≡ c.known.table.booked
  same_booked = ap (λ (t : TableState). t.booked) is.moved.table

  same_holds : (n : ℕ) → holds c'.known.table n ≡ holds c.known.table n
  same_holds n = ap (λ (t : TableState). holds t n) is.moved.table

  moved_primes : (k : ℕ) (u : LiveVersion) → slot c'.live k ≡ Some u → u.is_current ≡ true
      → holds c.known.table u.at ≡ 0
  moved_primes = version_primes c c' key v is.prime is.there is.here is.others is.current whole.primes

  -- If nothing is written for the file, what is written shares nothing with it.
  module _ (unclaimed : claims c.pending (place_of ppn name) ≡ false) where
    moved_current : (p : PendingVersion) → ((p.prime.ppn ≡ ppn) × (p.prime.file ≡ name) → ⊥) → (u : LiveVersion)
        → IsCurrentAt c p.prime.ppn p.prime.file u
        → (w : LiveVersion) × IsCurrentAt c' p.prime.ppn p.prime.file w × (w.version.blocks ≡ u.version.blocks)
    moved_current p differ u current = version_stays c c' key v is.prime is.there is.here is.others is.current
        p.prime.ppn p.prime.file u current
        (moved_stays size c.known c'.known ppn name to (v.at, as_known v) (as_known v') words puts is.moved
        p.prime.ppn p.prime.file u.at differ current.at)

    moved_own : (k : ℕ) (p : PendingVersion) → pending_at c'.pending k ≡ Some p → IsApart c' p
    moved_own k p there =
        let was_there : pending_at c.pending k ≡ Some p = ap (λ l. pending_at l k) (sym is.pending) ∙ there in
        apart_stays c c' p (whole.own k p was_there) (record {
          bits = λ n its set. subst (λ (t : TableState). 0 < bit t n) is.moved.table set;
          file = moved_current p (unclaimed_place c.pending ppn name k p unclaimed was_there);
          fewer = λ j q at. ap (λ l. pending_at l j) (sym is.pending) ∙ at;
        })

    pub moved_whole : IsWholeMemory size c'
    moved_whole = record {
      map = moved_map;
      keyed = is.keyed;
      standing = all_updated (λ o. IfSome o (λ w. IsWholeVersion (as_known w))) c.live c'.live key is.others tt
          whole.standing (subst (λ o. IfSome o (λ w. IsWholeVersion (as_known w))) (sym is.here) new_version);
      waiting = subst (AreWaiting size) (sym is.pending) whole.waiting;
      current = λ n.
          let now = live_total (current_reaches n) refl refl in
          let all = directory_total (λ (d : CurrentDirectory). reaches_in_entries n d.chain.entries d.versions)
          (is.moved.entry.reaches n) in
          let current = whole.current n in
          omega arith;
      housed = λ q absent.
          let none = whole.housed q (subst (λ (m : ChainState SpecMasterEntry). find nat_cmp q m.entries
          ≡ None) is.moved.master absent) in
          ap (total (creates q)) is.pending ∙ none;
      held = λ n.
          let same = same_holds n in
          let now = live_total (pinned_reaches n) refl refl in
          let waiting = ap (total (pending_reaches n)) is.pending in
          let held = whole.held n in
          omega arith;
      inside = λ n some. whole.inside n (let same = same_holds n in omega arith);
      own = moved_own;
      apart = λ n some.
          let none = whole.apart n (let same = same_holds n in omega arith) in
          let all = directory_total (λ d. times n d.chain.blocks) (chain_times n) in
          let master = master_times n in
          omega arith;
      primes = λ k u there current. same_holds u.at ∙ moved_primes k u there current;
      fits = let same = same_booked in let fits = whole.fits in omega arith;
      booked =
          let same = same_booked in
          let was_booked = whole.booked in
          let held = moved_held_cost in
          let waiting = moved_pending_cost in
          let all = directory_total cost_of_directory
          (let blocks = ap (λ (l : List ℕ). length l) is.moved.entry.blocks in
          let entry = is.moved.entry.cost in omega arith) in
          let grown = moved_growths in
          let master = ap (λ (m : ChainState SpecMasterEntry). length m.blocks) is.moved.master in
          omega arith;
      beyond = λ some.
          let same = same_booked in
          let held = moved_held_cost in
          let waiting = moved_pending_cost in
          let grown = moved_growths in
          let most = whole.beyond (omega arith) in
          omega arith;
      within = λ some.
          let same = same_booked in
          let waiting = moved_pending_cost in
          let most = whole.within (omega arith) in
          omega arith;
    }
