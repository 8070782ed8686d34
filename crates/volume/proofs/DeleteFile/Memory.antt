-- A file is deleted: what is in memory stays whole.
use Rattle.std.proofs.Common.{◌≡◌, ℕ, ◌+◌, ◌-◌, ◌*◌, ◌<◌, ◌≤◌, ◌⊎◌, inl, inr, ⊎_elim, List, ◌++◌, length, slice_set}
use Rattle.std.proofs.Common.{Option, Some, None, IfSome, refl, sym, ap, subst, ◌∙◌, arith}
use Rattle.std.proofs.lemmas.Bool.{cases_lt}
use Rattle.std.proofs.lemmas.List.{get_or_past, length-set}
use Rattle.std.proofs.lemmas.Option.{slice_get_within}
use Rattle.std.specs.List.{AllByRecursion}
use Rattle.std.specs.Ordering.{nat_cmp}
use Rattle.std.specs.FinMap.Entries.{find}
use Rattle.words36.specs.declared.names.FileName.{FileName}
use Rattle.spec_image.specs.declared.put.Put.{Put}
use Rattle.spec_image.specs.Common.{directory_cost, SpecMasterEntry, InSpace, IsMasterEntryOf, total, times, fixed}
use Rattle.spec_image.proofs.Common.{fixed_below, some_same, times-append, all_left}
use Rattle.alloctab.specs.Common.{IsTable, bit, holds}
use Rattle.changeset.specs.Common.{some_or_none}
use Rattle.directory.specs.Common.{ChainState, IsChain}
use Rattle.volume.specs.Common.{CurrentDirectory, blocks_reached, reaches_in_known, reaches_in_entries}
use Rattle.volume.specs.Common.{cost_of_directory, prime_in, cost_of_known, IsWholeVersion, IsWholeDirectory}
use Rattle.volume.specs.Common.{IsWholeMap, MemoryMap, slot, pending_at, as_known, pinned_reaches, pinned_cost}
use Rattle.volume.specs.Common.{current_reaches, IsApart, IsCurrentAt, pending_reaches, pending_cost, creates}
use Rattle.volume.specs.Common.{growths, cost_beyond, AreWaiting, IsWholeMemory, live_left, RemovesFile}
use Rattle.volume.specs.declared.live.LiveVersion.{LiveVersion}
use Rattle.volume.specs.declared.pending.PendingVersion.{PendingVersion}
use Rattle.volume.proofs.common.CostBounds.{known_few}
use Rattle.volume.proofs.VolumeStart.FoundDirectories.{all_at}
use Rattle.volume.proofs.common.LiveLookups.{standing_at}
use Rattle.volume.proofs.common.LiveTotals.{total_updated}
use Rattle.volume.proofs.common.UsedBlocks.{element_at}
use Rattle.volume.proofs.common.TableBits.{bit_few}
use Rattle.volume.proofs.common.OnePlace.{one_key}
use Rattle.volume.proofs.PinVersion.Pins.{all_updated}
use Rattle.volume.proofs.common.Growths.{cost_rises, set_growths}
use Rattle.volume.proofs.PublishVersion.Slots.{Counts, counts, left_cases}
use Rattle.volume.proofs.common.ReachedBlocks.{reaches_parts}
use Rattle.volume.proofs.DeleteFile.Places.{removed_before, removed_elsewhere}
use Rattle.volume.proofs.common.RetiredPrimes.{retired_primes}
use Rattle.volume.proofs.common.Lists.{set_each, all_places, total_set}

module _ (size : ℕ) (c c' : MemoryMap) (ppn : ℕ) (name : FileName) (key : ℕ) (v : LiveVersion) (puts : List Put)
    (whole : IsWholeMemory size c) (is : RemovesFile size c c' ppn name key v puts) where
  -- Sums.

  counted : (n : ℕ) → Counts c.live (Some (key, v)) n
  counted n = counts c.live c'.live (Some (key, v)) n (is.there, is.current, is.ended)

  live_total : (f : Option LiveVersion → ℕ) → f None ≡ 0 → total f c'.live + f (Some v)
      ≡ total f c.live + f (live_left (Some (key, v)))
  live_total f none =
      let all = total_updated f none c.live c'.live key (live_left (Some (key, v))) is.ended is.others in
      let was = ap f is.there in
      omega arith

  same_pending : (f : Option PendingVersion → ℕ) → total f c'.pending ≡ total f c.pending
  same_pending f = ap (total f) is.pending

  directory_total : (f : CurrentDirectory → ℕ) → total f c'.known.directories + f is.removed.directory
      ≡ total f c.known.directories + f is.removed.directory'
  directory_total f =
      let all = total_set f c.known.directories is.removed.place is.removed.directory is.removed.directory'
      is.removed.directory_at in
      let now = ap (total f) is.removed.directories in
      omega arith

  pub chain_times : (n : ℕ) → times n is.removed.directory.chain.blocks
      ≡ times n is.removed.directory'.chain.blocks + times n is.removed.left
  chain_times n = ap (times n) is.removed.blocks ∙ times-append n is.removed.directory'.chain.blocks is.removed.left

  pub gone_times : (n : ℕ) → times n (is.removed.left ++ blocks_reached v.at v.version)
      ≡ times n is.removed.left + times n (blocks_reached v.at v.version)
  gone_times n = times-append n is.removed.left (blocks_reached v.at v.version)

  -- The map.

  pub was_whole : IsWholeDirectory size is.removed.directory
  was_whole = all_at (IsWholeDirectory size) c.known.directories is.removed.place is.removed.directory whole.map.each
      is.removed.directory_at

  pub inside_now : AllByRecursion (InSpace size) is.removed.directory'.chain.blocks
  inside_now = all_left (InSpace size) is.removed.directory'.chain.blocks is.removed.left
      (subst (AllByRecursion (InSpace size)) is.removed.blocks was_whole.inside)

  now_whole : IsWholeDirectory size is.removed.directory'
  now_whole = record {
    chain = is.removed.entry.chain;
    inside = inside_now;
    aligned = is.removed.entry.aligned;
    versions = all_places IsWholeVersion is.removed.directory'.versions (λ i u there.
        let within = slice_get_within is.removed.directory'.versions i u there in
        let e = element_at is.removed.directory'.chain.entries i (let aligned = is.removed.entry.aligned in
        omega arith) in
        let kept = is.removed.entry.each i e.0 u e.1 there in
        all_at IsWholeVersion is.removed.directory.versions kept.1 u was_whole.versions kept.3);
  }

  removed_map : IsWholeMap size c'.known
  removed_map = record {
    volume = whole.map.volume;
    size_is = is.removed.size_is ∙ whole.map.size_is;
    chain = subst (IsChain nat_cmp (IsMasterEntryOf 2)) (sym is.removed.master) whole.map.chain;
    inside = subst (λ (m : ChainState SpecMasterEntry). AllByRecursion (InSpace size) m.blocks)
        (sym is.removed.master) whole.map.inside;
    aligned =
        let now = ap (λ (ds : List CurrentDirectory). length ds) is.removed.directories
        ∙ length-set c.known.directories is.removed.place is.removed.directory' in
        let entries = ap (λ (m : ChainState SpecMasterEntry). length m.entries) is.removed.master in
        let aligned = whole.map.aligned in
        omega arith;
    each = subst (AllByRecursion (IsWholeDirectory size)) (sym is.removed.directories)
        (set_each (IsWholeDirectory size) c.known.directories is.removed.place is.removed.directory'
        whole.map.each now_whole);
    bits = λ n.
        let bits = is.removed.bits n in
        let old = whole.map.bits n in
        let chain = chain_times n in
        let gone = gone_times n in
        let entry = is.removed.entry.reaches n in
        let all = directory_total (reaches_in_known n) in
        let master = ap (λ (m : ChainState SpecMasterEntry). times n m.blocks) is.removed.master in
        omega arith;
    unchanged = is.unchanged;
  }

  removed_standing : AllByRecursion (λ o. IfSome o (λ u. IsWholeVersion (as_known u))) c'.live
  removed_standing =
      all_updated (λ o. IfSome o (λ u. IsWholeVersion (as_known u))) c.live c'.live key is.others tt whole.standing
      (subst (λ o. IfSome o (λ u. IsWholeVersion (as_known u))) (sym is.ended)
      (⊎_elim
      (λ none. subst (λ o. IfSome o (λ u. IsWholeVersion (as_known u))) (sym none.1) tt)
      (λ some. subst (λ o. IfSome o (λ u. IsWholeVersion (as_known u))) (sym some)
      (standing_at (λ u. IsWholeVersion (as_known u)) c.live key v whole.standing is.there))
      (left_cases v)))

  -- What is held.

  -- a block that is held was held, or it is one of the version
  held_before : (n : ℕ) → 0 < holds c'.known.table n
      → (0 < holds c.known.table n) ⊎ (0 < times n (blocks_reached v.at v.version))
  held_before n some =
      let sum = is.held n in
      let part = (counted n).held in
      ⊎_elim (λ old. inl old) (λ none. inr (omega arith)) (some_or_none (holds c.known.table n))

  -- which occurs in no other place
  given_alone : (n : ℕ) → 0 < times n (blocks_reached v.at v.version) → (fixed size n ≡ 0)
      × (times n c.known.master.blocks + total (λ d. times n d.chain.blocks) c.known.directories ≡ 0)
  given_alone n some =
      let within = (counted n).within in
      let current = whole.current n in
      let parts = reaches_parts n c.known.directories in
      let bits = whole.map.bits n in
      let few = bit_few c.known.table n in
      (omega arith, omega arith)

  removed_inside : (n : ℕ) → 0 < holds c'.known.table n → InSpace size n
  removed_inside n some = ⊎_elim (λ old. whole.inside n old)
      (λ given.
      let alone = given_alone n given in
      let free = alone.0 in
      record {
        from = ⊎_elim (λ low. absurd (let one = fixed_below size n low in omega arith)) (λ from. from) (cases_lt n _);
        below = ⊎_elim
            (λ below. let many = is.sound.held_are in let same = is.removed.size_is in
            let size_is = whole.map.size_is in omega arith)
            (λ past. absurd (let none : holds c'.known.table n ≡ 0 = get_or_past c'.known.table.held n 0 past in
            omega arith))
            (cases_lt n (length c'.known.table.held));
      })
      (held_before n some)

  removed_apart : (n : ℕ) → 0 < holds c'.known.table n
      → times n c'.known.master.blocks + total (λ d. times n d.chain.blocks) c'.known.directories ≡ 0
  removed_apart n some =
      let chain = chain_times n in
      let all = directory_total (λ d. times n d.chain.blocks) in
      let master = ap (λ (m : ChainState SpecMasterEntry). times n m.blocks) is.removed.master in
      ⊎_elim
      (λ old. let none = whole.apart n old in omega arith)
      (λ given. let alone = given_alone n given in let chains = alone.1 in omega arith)
      (held_before n some)

  -- What versions that are being written share: the file of another place stays, and of this one no bit is set.

  no_bit : (n : ℕ) → 0 < times n v.version.blocks → bit c'.known.table n ≡ 0
  no_bit n some =
      let bits = is.removed.bits n in
      let gone = gone_times n in
      let parts = times-append n v.version.ribs v.version.blocks in
      let few = bit_few c.known.table n in
      omega arith

  removed_own : (j : ℕ) (p : PendingVersion) → pending_at c'.pending j ≡ Some p → IsApart c' p
  removed_own j p at = record {
    once = own.once;
    shared = λ n mine set.
        let shared = own.shared n mine (let bits = is.removed.bits n in omega arith) in
        (shared.0, stays n set shared.0 shared.1 shared.2, shared.2);
    places = λ k q at_q n mine its. own.places k q (ap (λ ps. pending_at ps k) (sym is.pending) ∙ at_q) n mine its;
  }
    where
      own : IsApart c p
      own = whole.own j p (ap (λ ps. pending_at ps j) (sym is.pending) ∙ at)

      stays : (n : ℕ) → 0 < bit c'.known.table n → (w : LiveVersion) → IsCurrentAt c p.prime.ppn p.prime.file w
          → 0 < times n w.version.blocks → IsCurrentAt c' p.prime.ppn p.prime.file w
      stays n set w current some =
          let other : current.key ≡ key → ⊥ = λ same.
          let which : w ≡ v = some_same (sym current.there ∙ ap (slot c.live) same ∙ is.there) in
          let blocks = ap (λ (x : LiveVersion). times n x.version.blocks) which in
          let none = no_bit n (omega arith) in
          absurd (omega arith) in
          record {
            key = current.key;
            there = is.others current.key other ∙ current.there;
            current = current.current;
            at = removed_elsewhere size c.known c'.known ppn name (v.at, as_known v) puts is.removed p.prime.ppn
                p.prime.file (λ here.
                other (one_key size c whole current.key key w v current.there is.there current.current is.current
                (some_same (sym current.at
                ∙ (λ i. prime_in c.known.master.entries c.known.directories (here.0 i) (here.1 i))
                ∙ removed_before size c.known c'.known ppn name (v.at, as_known v) puts is.removed)))) ∙ current.at;
          }

  -- What is booked.

  no_more_booked : c'.known.table.booked ≤ c.known.table.booked
  no_more_booked = let sum = is.booked in let cost = (counted 0).cost in omega arith

  -- the directory costs as much less as is not booked any more
  removed_growths : growths c.pending c'.known.master.entries c'.known.directories
      + length is.removed.directory'.chain.blocks
      + (directory_cost (length is.removed.directory.chain.entries + total (creates ppn) c.pending)
      - directory_cost (length is.removed.directory.chain.entries + total (creates ppn) c.pending - 1))
      ≡ growths c.pending c.known.master.entries c.known.directories + length is.removed.directory.chain.blocks
  removed_growths =
      let d = is.removed.directory in
      let d' = is.removed.directory' in
      let m = total (creates ppn) c.pending in
      let other = set_growths c.pending c.known.master.entries c.known.directories is.removed.place ppn is.removed.word
      d d' is.removed.there.is is.removed.directory_at in
      let now : growths c.pending c'.known.master.entries c'.known.directories
      ≡ growths c.pending c.known.master.entries (slice_set c.known.directories is.removed.place d') =
      (λ i. growths c.pending (is.removed.master i).entries (is.removed.directories i)) in
      let count = is.removed.entry.count in
      let up = cost_rises (length d.chain.entries) m in
      let up' = cost_rises (length d'.chain.entries) m in
      let step = cost_rises (length d'.chain.entries + m) 1 in
      let same : directory_cost (length d'.chain.entries + m + 1) ≡ directory_cost (length d.chain.entries + m)
      = ap directory_cost (omega arith) in
      let less : directory_cost (length d.chain.entries + m - 1) ≡ directory_cost (length d'.chain.entries + m)
      = ap directory_cost (omega arith) in
      let counts_d = was_whole.chain.counted in
      let counts_d' = is.removed.entry.chain.counted in
      omega arith

  removed_booked : c'.known.table.booked ≡ cost_of_known c'.known.master c'.known.directories + cost_beyond c'
  removed_booked =
      let sum = is.booked in
      let was_booked = whole.booked in
      let held = live_total pinned_cost refl in
      let none = (counted 0).uncosted in
      let waiting = same_pending pending_cost in
      let all = directory_total cost_of_directory in
      let entry = is.removed.entry.cost in
      let grown = removed_growths in
      let now : growths c'.pending c'.known.master.entries c'.known.directories
      ≡ growths c.pending c'.known.master.entries c'.known.directories = ap (λ ps.
      growths ps c'.known.master.entries c'.known.directories) is.pending in
      let master = ap (λ (m : ChainState SpecMasterEntry). length m.blocks) is.removed.master in
      omega arith

  -- with nothing beyond the files what they cost is booked
  removed_beyond : IsTable c.known.table → 0 < cost_beyond c' → c'.known.table.booked ≤ 2 * size
  removed_beyond sound some = ⊎_elim
      (λ (there : 0 < cost_beyond c). let most = whole.beyond there in let few = no_more_booked in omega arith)
      (λ (nothing : cost_beyond c ≡ 0).
      let most = known_few size c.known whole.map sound in
      let booked = whole.booked in
      let few = no_more_booked in
      omega arith) (some_or_none (cost_beyond c))

  pub removed_whole : IsTable c.known.table → IsWholeMemory size c'
  removed_whole sound = record {
    map = removed_map;
    keyed = is.keyed;
    standing = removed_standing;
    waiting = subst (AreWaiting size) (sym is.pending) whole.waiting;
    current = λ n.
        let now = live_total (current_reaches n) refl in
        let old = (counted n).current in
        let ended = (counted n).ended in
        let entry = is.removed.entry.reaches n in
        let all = directory_total (λ (d : CurrentDirectory). reaches_in_entries n d.chain.entries d.versions) in
        let current = whole.current n in
        omega arith;
    housed = λ q absent. same_pending (creates q)
        ∙ whole.housed q (subst (λ (m : ChainState SpecMasterEntry). find nat_cmp q m.entries ≡ None)
        is.removed.master absent);
    held = λ n.
        let sum = is.held n in
        let now = live_total (pinned_reaches n) refl in
        let old = (counted n).unheld in
        let waiting = same_pending (pending_reaches n) in
        let held = whole.held n in
        omega arith;
    own = removed_own;
    inside = removed_inside;
    apart = removed_apart;
    primes = retired_primes size c c' key v whole is.there is.current is.ended is.others is.held;
    fits = let fits = whole.fits in let few = no_more_booked in omega arith;
    booked = removed_booked;
    beyond = removed_beyond sound;
    within = λ some.
        let waiting = same_pending pending_cost in
        let most = whole.within (omega arith) in
        let few = no_more_booked in
        omega arith;
  }
