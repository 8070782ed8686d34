-- A version becomes the file of its name: what is in memory stays whole.
use Rattle.std.proofs.Common.{◌≡◌, ℕ, ◌+◌, ◌-◌, ◌<◌, ◌≤◌, ◌⊎◌, inl, inr, ⊎_elim, Bool, true, false, if◌then◌else◌}
use Rattle.std.proofs.Common.{List, ◌∷◌, ◌++◌, length, slice_set, Option, Some, None, IfSome, is_none, refl, sym, ap}
use Rattle.std.proofs.Common.{subst, ◌∙◌, arith}
use Rattle.std.proofs.lemmas.Bool.{cases_eq, cases_lt}
use Rattle.std.proofs.lemmas.List.{get_or_past}
use Rattle.std.proofs.lemmas.Option.{slice_get_within}
use Rattle.std.specs.Ordering.{nat_cmp}
use Rattle.std.specs.FinMap.Entries.{find}
use Rattle.spec_image.specs.declared.put.Put.{Put}
use Rattle.spec_image.specs.Common.{directory_cost, SpecMasterEntry, InSpace, total, times, growth, fixed}
use Rattle.spec_image.proofs.Common.{fixed_below, some_same, some_none, times-append}
use Rattle.alloctab.specs.Common.{holds}
use Rattle.directory.specs.Common.{ChainState}
use Rattle.retrieval.proofs.RibCounts.{ribs_few}
use Rattle.volume.specs.Common.{CurrentDirectory, blocks_reached, reaches_in_known, reaches_in_entries}
use Rattle.volume.specs.Common.{cost_of_directory, cost_of_known, IsWholeVersion, IsWholeDirectory, IsWholeMap}
use Rattle.volume.specs.Common.{given_up, is_creation, MemoryMap, slot, as_known, pinned_reaches, pinned_cost}
use Rattle.volume.specs.Common.{current_reaches, pending_reaches, pending_cost, creates, growths, cost_beyond}
use Rattle.volume.specs.Common.{IsWholePending, IsWholeMemory, added, before, live_left, IsEnded, MakesCurrent}
use Rattle.volume.specs.declared.live.LiveVersion.{LiveVersion}
use Rattle.volume.specs.declared.pending.PendingVersion.{PendingVersion}
use Rattle.volume.proofs.VolumeStart.FoundDirectories.{all_at}
use Rattle.volume.proofs.common.UsedBlocks.{element_at}
use Rattle.volume.proofs.common.TableBits.{bit_few}
use Rattle.volume.proofs.common.OneDirectory.{one_directory_whole}
use Rattle.volume.proofs.common.OnePlace.{first_elsewhere}
use Rattle.volume.proofs.PinVersion.Pins.{all_updated, entries_within}
use Rattle.volume.proofs.PublishVersion.Puts.{was_whole, published_times, published_inside}
use Rattle.volume.proofs.common.Growths.{Adds, added_total, added_growths, set_growths, came}
use Rattle.volume.proofs.PublishVersion.Slots.{entered, Counts, counts, made_current_total, made_current_all, left}
use Rattle.volume.proofs.PublishVersion.Slots.{left_cases, slot_of}
use Rattle.volume.proofs.common.ReachedBlocks.{reaches_parts}
use Rattle.volume.proofs.PutWords.Memory.{waits}
use Rattle.volume.proofs.common.SharedBlocks.{made_current_apart as made_current_own}
use Rattle.changeset.specs.Common.{times_head, some_or_none}
use Rattle.volume.proofs.common.Lists.{all_places, total_set}

-- what is left of a version is no longer current
pub not_left : (v u : LiveVersion) → left v ≡ Some u → u.is_current ≡ true → ⊥
not_left v u is current = ⊎_elim
    (λ gone. some_none (sym is ∙ gone.1))
    (λ stays.
    let same : u ≡ record v { is_current = false } = some_same (sym is ∙ stays) in
    let no : true ≡ false = sym current ∙ ap (λ (x : LiveVersion). x.is_current) same in
    absurd (cc)) (left_cases v)

module _ (size : ℕ) (c c' : MemoryMap) (key : ℕ) (p : PendingVersion) (at : ℕ) (ribs : List ℕ) (puts : List Put)
    (whole : IsWholeMemory size c) (is : MakesCurrent size c c' key p at ribs puts) where
  abbrev new : LiveVersion
  new = record { prime = p.prime; version = record p.version { ribs = ribs }; at = at; readers = 0; is_current = true }

  -- Sums.

  counted : (n : ℕ) → Counts c.live is.old n
  counted n = counts c.live c'.live is.old n is.ended

  live_total : (f : Option LiveVersion → ℕ) → f None ≡ 0 → total f c'.live + f (entered is.old)
      ≡ total f c.live + f (Some new) + f (live_left is.old)
  live_total f none = made_current_total f none c.live c'.live is.old is.new_key
      (Some new) is.vacant is.here is.ended is.others

  adds : Adds c'.pending c.pending key p
  adds = record { vacant = is.gone; here = is.written; others = λ k other. sym (is.other_pending k other) }

  pending_total : (f : Option PendingVersion → ℕ) → f None ≡ 0 → total f c.pending ≡ total f c'.pending + f (Some p)
  pending_total = added_total c'.pending c.pending key p adds

  directory_total : (f : CurrentDirectory → ℕ) → total f c'.known.directories + f is.published.directory
      ≡ total f c.known.directories + f is.published.directory'
  directory_total f =
      let all = total_set f c.known.directories is.published.place is.published.directory is.published.directory'
      is.published.directory_at in
      let now = ap (total f) is.published.directories in
      omega arith

  chain_times : (n : ℕ) → times n is.published.directory'.chain.blocks
      ≡ times n is.published.directory.chain.blocks + times n is.published.grown
  chain_times = published_times size c.known c'.known p.prime.ppn p.prime.file at (as_known new)
      (before is.old) puts whole.map is.published

  fresh_times : (n : ℕ) → times n (is.published.grown ++ blocks_reached at new.version)
      ≡ times n is.published.grown + times n (blocks_reached at new.version)
  fresh_times n = times-append n is.published.grown (blocks_reached at new.version)

  -- The map.

  was : IsWholeDirectory size is.published.directory
  was = was_whole size c.known c'.known p.prime.ppn p.prime.file at (as_known new)
      (before is.old) puts whole.map is.published

  was_waiting : IsWholePending size p
  was_waiting = waits size c whole key p is.written

  new_whole : IsWholeVersion (as_known new)
  new_whole = record {
    counted = was_waiting.whole.counted;
    few = was_waiting.whole.few;
    few_ribs = let many = is.few_ribs in let few = ribs_few p.version.blocks in omega arith;
  }

  now_whole : IsWholeDirectory size is.published.directory'
  now_whole = record {
    chain = is.published.entry.chain;
    inside = published_inside size c.known c'.known p.prime.ppn p.prime.file at (as_known new)
        (before is.old) puts whole.map is.published;
    aligned = is.published.entry.aligned;
    versions = all_places IsWholeVersion is.published.directory'.versions (λ i u there.
        let within = slice_get_within is.published.directory'.versions i u there in
        let e = element_at is.published.directory'.chain.entries i (let aligned = is.published.entry.aligned in
        omega arith) in
        ⊎_elim
        (λ of_new. subst IsWholeVersion (sym of_new.1) new_whole)
        (λ kept. all_at IsWholeVersion is.published.directory.versions kept.1 u was.versions kept.3)
        (is.published.entry.each i e.0 u e.1 there));
  }

  made_current_map : IsWholeMap size c'.known
  made_current_map = one_directory_whole size c.known c'.known is.published.place is.published.directory' whole.map
      is.published.master is.published.directories now_whole is.published.size_is
      (λ n.
      let bits = is.published.bits n in
      let old = whole.map.bits n in
      let chain = chain_times n in
      let fresh = fresh_times n in
      let entry = is.published.entry.reaches n in
      let all = directory_total (reaches_in_known n) in
      let master = ap (λ (m : ChainState SpecMasterEntry). times n m.blocks) is.published.master in
      omega arith) is.unchanged

  -- What is held.

  -- a block that is held was held, or it is one of the version before
  held_before : (n : ℕ) → 0 < holds c'.known.table n → (0 < holds c.known.table n) ⊎ (0 < given_up n (before is.old))
  held_before n some =
      let sum = is.held n in
      let part = (counted n).held in
      ⊎_elim (λ old. inl old) (λ none. inr (omega arith)) (some_or_none (holds c.known.table n))

  -- which occurs in no other place
  given_alone : (n : ℕ) → 0 < given_up n (before is.old) → (fixed size n ≡ 0)
      × (times n c.known.master.blocks + total (λ d. times n d.chain.blocks) c.known.directories ≡ 0)
      × (times n is.published.grown ≡ 0)
  given_alone n some =
      let within = (counted n).within in
      let current = whole.current n in
      let parts = reaches_parts n c.known.directories in
      let bits = whole.map.bits n in
      let few = bit_few c.known.table n in
      let fresh = is.published.fresh n in
      let split = times-append n is.published.grown (at ∷ ribs) in
      (omega arith, omega arith, omega arith)

  made_current_inside : (n : ℕ) → 0 < holds c'.known.table n → InSpace size n
  made_current_inside n some = ⊎_elim (λ old. whole.inside n old)
      (λ given.
      let alone = given_alone n given in
      let free = alone.0 in
      record {
        from = ⊎_elim (λ low. absurd (let one = fixed_below size n low in omega arith)) (λ from. from) (cases_lt n _);
        below = ⊎_elim
            (λ below. let many = is.sound.held_are in let same = is.published.size_is in
            let size_is = whole.map.size_is in omega arith)
            (λ past. absurd (let none : holds c'.known.table n ≡ 0 = get_or_past c'.known.table.held n 0 past in
            omega arith))
            (cases_lt n (length c'.known.table.held));
      })
      (held_before n some)

  made_current_apart : (n : ℕ) → 0 < holds c'.known.table n
      → times n c'.known.master.blocks + total (λ d. times n d.chain.blocks) c'.known.directories ≡ 0
  made_current_apart n some =
      let chain = chain_times n in
      let all = directory_total (λ d. times n d.chain.blocks) in
      let master = ap (λ (m : ChainState SpecMasterEntry). times n m.blocks) is.published.master in
      ⊎_elim
      (λ old.
      let none = whole.apart n old in
      ⊎_elim (λ grown. absurd (let unheld = is.unheld n (let split = times-append n is.published.grown (at ∷ ribs) in
      omega arith) in omega arith)) (λ away. omega arith) (some_or_none (times n is.published.grown)))
      (λ given. let alone = given_alone n given in let chains = alone.1 in let grown = alone.2 in omega arith)
      (held_before n some)

  -- A prime block is held as little as before: that of the new version was free, and one of another version occurs
  -- nowhere else.

  new_unheld : holds c'.known.table at ≡ 0
  new_unheld =
      let here : 0 < times at (is.published.grown ++ at ∷ ribs) =
      (let split = times-append at is.published.grown (at ∷ ribs) in
      let head = times_head at at ribs refl in omega arith) in
      let free = is.unheld at here in
      let fresh = is.published.fresh at in
      let sum = is.held at in
      let part = (counted at).held in
      let within = (counted at).within in
      let current = whole.current at in
      let most = entries_within at c.known.directories in
      let bits = whole.map.bits at in
      omega arith

  given_none : (k : ℕ) (u : LiveVersion) → slot c'.live k ≡ Some u → slot c.live k ≡ Some u → u.is_current ≡ true
      → given_up u.at (before is.old) ≡ 0
  given_none k u now there current = by is.old is.ended
    where
      by : (old : Option (ℕ × LiveVersion)) → IsEnded c.live c'.live old → given_up u.at (before old) ≡ 0
      by None ended = refl
      by (Some o) ended = first_elsewhere size c whole k u there current o.0 o.1 ended.0 ended.1
          (λ same. not_left o.1 u (sym ended.2 ∙ ap (slot c'.live) (sym same) ∙ now) current)

  made_current_primes : (k : ℕ) (u : LiveVersion) → slot c'.live k ≡ Some u → u.is_current ≡ true
      → holds c'.known.table u.at ≡ 0
  made_current_primes k u there current = ⊎_elim
      (λ (same : k ≡ is.new_key).
      let new_is : u ≡ new = some_same (sym there ∙ ap (slot c'.live) same ∙ is.here) in
      ap (λ (x : LiveVersion). holds c'.known.table x.at) new_is ∙ new_unheld)
      (λ other. ⊎_elim
      (λ kept.
      let was_there : slot c.live k ≡ Some u = sym kept ∙ there in
      let none = whole.primes k u was_there current in
      let sum = is.held u.at in
      let part = (counted u.at).held in
      let given = given_none k u there was_there current in
      omega arith)
      (λ ended. absurd (not_left ended.0 u (sym ended.2 ∙ there) current))
      (slot_of size c c' key p at ribs puts is k other)) (cases_eq k is.new_key)

  -- What is booked.

  no_more_booked : c'.known.table.booked ≤ c.known.table.booked
  no_more_booked = let sum = is.booked in let cost = (counted 0).cost in omega arith

  -- the directory costs as much more as was booked for a new entry
  made_current_growths : growths c.pending c.known.master.entries c.known.directories
      + length is.published.directory.chain.blocks ≡ growths c'.pending c'.known.master.entries c'.known.directories
      + length is.published.directory'.chain.blocks
  made_current_growths =
      let d = is.published.directory in
      let d' = is.published.directory' in
      let k = p.prime.ppn in
      let m = total (creates k) c'.pending in
      let more = added_growths c'.pending c.pending key p adds c.known.master.entries c.known.directories
      is.published.place is.published.word d whole.map.chain.each_once is.published.there.is
      is.published.directory_at in
      let other = set_growths c'.pending c.known.master.entries c.known.directories is.published.place
      k is.published.word d d' is.published.there.is is.published.directory_at in
      let now : growths c'.pending c'.known.master.entries c'.known.directories
      ≡ growths c'.pending c.known.master.entries (slice_set c.known.directories is.published.place d') =
      (λ i. growths c'.pending (is.published.master i).entries (is.published.directories i)) in
      let here = by (is_creation p) is.old is.is_new (length d.chain.entries) m
      (length d'.chain.entries) is.published.entry.count in
      let counts_d = was.chain.counted in
      let counts_d' = is.published.entry.chain.counted in
      omega arith
    where
      by : (b : Bool) (old : Option (ℕ × LiveVersion)) → b ≡ is_none old → (n m n' : ℕ) → n' ≡ n + added (before old)
          → directory_cost (n + m) - directory_cost n + (if b then growth (n + m) else 0) + directory_cost n
          ≡ directory_cost (n' + m) - directory_cost n' + directory_cost n'
      by true None is_new n m n' count = came n m
          ∙ sym (ap (λ (l : ℕ). directory_cost (l + m) - directory_cost l + directory_cost l) count)
      by false (Some o) is_new n m n' count =
          let kept : n' ≡ n = omega arith in
          let same = ap (λ (l : ℕ). directory_cost (l + m) - directory_cost l + directory_cost l) kept in
          omega arith
      by true (Some o) is_new n m n' count = absurd (cc)
      by false None is_new n m n' count = absurd (cc)

  made_current_booked : c'.known.table.booked ≡ cost_of_known c'.known.master c'.known.directories + cost_beyond c'
  made_current_booked =
      let sum = is.booked in
      let was_booked = whole.booked in
      let held = live_total pinned_cost refl in
      let none = (counted 0).uncosted in
      let waiting = pending_total pending_cost refl in
      let all = directory_total cost_of_directory in
      let entry = is.published.entry.cost in
      let grown = made_current_growths in
      let master = ap (λ (m : ChainState SpecMasterEntry). length m.blocks) is.published.master in
      omega arith

  pub made_current_whole : IsWholeMemory size c'
  made_current_whole = record {
    map = made_current_map;
    keyed = is.keyed;
    standing = made_current_all size c c' key p at ribs puts is (λ o. IfSome o (λ v. IsWholeVersion (as_known v))) tt
        (subst (λ o. IfSome o (λ v. IsWholeVersion (as_known v))) (sym is.here) new_whole)
        (λ v of_v. of_v) whole.standing;
    waiting = all_updated (λ o. IfSome o (IsWholePending size)) c.pending c'.pending key is.other_pending
        tt whole.waiting (subst (λ o. IfSome o (IsWholePending size)) (sym is.gone) tt);
    current = λ n.
        let now = live_total (current_reaches n) refl in
        let old = (counted n).current in
        let ended = (counted n).ended in
        let entry = is.published.entry.reaches n in
        let all = directory_total (λ (d : CurrentDirectory). reaches_in_entries n d.chain.entries d.versions) in
        let current = whole.current n in
        omega arith;
    housed = λ ppn absent.
        let less = pending_total (creates ppn) refl in
        let none = whole.housed ppn (subst (λ (m : ChainState SpecMasterEntry). find nat_cmp ppn m.entries
        ≡ None) is.published.master absent) in
        omega arith;
    held = λ n.
        let sum = is.held n in
        let now = live_total (pinned_reaches n) refl in
        let old = (counted n).unheld in
        let waiting = pending_total (pending_reaches n) refl in
        let held = whole.held n in
        omega arith;
    own = λ k q there. made_current_own size c c' key p at ribs puts whole is k q there;
    inside = made_current_inside;
    apart = made_current_apart;
    primes = made_current_primes;
    fits = let fits = whole.fits in let few = no_more_booked in omega arith;
    booked = made_current_booked;
    beyond = λ some.
        let waiting = pending_total pending_cost refl in
        let most = whole.within (omega arith) in
        let few = no_more_booked in
        omega arith;
    within = λ some.
        let waiting = pending_total pending_cost refl in
        let most = whole.within (omega arith) in
        let few = no_more_booked in
        omega arith;
  }
