-- A version that begins: what it costs, and that memory stays whole.
use Rattle.std.proofs.Common.{◌≡◌, ◌↔◌, ◌⊎◌, inl, inr, ⊎_elim, IsTrue, ℕ, ◌+◌, ◌^◌, ◌<◌, ◌≤◌, Bool, true, false}
use Rattle.std.proofs.Common.{if◌then◌else◌, List, [], map, length, slice_get, slice_index, get_or, Option, Some}
use Rattle.std.proofs.Common.{None, is_none, IfSome, IsSome, IsErrOf, Err, option_map, refl, sym, ap, subst, ◌∙◌}
use Rattle.std.proofs.Common.{arith}
use Rattle.std.proofs.lemmas.Bool.{cases_lt}
use Rattle.std.proofs.lemmas.List.{length-map}
use Rattle.std.specs.Ordering.{nat_cmp}
use Rattle.std.specs.FinMap.Entries.{find}
use Rattle.words36.specs.declared.names.FileName.{FileName}
use Rattle.spec_image.specs.Common.{cost_of_blocks, InSpace, name_cmp, EachOnce, times, growth}
use Rattle.spec_image.proofs.Common.{some_same, some_none, all_times}
use Rattle.changeset.specs.Common.{some_or_none}
use Rattle.directory.specs.Common.{StandsAt}
use Rattle.retrieval.specs.Common.{VersionState}
use Rattle.retrieval.specs.declared.prime.Prime.{Prime}
use Rattle.spec_image.specs.declared.code.ErrorCode.{ErrorCode}
use Rattle.spec_image.specs.declared.code.ErrorCode.TheVariants.{NameExists, NotFound}
use Rattle.volume.specs.declared.error.CallError.TheVariants.{Refused}
use Rattle.volume.specs.declared.live.LiveDirectory.{LiveDirectory}
use Rattle.volume.specs.declared.live.LiveMap.{LiveMap}
use Rattle.volume.specs.declared.live.LiveVersion.{LiveVersion}
use Rattle.volume.specs.declared.pending.PendingKind.{PendingKind}
use Rattle.volume.specs.declared.pending.PendingKind.TheVariants.{Create, Supersede, Update, Append}
use Rattle.volume.specs.declared.pending.PendingVersion.{PendingVersion}
use Rattle.volume.specs.Common.{master_view, CurrentDirectory, CurrentVersion, Before, IsNamed, IsWholeVersion}
use Rattle.volume.specs.Common.{IsWholeDirectory, cost_before, MemoryMap, as_known, slot, pending_cost, pending_reaches}
use Rattle.volume.specs.Common.{is_create, IsCurrentAt, IsWholePending, IsWholeMemory, memory_of, live_directory}
use Rattle.volume.specs.Common.{IsKeyOf, is_update, begin_cost, entries_with, no_words, shared_body, begun_prime}
use Rattle.volume.specs.Common.{begun_version, begun, version_before, is_absent, IsBefore, IsDirectoryOf, IsMisfit}
use Rattle.alloctab.specs.Common.{IsTable, holds, space}
use Rattle.volume.proofs.VolumeStart.FoundDirectories.{all_at}
use Rattle.volume.proofs.common.Growths.{absent_at, one_place, Adds, added_total, created_elsewhere, added_growths}
use Rattle.volume.proofs.common.LiveLookups.{standing_at}
use Rattle.volume.proofs.common.LiveTotals.{memory_holds}
use Rattle.volume.proofs.common.UsedBlocks.{element_at}
use Rattle.volume.proofs.common.OnePlace.{first_no_data}
use Rattle.volume.proofs.PinVersion.Pins.{all_updated}
use Rattle.volume.proofs.common.PrimeBlocks.{prime_of_place}
use Rattle.volume.proofs.common.Lists.{one_entry}
use Rattle.volume.proofs.common.SharedBlocks.{file_once, file_inside, file_apart, begun_apart}
use Rattle.volume.proofs.common.StillMatches.{counts_whole}
use Rattle.volume.proofs.common.Answers.{viewed_there}

-- the directory at the place of its entry
pub directory_at : (size : ℕ) (m : LiveMap) (ppn i : ℕ) (v : ℕ × ℕ) (x : LiveDirectory)
    → IsWholeMemory size (memory_of m)
    → StandsAt nat_cmp (map master_view m.master.entries) ppn v i → x ≡ get_or m.directories.items i x
    → slice_get (memory_of m).known.directories i ≡ Some (live_directory m.versions.slots x)
directory_at size m ppn i v x whole stands is =
    let within = stands.within in
    let aligned = whole.map.aligned in
    let many = length-map m.directories.items (live_directory m.versions.slots) in
    viewed_there (live_directory m.versions.slots) m.directories.items i x x (omega arith) is

-- one directory has the number
pub same_directory : (size : ℕ) (c : MemoryMap) (ppn i : ℕ) (v : ℕ × ℕ) (d e : CurrentDirectory) → IsWholeMemory size c
    → IsDirectoryOf c ppn d → slice_get c.known.master.entries i ≡ Some (ppn, v)
    → slice_get c.known.directories i ≡ Some e → d ≡ e
same_directory size c ppn i v d e whole there is at =
    let places = one_place c.known.master.entries there.0 i ppn there.1 v whole.map.chain.each_once there.2.is is in
    some_same (sym there.3 ∙ ap (slice_get c.known.directories) places ∙ at)

pub no_room : (space booked cost : ℕ) (can : Bool) → (IsTrue can ↔ (booked + cost ≤ space)) → can ≡ false
    → space < booked + cost
no_room space booked cost can says full = ⊎_elim (λ more. more) (λ fits. absurd (let yes : can ≡ true = says.1 fits in
    cc)) (cases_lt space (booked + cost))

-- What a name has before.

abbrev before_of : LiveVersion → ℕ × CurrentVersion
before_of v = (v.at, as_known v)

-- a name has one version
pub one_before : (d : CurrentDirectory) (name : FileName) (old old' : Before) → IsNamed d name old → IsNamed d name old'
    → EachOnce name_cmp d.chain.entries → old ≡ old'
one_before d name None None is is' once = refl
one_before d name None (Some v) is is' once = absurd (some_none (sym is'.1.found ∙ is))
one_before d name (Some v) None is is' once = absurd (some_none (sym is.1.found ∙ is'))
one_before d name (Some v) (Some w) is is' once =
    let place : is.0 ≡ is'.0 = one_entry d.chain.entries is.0 is'.0 name v.0 w.0 once is.1.is is'.1.is in
    let prime : v.0 ≡ w.0 = some_same (sym is.1.found ∙ is'.1.found) in
    let version : v.1 ≡ w.1 = some_same (sym is.2 ∙ ap (slice_get d.versions) place ∙ is'.2) in
    λ i. Some (prime i, version i)

-- whether there is one says whether it is new
pub named_none : (d : CurrentDirectory) (name : FileName) (old : Before) → IsNamed d name old
    → is_none old ≡ is_absent name d
named_none d name None is = sym (ap is_none is)
named_none d name (Some v) is = sym (ap is_none is.1.found)

pub before_none : (live : List (Option LiveVersion)) (o : Option ℕ) → IfSome o (λ k. IsSome (slot live k))
    → is_none (version_before live o) ≡ is_none o
before_none live None there = refl
before_none live (Some k) there = by (slot live k) there
  where
    by : (q : Option LiveVersion) → IsSome q
        → is_none {T = ℕ × CurrentVersion} (option_map (λ v. (v.at, as_known v)) q) ≡ is_none (Some k)
    by None is = absurd (cc)
    by (Some v) is = refl

-- The version that is begun.

-- of no words, if its kind is no update
pub begun_bare : (kind : PendingKind) (prime : Prime) (old : Before) → is_update kind ≡ false
    → ◌≡◌ {A = PendingVersion} (record { prime = prime; version = no_words; kind = kind; kept_blocks = 0 })
    (begun kind prime old)
begun_bare Create prime old bare = refl
begun_bare Supersede prime old bare = refl
begun_bare Update prime old bare = cc
begun_bare Append prime old bare = cc

module _ {size : ℕ} {c : MemoryMap} (whole : IsWholeMemory size c) (sound : IsTable c.known.table) (kind : PendingKind)
    (prime : Prime) {o : Option ℕ} (is : IsBefore c prime.ppn prime.file o) where
  abbrev old : Before
  old = version_before c.live o

  there_of : (q : Option ℕ) → IfSome q (IsKeyOf c prime.ppn prime.file) → IfSome q (λ k. IsSome (slot c.live k))
  there_of None key = tt
  there_of (Some k) key = subst IsSome (sym key.here) refl

  pub has_version : IfSome o (λ k. IsSome (slot c.live k))
  has_version = there_of o is.key

  -- Its blocks are those of the file of its place.

  current_of : (k : ℕ) → (key : IsKeyOf c prime.ppn prime.file k) → IsCurrentAt c prime.ppn prime.file key.version
  current_of k key = record {
    key = k;
    there = key.here;
    current = key.current;
    at = prime_of_place c.known.master.entries c.known.directories key.place prime.ppn prime.file key.word
        key.directory key.there key.directory_at ∙ key.at.found ∙ ap Some (sym key.prime_is);
  }

  shared_of : (q : Option ℕ) → IfSome q (IsKeyOf c prime.ppn prime.file) → (n : ℕ)
      → 0 < times n (shared_body (version_before c.live q)).blocks
      → (v : LiveVersion) × IsCurrentAt c prime.ppn prime.file v × (0 < times n v.version.blocks)
  shared_of None key n some = absurd (omega arith)
  shared_of (Some k) key n some = (
    key.version,
    current_of k key,
    subst (λ (l : Option LiveVersion). 0 < times n
        (shared_body (option_map before_of l)).blocks) key.here some,
  )

  once_of : (q : Option ℕ) → IfSome q (IsKeyOf c prime.ppn prime.file) → (n : ℕ)
      → times n (shared_body (version_before c.live q)).blocks ≤ 1
  once_of None key n = omega arith
  once_of (Some k) key n = subst (λ (l : Option LiveVersion). times n
      (shared_body (option_map before_of l)).blocks ≤ 1) (sym key.here)
      (file_once size c whole prime.ppn prime.file key.version (current_of k key) n)

  whole_of : (q : Option ℕ) → IfSome q (IsKeyOf c prime.ppn prime.file)
      → IsWholeVersion (record { prime = begun_prime kind prime old; version = shared_body (version_before c.live q) })
  whole_of None key = record { counted = refl; few = omega arith; few_ribs = omega arith }
  whole_of (Some k) key = subst (λ (l : Option LiveVersion). IsWholeVersion
      (record {
        prime = begun_prime kind prime old;
        version = shared_body (option_map before_of l);
      })) (sym key.here)
      (let was = standing_at (λ u. IsWholeVersion (as_known u)) c.live k key.version whole.standing key.here in
      record { counted = was.counted; few = was.few; few_ribs = omega arith })

  bare_of : (q : Option ℕ) → (shared_body (version_before c.live q)).ribs ≡ []
  bare_of None = refl
  bare_of (Some k) = by (slot c.live k)
    where
      by : (l : Option LiveVersion)
          → (shared_body (option_map before_of l)).ribs ≡ []
      by None = refl
      by (Some v) = refl

  -- each of its two beginnings
  either : (P : VersionState → Type 0) → P (shared_body old) → P no_words → P (begun_version kind old)
  either P shared none = by (is_update kind)
    where
      by : (b : Bool) → P (if b then shared_body old else no_words)
      by true = shared
      by false = none

  pub begun_once : (n : ℕ) → times n (begun_version kind old).blocks ≤ 1
  begun_once n = either (λ v. times n v.blocks ≤ 1) (once_of o is.key n) (omega arith)

  pub begun_shares : (n : ℕ) → 0 < times n (begun_version kind old).blocks
      → (v : LiveVersion) × IsCurrentAt c prime.ppn prime.file v × (0 < times n v.version.blocks)
  begun_shares n = either (λ v. 0 < times n v.blocks → (u : LiveVersion) × IsCurrentAt c prime.ppn prime.file u
      × (0 < times n u.version.blocks)) (shared_of o is.key n) (λ some. absurd (omega arith))

  pub begun_inside : (n : ℕ) → 0 < times n (begun_version kind old).blocks → InSpace size n
  begun_inside n some =
      let file = begun_shares n some in
      file_inside size c whole prime.ppn prime.file file.0 file.1 sound n file.2

  pub begun_waits : IsWholePending size (begun kind prime old)
  begun_waits = record {
    whole = either (λ v. IsWholeVersion (record { prime = begun_prime kind prime old; version = v }))
        (whole_of o is.key) (record { counted = refl; few = omega arith; few_ribs = omega arith });
    inside = all_times (InSpace size) (begun_version kind old).blocks begun_inside;
    bare = either (λ v. v.ribs ≡ []) (bare_of o) refl;
  }

  -- What it costs.

  pub begun_cost : (entries : ℕ) → is_create kind ≡ is_none o → begin_cost kind entries old
      ≡ cost_of_blocks (length (begun_version kind old).blocks) + (if is_create kind then growth entries else 0)
  begun_cost entries fits = by kind fits
    where
      costs : (q : Option ℕ) → IfSome q (λ k. IsSome (slot c.live k)) → false ≡ is_none q
          → cost_before (version_before c.live q)
          ≡ cost_of_blocks (length (shared_body (version_before c.live q)).blocks)
      costs None there new = absurd (cc)
      costs (Some k) there new = of (slot c.live k) there
        where
          of : (l : Option LiveVersion) → IsSome l
              → cost_before (option_map before_of l)
              ≡ cost_of_blocks (length (shared_body (option_map before_of l)).blocks)
          of None is = absurd (cc)
          of (Some v) is = refl

      by : (l : PendingKind) → is_create l ≡ is_none o → begin_cost l entries old
          ≡ cost_of_blocks (length (begun_version l old).blocks) + (if is_create l then growth entries else 0)
      by Create new = refl
      by Supersede new = refl
      by Update new = let e = costs o has_version new in omega arith
      by Append new = let e = costs o has_version new in omega arith

  -- Memory with it.

  module _ (pending : List (Option PendingVersion)) (key : ℕ)
      (adds : Adds c.pending pending key (begun kind prime old)) (fits : is_create kind ≡ is_none o)
      (held : List ℕ) (more : (n : ℕ) → slice_index held n
      ≡ holds c.known.table n + times n (begun_version kind old).blocks) (i : ℕ) (v : ℕ × ℕ) (d : CurrentDirectory)
      (at : slice_get c.known.master.entries i ≡ Some (prime.ppn, v)) (d_at : slice_get c.known.directories i ≡ Some d)
      (booked : ℕ) (costs : booked ≡ c.known.table.booked + begin_cost kind (entries_with c d prime.ppn) old)
      (room : booked ≤ space size) where
    abbrev p : PendingVersion
    p = begun kind prime old

    held_before : (n : ℕ) → 0 < slice_index held n → (0 < holds c.known.table n)
        ⊎ (0 < times n (begun_version kind old).blocks)
    held_before n some = ⊎_elim (λ was. inl was) (λ none. inr (let sum = more n in omega arith))
        (some_or_none (holds c.known.table n))

    pub begun_whole : IsWholeMemory size (record c {
      known = record c.known { table = record c.known.table { held = held; booked = booked } };
      pending = pending;
    })
    begun_whole = record {
      map = counts_whole size c.known held booked whole.map;
      keyed = whole.keyed;
      standing = whole.standing;
      waiting = all_updated (λ q. IfSome q (IsWholePending size)) c.pending pending key adds.others tt whole.waiting
          (subst (λ q. IfSome q (IsWholePending size)) (sym adds.here) begun_waits);
      current = whole.current;
      housed = λ ppn none.
          created_elsewhere c.pending pending key p adds ppn
          (λ same. absent_at c.known.master.entries i prime.ppn v at
          (ap (λ (q : ℕ). find nat_cmp q c.known.master.entries) (sym same) ∙ none)) ∙ whole.housed ppn none;
      held = λ n. let one = added_total c.pending pending key p adds (pending_reaches n) refl in
          let was = whole.held n in let sum = more n in omega arith;
      own = begun_apart size c whole pending key p adds held booked begun_once begun_shares;
      inside = λ n some. ⊎_elim (λ was. whole.inside n was) (λ new. begun_inside n new) (held_before n some);
      apart = λ n some. ⊎_elim (λ was. whole.apart n was)
          (λ new.
          let file = begun_shares n new in
          file_apart size c whole prime.ppn prime.file file.0 file.1 n file.2) (held_before n some);
      primes = λ k u there current.
          let none = whole.primes k u there current in
          let sum = more u.at in
          ⊎_elim
          (λ some.
          let file = begun_shares u.at some in
          let apart = first_no_data size c whole k u there current file.1.key file.0 file.1.there file.1.current in
          absurd (omega arith))
          (λ away. omega arith) (some_or_none (times u.at (begun_version kind old).blocks));
      fits = let large = whole.map.volume.large in omega arith;
      beyond = λ some. omega (arith, room);
      within = λ some. room;
      booked =
          let grown = added_growths c.pending pending key p adds c.known.master.entries
          c.known.directories i v d whole.map.chain.each_once at d_at in
          let one = added_total c.pending pending key p adds pending_cost refl in
          let cost = begun_cost (entries_with c d prime.ppn) fits in
          let was = whole.booked in
          omega arith;
    }

-- Which refusal comes when, in terms of the directory that has the number.

module _ {size : ℕ} {c : MemoryMap} (whole : IsWholeMemory size c) (kind : PendingKind) (prime : Prime) {o : Option ℕ}
    (is : IsBefore c prime.ppn prime.file o) (d : CurrentDirectory) (there : IsDirectoryOf c prime.ppn d) where
  same_d : is.directory ≡ d
  same_d = same_directory size c prime.ppn there.0 there.1 is.directory d whole is.there there.2.is there.3

  pub absent_same : is_absent prime.file d ≡ is_none o
  absent_same =
      ap (is_absent prime.file) (sym same_d)
      ∙ sym (named_none is.directory prime.file (version_before c.live o) is.named)
      ∙ before_none c.live o (there_of o is.key)
    where
      there_of : (q : Option ℕ) → IfSome q (IsKeyOf c prime.ppn prime.file) → IfSome q (λ k. IsSome (slot c.live k))
      there_of None key = tt
      there_of (Some k) key = subst IsSome (sym key.here) refl

  pub before_same : (prior : Before) → IsNamed d prime.file prior → prior ≡ version_before c.live o
  before_same prior named =
      let whole_d = all_at (IsWholeDirectory size) c.known.directories there.0 d whole.map.each there.3 in
      one_before d prime.file prior (version_before c.live o) named
      (subst (λ (x : CurrentDirectory). IsNamed x prime.file (version_before c.live o)) same_d is.named)
      whole_d.chain.each_once

  module _ (fits : is_create kind ≡ is_none o) where
    pub not_there : (is_create kind ≡ true) × (is_absent prime.file d ≡ false) → ⊥
    not_there both = let no : true ≡ false = sym both.0 ∙ fits ∙ sym absent_same ∙ both.1 in cc

    pub not_absent : (is_create kind ≡ false) × (is_absent prime.file d ≡ true) → ⊥
    not_absent both = let no : false ≡ true = sym both.0 ∙ fits ∙ sym absent_same ∙ both.1 in cc

  -- what it costs
  pub cost_is : (place : ℕ) (v : ℕ × ℕ) (e : CurrentDirectory) (cost : ℕ)
      → slice_get c.known.master.entries place ≡ Some (prime.ppn, v) → slice_get c.known.directories place ≡ Some e
      → cost ≡ begin_cost kind (entries_with c e prime.ppn) (version_before c.live o)
      → (prior : Before) → IsNamed d prime.file prior → cost ≡ begin_cost kind (entries_with c d prime.ppn) prior
  cost_is place v e cost at e_at costs prior named =
      let same : d ≡ e = same_directory size c prime.ppn place v d e whole there at e_at in
      costs ∙ (λ i. begin_cost kind (entries_with c (sym same i) prime.ppn) (sym (before_same prior named) i))

-- A version that will begin, in a map in memory.

-- the directory at the place of its entry
pub known_place : (m : LiveMap) → IsWholeMemory m.table.size (memory_of m) → (ppn i : ℕ) (v : ℕ × ℕ)
    → StandsAt nat_cmp (map master_view m.master.entries) ppn v i
    → (d : CurrentDirectory) × (slice_get (memory_of m).known.directories i ≡ Some d)
known_place m whole ppn i v stands = element_at (memory_of m).known.directories i
    (let within = stands.within in let aligned = whole.map.aligned in omega arith)

module _ {size : ℕ} {c : MemoryMap} (whole : IsWholeMemory size c) (kind : PendingKind) (prime : Prime) {o : Option ℕ}
    (is : IsBefore c prime.ppn prime.file o) where
  pub named_here : (d : CurrentDirectory) → IsDirectoryOf c prime.ppn d
      → IsNamed d prime.file (version_before c.live o)
  named_here d there = subst (λ (x : CurrentDirectory). IsNamed x prime.file (version_before c.live o))
      (same_directory size c prime.ppn there.0 there.1 is.directory d whole is.there there.2.is there.3) is.named

  pub fits_before : (d : CurrentDirectory) → IsDirectoryOf c prime.ppn d → (prior : Before)
      → IsNamed d prime.file prior → is_create kind ≡ is_none prior → is_create kind ≡ is_none o
  fits_before d there prior named fits = fits ∙ named_none d prime.file prior named
      ∙ absent_same whole kind prime is d there

  -- no block is held more often than 32 bits can count
  pub begun_hold : (n cost : ℕ) → c.known.table.booked + cost ≤ space c.known.table.size
      → holds c.known.table n + 1 < 2 ^ 32
  begun_hold n cost room =
      let few = memory_holds size c whole n in
      let large = whole.map.volume.large in
      let same = whole.map.size_is in
      omega arith

-- One that doesn't fit is refused by its name.

pub misfit_exists : (creates absent absent' : Bool) (code : ErrorCode) → absent' ≡ absent
    → IsMisfit creates absent (Some code)
    → (IsErrOf {T = ℕ} (Err (Refused code)) (Refused NameExists) ↔ ((creates ≡ true) × (absent' ≡ false)))
misfit_exists creates absent absent' code same (inl one) =
    (λ is. (one.1, same ∙ one.2), λ both. ap (λ (c : ErrorCode). Err (Refused c)) one.0)
misfit_exists creates absent absent' code same (inr other) = (
  λ is. let no = ap (λ (c : ErrorCode). Refused c) other.0 in cc,
  λ both. let no : false ≡ true = sym other.1 ∙ both.0 in absurd (cc),
)

pub misfit_absent : (creates absent absent' : Bool) (code : ErrorCode) → absent' ≡ absent
    → IsMisfit creates absent (Some code)
    → (IsErrOf {T = ℕ} (Err (Refused code)) (Refused NotFound) ↔ ((creates ≡ false) × (absent' ≡ true)))
misfit_absent creates absent absent' code same (inr one) =
    (λ is. (one.1, same ∙ one.2), λ both. ap (λ (c : ErrorCode). Err (Refused c)) one.0)
misfit_absent creates absent absent' code same (inl other) = (
  λ is. let no = ap (λ (c : ErrorCode). Refused c) other.0 in cc,
  λ both. let no : true ≡ false = sym other.1 ∙ both.0 in absurd (cc),
)

pub misfit_not : (creates absent : Bool) (code : ErrorCode) → IsMisfit creates absent (Some code) → creates ≡ absent → ⊥
misfit_not creates absent code (inl one) fits = let no : true ≡ false = sym one.1 ∙ fits ∙ one.2 in cc
misfit_not creates absent code (inr other) fits = let no : false ≡ true = sym other.1 ∙ fits ∙ other.2 in cc
