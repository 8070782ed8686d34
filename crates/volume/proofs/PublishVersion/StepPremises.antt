-- A version that was being written becomes current in memory: what its steps require.
use Rattle.std.proofs.Common.{◌≡◌, ◌↔◌, ℕ, zero, suc, ◌+◌, ◌-◌, ◌*◌, ◌^◌, ◌<◌, ◌≤◌, ◌==◌, Bool, true, false}
use Rattle.std.proofs.Common.{if◌then◌else◌, List, [], ◌∷◌, ◌++◌, map, length, slice_get, slice_index_or, get_or}
use Rattle.std.proofs.Common.{option_to_list, Option, Some, None, IfSome, IfNone, IsSome, IsTrue, is_none, refl, sym}
use Rattle.std.proofs.Common.{ap, subst, ◌∙◌, arith, ⊎_elim, append-nil}
use Rattle.std.proofs.lemmas.List.{length-map}
use Rattle.std.proofs.lemmas.Bool.Decides.{nat_tests}
use Rattle.std.specs.Ordering.{nat_cmp}
use Rattle.std.specs.FinMap.Entries.{find}
use Rattle.spec_image.specs.Common.{directory_cost, cost_of_blocks, SpecMasterEntry, SpecFileEntry, name_cmp, total}
use Rattle.spec_image.specs.Common.{times}
use Rattle.spec_image.specs.Common.{most_blocks}
use Rattle.spec_image.proofs.Common.{some_same, some_none, times-append}
use Rattle.alloctab.specs.Common.{TableState, IsTable, bit, holds, space, used_in_space, changed_blocks}
use Rattle.alloctab.specs.Common.{changed_blocks-le-most}
use Rattle.directory.specs.Common.{StandsAt, TakesBlock}
use Rattle.changeset.specs.Common.{times_head, some_or_none}
use Rattle.retrieval.specs.Common.{rib_count}
use Rattle.words36.specs.declared.names.FileName.{FileName}
use Rattle.volume.specs.declared.live.LiveDirectory.{LiveDirectory}
use Rattle.volume.specs.declared.live.LiveMap.{LiveMap}
use Rattle.volume.specs.declared.live.LiveVersion.{LiveVersion}
use Rattle.volume.specs.declared.pending.PendingVersion.{PendingVersion}
use Rattle.volume.specs.Common.{is_absent, IsDirectoryOf, file_view, master_view, CurrentDirectory, blocks_reached}
use Rattle.volume.specs.Common.{cost_of_version, cost_of_directory, IsWholeDirectory, IsWholeVersion, prime_in}
use Rattle.volume.specs.Common.{is_creation, MemoryMap, slot, pending_at, as_known, IsCurrent, IsKeyed}
use Rattle.volume.specs.Common.{pending_reaches, pending_cost, creates, growths, IsWholeMemory, memory_of}
use Rattle.volume.specs.Common.{live_directory}
use Rattle.volume.specs.Common.{MayRetire, TakesPlaces, Retires, live_left, IsPlaced}
use Rattle.volume.proofs.BeginVersion.Beginnings.{same_directory}
use Rattle.volume.proofs.common.MapCosts.{few_blocks}
use Rattle.volume.proofs.VolumeStart.FoundDirectories.{mapped_at, zip_at, all_at}
use Rattle.volume.proofs.common.Growths.{share}
use Rattle.volume.proofs.common.LiveLookups.{as_many, kept_at, standing_at}
use Rattle.volume.proofs.common.LiveTotals.{memory_uses_more, memory_used, memory_holds}
use Rattle.volume.proofs.PinVersion.Pins.{total_at, current_stands}
use Rattle.volume.proofs.common.UsedBlocks.{element_at}
use Rattle.volume.proofs.common.TableBits.{bit_few}
use Rattle.volume.proofs.common.OnePlace.{one_key}
use Rattle.volume.proofs.common.PrimeBlocks.{prime_of_place}
use Rattle.volume.proofs.PutWords.Memory.{chains_within}

-- A part of a sum.
pub part_of : {X : Type 0} (f : X → ℕ) (xs : List X) (i : ℕ) (x : X) → slice_get xs i ≡ Some x → f x ≤ total f xs
part_of f [] i x is = cc
part_of f (y ∷ xs) zero x is = let same = ap f (some_same is) in omega arith
part_of f (y ∷ xs) (suc i) x is = let rest = part_of f xs i x is in omega arith

index_of : (xs : List ℕ) (i x : ℕ) → slice_get xs i ≡ Some x → x ≡ get_or xs i 0
index_of [] i x is = cc
index_of (y ∷ xs) zero x is = sym (some_same is)
index_of (y ∷ xs) (suc i) x is = index_of xs i x is

-- what is at an index
pub index_is : {X : Type 0} (xs : List X) (i : ℕ) (x e : X) → i < length xs → x ≡ slice_index_or xs i e
    → slice_get xs i ≡ Some x
index_is [] i x e below is = absurd (omega arith)
index_is (y ∷ xs) zero x e below is = ap Some (sym is)
index_is (y ∷ xs) (suc i) x e below is = index_is xs i x e (omega arith) is

-- versions stay if one more comes under a new key
pub vacant_stays : (versions after : List (Option LiveVersion)) (new_key : ℕ) → slot versions new_key ≡ None
    → ((k : ℕ) → (k ≡ new_key → ⊥) → slot after k ≡ slot versions k) → (k : ℕ) (v : LiveVersion)
    → slot versions k ≡ Some v → slot after k ≡ Some v
vacant_stays versions after new_key vacant others k v there =
    others k (λ same. some_none (sym there ∙ ap (slot versions) same ∙ vacant)) ∙ there

-- a directory is there, at the place of its entry
module _ (m : LiveMap) (whole : IsWholeMemory m.table.size (memory_of m)) (ppn place : ℕ) (w : ℕ × ℕ)
    (stands : StandsAt nat_cmp (map master_view m.master.entries) ppn w place) where
  pub place_within : place < length m.directories.items
  place_within =
      let within = stands.within in
      let aligned = whole.map.aligned in
      let many = length-map m.directories.items (live_directory m.versions.slots) in
      omega arith

  pub directory_there : (d : LiveDirectory) × (slice_get m.directories.items place ≡ Some d)
  directory_there = element_at m.directories.items place place_within

-- and it is the one that was read there
pub directory_read : (m : LiveMap) → IsWholeMemory m.table.size (memory_of m) → {ppn place : ℕ} {w : ℕ × ℕ}
    {d : LiveDirectory} → StandsAt nat_cmp (map master_view m.master.entries) ppn w place → (e : LiveDirectory)
    → d ≡ slice_index_or m.directories.items place e → slice_get m.directories.items place ≡ Some d
directory_read m whole {ppn} {place} {w} {d} stands e is =
    index_is m.directories.items place d e (place_within m whole ppn place w stands) is

-- One number, or none.
pub one_number : (o : Option ℕ) → length (option_to_list o) ≡ 1 → (n : ℕ) × (o ≡ Some n)
one_number None one = absurd (omega arith)
one_number (Some n) one = (n, refl)

pub no_number : (o : Option ℕ) → length (option_to_list o) ≡ 0 → option_to_list o ≡ []
no_number None none = refl
no_number (Some n) none = absurd (omega arith)

-- what one directory grows by is a part of what all do
pub share_within : (pending : List (Option PendingVersion)) (es : List SpecMasterEntry) (ds : List CurrentDirectory)
    (i k : ℕ) (w : ℕ × ℕ) (d : CurrentDirectory) → slice_get es i ≡ Some (k, w) → slice_get ds i ≡ Some d
    → share pending k d ≤ growths pending es ds
share_within pending [] ds i k w d is at = cc
share_within pending (e ∷ es) [] i k w d is at = cc
share_within pending (e ∷ es) (x ∷ ds) zero k w d is at =
    let key : e.0 ≡ k = ap (λ (y : SpecMasterEntry). y.0) (some_same is) in
    let same : share pending e.0 x ≡ share pending k d = λ j. share pending (key j) (some_same at j) in
    omega arith
share_within pending (e ∷ es) (x ∷ ds) (suc i) k w d is at = let rest = share_within pending es ds i k w d is at in
    omega arith

-- a chain whose last block is full takes one more for the next entry
pub full_grows : (entries blocks more : ℕ) → blocks ≡ directory_cost entries → entries ≡ 42 * blocks → 0 < more
    → 1 ≤ directory_cost (entries + more) - directory_cost entries
full_grows entries blocks more counted full some = grind (arith, nat_tests)

-- how often a block occurs among those that were taken, and among data blocks
pub places_split : (n : ℕ) (grown : List ℕ) (prime : ℕ) (ribs blocks : List ℕ)
    → times n (grown ++ prime ∷ (ribs ++ blocks)) ≡ times n (grown ++ prime ∷ ribs) + times n blocks
places_split n grown prime ribs blocks =
    let whole = times-append n grown (prime ∷ (ribs ++ blocks)) in
    let front = times-append n grown (prime ∷ ribs) in
    let parts = times-append n ribs blocks in
    omega arith

pub places_behind : (n : ℕ) (grown : List ℕ) (prime : ℕ) (ribs blocks : List ℕ)
    → times n ((prime ∷ (ribs ++ blocks)) ++ grown) ≡ times n (grown ++ prime ∷ ribs) + times n blocks
places_behind n grown prime ribs blocks =
    let back = times-append n (prime ∷ (ribs ++ blocks)) grown in
    let front = times-append n grown (prime ∷ (ribs ++ blocks)) in
    let split = places_split n grown prime ribs blocks in
    omega arith

-- No block is both taken and a data block, and a data block whose bit is set is freed.
stands_once : (bits taken stands given : ℕ) → bits ≤ 1 → bits + taken ≤ 1 → (0 < stands → taken ≡ 0) → stands ≤ 1
    → (0 < stands → 0 < bits → 0 < given) → bits + (taken + stands) ≤ 1 + given
stands_once bits taken stands given few fresh apart once shared = ⊎_elim
    (λ (its : 0 < stands). ⊎_elim
    (λ (set : 0 < bits). omega (arith, apart its, shared its set))
    (λ (clear : bits ≡ 0). omega (arith, apart its)) (some_or_none bits))
    (λ (none : stands ≡ 0). omega arith) (some_or_none stands)

module _ (m : LiveMap) (whole : IsWholeMemory m.table.size (memory_of m)) (key : ℕ) {p : PendingVersion}
    (was : pending_at m.pending.slots key ≡ Some p) (placed : IsPlaced (memory_of m) p) {place : ℕ} {w : ℕ × ℕ}
    (stands : StandsAt nat_cmp (map master_view m.master.entries) p.prime.ppn w place) {d : LiveDirectory}
    (at : slice_get m.directories.items place ≡ Some d) where
  abbrev c : MemoryMap
  c = memory_of m

  abbrev dk : CurrentDirectory
  dk = live_directory m.versions.slots d

  pub known_place : slice_get c.known.directories place ≡ Some dk
  known_place = mapped_at (live_directory m.versions.slots) m.directories.items place d at

  pub keys_place : slice_get c.keys place ≡ Some d.keys.items
  keys_place = mapped_at (λ (x : LiveDirectory). x.keys.items) m.directories.items place d at

  pub is_directory : IsDirectoryOf c p.prime.ppn dk
  is_directory = (place, w, stands, known_place)

  pub placed_here : placed.directory ≡ dk
  placed_here = same_directory m.table.size c p.prime.ppn place w placed.directory dk whole placed.there
      stands.is known_place

  pub new_here : is_creation p ≡ is_absent p.prime.file dk
  new_here = placed.is_new ∙ ap (is_absent p.prime.file) placed_here

  pub keyed_here : IsKeyed c.live dk d.keys.items
  keyed_here =
      let pair = zip_at (IsKeyed c.live) c.known.directories c.keys place d.keys.items whole.keyed keys_place in
      subst (λ (x : CurrentDirectory). IsKeyed c.live x d.keys.items) (some_same (sym pair.1 ∙ known_place)) pair.2

  pub whole_here : IsWholeDirectory m.table.size dk
  whole_here = all_at (IsWholeDirectory m.table.size) c.known.directories place dk whole.map.each known_place

  pub as_many_keys : length d.keys.items ≡ length d.chain.entries
  as_many_keys = as_many c.live dk.chain.entries d.keys.items keyed_here ∙ length-map d.chain.entries file_view

  -- What the version's blocks require.

  pub version_held : (n : ℕ) → times n p.version.blocks ≤ holds m.table n
  version_held n =
      let part = total_at (pending_reaches n) refl c.pending key in
      let here = ap (pending_reaches n) was in
      let all = whole.held n in
      omega arith

  -- A data block whose bit is set is one of the version that its name has.

  prime_here : prime_in c.known.master.entries c.known.directories p.prime.ppn p.prime.file
      ≡ find name_cmp p.prime.file (map file_view d.chain.entries)
  prime_here = prime_of_place c.known.master.entries c.known.directories place p.prime.ppn p.prime.file w dk stands
      known_place

  pub shared_absent : find name_cmp p.prime.file (map file_view d.chain.entries) ≡ None → (n : ℕ)
      → 0 < times n p.version.blocks → 0 < bit m.table n → ⊥
  shared_absent none n its set =
      let shared = (whole.own key p was).shared n its set in
      some_none (sym shared.1.at ∙ prime_here ∙ none)

  pub shared_named : (i v k : ℕ) (u : LiveVersion)
      → StandsAt name_cmp (map file_view d.chain.entries) p.prime.file v i → slot m.versions.slots k ≡ Some u
      → u.is_current ≡ true → u.at ≡ v → (n : ℕ) → 0 < times n p.version.blocks → 0 < bit m.table n
      → 0 < times n (blocks_reached u.at u.version)
  shared_named i v k u named there current at_is n its set =
      let shared = (whole.own key p was).shared n its set in
      let prime : shared.0.at ≡ v = some_same (sym shared.1.at ∙ prime_here ∙ named.found) in
      let keys : shared.1.key ≡ k = one_key m.table.size c whole shared.1.key k shared.0 u shared.1.there there
      shared.1.current current (prime ∙ sym at_is) in
      let same : shared.0 ≡ u = some_same (sym shared.1.there ∙ ap (slot m.versions.slots) keys ∙ there) in
      let blocks = ap (λ (x : LiveVersion). times n x.version.blocks) same in
      let parts = times-append n u.version.ribs u.version.blocks in
      let some = shared.2 in
      omega arith

  -- Each block is in one place after those are free that the version before frees.
  pub all_once : (t : TableState) (grown : List ℕ) (prime : ℕ) (ribs : List ℕ) → TakesPlaces m.table t grown prime ribs
      → (given : ℕ → ℕ) → ((n : ℕ) → 0 < times n p.version.blocks → 0 < bit m.table n → 0 < given n)
      → (n : ℕ) → bit m.table n + times n (grown ++ prime ∷ (ribs ++ p.version.blocks)) ≤ 1 + given n
  all_once t grown prime ribs takes given shared n =
      let split = places_split n grown prime ribs p.version.blocks in
      let apart : 0 < times n p.version.blocks → times n (grown ++ prime ∷ ribs) ≡ 0 = λ its. ⊎_elim
      (λ (some : 0 < times n (grown ++ prime ∷ ribs)). absurd (let unheld = (takes.free n some).0.unheld in
      let held = version_held n in
      omega arith))
      (λ (none : times n (grown ++ prime ∷ ribs) ≡ 0). none) (some_or_none (times n (grown ++ prime ∷ ribs))) in
      let sum = stands_once (bit m.table n) (times n (grown ++ prime ∷ ribs)) (times n p.version.blocks) (given n)
      (bit_few m.table n) (takes.fresh n) apart ((whole.own key p was).once n) (shared n) in
      omega arith

  pub within_space : m.table.booked ≤ space m.table.size
  within_space =
      let part = total_at pending_cost refl c.pending key in
      let here = ap pending_cost was in
      whole.within (omega arith)

  grown_booked : (grows : Bool) → (IsTrue grows ↔ TakesBlock name_cmp dk.chain p.prime.file)
      → (if grows then 1 else 0) ≤ growths c.pending c.known.master.entries c.known.directories
  grown_booked false takes = omega arith
  grown_booked true takes =
      let full = takes.0 refl in
      let new : is_creation p ≡ true = new_here ∙ ap is_none full.0 in
      let part = total_at (creates p.prime.ppn) refl c.pending key in
      let here = ap (creates p.prime.ppn) was in
      let one : creates p.prime.ppn (Some p)
      ≡ 1 = ap (λ (b : Bool). if b then (if p.prime.ppn == p.prime.ppn then 1 else 0) else 0) new
      ∙ itself p.prime.ppn in
      let within = share_within c.pending c.known.master.entries c.known.directories place p.prime.ppn
      w dk stands.is known_place in
      let more = full_grows (length dk.chain.entries) (length dk.chain.blocks)
      (total (creates p.prime.ppn) c.pending) whole_here.chain.counted full.1 (omega arith) in
      omega arith
    where
      itself : (n : ℕ) → ◌≡◌ {A = ℕ} (if n == n then 1 else 0) 1
      itself n = grind (arith, nat_tests)

  pub blocks_booked : (grows : Bool) (ribs : ℕ) → (IsTrue grows ↔ TakesBlock name_cmp dk.chain p.prime.file)
      → ribs ≤ rib_count (length p.version.blocks) → used_in_space m.table + (if grows then 1 else 0) + (1 + ribs)
      ≤ m.table.booked
  blocks_booked grows ribs takes many =
      let all = memory_uses_more m.table.size c whole key p was (if grows then 1 else 0) (grown_booked grows takes) in
      let most = memory_used m.table.size c whole in
      omega arith

  -- a block that was free is in no chain
  pub free_elsewhere : (n : ℕ) → bit m.table n ≡ 0 → times n d.chain.blocks ≡ 0
  free_elsewhere n clear =
      let part = part_of (λ (x : CurrentDirectory). times n x.chain.blocks) c.known.directories place dk known_place in
      let bits = whole.map.bits n in
      let chains = chains_within n c.known.directories in
      omega arith

  -- The version that the name had.

  pub old_version : (i v k : ℕ) → StandsAt name_cmp (map file_view d.chain.entries) p.prime.file v i
      → slice_get d.keys.items i ≡ Some k
      → (u : LiveVersion) × (slot m.versions.slots k ≡ Some u) × (u.is_current ≡ true) × (u.at ≡ v)
      × (slice_get dk.versions i ≡ Some (as_known u))
  old_version i v k named is =
      let pair = zip_at (λ (e : SpecFileEntry) (n : ℕ). IsCurrent c.live n e.1) dk.chain.entries d.keys.items
      i k keyed_here is in
      let entry : pair.0 ≡ (p.prime.file, v) = some_same (sym pair.1 ∙ named.is) in
      let current = pair.2 in
      let kept = kept_at c.live dk.chain.entries d.keys.items i k 0 keyed_here named.within
      (index_of d.keys.items i k is) in
      let same : kept.0 ≡ current.version = some_same (sym kept.1 ∙ current.there) in (
        current.version,
        current.there,
        current.current,
        current.at ∙ ap (λ (e : SpecFileEntry). e.1) entry,
        kept.2 ∙ ap (λ (x : LiveVersion). Some (as_known x)) same,
      )

  pub old_set : (k : ℕ) (u : LiveVersion) → slot m.versions.slots k ≡ Some u → u.is_current ≡ true → (n : ℕ)
      → times n (blocks_reached u.at u.version) ≤ bit m.table n
  old_set k u there current n =
      let stand = current_stands m.table.size c whole k u there current n in
      let bits = whole.map.bits n in
      omega arith

  pub old_few : (k : ℕ) (u : LiveVersion) → slot m.versions.slots k ≡ Some u → length u.version.blocks ≤ most_blocks
  old_few k u there = few_blocks (as_known u)
      (standing_at (λ v. IsWholeVersion (as_known v)) m.versions.slots k u whole.standing there)

  pub old_booked : (i : ℕ) (u : LiveVersion) → slice_get dk.versions i ≡ Some (as_known u)
      → cost_of_blocks (length u.version.blocks) ≤ m.table.booked
  old_booked i u is =
      let one = part_of cost_of_version dk.versions i (as_known u) is in
      let all = part_of cost_of_directory c.known.directories place dk known_place in
      let booked = whole.booked in
      omega arith

  pub holds_few : (n : ℕ) → holds m.table n + 2 < 2 ^ 32
  holds_few n =
      let few = memory_holds m.table.size c whole n in
      let most = within_space in
      let large = whole.map.volume.large in
      omega arith

  -- What follows for the version before, after the new one has a key and its places were taken.
  module _ (o : Option ℕ) {name : FileName} (same : name ≡ p.prime.file) (now : List ℕ → ℕ → Type 0)
      (replaced : IfSome o (λ k. (i : ℕ) × (v : ℕ) × StandsAt name_cmp (map file_view d.chain.entries) name v i
      × (slice_get d.keys.items i ≡ Some k) × now d.keys.items i))
      (versions : List (Option LiveVersion)) (stay : (k : ℕ) (v : LiveVersion) → slot m.versions.slots k ≡ Some v
      → slot versions k ≡ Some v)
      {t : TableState} {grown : List ℕ} {prime : ℕ} {ribs : List ℕ}
      (takes : TakesPlaces m.table t grown prime ribs) where
    -- the one under that key
    abbrev OldAt : ℕ → Type 0
    OldAt k = (u : LiveVersion) × (slot m.versions.slots k ≡ Some u) × (slot versions k ≡ Some u)
        × (u.is_current ≡ true) × (i : ℕ) × (slice_get dk.versions i ≡ Some (as_known u))
        × ((n : ℕ) → 0 < times n p.version.blocks → 0 < bit m.table n → 0 < times n (blocks_reached u.at u.version))

    old_at : (q : Option ℕ) → IfSome q (λ k. (i : ℕ) × (v : ℕ)
        × StandsAt name_cmp (map file_view d.chain.entries) name v i × (slice_get d.keys.items i ≡ Some k)
        × now d.keys.items i) → IfSome q OldAt
    old_at None none = tt
    old_at (Some k) is =
        let named = subst (λ n. StandsAt name_cmp (map file_view d.chain.entries) n is.1 is.0) same is.2 in
        let u = old_version is.0 is.1 k named is.3 in
        (u.0, u.1, stay k u.0 u.1, u.2, is.0, u.4, shared_named is.0 is.1 k u.0 named u.1 u.2 u.3)

    by_slot : (P : LiveVersion → Type 0) (q : Option LiveVersion) (u : LiveVersion) → q ≡ Some u → P u → IfSome q P
    by_slot P None u is has = cc
    by_slot P (Some v) u is has = subst P (sym (some_same is)) has

    each_old : (Q : ℕ → Type 0) → ((k : ℕ) → OldAt k → Q k) → IfSome o Q
    each_old Q give = by o (old_at o replaced)
      where
        by : (q : Option ℕ) → IfSome q OldAt → IfSome q Q
        by None none = tt
        by (Some k) is = give k is

    pub may_retire : IfSome o (λ k. MayRetire t versions k)
    may_retire = each_old (MayRetire t versions) (λ k is. record {
      there = subst IsSome (sym is.2) refl;
      set = by_slot (λ v. (n : ℕ) → times n (blocks_reached v.at v.version) ≤ bit t n) (slot versions k) is.0 is.2
          (λ n. let set = old_set k is.0 is.1 is.3 n in let kept = takes.bits n in omega arith);
      few = by_slot (λ v. length v.version.blocks ≤ most_blocks) (slot versions k) is.0 is.2 (old_few k is.0 is.1);
      booked = by_slot (λ v. cost_of_blocks (length v.version.blocks) ≤ t.booked) (slot versions k) is.0 is.2
          (let booked = old_booked is.4 is.0 is.5 in let kept = takes.booked in omega arith);
      fits = λ n. let few = holds_few n in let more = takes.held n in let one = takes.fresh n in omega arith;
    })

    -- the new version is under its key, whatever becomes of the old one
    pub new_stands : (after : List (Option LiveVersion)) (new_key : ℕ) (new : LiveVersion)
        → slot m.versions.slots new_key ≡ None → slot versions new_key ≡ Some new
        → ((k j : ℕ) → o ≡ Some k → (j ≡ k → ⊥) → slot after j ≡ slot versions j) → (o ≡ None → after ≡ versions)
        → slot after new_key ≡ Some new
    new_stands after new_key new vacant there others none = by o refl (old_at o replaced)
      where
        by : (q : Option ℕ) → o ≡ q → IfSome q OldAt → slot after new_key ≡ Some new
        by None is is_old = ap (λ l. slot l new_key) (none is) ∙ there
        by (Some k) is is_old = others k new_key is (λ same. some_none (sym is_old.1
            ∙ ap (slot m.versions.slots) (sym same) ∙ vacant)) ∙ there

    -- After it is out of use, the blocks of the new one are held, and no bit of them is set.
    module _ (after : TableState) (retired : (k : ℕ) (v : LiveVersion) → o ≡ Some k → slot versions k ≡ Some v
        → Retires t after v (live_left (Some (k, v)))) (none : o ≡ None → after ≡ t) where
      pub used_sound : IsTable after
      used_sound = by o refl (old_at o replaced)
        where
          by : (q : Option ℕ) → o ≡ q → IfSome q OldAt → IsTable after
          by None is is_old = subst IsTable (sym (none is)) takes.marks.sound
          by (Some k) is is_old = (retired k is_old.0 is is_old.2).marks.sound

      pub used_held : (n : ℕ) → times n ((prime ∷ (ribs ++ p.version.blocks)) ++ grown) ≤ holds after n
      used_held n = by o refl (old_at o replaced)
        where
          by : (q : Option ℕ) → o ≡ q → IfSome q OldAt
              → times n ((prime ∷ (ribs ++ p.version.blocks)) ++ grown) ≤ holds after n
          by None is is_old =
              let same = ap (λ (x : TableState). holds x n) (none is) in
              let split = places_behind n grown prime ribs p.version.blocks in
              let taken = takes.held n in
              let held = version_held n in
              omega arith
          by (Some k) is is_old =
              let more = (retired k is_old.0 is is_old.2).held n in
              let split = places_behind n grown prime ribs p.version.blocks in
              let taken = takes.held n in
              let held = version_held n in
              omega arith

      pub used_clear : (B : Type 0) → IfNone o ((find name_cmp name (map file_view d.chain.entries) ≡ None) × B)
          → (n : ℕ) → bit after n + times n ((prime ∷ (ribs ++ p.version.blocks)) ++ grown) ≤ 1
      used_clear B added n = by o refl (old_at o replaced) added
        where
          by : (q : Option ℕ) → o ≡ q → IfSome q OldAt
              → IfNone q ((find name_cmp name (map file_view d.chain.entries) ≡ None) × B)
              → bit after n + times n ((prime ∷ (ribs ++ p.version.blocks)) ++ grown) ≤ 1
          by None is is_old absent =
              let none_cleared = ap (λ (x : TableState). bit x n) (none is) in
              let split = places_split n grown prime ribs p.version.blocks in
              let behind = places_behind n grown prime ribs p.version.blocks in
              let kept = takes.bits n in
              let no_name = subst (λ x. find name_cmp x (map file_view d.chain.entries) ≡ None) same absent.0 in
              let once = all_once t grown prime ribs takes (λ x. 0)
              (λ x its set. absurd (shared_absent no_name x its set)) n in
              omega arith
          by (Some k) is is_old absent =
              let u = is_old.0 in
              let cleared = (retired k u is is_old.2).bits n in
              let split = places_split n grown prime ribs p.version.blocks in
              let behind = places_behind n grown prime ribs p.version.blocks in
              let kept = takes.bits n in
              let once = all_once t grown prime ribs takes (λ x. times x (blocks_reached u.at u.version)) is_old.6 n in
              omega arith

  -- the chain has its additional block if it grows
  pub chain_grown : (grows : Bool) (o : Option ℕ) (name : FileName) (blocks : List ℕ) → name ≡ p.prime.file
      → (IsTrue grows ↔ TakesBlock name_cmp dk.chain p.prime.file)
      → length (option_to_list o) ≡ (if grows then 1 else 0)
      → ((TakesBlock name_cmp dk.chain name → ⊥) → blocks ≡ d.chain.blocks)
      → ((n : ℕ) → TakesBlock name_cmp dk.chain name → o ≡ Some n → blocks ≡ d.chain.blocks ++ n ∷ [])
      → blocks ≡ d.chain.blocks ++ option_to_list o
  chain_grown true o name blocks same takes count stays more =
      let one = one_number o count in
      more one.0 (subst (TakesBlock name_cmp dk.chain) (sym same) (takes.0 refl)) one.1
      ∙ ap (λ (q : Option ℕ). d.chain.blocks ++ option_to_list q) (sym one.1)
  chain_grown false o name blocks same takes count stays more =
      stays (λ full. let yes : false ≡ true = takes.1 (subst (TakesBlock name_cmp dk.chain) same full) in cc)
      ∙ sym (ap (λ (ns : List ℕ). d.chain.blocks ++ ns) (no_number o count) ∙ append-nil d.chain.blocks)

  -- that block is in no chain
  pub grown_free : (grows : Bool) (o : Option ℕ) (name : FileName) (t : TableState) (prime : ℕ) (ribs : List ℕ)
      → name ≡ p.prime.file → (IsTrue grows ↔ TakesBlock name_cmp dk.chain p.prime.file)
      → length (option_to_list o) ≡ (if grows then 1 else 0)
      → TakesPlaces m.table t (option_to_list o) prime ribs → TakesBlock name_cmp dk.chain name
      → (n : ℕ) × (o ≡ Some n) × (times n d.chain.blocks ≡ 0)
  grown_free grows o name t prime ribs same full_is count takes full = by grows
      (full_is.1 (subst (TakesBlock name_cmp dk.chain) same full)) count
    where
      by : (b : Bool) → IsTrue b → length (option_to_list o) ≡ (if b then 1 else 0) → (n : ℕ) × (o ≡ Some n)
          × (times n d.chain.blocks ≡ 0)
      by false holds count = cc
      by true holds count =
          let one = one_number o count in
          let list : option_to_list o ≡ one.0 ∷ [] = ap option_to_list one.1 in
          let here : times one.0 (option_to_list o ++ prime ∷ ribs)
          ≡ times one.0 (one.0 ∷ prime ∷ ribs) = ap (λ (ns : List ℕ). times one.0 (ns ++ prime ∷ ribs)) list in
          let first = times_head one.0 one.0 (prime ∷ ribs) refl in
          (one.0, one.1, free_elsewhere one.0 (takes.free one.0 (omega arith)).0.clear)

-- no more blocks are put than the log has room for
pub changed_many : (t : TableState) (count : ℕ) → IsTable t → count ≤ 2 → count + changed_blocks t ≤ 37
changed_many t count sound few = let most = changed_blocks-le-most t sound in omega arith
