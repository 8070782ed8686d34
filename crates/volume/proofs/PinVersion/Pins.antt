-- A version with another number of readers, or one that is removed: what is in memory stays whole.
use Rattle.std.proofs.Common.{◌≡◌, ◌↔◌, IsTrue, ℕ, zero, suc, ◌+◌, ◌≤◌, Bool, true, false, if◌then◌else◌, List, []}
use Rattle.std.proofs.Common.{◌∷◌, map, filter_map, length, slice_index, Option, Some, None, IfSome, IsSome}
use Rattle.std.proofs.Common.{slice_index_or, refl, sym, ap, subst, ◌∙◌, arith, ⊎_elim}
use Rattle.std.proofs.lemmas.Bool.{cases_eq}
use Rattle.std.specs.List.{AllByRecursion, cons_option}
use Rattle.std.specs.Option.{option_map}
use Rattle.spec_image.specs.Common.{cost_of_blocks, total, times, most_blocks}
use Rattle.spec_image.proofs.Common.{some_same, some_none}
use Rattle.alloctab.specs.Common.{TableState, holds}
use Rattle.volume.specs.Common.{CurrentDirectory, CurrentMap, blocks_reached, reaches_in_known, IsWholeVersion}
use Rattle.volume.specs.Common.{IsWholeMap}
use Rattle.volume.specs.Common.{MemoryMap, as_known, slot, pinned_reaches, pinned_cost, current_reaches, entry_reaches}
use Rattle.volume.specs.Common.{IsWholeMemory, memory_of, known_at, live_directory}
use Rattle.slab.specs.Slab.{Slab, Updates}
use Rattle.volume.specs.declared.live.LiveVersion.{LiveVersion}
use Rattle.volume.specs.declared.live.LiveDirectory.{LiveDirectory}
use Rattle.volume.specs.declared.live.LiveMap.{LiveMap}
use Rattle.volume.proofs.common.Apart.{apart_stays, current_stays}
use Rattle.volume.proofs.common.MapCosts.{few_blocks}
use Rattle.volume.proofs.common.VersionKeys.{StayCurrent, directories_keyed_on, directories_known_on, all_slots}
use Rattle.volume.proofs.common.LiveTotals.{total_updated}

-- One slot is another.

-- what holds of all slots holds of each, and of the nothing past their end
pub each_slot : {X : Type 0} (P : Option X → Type 0) → P None → (slots : List (Option X)) → AllByRecursion P slots
    → (k : ℕ) → P (slice_index_or slots k None)
each_slot P none [] all k = none
each_slot P none (o ∷ slots) all zero = all.0
each_slot P none (o ∷ slots) all (suc k) = each_slot P none slots all.1 k

-- what is in a slot counts in a sum
pub total_at : {X : Type 0} (f : Option X → ℕ) → f None ≡ 0 → (slots : List (Option X)) (k : ℕ)
    → f (slice_index_or slots k None) ≤ total f slots
total_at f none [] k = omega arith
total_at f none (o ∷ slots) zero = omega arith
total_at f none (o ∷ slots) (suc k) = let rest = total_at f none slots k in omega arith

module _ {X : Type 0} (P : Option X → Type 0) (old new : List (Option X)) (key : ℕ) (others : (k : ℕ)
    → (k ≡ key → ⊥) → slice_index_or new k None ≡ slice_index_or old k None) where
  pub all_updated : P None → AllByRecursion P old → P (slice_index_or new key None) → AllByRecursion P new
  all_updated none all here = all_slots P new (λ k. ⊎_elim
      (λ (same : k ≡ key). subst (λ n. P (slice_index_or new n None)) (sym same) here)
      (λ other. subst P (sym (others k other)) (each_slot P none old all k)) (cases_eq k key))

-- The same version except for its readers.
module _ (old new : List (Option LiveVersion)) (key : ℕ) (v : LiveVersion) (readers : ℕ) (was : slot old key
    ≡ Some v) (now : slot new key ≡ Some (record v { readers = readers }))
    (others : (k : ℕ) → (k ≡ key → ⊥) → slot new k ≡ slot old k) where
  same_known : (k : ℕ) → known_at new k ≡ known_at old k
  same_known k = ⊎_elim
      (λ (same : k ≡ key). ap (known_at new) same ∙ ap (option_map as_known) now ∙ sym (ap (option_map as_known) was)
      ∙ sym (ap (known_at old) same))
      (λ other. ap (option_map as_known) (others k other)) (cases_eq k key)

  same_keys : (keys : List ℕ) → filter_map (known_at new) keys ≡ filter_map (known_at old) keys
  same_keys [] = refl
  same_keys (k ∷ keys) = λ i. cons_option (same_known k i) (same_keys keys i)

  pub same_directories : (ds : List LiveDirectory) → map (live_directory new) ds ≡ map (live_directory old) ds
  same_directories [] = refl
  same_directories (d ∷ ds) = λ i. record (live_directory old d) { versions = same_keys d.keys.items i }
      ∷ same_directories ds i

  still_counted : StayCurrent old new
  still_counted k w there current = ⊎_elim
      (λ (same : k ≡ key).
      let both : Some v ≡ Some w = sym was ∙ sym (ap (slot old) same) ∙ there in
      let is : v ≡ w = cc in
      record {
        version = record v { readers = readers };
        there = ap (slot new) same ∙ now;
        known = ap as_known is;
        at = ap (λ u. u.at) is;
        current = ap (λ u. u.is_current) is ∙ current;
      })
      (λ other. record { version = w; there = others k other ∙ there; known = refl; at = refl; current = current })
      (cases_eq k key)

  same_total : (f : Option LiveVersion → ℕ) → f None ≡ 0 → f (Some (record v { readers = readers })) ≡ f (Some v)
      → total f new ≡ total f old
  same_total f none same =
      let all = total_updated f none old new key (Some (record v { readers = readers })) now others in
      let here = ap f was in
      omega arith

pub entries_within : (n : ℕ) (ds : List CurrentDirectory) → entry_reaches n ds ≤ total (reaches_in_known n) ds
entries_within n [] = omega arith
entries_within n (d ∷ ds) = let rest = entries_within n ds in omega arith

-- a version that is current occurs in a directory
pub current_stands : (size : ℕ) (c : MemoryMap) → IsWholeMemory size c → (key : ℕ) (v : LiveVersion)
    → slot c.live key ≡ Some v → v.is_current ≡ true → (n : ℕ) → times n (blocks_reached v.at v.version)
    ≤ total (reaches_in_known n) c.known.directories
current_stands size c whole key v is current n =
    let part = total_at (current_reaches n) refl c.live key in
    let here = ap (current_reaches n) is
    ∙ ap (λ (b : Bool). if b then times n (blocks_reached v.at v.version) else 0) current in
    let all = whole.current n in
    let most = entries_within n c.known.directories in
    omega arith

-- with another number of readers
pub counted_whole : (size : ℕ) (c : MemoryMap) (new : List (Option LiveVersion)) (key : ℕ) (v : LiveVersion)
    (readers : ℕ) → IsWholeMemory size c → slot c.live key ≡ Some v
    → slot new key ≡ Some (record v { readers = readers })
    → ((k : ℕ) → (k ≡ key → ⊥) → slot new k ≡ slot c.live k) → IsWholeMemory size (record c { live = new })
counted_whole size c new key v readers whole was now others = record {
  map = whole.map;
  keyed = directories_keyed_on c.live new (still_counted c.live new key v readers was now others) c.known.directories
      c.keys whole.keyed;
  standing = all_updated (λ o. IfSome o (λ v. IsWholeVersion (as_known v))) c.live new key others tt whole.standing
      (subst (λ o. IfSome o (λ v. IsWholeVersion (as_known v))) (sym now)
      (subst (λ o. IfSome o (λ v. IsWholeVersion (as_known v))) was
      (each_slot (λ o. IfSome o (λ v. IsWholeVersion (as_known v))) tt c.live whole.standing key)));
  waiting = whole.waiting;
  current = λ n. same_total c.live new key v readers was now others (current_reaches n) refl refl ∙ whole.current n;
  housed = whole.housed;
  held = λ n. let before = whole.held n in
      let same = same_total c.live new key v readers was now others (pinned_reaches n) refl refl in omega arith;
  own = λ k p at. apart_stays c (record c { live = new }) p (whole.own k p at) (record {
    bits = λ n there set. set;
    file = current_stays c (record c { live = new }) p.prime.ppn p.prime.file
        (still_counted c.live new key v readers was now others) (λ n is. is);
    fewer = λ j q is. is;
  });
  inside = whole.inside;
  apart = whole.apart;
  primes = λ k w there current. ⊎_elim
      (λ (same : k ≡ key).
      let is : record v { readers = readers } ≡ w = some_same (sym now ∙ sym (ap (slot new) same) ∙ there) in
      subst (λ (x : LiveVersion). holds c.known.table x.at ≡ 0) is
      (whole.primes key v was (ap (λ (x : LiveVersion). x.is_current) is ∙ current)))
      (λ other. whole.primes k w (sym (others k other) ∙ there) current) (cases_eq k key);
  fits = whole.fits;
  beyond = λ some. let same = same_total c.live new key v readers was now others pinned_cost refl refl in
      whole.beyond (omega arith);
  within = whole.within;
  booked = let before = whole.booked in
      let same = same_total c.live new key v readers was now others pinned_cost refl refl in omega arith;
}

-- what holds in memory still does with other readers
pub readers_whole : (size : ℕ) (m : LiveMap) (versions : Slab LiveVersion) (key : ℕ) (readers : ℕ
    → ℕ) (o : Option LiveVersion) → slot m.versions.slots key ≡ o → IsSome o
    → IfSome o (λ v. slot versions.slots key ≡ Some (record v { readers = readers v.readers }))
    → ((k : ℕ) → (k ≡ key → ⊥) → slot versions.slots k ≡ slot m.versions.slots k)
    → IsWholeMemory size (memory_of m) → IsWholeMemory size (memory_of (record m { versions = versions }))
readers_whole size m versions key readers None was there counted others whole = absurd (cc)
readers_whole size m versions key readers (Some v) was there counted others whole =
    let c = memory_of m in
    let same = same_directories m.versions.slots versions.slots key v
    (readers v.readers) was counted others m.directories.items in
    subst (IsWholeMemory size) (λ i. record {
      known = record c.known { directories = sym same i };
      keys = c.keys;
      live = versions.slots;
      pending = c.pending;
    })
    (counted_whole size c versions.slots key v (readers v.readers) whole was counted others)

-- A version that is removed.

gone_stay : (old new : List (Option LiveVersion)) (key : ℕ) (v : LiveVersion) → slot old key ≡ Some v
    → v.is_current ≡ false → ((k : ℕ) → (k ≡ key → ⊥) → slot new k ≡ slot old k) → StayCurrent old new
gone_stay old new key v was ended others k w there current = ⊎_elim
    (λ (same : k ≡ key).
    let both : Some v ≡ Some w = sym was ∙ sym (ap (slot old) same) ∙ there in
    let is : v ≡ w = cc in
    let no : true ≡ false = sym current ∙ sym (ap (λ u. u.is_current) is) ∙ ended in
    absurd (cc))
    (λ other. record { version = w; there = others k other ∙ there; known = refl; at = refl; current = current })
    (cases_eq k key)

pub gone_directories : (size : ℕ) (m : LiveMap) (new : List (Option LiveVersion)) (key : ℕ) (v : LiveVersion)
    → IsWholeMemory size (memory_of m) → slot m.versions.slots key ≡ Some v → v.is_current ≡ false
    → ((k : ℕ) → (k ≡ key → ⊥) → slot new k ≡ slot m.versions.slots k)
    → map (live_directory new) m.directories.items ≡ map (live_directory m.versions.slots) m.directories.items
gone_directories size m new key v whole was ended others =
    directories_known_on m.versions.slots new (gone_stay m.versions.slots new key v was ended others)
    (memory_of m).known.directories m.directories.items whole.keyed

-- the map with other counts in its table
pub counts_whole : (size : ℕ) (k : CurrentMap) (held : List ℕ) (booked : ℕ) → IsWholeMap size k
    → IsWholeMap size (record k { table = record k.table { held = held; booked = booked } })
counts_whole size k held booked whole = record {
  volume = whole.volume;
  size_is = whole.size_is;
  chain = whole.chain;
  inside = whole.inside;
  aligned = whole.aligned;
  each = whole.each;
  bits = whole.bits;
  unchanged = whole.unchanged;
}

-- without a version, whose blocks are no longer held
pub gone_whole : (size : ℕ) (c : MemoryMap) (new : List (Option LiveVersion)) (key : ℕ) (v : LiveVersion)
    (held : List ℕ) (booked : ℕ) → IsWholeMemory size c → slot c.live key ≡ Some v → v.is_current ≡ false
    → slot new key ≡ None
    → ((k : ℕ) → (k ≡ key → ⊥) → slot new k ≡ slot c.live k)
    → ((n : ℕ) → slice_index held n + times n (blocks_reached v.at v.version) ≡ holds c.known.table n)
    → booked + cost_of_blocks (length v.version.blocks) ≡ c.known.table.booked
    → IsWholeMemory size
    (record c { known = record c.known { table = record c.known.table { held = held; booked = booked } }; live = new })
gone_whole size c new key v held booked whole was ended now others less fewer = record {
  map = counts_whole size c.known held booked whole.map;
  keyed = directories_keyed_on c.live new (gone_stay c.live new key v was ended others) c.known.directories
      c.keys whole.keyed;
  standing = all_updated (λ o. IfSome o (λ v. IsWholeVersion (as_known v))) c.live new key others tt whole.standing
      (subst (λ o. IfSome o (λ v. IsWholeVersion (as_known v))) (sym now) tt);
  waiting = whole.waiting;
  current = λ n.
      let all = total_updated (current_reaches n) refl c.live new key None now others in
      let here = ap (current_reaches n) was
      ∙ ap (λ (b : Bool). if b then times n (blocks_reached v.at v.version) else 0) ended in
      let old = whole.current n in
      omega arith;
  housed = whole.housed;
  held = λ n.
      let all = total_updated (pinned_reaches n) refl c.live new key None now others in
      let here = ap (pinned_reaches n) was ∙ ap (λ b. if b then 0 else times n (blocks_reached v.at v.version)) ended in
      let old = whole.held n in
      omega (arith, less n);
  own = λ k p at. apart_stays c (record c {
    known = record c.known { table = record c.known.table { held = held; booked = booked } };
    live = new;
  }) p (whole.own k p at) (record {
    bits = λ n there set. set;
    file = current_stays c (record c {
      known = record c.known { table = record c.known.table { held = held; booked = booked } };
      live = new;
    }) p.prime.ppn p.prime.file
        (gone_stay c.live new key v was ended others) (λ n is. is);
    fewer = λ j q is. is;
  });
  inside = λ n there. whole.inside n (omega (arith, less n));
  apart = λ n there. whole.apart n (omega (arith, less n));
  primes = λ k w there current. ⊎_elim
      (λ (same : k ≡ key). absurd (some_none (sym there ∙ ap (slot new) same ∙ now)))
      (λ other. let none = whole.primes k w (sym (others k other) ∙ there) current in
      omega (arith, less w.at)) (cases_eq k key);
  fits = let fits = whole.fits in omega arith;
  beyond = λ some.
      let all = total_updated pinned_cost refl c.live new key None now others in
      let most = whole.beyond (omega arith) in
      omega arith;
  within = λ some. let most = whole.within some in omega arith;
  booked =
      let all = total_updated pinned_cost refl c.live new key None now others in
      let here = ap pinned_cost was ∙ ap (λ b. if b then 0 else cost_of_blocks (length v.version.blocks)) ended in
      let old = whole.booked in
      omega arith;
}

-- a version that no file has any more: its blocks are held, and what it costs is booked
module _ (size : ℕ) (c : MemoryMap) (whole : IsWholeMemory size c) (key : ℕ) (v : LiveVersion) (was : slot c.live key
    ≡ Some v) (ended : v.is_current ≡ false) where
  pub ended_held : (n : ℕ) → times n (blocks_reached v.at v.version) ≤ holds c.known.table n
  ended_held n =
      let part = total_at (pinned_reaches n) refl c.live key in
      let here = ap (pinned_reaches n) was ∙ ap (λ b. if b then 0 else times n (blocks_reached v.at v.version)) ended in
      let all = whole.held n in
      omega arith

  pub ended_booked : cost_of_blocks (length v.version.blocks) ≤ c.known.table.booked
  ended_booked =
      let part = total_at pinned_cost refl c.live key in
      let here = ap pinned_cost was ∙ ap (λ b. if b then 0 else cost_of_blocks (length v.version.blocks)) ended in
      let all = whole.booked in
      omega arith

  pub ended_few : length v.version.blocks ≤ most_blocks
  ended_few = few_blocks (as_known v) (subst (λ o. IfSome o (λ v. IsWholeVersion (as_known v))) was
      (each_slot (λ o. IfSome o (λ v. IsWholeVersion (as_known v))) tt c.live whole.standing key))

-- the answer says that it is no longer current
pub has_ended : (o : Option LiveVersion) (v : LiveVersion) (b : Bool) → o ≡ Some v
    → IfSome o (λ v. IsTrue b ↔ ((v.is_current ≡ false) × (v.readers ≡ 1))) → b ≡ true → v.is_current ≡ false
has_ended o v b is says goes = let both : IsTrue b
    ↔ ((v.is_current ≡ false) × (v.readers ≡ 1)) = subst (λ o. IfSome o (λ v. IsTrue b
    ↔ ((v.is_current ≡ false) × (v.readers ≡ 1)))) is says in (both.0 goes).0

pub gone_memory : (size : ℕ) (m : LiveMap) (versions : Slab LiveVersion) (t : TableState) (key : ℕ) (v : LiveVersion)
    → slot m.versions.slots key ≡ Some v → v.is_current ≡ false → Updates m.versions versions key None
    → t ≡ record m.table { held = t.held; booked = t.booked }
    → ((n : ℕ) → holds t n + times n (blocks_reached v.at v.version) ≡ holds m.table n)
    → t.booked + cost_of_blocks (length v.version.blocks) ≡ m.table.booked
    → IsWholeMemory size (memory_of m) → IsWholeMemory size (memory_of (record m { versions = versions; table = t }))
gone_memory size m versions t key v was ended updates rest less fewer whole =
    let c = memory_of m in
    let same = gone_directories size m versions.slots key v whole was ended updates.others in
    subst (IsWholeMemory size)
    (λ i. record {
      known = record { master = c.known.master; directories = sym same i; table = sym rest i };
      keys = c.keys;
      live = versions.slots;
      pending = c.pending;
    })
    (gone_whole size c versions.slots key v t.held t.booked whole was ended updates.changed updates.others less fewer)
