-- What a publication makes of the places, and of the pinned versions.
use Rattle.std.proofs.Common.{◌≡◌, ◌⊎◌, inl, inr, ℕ, ◌<◌, ◌==◌, true, false, if◌then◌else◌, List, slice_set, Some}
use Rattle.std.proofs.Common.{None, option_map, refl, sym, ap, ◌∙◌, arith, ⊎_elim}
use Rattle.std.proofs.lemmas.Bool.{cases_eq}
use Rattle.std.proofs.lemmas.Bool.Decides.{nat_tests}
use Rattle.std.specs.FinMap.Entries.{find}
use Rattle.words36.specs.declared.names.FileName.{FileName}
use Rattle.spec_image.specs.declared.put.Put.{Put}
use Rattle.spec_image.specs.Common.{name_cmp, get, insert, from_entries}
use Rattle.spec_image.proofs.Common.{some_same, some_none, same_or_other, get-insert_same, get-insert_other}
use Rattle.spec_image.proofs.Common.{get-from_entries, name_total, name_exact}
use Rattle.volume.specs.Common.{CurrentMap, CurrentVersion, CurrentDirectory, prime_in, Before, IsNamed, MemoryMap}
use Rattle.volume.specs.Common.{slot}
use Rattle.volume.specs.Common.{IsWholeMemory, prime_at, IsPublished, Entered, before, live_left, IsEnded, HasOtherKey}
use Rattle.volume.specs.Common.{IsPublishedMemory}
use Rattle.volume.specs.declared.live.LiveVersion.{LiveVersion}
use Rattle.volume.specs.declared.pending.PendingVersion.{PendingVersion}
use Rattle.volume.proofs.common.OnePlace.{one_key, one_place}
use Rattle.volume.proofs.common.PrimeBlocks.{prime_of_place, primes_table, prime_elsewhere, prime_set}

-- The map.

-- the prime block that a name had
was_named : (d : CurrentDirectory) (name : FileName) (old : Before) → IsNamed d name old
    → find name_cmp name d.chain.entries ≡ option_map (λ o. o.0) old
was_named d name None is = is
was_named d name (Some o) is = is.1.found

module _ (size : ℕ) (k k' : CurrentMap) (ppn : ℕ) (name : FileName) (at : ℕ) (v : CurrentVersion) (old : Before)
    (puts : List Put) (published : IsPublished size k k' ppn name at v old puts) where
  abbrev d : CurrentDirectory
  d = published.directory

  -- if the directories are those from before except one
  goes : (q : ℕ) (n : FileName) → prime_in k'.master.entries k'.directories q n
      ≡ prime_in k.master.entries (slice_set k.directories published.place published.directory') q n
  goes q n = λ i. prime_in (published.master i).entries (published.directories i) q n

  -- the directory has the names that it had, and this one
  in_directory : (n : FileName) → prime_in k'.master.entries k'.directories ppn n
      ≡ get (insert (from_entries {R = name_cmp} d.chain.entries) name at) n
  in_directory n =
      goes ppn n ∙ prime_set k.master.entries k.directories published.place ppn n published.word d published.directory'
      published.there published.directory_at
      ∙ sym (get-from_entries name_total published.directory'.chain.entries n) ∙ ap (λ m. get m n) published.entry.names

  pub published_here : prime_in k'.master.entries k'.directories ppn name ≡ Some at
  published_here = in_directory name ∙ get-insert_same name_total (from_entries d.chain.entries) name at

  pub published_before : prime_in k.master.entries k.directories ppn name ≡ option_map (λ o. o.0) old
  published_before = prime_of_place k.master.entries k.directories published.place ppn name published.word
      d published.there published.directory_at ∙ was_named d name old published.entry.was

  other_name : (n : FileName) → (n ≡ name → ⊥) → prime_in k'.master.entries k'.directories ppn n
      ≡ prime_in k.master.entries k.directories ppn n
  other_name n differ =
      in_directory n ∙ get-insert_other name_total name_exact (from_entries d.chain.entries) name at n differ
      ∙ get-from_entries name_total d.chain.entries n
      ∙ sym (prime_of_place k.master.entries k.directories published.place ppn n published.word d published.there
      published.directory_at)

  pub published_elsewhere : (q : ℕ) (n : FileName) → ((q ≡ ppn) × (n ≡ name) → ⊥)
      → prime_in k'.master.entries k'.directories q n ≡ prime_in k.master.entries k.directories q n
  published_elsewhere q n differ = ⊎_elim
      (λ (same : q ≡ ppn).
      ap (λ x. prime_in k'.master.entries k'.directories x n) same ∙ other_name n (λ is. differ (same, is))
      ∙ ap (λ x. prime_in k.master.entries k.directories x n) (sym same))
      (λ other. goes q n ∙ prime_elsewhere k.master.entries k.directories published.place ppn q n published.word
      published.directory' published.there.is other) (cases_eq q ppn)

-- Memory.

-- The place has this prime block, in place of that of the version before, and every other place has what it had.
pub record PrimesGoOn (c c' : MemoryMap) (ppn : ℕ) (name : FileName) (at : ℕ) (old : Entered) : Type 0 where
  pub others : (q : ℕ) (n : FileName) → ((q ≡ ppn) × (n ≡ name) → ⊥) → prime_at c' q n ≡ prime_at c q n
  pub here : prime_at c' ppn name ≡ Some at
  pub before : prime_at c ppn name ≡ option_map (λ o. o.1.at) old

entered_before : (old : Entered) → option_map (λ o. o.0) (before old) ≡ option_map (λ o. o.1.at) old
entered_before None = refl
entered_before (Some o) = refl

pub primes_published : (size : ℕ) (c c' : MemoryMap) (key : ℕ) (p : PendingVersion) (words : ℕ)
    → (is : IsPublishedMemory size c c' key p words) → PrimesGoOn c c' p.prime.ppn p.prime.file is.at
    is.makes_current.old
primes_published size c c' key p words is = record {
  others = λ q n differ. published_elsewhere size is.put.known c'.known p.prime.ppn p.prime.file is.at _
      (before is.makes_current.old) is.puts is.makes_current.published q n differ
      ∙ primes_table c is.put is.put.known.table is.known q n;
  here = published_here size is.put.known c'.known p.prime.ppn p.prime.file is.at _
      (before is.makes_current.old) is.puts is.makes_current.published;
  before =
      sym (primes_table c is.put is.put.known.table is.known p.prime.ppn p.prime.file)
      ∙ published_before size is.put.known c'.known p.prime.ppn p.prime.file is.at _
      (before is.makes_current.old) is.puts is.makes_current.published ∙ entered_before is.makes_current.old;
}

-- The place has a file then.
pub published_named : (size : ℕ) (c c' : MemoryMap) (key : ℕ) (p : PendingVersion) (words : ℕ)
    → IsPublishedMemory size c c' key p words → prime_at c' p.prime.ppn p.prime.file ≡ None → ⊥
published_named size c c' key p words is none =
    some_none (sym (primes_published size c c' key p words is).here ∙ none)

-- The pinned versions.

pub same_place : (q ppn : ℕ) (n name : FileName) → ((q ≡ ppn) × (n ≡ name)) ⊎ ((q ≡ ppn) × (n ≡ name) → ⊥)
same_place q ppn n name = ⊎_elim
    (λ (same : q ≡ ppn). ⊎_elim (λ (is : n ≡ name). inl (same, is)) (λ other. inr (λ both. other both.1))
    (same_or_other name_total name_exact n name))
    (λ other. inr (λ both. other both.0)) (cases_eq q ppn)

pub not_zero : {A : Type 0} (n : ℕ) (x y : A) → 0 < n → (if n == 0 then x else y) ≡ y
not_zero n x y some = grind (arith, nat_tests)

module _ (size : ℕ) (c c' : MemoryMap) (key : ℕ) (p : PendingVersion) (words : ℕ) (whole : IsWholeMemory size c)
    (is : IsPublishedMemory size c c' key p words) (k : ℕ) (v : LiveVersion) (there : slot c.live k ≡ Some v) where
  not_new : k ≡ is.makes_current.new_key → ⊥
  not_new same = some_none (sym there ∙ ap (λ l. slot l k) (sym is.live) ∙ ap (slot is.put.live) same
      ∙ is.makes_current.vacant)

  was_live : (o : ℕ × LiveVersion) → slot is.put.live o.0 ≡ Some o.1 → slot c.live o.0 ≡ Some o.1
  was_live o at = ap (λ l. slot l o.0) (sym is.live) ∙ at

  -- that one is under the key of the one before
  is_before : (o : ℕ × LiveVersion) → slot is.put.live o.0 ≡ Some o.1 → k ≡ o.0 → o.1 ≡ v
  is_before o at same = some_same (sym (was_live o at) ∙ ap (slot c.live) (sym same) ∙ there)

  stays : HasOtherKey is.makes_current.old k → slot c'.live k ≡ Some v
  stays other = is.makes_current.others k not_new other ∙ ap (λ l. slot l k) is.live ∙ there

  -- one that is no longer current stays
  pub ended_stays : v.is_current ≡ false → slot c'.live k ≡ Some v
  ended_stays ended = stays (by is.makes_current.old is.makes_current.ended)
    where
      by : (old : Entered) → IsEnded is.put.live c'.live old → HasOtherKey old k
      by None none = tt
      by (Some o) was = λ same. let no : true ≡ false = sym was.1
          ∙ ap (λ (u : LiveVersion). u.is_current) (is_before o was.0 same) ∙ ended in absurd (cc)

  module _ (current : v.is_current ≡ true) (q : ℕ) (name : FileName) (at : prime_at c q name ≡ Some v.at) where
    -- that of the place is superseded, and stays for its readers
    superseded : 0 < v.readers → (q ≡ p.prime.ppn) × (name ≡ p.prime.file)
        → slot c'.live k ≡ Some (record v { is_current = false })
    superseded held same = by is.makes_current.old is.makes_current.ended
        (primes_published size c c' key p words is).before
      where
        by : (old : Entered) → IsEnded is.put.live c'.live old → prime_at c p.prime.ppn p.prime.file
            ≡ option_map (λ o. o.1.at) old → slot c'.live k ≡ Some (record v { is_current = false })
        by None none was = absurd (some_none (sym at ∙ (λ i. prime_at c (same.0 i) (same.1 i)) ∙ was))
        by (Some o) ended was =
            let prime : v.at ≡ o.1.at = some_same (sym at ∙ (λ i. prime_at c (same.0 i) (same.1 i)) ∙ was) in
            let key_is : k ≡ o.0 = one_key size c whole k o.0 v o.1 there (was_live o ended.0) current ended.1 prime in
            ap (slot c'.live) key_is ∙ ended.2
            ∙ ap (λ (u : LiveVersion). live_left (Some (o.0, u))) (is_before o ended.0 key_is)
            ∙ not_zero v.readers None (Some (record v { is_current = false })) held

    -- that of another place stays, and so does its place
    elsewhere : ((q ≡ p.prime.ppn) × (name ≡ p.prime.file) → ⊥) → (slot c'.live k ≡ Some v)
        × (prime_at c' q name ≡ Some v.at)
    elsewhere differ = (
      stays (by is.makes_current.old is.makes_current.ended (primes_published size c c' key p words is).before),
      (primes_published size c c' key p words is).others q name differ ∙ at,
    )
      where
        by : (old : Entered) → IsEnded is.put.live c'.live old → prime_at c p.prime.ppn p.prime.file
            ≡ option_map (λ o. o.1.at) old → HasOtherKey old k
        by None none was = tt
        by (Some o) ended was =
            λ same.
            let prime : o.1.at ≡ v.at = ap (λ (u : LiveVersion). u.at) (is_before o ended.0 same) in
            differ (one_place size c whole q p.prime.ppn name p.prime.file v.at at (was ∙ ap Some prime))

    pub current_goes_on : 0 < v.readers
        → ((q ≡ p.prime.ppn) × (name ≡ p.prime.file) × (slot c'.live k ≡ Some (record v { is_current = false })))
        ⊎ (((q ≡ p.prime.ppn) × (name ≡ p.prime.file) → ⊥) × (slot c'.live k ≡ Some v)
        × (prime_at c' q name ≡ Some v.at))
    current_goes_on held = ⊎_elim
        (λ (same : (q ≡ p.prime.ppn) × (name ≡ p.prime.file)). inl (same.0, same.1, superseded held same))
        (λ other. let on = elsewhere other in inr (other, on.0, on.1)) (same_place q p.prime.ppn name p.prime.file)
