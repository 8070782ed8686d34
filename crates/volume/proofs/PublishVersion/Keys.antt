-- The keys of the directories' versions: each occurs once, and if one directory changes, the others keep theirs.
use Rattle.std.proofs.Common.{◌≡◌, ℕ, zero, suc, ◌<◌, ◌≤◌, ⊎_elim, List, [], ◌∷◌, ◌++◌, map, filter_map, length}
use Rattle.std.proofs.Common.{slice_get, slice_set, true, Option, Some, None, IfSome, option_map, refl, sym, ap}
use Rattle.std.proofs.Common.{subst, ◌∙◌, arith}
use Rattle.std.proofs.lemmas.Bool.{cases_eq}
use Rattle.std.specs.List.{AllByRecursion, AllZip, cons_option}
use Rattle.spec_image.specs.Common.{SpecFileEntry, times, total}
use Rattle.spec_image.proofs.Common.{some_same, some_none}
use Rattle.changeset.specs.Common.{times_head, times_tail}
use Rattle.volume.specs.Common.{file_view, CurrentVersion, CurrentDirectory, IsWholeDirectory, reaches_in_entries}
use Rattle.volume.specs.Common.{reaches_in_known, MemoryMap, as_known, slot, IsCurrent, IsKeyed, IsWholeMemory}
use Rattle.volume.specs.Common.{known_at, live_directory, memory_of, Entered, HasOtherKey}
use Rattle.volume.specs.declared.live.LiveVersion.{LiveVersion}
use Rattle.volume.specs.declared.live.LiveDirectory.{LiveDirectory}
use Rattle.volume.specs.declared.live.LiveMap.{LiveMap}
use Rattle.volume.proofs.VolumeStart.FoundDirectories.{zip_at, mapped_at}
use Rattle.volume.proofs.common.VersionKeys.{Stay, all_stay, keyed_on, known_on, filter_map_push}
use Rattle.volume.proofs.common.LiveLookups.{AreCurrent, knowns_first}
use Rattle.volume.proofs.common.Lookups.{zip_behind}
use Rattle.volume.proofs.common.TableBits.{bit_few}
use Rattle.directory.proofs.Orders.{times_at}

-- Numbers that occur once.

one_index : (ns : List ℕ) (i j n : ℕ) → times n ns ≤ 1 → slice_get ns i ≡ Some n → slice_get ns j ≡ Some n → i ≡ j
one_index [] i j n few is is' = absurd (some_none (sym is))
one_index (x ∷ ns) zero zero n few is is' = refl
one_index (x ∷ ns) zero (suc j) n few is is' = absurd (let head = times_head n x ns (sym (some_same is)) in
    let rest = times_at ns j n is' in omega arith)
one_index (x ∷ ns) (suc i) zero n few is is' = absurd (let head = times_head n x ns (sym (some_same is')) in
    let rest = times_at ns i n is in omega arith)
one_index (x ∷ ns) (suc i) (suc j) n few is is' = ap suc (one_index ns i j n (omega arith) is is')

some_in_lists : (lists : List (List ℕ)) (place i n : ℕ) (ns : List ℕ) → slice_get lists place ≡ Some ns
    → slice_get ns i ≡ Some n → 0 < total (times n) lists
some_in_lists [] place i n ns here is = absurd (some_none (sym here))
some_in_lists (l ∷ lists) zero i n ns here is = let some = times_at ns i n is in
    let same = ap (times n) (some_same here) in omega arith
some_in_lists (l ∷ lists) (suc place) i n ns here is = let rest = some_in_lists lists place i n ns here is in
    omega arith

one_place : (lists : List (List ℕ)) (place i other j n : ℕ) (ns ms : List ℕ) → total (times n) lists ≤ 1
    → slice_get lists place ≡ Some ns → slice_get ns i ≡ Some n → slice_get lists other ≡ Some ms
    → slice_get ms j ≡ Some n
    → (place ≡ other) × (i ≡ j)
one_place [] place i other j n ns ms few here is there is' = absurd (some_none (sym here))
one_place (l ∷ lists) zero i zero j n ns ms few here is there is' = (
  refl,
  one_index l i j n (omega arith) (ap (λ (x : List ℕ). slice_get x i) (some_same here)
      ∙ is) (ap (λ (x : List ℕ). slice_get x j) (some_same there) ∙ is'),
)
one_place (l ∷ lists) zero i (suc other) j n ns ms few here is there is' =
    absurd (let some = times_at ns i n is in let same = ap (times n) (some_same here) in
    let rest = some_in_lists lists other j n ms there is' in omega arith)
one_place (l ∷ lists) (suc place) i zero j n ns ms few here is there is' =
    absurd (let some = times_at ms j n is' in let same = ap (times n) (some_same there) in
    let rest = some_in_lists lists place i n ns here is in omega arith)
one_place (l ∷ lists) (suc place) i (suc other) j n ns ms few here is there is' =
    let rest = one_place lists place i other j n ns ms (omega arith) here is there is' in (ap suc rest.0, rest.1)

-- A key occurs no more often than its version's prime block is reached.

module _ (live : List (Option LiveVersion)) (key : ℕ) (v : LiveVersion) (there : slot live key ≡ Some v) where
  keys_reach : (es : List SpecFileEntry) (keys : List ℕ) (vs : List CurrentVersion) → AreCurrent live es keys
      → length vs ≡ length es → times key keys ≤ reaches_in_entries v.at es vs
  keys_reach [] [] vs zip same = omega arith
  keys_reach [] (k ∷ keys) vs zip same = absurd zip
  keys_reach (e ∷ es) [] vs zip same = absurd zip
  keys_reach (e ∷ es) (k ∷ keys) [] zip same = absurd (omega arith)
  keys_reach (e ∷ es) (k ∷ keys) (w ∷ vs) zip same =
      let rest = keys_reach es keys vs zip.1 (omega arith) in
      ⊎_elim
      (λ (this : key ≡ k).
      let is : v ≡ zip.0.version = some_same (sym there ∙ ap (slot live) this ∙ zip.0.there) in
      let at : v.at ≡ e.1 = ap (λ (x : LiveVersion). x.at) is ∙ zip.0.at in
      let here = times_head key k keys this in
      let prime = times_head v.at e.1 (w.version.ribs ++ w.version.blocks) at in
      omega arith)
      (λ other. let here = times_tail key k keys other in omega arith) (cases_eq key k)

  directories_reach : (size : ℕ) (ds : List CurrentDirectory) (keys : List (List ℕ)) → AllZip (IsKeyed live) ds keys
      → AllByRecursion (IsWholeDirectory size) ds → total (times key) keys ≤ total (reaches_in_known v.at) ds
  directories_reach size [] [] zip all = omega arith
  directories_reach size [] (ks ∷ keys) zip all = absurd zip
  directories_reach size (d ∷ ds) [] zip all = absurd zip
  directories_reach size (d ∷ ds) (ks ∷ keys) zip all =
      let here = keys_reach d.chain.entries ks d.versions zip.0 all.0.aligned in
      let rest = directories_reach size ds keys zip.1 all.1 in
      omega arith

-- each key occurs once in the directories
pub keys_apart : (size : ℕ) (c : MemoryMap) → IsWholeMemory size c → (place i other j : ℕ) (ks ls : List ℕ) (key : ℕ)
    → slice_get c.keys place ≡ Some ks → slice_get ks i ≡ Some key → slice_get c.keys other ≡ Some ls
    → slice_get ls j ≡ Some key
    → (place ≡ other) × (i ≡ j)
keys_apart size c whole place i other j ks ls key here is there is' =
    let directory = zip_at (IsKeyed c.live) c.known.directories c.keys place ks whole.keyed here in
    let entry = zip_at (λ (e : SpecFileEntry) (k : ℕ). IsCurrent c.live k e.1) directory.0.chain.entries ks
    i key directory.2 is in
    let v = entry.2.version in
    let reached = directories_reach c.live key v entry.2.there size c.known.directories c.keys whole.keyed
    whole.map.each in
    let bits = whole.map.bits v.at in
    let few = bit_few c.known.table v.at in
    one_place c.keys place i other j key ks ls (omega arith) here is there is'

-- Lists in which one element is another.

module _ {A B : Type 0} (f g : A → B) where
  pub mapped_alike : (xs : List A) → ((j : ℕ) (y : A) → slice_get xs j ≡ Some y → f y ≡ g y) → map f xs ≡ map g xs
  mapped_alike [] same = refl
  mapped_alike (x ∷ xs) same = λ i. same 0 x refl i ∷ mapped_alike xs (λ j y is. same (suc j) y is) i

  pub mapped_set : (xs : List A) (place : ℕ) (x : A) → ((j : ℕ) (y : A) → slice_get xs j ≡ Some y → (j ≡ place → ⊥)
      → f y ≡ g y) → map f (slice_set xs place x) ≡ slice_set (map g xs) place (f x)
  mapped_set [] place x same = refl
  mapped_set (y ∷ xs) zero x same = ap (λ ys. f x ∷ ys)
      (mapped_alike xs (λ j z is. same (suc j) z is (λ e. omega arith)))
  mapped_set (y ∷ xs) (suc place) x same =
      let here = same 0 y refl (λ e. omega arith) in
      let rest = mapped_set xs place x (λ j z is other. same (suc j) z is (λ e. other (omega arith))) in
      λ i. here i ∷ rest i

module _ {A B C : Type 0} (P : B → C → Type 0) (f : A → B) (h : A → C) where
  -- the pair that one element makes
  pub pair_at : (xs : List A) (j : ℕ) (x : A) → AllZip P (map f xs) (map h xs) → slice_get xs j ≡ Some x → P (f x) (h x)
  pair_at [] j x zip is = absurd (some_none (sym is))
  pair_at (y ∷ xs) zero x zip is = subst (λ z. P (f z) (h z)) (some_same is) zip.0
  pair_at (y ∷ xs) (suc j) x zip is = pair_at xs j x zip.1 is

  pub pairs_of : (xs : List A) → ((j : ℕ) (x : A) → slice_get xs j ≡ Some x → P (f x) (h x))
      → AllZip P (map f xs) (map h xs)
  pairs_of [] each = tt
  pairs_of (x ∷ xs) each = (each 0 x refl, pairs_of xs (λ j y is. each (suc j) y is))

  pairs_set : (xs : List A) (place : ℕ) (x : A) (b : B) → ((j : ℕ) (y : A) → slice_get xs j ≡ Some y → (j ≡ place → ⊥)
      → P (f y) (h y)) → P b (h x) → AllZip P (slice_set (map f xs) place b) (map h (slice_set xs place x))
  pairs_set [] place x b each is = tt
  pairs_set (y ∷ xs) zero x b each is = (is, pairs_of xs (λ j z at. each (suc j) z at (λ e. omega arith)))
  pairs_set (y ∷ xs) (suc place) x b each is = (
    each 0 y refl (λ e. omega arith),
    pairs_set xs place x b (λ j z at other. each (suc j) z at (λ e. other (omega arith))) is,
  )

-- One directory, under versions that are others.

-- the version under each of these keys is as it was
abbrev pub StayIn : List (Option LiveVersion) → List (Option LiveVersion) → List ℕ → Type 0
StayIn live live' keys = (j k : ℕ) (v : LiveVersion) → slice_get keys j ≡ Some k → slot live k ≡ Some v
    → slot live' k ≡ Some v

-- except the one at this place
abbrev StayBut : List (Option LiveVersion) → List (Option LiveVersion) → List ℕ → ℕ → Type 0
StayBut live live' keys i = (j k : ℕ) (v : LiveVersion) → slice_get keys j ≡ Some k → (j ≡ i → ⊥) → slot live k ≡ Some v
    → slot live' k ≡ Some v

module _ (live live' : List (Option LiveVersion)) where
  pub kept_keyed : (es : List SpecFileEntry) (keys : List ℕ) → AreCurrent live es keys → StayIn live live' keys
      → AreCurrent live' es keys
  kept_keyed [] [] zip stay = tt
  kept_keyed [] (k ∷ keys) zip stay = absurd zip
  kept_keyed (e ∷ es) [] zip stay = absurd zip
  kept_keyed (e ∷ es) (k ∷ keys) zip stay =
      let is = zip.0 in (
        record { version = is.version; there = stay 0 k is.version refl is.there; at = is.at; current = is.current },
        kept_keyed es keys zip.1 (λ j q v at was. stay (suc j) q v at was),
      )

  pub kept_known : (es : List SpecFileEntry) (keys : List ℕ) → AreCurrent live es keys → StayIn live live' keys
      → filter_map (known_at live') keys ≡ filter_map (known_at live) keys
  kept_known [] [] zip stay = refl
  kept_known [] (k ∷ keys) zip stay = absurd zip
  kept_known (e ∷ es) [] zip stay = absurd zip
  kept_known (e ∷ es) (k ∷ keys) zip stay =
      let now : known_at live' k ≡ known_at live k = ap (option_map as_known) (stay 0 k zip.0.version refl zip.0.there)
      ∙ sym (ap (option_map as_known) zip.0.there) in
      let rest = kept_known es keys zip.1 (λ j q v at was. stay (suc j) q v at was) in
      λ i. cons_option (now i) (rest i)

  module _ (key : ℕ) (v : LiveVersion) (there : slot live' key ≡ Some v) where
    known_now : (ks : List ℕ) → filter_map (known_at live') (key ∷ ks) ≡ as_known v ∷ filter_map (known_at live') ks
    known_now ks = ap (λ o. cons_option o (filter_map (known_at live') ks)) (ap (option_map as_known) there)

    set_known : (es : List SpecFileEntry) (keys : List ℕ) (i : ℕ) → AreCurrent live es keys → StayBut live live' keys i
        → filter_map (known_at live') (slice_set keys i key)
        ≡ slice_set (filter_map (known_at live) keys) i (as_known v)
    set_known [] [] i zip stay = refl
    set_known [] (k ∷ keys) i zip stay = absurd zip
    set_known (e ∷ es) [] i zip stay = absurd zip
    set_known (e ∷ es) (k ∷ keys) zero zip stay =
        known_now keys
        ∙ ap (λ vs. as_known v ∷ vs)
        (kept_known es keys zip.1 (λ j q w at was. stay (suc j) q w at (λ same. omega arith) was))
        ∙ sym (ap (λ (vs : List CurrentVersion). slice_set vs 0 (as_known v)) (knowns_first live k e.1 keys zip.0))
    set_known (e ∷ es) (k ∷ keys) (suc i) zip stay =
        let now : known_at live' k ≡ Some (as_known zip.0.version) = ap (option_map as_known)
        (stay 0 k zip.0.version refl (λ same. omega arith) zip.0.there) in
        let rest = set_known es keys i zip.1
        (λ j q w at other was. stay (suc j) q w at (λ same. other (omega arith)) was) in
        (λ j. cons_option (now j) (rest j))
        ∙ sym (ap (λ (vs : List CurrentVersion). slice_set vs (suc i) (as_known v))
        (knowns_first live k e.1 keys zip.0))

    set_keyed : (es : List SpecFileEntry) (keys : List ℕ) (i : ℕ) (e : SpecFileEntry) → v.at ≡ e.1 → v.is_current ≡ true
        → AreCurrent live es keys → StayBut live live' keys i
        → AreCurrent live' (slice_set es i e) (slice_set keys i key)
    set_keyed [] [] i e at current zip stay = tt
    set_keyed [] (k ∷ keys) i e at current zip stay = absurd zip
    set_keyed (x ∷ es) [] i e at current zip stay = absurd zip
    set_keyed (x ∷ es) (k ∷ keys) zero e at current zip stay = (
      record { version = v; there = there; at = at; current = current },
      kept_keyed es keys zip.1 (λ j q w at was. stay (suc j) q w at (λ same. omega arith) was),
    )
    set_keyed (x ∷ es) (k ∷ keys) (suc i) e at current zip stay =
        let is = zip.0 in (
          record {
            version = is.version;
            there = stay 0 k is.version refl (λ same. omega arith) is.there;
            at = is.at;
            current = is.current;
          },
          set_keyed es keys i e at current zip.1
              (λ j q w at other was. stay (suc j) q w at (λ same. other (omega arith)) was),
        )

-- a key in place of one that occurs nowhere else
module _ (live live' : List (Option LiveVersion)) (keys : List ℕ) (es : List SpecFileEntry) (i key : ℕ) (o : ℕ
    × LiveVersion) (v : LiveVersion) (zip : AllZip (λ e k. IsCurrent live k e.1) es keys) (only : (j : ℕ)
    → slice_get keys j ≡ Some o.0 → j ≡ i)
    (there : slot live' key ≡ Some v) (stay : (k : ℕ) (v : LiveVersion) → slot live k ≡ Some v → HasOtherKey (Some o) k
    → slot live' k ≡ Some v) where
  stay_but : StayBut live live' keys i
  stay_but j k w at other was = stay k w was (λ same. other (only j (at ∙ ap Some same)))

  pub replaced_known : filter_map (known_at live') (slice_set keys i key)
      ≡ slice_set (filter_map (known_at live) keys) i (as_known v)
  replaced_known = set_known live live' key v there es keys i zip stay_but

  pub replaced_keyed : (e : SpecFileEntry) → v.at ≡ e.1 → v.is_current ≡ true
      → AllZip (λ e k. IsCurrent live' k e.1) (slice_set es i e) (slice_set keys i key)
  replaced_keyed e at current = set_keyed live live' key v there es keys i e at current zip stay_but

-- a key more
module _ (live live' : List (Option LiveVersion)) (keys : List ℕ) (es : List SpecFileEntry) (key : ℕ) (v : LiveVersion)
    (zip : AllZip (λ e k. IsCurrent live k e.1) es keys) (there : slot live' key ≡ Some v)
    (stay : Stay live live') where
  pub added_known : filter_map (known_at live') (keys ++ key ∷ []) ≡ filter_map (known_at live) keys ++ as_known v ∷ []
  added_known =
      filter_map_push (known_at live') keys key (as_known v) (ap (option_map as_known) there)
      ∙ ap (λ vs. vs ++ as_known v ∷ []) (known_on live live' (all_stay live live' stay) es keys zip)

  pub added_keyed : (e : SpecFileEntry) → v.at ≡ e.1 → v.is_current ≡ true
      → AllZip (λ e k. IsCurrent live' k e.1) (es ++ e ∷ []) (keys ++ key ∷ [])
  added_keyed e at current =
      zip_behind (λ e k. IsCurrent live' k e.1) es keys e key
      (keyed_on live live' (all_stay live live' stay) es keys zip)
      (record { version = v; there = there; at = at; current = current })

-- All directories, of which one changes.

-- if the version before has a key of one directory, no other directory has this key
other_keys : (size : ℕ) (c : MemoryMap) → IsWholeMemory size c → (place other : ℕ) (ks ls : List ℕ) (old : Entered)
    → IfSome old (λ o. (i : ℕ) × (slice_get ks i ≡ Some o.0)) → slice_get c.keys place ≡ Some ks
    → slice_get c.keys other ≡ Some ls → (other ≡ place → ⊥)
    → (j k : ℕ) → slice_get ls j ≡ Some k → HasOtherKey old k
other_keys size c whole place other ks ls None from here there apart j k at = tt
other_keys size c whole place other ks ls (Some o) from here there apart j k at =
    λ same. apart (sym (keys_apart size c whole place from.0 other j ks ls o.0 here from.1 there (at ∙ ap Some same)).0)

module _ (size : ℕ) (m : LiveMap) (whole : IsWholeMemory size (memory_of m)) (live' : List (Option LiveVersion))
    (place : ℕ) (d₀ d : LiveDirectory) (at : slice_get m.directories.items place ≡ Some d₀) (old : Entered)
    (from : IfSome old (λ o. (i : ℕ) × (slice_get d₀.keys.items i ≡ Some o.0)))
    (stay : (k : ℕ) (v : LiveVersion) → slot m.versions.slots k ≡ Some v → HasOtherKey old k
    → slot live' k ≡ Some v) where
  stay_in : (j : ℕ) (x : LiveDirectory) → slice_get m.directories.items j ≡ Some x → (j ≡ place → ⊥)
      → StayIn m.versions.slots live' x.keys.items
  stay_in j x is other l k v here was =
      stay k v was (other_keys size (memory_of m) whole place j d₀.keys.items x.keys.items old from
      (mapped_at (λ (y : LiveDirectory). y.keys.items) m.directories.items place d₀ at)
      (mapped_at (λ (y : LiveDirectory). y.keys.items) m.directories.items j x is) other l k here)

  was_keyed : (j : ℕ) (x : LiveDirectory) → slice_get m.directories.items j ≡ Some x
      → AreCurrent m.versions.slots (map file_view x.chain.entries) x.keys.items
  was_keyed j x is = pair_at (IsKeyed m.versions.slots) (live_directory m.versions.slots)
      (λ (y : LiveDirectory). y.keys.items) m.directories.items j x whole.keyed is

  same_directory : (j : ℕ) (x : LiveDirectory) → slice_get m.directories.items j ≡ Some x → (j ≡ place → ⊥)
      → live_directory live' x ≡ live_directory m.versions.slots x
  same_directory j x is other =
      let versions = kept_known m.versions.slots live' (map file_view x.chain.entries) x.keys.items (was_keyed j x is)
      (stay_in j x is other) in
      λ i. record (live_directory m.versions.slots x) { versions = versions i }

  -- the other directories are as before
  pub made_current_directories : map (live_directory live') (slice_set m.directories.items place d)
      ≡ slice_set (memory_of m).known.directories place (live_directory live' d)
  made_current_directories = mapped_set (live_directory live') (live_directory m.versions.slots) m.directories.items
      place d same_directory

  -- and keyed, if this one is
  pub made_current_keyed : IsKeyed live' (live_directory live' d) d.keys.items
      → AllZip (IsKeyed live') (slice_set (memory_of m).known.directories place (live_directory live' d))
      (map (λ x. x.keys.items) (slice_set m.directories.items place d))
  made_current_keyed is =
      pairs_set (IsKeyed live') (live_directory m.versions.slots) (λ (x : LiveDirectory). x.keys.items)
      m.directories.items place d (live_directory live' d)
      (λ j x there other. kept_keyed m.versions.slots live' (map file_view x.chain.entries) x.keys.items
      (was_keyed j x there) (stay_in j x there other)) is
