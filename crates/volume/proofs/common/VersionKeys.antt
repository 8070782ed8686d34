-- Versions that get keys: those with keys keep them, and what is known of them.
use Rattle.std.proofs.Common.{◌≡◌, ℕ, suc, ◌+◌, ◌<◌, Bool, true, if◌then◌else◌, List, [], ◌∷◌, ◌++◌, map, filter_map}
use Rattle.std.proofs.Common.{length, get_or, take, Option, Some, None, IfSome, slice_index_or, refl, sym, ap, subst}
use Rattle.std.proofs.Common.{◌∙◌, arith, ⊎_elim}
use Rattle.std.proofs.lemmas.Bool.{cases_eq}
use Rattle.std.proofs.lemmas.List.{map-append, take_all, length-map, length-take-le}
use Rattle.std.specs.List.{AllByRecursion, AllZip, cons_option, zip}
use Rattle.std.proofs.lemmas.Slice.Zip.{length-zip, get_or-zip}
use Rattle.std.specs.Option.{option_map}
use Rattle.spec_image.specs.Common.{SpecFileEntry, total, times}
use Rattle.slab.specs.Slab.{Slab, Updates}
use Rattle.volume.specs.Common.{file_view, known_version, known_directory, CurrentDirectory, blocks_reached}
use Rattle.volume.specs.Common.{reaches_in_entries, IsWholeVersion, as_known, slot, current_reaches, entry_reaches}
use Rattle.volume.specs.Common.{IsCurrent, IsKeyed, IsFirstRead, known_at, live_directory}
use Rattle.volume.specs.declared.live.LiveVersion.{LiveVersion}
use Rattle.volume.specs.declared.live.LiveDirectory.{LiveDirectory}
use Rattle.volume.specs.declared.read_file.LoadedVersion.{LoadedVersion}
use Rattle.volume.specs.declared.volume.LoadedDirectory.{LoadedDirectory}
use Rattle.directory.specs.declared.file.FileEntry.{FileEntry as FileEntryOfCode}
use Rattle.volume.proofs.common.Lookups.{zip_behind, viewed_more, viewed_at, total-push}
use Rattle.volume.proofs.common.LiveTotals.{total_updated}
use Rattle.volume.proofs.common.ReachedBlocks.{entries_push}

-- each key with a version keeps it
abbrev pub Stay : List (Option LiveVersion) → List (Option LiveVersion) → Type 0
Stay old new = (key : ℕ) (v : LiveVersion) → slot old key ≡ Some v → slot new key ≡ Some v

-- The current version under a key is there, except for its readers.
pub record IsStill (live : List (Option LiveVersion)) (key : ℕ) (v : LiveVersion) : Type 0 where
  pub version : LiveVersion
  pub there : slot live key ≡ Some version
  pub known : as_known version ≡ as_known v
  pub at : version.at ≡ v.at
  pub current : version.is_current ≡ true

-- each key with a current version keeps it, except for its readers
abbrev pub StayCurrent : List (Option LiveVersion) → List (Option LiveVersion) → Type 0
StayCurrent old new = (key : ℕ) (v : LiveVersion) → slot old key ≡ Some v → v.is_current ≡ true → IsStill new key v

pub all_stay : (old new : List (Option LiveVersion)) → Stay old new → StayCurrent old new
all_stay old new stay key v was current = record {
  version = v;
  there = stay key v was;
  known = refl;
  at = refl;
  current = current;
}

pub filter_map_push : {A B : Type 0} (h : A → Option B) (xs : List A) (x : A) (y : B) → h x ≡ Some y
    → filter_map h (xs ++ x ∷ []) ≡ filter_map h xs ++ y ∷ []
filter_map_push h [] x y is = ap (λ o. cons_option o []) is
filter_map_push {B = B} h (a ∷ xs) x y is = behind (h a) _ _ (filter_map_push h xs x y is)
  where
    behind : (o : Option B) (now old : List B) → now ≡ old ++ y ∷ [] → cons_option o now ≡ cons_option o old ++ y ∷ []
    behind None now old same = same
    behind (Some b) now old same = ap (λ bs. b ∷ bs) same

module _ (old new : List (Option LiveVersion)) (stay : StayCurrent old new) where
  pub current_on : (key prime : ℕ) → IsCurrent old key prime → IsCurrent new key prime
  current_on key prime is =
      let still = stay key is.version is.there is.current in
      record { version = still.version; there = still.there; at = still.at ∙ is.at; current = still.current }

  pub keyed_on : (es : List SpecFileEntry) (keys : List ℕ) → AllZip (λ e key. IsCurrent old key e.1) es keys
      → AllZip (λ e key. IsCurrent new key e.1) es keys
  keyed_on [] [] zip = tt
  keyed_on [] (key ∷ keys) zip = absurd zip
  keyed_on (e ∷ es) [] zip = absurd zip
  keyed_on (e ∷ es) (key ∷ keys) zip = (current_on key e.1 zip.0, keyed_on es keys zip.1)

  pub known_on : (es : List SpecFileEntry) (keys : List ℕ) → AllZip (λ e key. IsCurrent old key e.1) es keys
      → filter_map (known_at new) keys ≡ filter_map (known_at old) keys
  known_on [] [] zip = refl
  known_on [] (key ∷ keys) zip = absurd zip
  known_on (e ∷ es) [] zip = absurd zip
  known_on (e ∷ es) (key ∷ keys) zip =
      let still = stay key zip.0.version zip.0.there zip.0.current in
      let here : known_at new key ≡ known_at old key = ap (option_map as_known) still.there ∙ ap Some still.known
      ∙ sym (ap (option_map as_known) zip.0.there) in
      let rest = known_on es keys zip.1 in
      λ i. cons_option (here i) (rest i)

  pub directories_keyed_on : (ds : List CurrentDirectory) (keys : List (List ℕ)) → AllZip (IsKeyed old) ds keys
      → AllZip (IsKeyed new) ds keys
  directories_keyed_on [] [] zip = tt
  directories_keyed_on [] (key ∷ keys) zip = absurd zip
  directories_keyed_on (d ∷ ds) [] zip = absurd zip
  directories_keyed_on (d ∷ ds) (key ∷ keys) zip = (
    keyed_on d.chain.entries key zip.0,
    directories_keyed_on ds keys zip.1,
  )

  pub directories_known_on : (ds : List CurrentDirectory) (live : List LiveDirectory)
      → AllZip (IsKeyed old) ds (map (λ d. d.keys.items) live)
      → map (live_directory new) live ≡ map (live_directory old) live
  directories_known_on [] [] zip = refl
  directories_known_on [] (l ∷ live) zip = absurd zip
  directories_known_on (d ∷ ds) [] zip = absurd zip
  directories_known_on (d ∷ ds) (l ∷ live) zip =
      let here = known_on d.chain.entries l.keys.items zip.0 in
      let rest = directories_known_on ds live zip.1 in
      λ i. record (live_directory old l) { versions = here i } ∷ rest i

-- the version of an entry, as it was read
abbrev pub first_read : FileEntryOfCode → LoadedVersion → LiveVersion
first_read e s = record { prime = s.prime; version = s.version; at = e.prime; readers = 0; is_current = true }

-- one version more, under a key that had none
module _ (old new : Slab LiveVersion) (key : ℕ) (v : LiveVersion) (vacant : slot old.slots key
    ≡ None) (kept : Updates old new key (Some v)) where
  pub put_stay : Stay old.slots new.slots
  put_stay k w was = ⊎_elim (λ same. absurd (here same)) (λ other. kept.others k other ∙ was) (cases_eq k key)
    where
      here : k ≡ key → ⊥
      here same = let e : slot old.slots key ≡ Some w = subst (λ n. slot old.slots n ≡ Some w) same was in cc

  pub put_read : IsFirstRead v → ((k : ℕ) → IfSome (slot old.slots k) IsFirstRead) → (k : ℕ)
      → IfSome (slot new.slots k) IsFirstRead
  put_read is read k = ⊎_elim
      (λ (same : k ≡ key). subst (λ o. IfSome o IsFirstRead) (sym (ap (slot new.slots) same ∙ kept.changed)) is)
      (λ other. subst (λ o. IfSome o IsFirstRead) (sym (kept.others k other)) (read k)) (cases_eq k key)

  pub put_keyed : (es : List SpecFileEntry) (keys : List ℕ) (e : SpecFileEntry) → v.at ≡ e.1 → v.is_current ≡ true
      → AllZip (λ e key. IsCurrent old.slots key e.1) es keys
      → AllZip (λ e key. IsCurrent new.slots key e.1) (es ++ e ∷ []) (keys ++ key ∷ [])
  put_keyed es keys e at current zip =
      zip_behind (λ e key. IsCurrent new.slots key e.1) es keys e key
      (keyed_on old.slots new.slots (all_stay old.slots new.slots put_stay) es keys zip)
      (record { version = v; there = kept.changed; at = at; current = current })

  pub put_known : (es : List SpecFileEntry) (keys : List ℕ) → AllZip (λ e key. IsCurrent old.slots key e.1) es keys
      → filter_map (known_at new.slots) (keys ++ key ∷ []) ≡ filter_map (known_at old.slots) keys ++ as_known v ∷ []
  put_known es keys zip =
      filter_map_push (known_at new.slots) keys key (as_known v) (ap (option_map as_known) kept.changed)
      ∙ ap (λ vs. vs ++ as_known v ∷ [])
      (known_on old.slots new.slots (all_stay old.slots new.slots put_stay) es keys zip)

  -- its blocks are reached by one current version more
  pub put_current : (n : ℕ) → v.is_current ≡ true → total (current_reaches n) new.slots
      ≡ total (current_reaches n) old.slots + times n (blocks_reached v.at v.version)
  put_current n current =
      let all = total_updated (current_reaches n) refl old.slots new.slots key (Some v) kept.changed kept.others in
      let none = ap (current_reaches n) vacant in
      let here = ap (λ (b : Bool). if b then times n (blocks_reached v.at v.version) else 0) current in
      omega arith

-- the pair that a loop over two lists is at
pub zip_at : {A B : Type 0} (xs : List A) (ys : List B) (i : ℕ) (x : A) (y : B) → i < length (zip xs ys)
    → (x, y) ≡ get_or (zip xs ys) i (x, y)
    → (i < length xs) × (x ≡ get_or xs i x) × (i < length ys) × (y ≡ get_or ys i y)
zip_at xs ys i x y below is =
    let short = length-zip xs ys in
    let front : i < length xs = omega arith in
    let back : i < length ys = omega arith in
    let at = is ∙ get_or-zip xs ys i (x, y) front back in
    (front, ap (λ p. p.0) at, back, ap (λ p. p.1) at)

-- a loop that went to the end went over both
pub zip_all : {A B : Type 0} (xs : List A) (ys : List B) (i : ℕ) → i ≡ length (zip xs ys) → length ys ≡ length xs
    → (xs ≡ take i xs) × (ys ≡ take i ys)
zip_all xs ys i end aligned =
    let short = length-zip xs ys in
    (sym (take_all i xs (omega arith)), sym (take_all i ys (omega arith)))

pub zip_same : {A B : Type 0} (P : A → B → Type 0) (xs xs' : List A) (ys ys' : List B) → xs' ≡ xs → ys' ≡ ys
    → AllZip P xs ys → AllZip P xs' ys'
zip_same P xs xs' ys ys' front back zip = subst (λ a. AllZip P a ys') (sym front)
    (subst (λ b. AllZip P xs b) (sym back) zip)

-- the next pair of an entry and a version, which was put under a key
module _ (entries : List FileEntryOfCode) (stored : List LoadedVersion) (i n : ℕ) (e : FileEntryOfCode)
    (s : LoadedVersion) (next : n ≡ i + 1)
    (at : (i < length entries) × (e ≡ get_or entries i e) × (i < length stored) × (s ≡ get_or stored i s))
    (old new : Slab LiveVersion) (keys keys' : List ℕ) (key : ℕ) (pushed : keys' ≡ keys ++ key ∷ [])
    (vacant : slot old.slots key ≡ None) (kept : Updates old new key (Some (first_read e s)))
    (zip : AllZip (λ e key. IsCurrent old.slots key e.1) (map file_view (take i entries)) keys) where
  pub next_keyed : AllZip (λ e key. IsCurrent new.slots key e.1) (map file_view (take n entries)) keys'
  next_keyed =
      zip_same (λ e key. IsCurrent new.slots key e.1) (map file_view (take i entries) ++ file_view e ∷ [])
      (map file_view (take n entries)) (keys ++ key ∷ []) keys'
      (ap (λ m. map file_view (take m entries)) next ∙ viewed_more file_view entries i e at.0 at.1) pushed
      (put_keyed old new key (first_read e s) vacant kept (map file_view (take i entries)) keys
      (file_view e) refl refl zip)

  pub next_known : filter_map (known_at old.slots) keys ≡ map known_version (take i stored)
      → filter_map (known_at new.slots) keys' ≡ map known_version (take n stored)
  next_known so_far =
      ap (filter_map (known_at new.slots)) pushed
      ∙ put_known old new key (first_read e s) vacant kept (map file_view (take i entries)) keys zip
      ∙ ap (λ vs. vs ++ known_version s ∷ []) so_far
      ∙ sym (ap (λ m. map known_version (take m stored)) next ∙ viewed_more known_version stored i s at.2 at.3)

  pub next_current : (m : ℕ) (before : ℕ) → total (current_reaches m) old.slots
      ≡ before + reaches_in_entries m (map file_view (take i entries)) (map known_version (take i stored))
      → total (current_reaches m) new.slots
      ≡ before + reaches_in_entries m (map file_view (take n entries)) (map known_version (take n stored))
  next_current m before so_far =
      let one = put_current old new key (first_read e s) vacant kept m refl in
      let front = ap (λ k. map file_view (take k entries)) next ∙ viewed_more file_view entries i e at.0 at.1 in
      let back = ap (λ k. map known_version (take k stored)) next ∙ viewed_more known_version stored i s at.2 at.3 in
      let same : length (map known_version (take i stored)) ≡ length (map file_view (take i entries)) =
      length-map (take i stored) known_version ∙ length-take-le i stored (let b = at.2 in omega arith)
      ∙ sym (length-map (take i entries) file_view ∙ length-take-le i entries (let b = at.0 in omega arith)) in
      let more = (λ j. reaches_in_entries m (front j) (back j))
      ∙ entries_push m (map file_view (take i entries)) (map known_version (take i stored)) (file_view e)
      (known_version s) same in
      omega arith

  pub next_read : AllByRecursion IsWholeVersion (map known_version stored)
      → ((k : ℕ) → IfSome (slot old.slots k) IsFirstRead) → (k : ℕ) → IfSome (slot new.slots k) IsFirstRead
  next_read whole = put_read old new key (first_read e s) vacant kept
      (record {
        current = refl;
        unread = refl;
        whole = viewed_at known_version stored i s at.2 at.3 IsWholeVersion whole;
      })

-- the next directory, whose versions were put under keys
module _ (stored : List LoadedDirectory) (i n : ℕ) (d : LoadedDirectory) (next : n ≡ i + 1) (below : i
    < length stored) (at : d ≡ get_or stored i d)
    (old new : List (Option LiveVersion)) (stay : Stay old new) (live live' : List LiveDirectory) (l : LiveDirectory)
    (pushed : live' ≡ live ++ l ∷ [])
    (zip : AllZip (IsKeyed old) (map known_directory (take i stored)) (map (λ d. d.keys.items) live)) where
  taken : map known_directory (take n stored) ≡ map known_directory (take i stored) ++ known_directory d ∷ []
  taken = ap (λ m. map known_directory (take m stored)) next ∙ viewed_more known_directory stored i d below at

  pub next_directory_keyed : IsKeyed new (known_directory d) l.keys.items
      → AllZip (IsKeyed new) (map known_directory (take n stored)) (map (λ d. d.keys.items) live')
  next_directory_keyed here =
      zip_same (IsKeyed new) (map known_directory (take i stored) ++ known_directory d ∷ []) _
      (map (λ d. d.keys.items) live ++ l.keys.items ∷ []) _
      taken (ap (map (λ d. d.keys.items)) pushed ∙ map-append (λ d. d.keys.items) live (l ∷ []))
      (zip_behind (IsKeyed new) (map known_directory (take i stored)) (map (λ d. d.keys.items) live)
      (known_directory d) l.keys.items
      (directories_keyed_on old new (all_stay old new stay) (map known_directory (take i stored))
      (map (λ d. d.keys.items) live) zip) here)

  pub next_directory_known : live_directory new l ≡ known_directory d → map (live_directory old) live
      ≡ map known_directory (take i stored) → map (live_directory new) live' ≡ map known_directory (take n stored)
  next_directory_known here so_far =
      ap (map (live_directory new)) pushed
      ∙ map-append (live_directory new) live (l ∷ [])
      ∙ (λ j. (directories_known_on old new (all_stay old new stay) (map known_directory (take i stored)) live zip
      ∙ so_far) j ++ here j ∷ [])
      ∙ sym taken

  pub next_directory_current : (m : ℕ) → live_directory new l ≡ known_directory d
      → map (live_directory old) live ≡ map known_directory (take i stored)
      → total (current_reaches m) old ≡ entry_reaches m (map (live_directory old) live)
      → total (current_reaches m) new ≡ total (current_reaches m) old
      + reaches_in_entries m (map file_view d.chain.entries) (map known_version d.versions.items)
      → total (current_reaches m) new ≡ entry_reaches m (map (live_directory new) live')
  next_directory_current m here so_far before one =
      let all = ap (entry_reaches m) (next_directory_known here so_far ∙ taken)
      ∙ total-push (λ (x : CurrentDirectory). reaches_in_entries m x.chain.entries x.versions)
      (map known_directory (take i stored)) (known_directory d) in
      let was = ap (entry_reaches m) so_far in
      omega arith

-- what holds of each slot holds of all
pub all_slots : {X : Type 0} (P : Option X → Type 0) (slots : List (Option X))
    → ((k : ℕ) → P (slice_index_or slots k None)) → AllByRecursion P slots
all_slots P [] each = tt
all_slots P (o ∷ slots) each = (each 0, all_slots P slots (λ k. each (suc k)))
