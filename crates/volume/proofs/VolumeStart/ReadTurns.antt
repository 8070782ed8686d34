-- Files of a directory that were read in turns, in the order of their entries.
use Rattle.std.proofs.Common.{◌≡◌, ℕ, suc, ◌+◌, ◌<◌, List, [], ◌∷◌, ◌++◌, map, length, get_or, take, Some, None}
use Rattle.std.proofs.Common.{Option, refl, sym, ap, subst, ◌∙◌, arith, append_assoc, append-nil}
use Rattle.std.specs.FinMap.Entries.{find}
use Rattle.std.specs.List.{AllByRecursion, AllZip, enumerate_from, range_with_len, slice_get}
use Rattle.std.specs.List.Sorted.{IsPermutation, IsNonDecreasingBy}
use Rattle.std.proofs.lemmas.List.{length-map, length-take-le, map-append, take_more}
use Rattle.std.proofs.lemmas.List.FromFn.{length-enumerate_from}
use Rattle.std.proofs.lemmas.List.Sorted.{Contains-permutation, IsPermutation-map, IsPermutation-sym}
use Rattle.std.proofs.lemmas.List.Sorted.{length_permutation}
use Rattle.words36.specs.declared.names.FileName.{FileName}
use Rattle.blockdisk.specs.Common.{Contents}
use Rattle.spec_image.specs.Common.{EachOnce, times, total, name_cmp, SpecFileEntry, StoredFile, place_of}
use Rattle.spec_image.specs.Common.{reaches_in_file, IsVersion, IsFileRead}
use Rattle.spec_image.proofs.Common.{some_same, contains-found, find-contains, name_exact, name_total, same_head}
use Rattle.spec_image.proofs.Common.{same_tail}
use Rattle.directory.specs.declared.file.FileEntry.{FileEntry as EntryValue}
use Rattle.volume.specs.declared.error.VolumeError.{VolumeError}
use Rattle.volume.specs.declared.error.VolumeError.TheVariants.{NotVolume, BadHome, BadLog, BadDirectory}
use Rattle.volume.specs.declared.error.VolumeError.TheVariants.{BadRetrieval, BlockTwice, TableWrong, Device}
use Rattle.volume.specs.declared.error.VolumeError.TheVariants.{NoMemory, Failed, BadData}
use Rattle.volume.specs.declared.read_file.LoadedVersion.{LoadedVersion}
use Rattle.volume.specs.declared.turns.PlacedVersion.{PlacedVersion}
use Rattle.volume.specs.declared.turns.Turn.{Turn}
use Rattle.volume.specs.Common.{CurrentVersion, blocks_reached, reaches_in_entries, IsKnownVersion, AreFilesRead}
use Rattle.volume.specs.Common.{IsFaultOfFiles, file_view, known_version, turn_view, placed_known, numbered_entry}
use Rattle.volume.specs.Common.{numbered_version}
use Rattle.volume.proofs.common.Lookups.{all_each, all_of_map, viewed_more}
use Rattle.volume.proofs.common.Reordered.{all_moved, total_moved, times_moved, all_at_place, at_its_place}
use Rattle.volume.proofs.common.Reordered.{all_enumerated, enumerated_by, enumerated_push, enumerated_map}
use Rattle.volume.proofs.common.Reordered.{enumerated_elements, enumerated_places, map_twice, rising_range}

-- one turn more
pub turn_pushed : (entries : List EntryValue) (i : ℕ) (e : EntryValue) (old new : List Turn) → i < length entries
    → e ≡ get_or entries i e → map numbered_entry old ≡ enumerate_from 0 (take i entries)
    → new ≡ old ++ record { place = i; entry = e } ∷ []
    → map numbered_entry new ≡ enumerate_from 0 (take (i + 1) entries)
turn_pushed entries i e old new below is so_far pushed =
    let t : Turn = record { place = i; entry = e } in
    let places : i ≡ 0 + length (take i entries) = let long = length-take-le i entries (omega arith) in omega arith in
    ap (map numbered_entry) pushed ∙ map-append numbered_entry old (t ∷ [])
    ∙ ap (λ l. l ++ (i, e) ∷ []) so_far
    ∙ (λ j. enumerate_from 0 (take i entries) ++ (places j, e) ∷ [])
    ∙ sym (enumerated_push 0 (take i entries) e)
    ∙ ap (enumerate_from 0)
    (sym (take_more entries i e below ∙ ap (λ (y : EntryValue). take i entries ++ y ∷ []) (sym is)))

-- the places of what was read, and one more
pub places_more : {A B : Type 0} (f : A → ℕ) (g : B → ℕ) (ts : List B) (i : ℕ) (t : B) (old new : List A)
    → i < length ts
    → t ≡ get_or ts i t → map f old ≡ map g (take i ts) → map f new ≡ map f old ++ g t ∷ []
    → map f new ≡ map g (take (i + 1) ts)
places_more f g ts i t old new below is so_far more =
    more ∙ ap (λ l. l ++ g t ∷ []) so_far ∙ sym (viewed_more g ts i t below is)

-- one version more is put by its place
pub place_put : {A B : Type 0} (f : A → B) (old new all : List B) (x : A) (before rest : List A) → new ≡ old ++ f x ∷ []
    → before ≡ x ∷ rest → old ++ map f before ≡ all → new ++ map f rest ≡ all
place_put f old new all x before rest pushed next so_far =
    ap (λ l. l ++ map f rest) pushed ∙ append_assoc old (f x ∷ []) (map f rest)
    ∙ ap (λ l. old ++ map f l) (sym next) ∙ so_far

pub none_left : {A B : Type 0} (f : A → B) (new all : List B) (rest : List A) → length rest ≡ 0
    → new ++ map f rest ≡ all → new ≡ all
none_left f new all [] none is = sym (append-nil new) ∙ is
none_left f new all (x ∷ rest) none is = absurd (omega arith)

-- versions in the order of their places
pub placed_in_order : (placed sorted : List PlacedVersion) (vs : List LoadedVersion)
    → IsPermutation (range_with_len 0 (length placed)) (map (λ p. p.place) placed) → IsPermutation placed sorted
    → IsNonDecreasingBy (λ (p : PlacedVersion). p.place) sorted → vs ≡ map (λ p. p.stored) sorted
    → IsPermutation (map numbered_version placed) (enumerate_from 0 vs)
placed_in_order placed sorted vs places moved rising are =
    let place : PlacedVersion → ℕ = λ p. p.place in
    let stored : PlacedVersion → LoadedVersion = λ p. p.stored in
    let long : length placed ≡ length sorted = sym (length_permutation placed sorted moved) in
    let ranged : map place sorted ≡ range_with_len 0 (length sorted) =
    rising_range place 0 (length sorted) sorted rising
    (λ k. times_moved (map place placed) (map place sorted) (IsPermutation-map place placed sorted moved) k
    ∙ times_moved (range_with_len 0 (length placed)) (map place placed) places k
    ∙ ap (λ n. times k (range_with_len 0 n)) long) in
    subst (λ l. IsPermutation (map numbered_version placed) (enumerate_from 0 l)) (sym are)
    (subst (IsPermutation (map numbered_version placed)) (enumerated_by place stored sorted 0 ranged)
    (IsPermutation-map numbered_version placed sorted moved))

-- A fault of files that are read in another order.
module _ (size layout : ℕ) (contents : Contents) (marks : ℕ → ℕ) (ppn : ℕ) (es fs : List SpecFileEntry)
    (moved : IsPermutation es fs) (once : EachOnce name_cmp es) where
  found_moved : (name : FileName) (prime : ℕ) → find name_cmp name fs ≡ Some prime → find name_cmp name es ≡ Some prime
  found_moved name prime found = find-contains name_total es name prime once
      (Contains-permutation fs es (name, prime) (IsPermutation-sym es fs moved)
      (contains-found name_total name_exact fs name prime found))

  pub fault_moved : (error : VolumeError) → IsFaultOfFiles size layout contents marks ppn fs error
      → IsFaultOfFiles size layout contents marks ppn es error
  fault_moved NotVolume met = met
  fault_moved BadHome met = met
  fault_moved BadLog met = met
  fault_moved (BadDirectory n) met = met
  fault_moved (BadRetrieval n) met = record {
    name = met.name;
    prime = met.prime;
    entry = found_moved met.name met.prime met.entry;
    bad = met.bad;
  }
  fault_moved (BlockTwice n) met = record {
    files = met.files;
    once = met.once;
    read = all_each (IsFileRead layout contents ppn fs) (IsFileRead layout contents ppn es) met.files
        (λ e is. record {
          entry = found_moved e.0 e.1.prime is.entry;
          place_is = is.place_is;
          retrieved = is.retrieved;
        }) met.read;
    twice = met.twice;
  }
  fault_moved (TableWrong n) met = met
  fault_moved Device met = met
  fault_moved NoMemory met = met
  fault_moved Failed met = met
  fault_moved (BadData n) met = record {
    name = met.name;
    prime = met.prime;
    entry = found_moved met.name met.prime met.entry;
    bad = met.bad;
  }

-- Versions that were read in turns, and the same in the order of their entries. The turns are the entries with their
-- places, in any order, and each version that was read is with the place of its entry.
module _ (es : List SpecFileEntry) (turns : List (ℕ × SpecFileEntry)) (read : List (ℕ × CurrentVersion))
    (vs : List CurrentVersion)
    (all_turns : IsPermutation (enumerate_from 0 es) turns) (placed : map (λ q. q.0) read ≡ map (λ t. t.0) turns)
    (ordered : IsPermutation read (enumerate_from 0 vs)) (aligned : length vs ≡ length es) where
  from_zero : (i : ℕ) → 0 + i ≡ i
  from_zero i = omega arith

  prime_of_entry : Option SpecFileEntry → ℕ
  prime_of_entry None = 0
  prime_of_entry (Some e) = e.1

  -- how often the version at a place reaches a block
  reaches_at : ℕ → ℕ × CurrentVersion → ℕ
  reaches_at n q = times n (blocks_reached (prime_of_entry (slice_get es q.0)) q.1.version)

  turns_at_place : AllByRecursion (λ t. slice_get es t.0 ≡ Some t.1) turns
  turns_at_place = all_moved (enumerate_from 0 es) turns all_turns (λ t. slice_get es t.0 ≡ Some t.1)
      (all_at_place es es 0 (λ i. ap (slice_get es) (from_zero i)))

  reached_in_turns : (n : ℕ) (ts : List (ℕ × SpecFileEntry)) (qs : List (ℕ × CurrentVersion))
      → AllByRecursion (λ t. slice_get es t.0 ≡ Some t.1) ts → map (λ q. q.0) qs ≡ map (λ t. t.0) ts
      → reaches_in_entries n (map (λ t. t.1) ts) (map (λ q. q.1) qs) ≡ total (reaches_at n) qs
  unfolding reaches_at prime_of_entry
  reached_in_turns n [] [] at same = refl
  reached_in_turns n [] (q ∷ qs) at same = absurd cc
  reached_in_turns n (t ∷ ts) [] at same = absurd cc
  reached_in_turns n (t ∷ ts) (q ∷ qs) at same =
      let there : slice_get es q.0 ≡ Some t.1 = ap (slice_get es) (same_head same) ∙ at.0 in
      let here = ap (λ o. times n (blocks_reached (prime_of_entry o) q.1.version)) there in
      let rest = reached_in_turns n ts qs at.1 (same_tail same) in
      omega arith

  reached_in_order : (n : ℕ) (fs : List SpecFileEntry) (ws : List CurrentVersion) (k : ℕ)
      → ((i : ℕ) → slice_get es (k + i) ≡ slice_get fs i) → length ws ≡ length fs
      → total (reaches_at n) (enumerate_from k ws) ≡ reaches_in_entries n fs ws
  unfolding reaches_at prime_of_entry
  reached_in_order n [] [] k at same = refl
  reached_in_order n [] (w ∷ ws) k at same = absurd (omega arith)
  reached_in_order n (f ∷ fs) [] k at same = absurd (omega arith)
  reached_in_order n (f ∷ fs) (w ∷ ws) k at same =
      let zero_more : k ≡ k + 0 = omega arith in
      let there : slice_get es k ≡ Some f = ap (slice_get es) zero_more ∙ at 0 in
      let here = ap (λ o. times n (blocks_reached (prime_of_entry o) w.version)) there in
      let rest = reached_in_order n fs ws (k + 1) (λ i. let more : k + 1 + i ≡ k + suc i = omega arith in
      ap (slice_get es) more ∙ at (suc i)) (omega arith) in
      omega arith

  -- a block is reached as often
  pub reached_alike : (n : ℕ) → reaches_in_entries n (map (λ t. t.1) turns) (map (λ q. q.1) read) ≡ reaches_in_entries n
      es vs
  reached_alike n = reached_in_turns n turns read turns_at_place placed
      ∙ sym (total_moved read (enumerate_from 0 vs) ordered (reaches_at n))
      ∙ reached_in_order n es vs 0 (λ i. ap (slice_get es) (from_zero i)) aligned

  -- what holds of each version that was read
  pub versions_alike : (P : CurrentVersion → Type 0) → AllByRecursion (λ q. P q.1) read → AllByRecursion P vs
  versions_alike P all = all_enumerated P vs 0 (all_moved read (enumerate_from 0 vs) ordered (λ q. P q.1) all)

  module _ (layout : ℕ) (contents : Contents) (ppn : ℕ) where
    -- a file was found at a place, with this version
    record IsFoundAt (fs : List SpecFileEntry) (place : ℕ) (v : CurrentVersion) : Type 0 where
      pub file : FileName × StoredFile
      pub entry : slice_get fs place ≡ Some (file.0, file.1.prime)
      pub whole : IsVersion layout contents (place_of ppn file.0) file.1
      pub known : IsKnownVersion file v

    found_in_turns : (ts : List (ℕ × SpecFileEntry)) (qs : List (ℕ × CurrentVersion))
        (found : List (FileName × StoredFile))
        → AllByRecursion (λ t. slice_get es t.0 ≡ Some t.1) ts → map (λ q. q.0) qs ≡ map (λ t. t.0) ts
        → map (λ e. (e.0, e.1.prime)) found ≡ map (λ t. t.1) ts
        → AllByRecursion (λ e. IsVersion layout contents (place_of ppn e.0) e.1) found
        → AllZip IsKnownVersion found (map (λ q. q.1) qs) → AllByRecursion (λ q. IsFoundAt es q.0 q.1) qs
    found_in_turns ts [] found at same named whole known = tt
    found_in_turns [] (q ∷ qs) found at same named whole known = absurd cc
    found_in_turns (t ∷ ts) (q ∷ qs) [] at same named whole known = absurd known
    found_in_turns (t ∷ ts) (q ∷ qs) (x ∷ xs) at same named whole known = (
      record {
        file = x;
        entry = ap (slice_get es) (same_head same) ∙ at.0 ∙ ap (λ (e : SpecFileEntry). Some e) (sym (same_head named));
        whole = whole.0;
        known = known.0;
      },
      found_in_turns ts qs xs at.1 (same_tail same) (same_tail named) whole.1 known.1,
    )

    -- the files of entries, one for each, in their order
    record AreFoundInOrder (fs : List SpecFileEntry) (ws : List CurrentVersion) : Type 0 where
      pub found : List (FileName × StoredFile)
      pub named : map (λ e. (e.0, e.1.prime)) found ≡ fs
      pub whole : AllByRecursion (λ e. IsVersion layout contents (place_of ppn e.0) e.1) found
      pub known : AllZip IsKnownVersion found ws
      pub reached : (n : ℕ) → total (λ e. reaches_in_file n e.1) found ≡ reaches_in_entries n fs ws

    found_in_order : (fs : List SpecFileEntry) (ws : List CurrentVersion) → length ws ≡ length fs
        → ((i : ℕ) (w : CurrentVersion) → slice_get ws i ≡ Some w → IsFoundAt fs i w) → AreFoundInOrder fs ws
    found_in_order [] [] same each = record { found = []; named = refl; whole = tt; known = tt; reached = λ n. refl }
    found_in_order [] (w ∷ ws) same each = absurd (omega arith)
    found_in_order (f ∷ fs) [] same each = absurd (omega arith)
    found_in_order (f ∷ fs) (w ∷ ws) same each =
        let here = each 0 w refl in
        let rest = found_in_order fs ws (omega arith) (λ i v is. let later = each (suc i) v is in record {
          file = later.file;
          entry = later.entry;
          whole = later.whole;
          known = later.known;
        }) in
        let first : f ≡ (here.file.0, here.file.1.prime) = some_same here.entry in
        record {
          found = here.file ∷ rest.found;
          named = λ i. sym first i ∷ rest.named i;
          whole = (here.whole, rest.whole);
          known = (here.known, rest.known);
          reached = λ n.
              let facts = here.known in
              let blocks : reaches_in_file n here.file.1
              ≡ times n (blocks_reached here.file.1.prime w.version) =
              ap (λ k. times n (k.prime ∷ (k.ribs ++ k.blocks))) facts in
              let prime = ap (λ (e : SpecFileEntry). times n (blocks_reached e.1 w.version)) first in
              let more = rest.reached n in
              omega arith;
        }

    -- the files that were read are those of the entries in their order
    pub files_in_order : (marks after : ℕ → ℕ)
        → AreFilesRead layout contents ppn (map (λ t. t.1) turns) (map (λ q. q.1) read) marks after
        → ((n : ℕ) → after n ≡ marks n + reaches_in_entries n es vs)
        → AreFilesRead layout contents ppn es vs marks after
    files_in_order marks after were marked =
        let each = found_in_turns turns read were.found turns_at_place placed were.named were.whole were.known in
        let all = all_moved read (enumerate_from 0 vs) ordered (λ q. IsFoundAt es q.0 q.1) each in
        let found = found_in_order es vs aligned (λ i w is. subst (λ k. IsFoundAt es k w) (from_zero i)
        (at_its_place (λ q. IsFoundAt es q.0 q.1) vs 0 all i w is)) in
        record {
          found = found.found;
          named = found.named;
          whole = found.whole;
          known = found.known;
          marked = λ n. let a = marked n in let b = found.reached n in omega arith;
        }

-- The same of what code has: entries with their turns, and versions with their places.
module _ (entries : List EntryValue) (turns : List Turn)
    (all : IsPermutation (enumerate_from 0 entries) (map numbered_entry turns)) where
  turns_viewed : IsPermutation (enumerate_from 0 (map file_view entries)) (map (λ t. (t.place, turn_view t)) turns)
  turns_viewed =
      let see : ℕ × EntryValue → ℕ × SpecFileEntry = λ p. (p.0, file_view p.1) in
      subst (λ l. IsPermutation l (map (λ t. (t.place, turn_view t)) turns)) (enumerated_map file_view entries 0)
      (subst (IsPermutation (map see (enumerate_from 0 entries))) (map_twice see numbered_entry turns)
      (IsPermutation-map see (enumerate_from 0 entries) (map numbered_entry turns) all))

  pub entries_moved : IsPermutation (map file_view entries) (map turn_view turns)
  entries_moved =
      let second : ℕ × SpecFileEntry → SpecFileEntry = λ q. q.1 in
      let viewed : Turn → ℕ × SpecFileEntry = λ t. (t.place, turn_view t) in
      subst (λ l. IsPermutation l (map turn_view turns)) (enumerated_elements (map file_view entries) 0)
      (subst (IsPermutation (map second (enumerate_from 0 (map file_view entries)))) (map_twice second viewed turns)
      (IsPermutation-map second (enumerate_from 0 (map file_view entries)) (map viewed turns) turns_viewed))

  places_moved : IsPermutation (range_with_len 0 (length entries)) (map (λ t. t.place) turns)
  places_moved =
      let first : ℕ × EntryValue → ℕ = λ q. q.0 in
      subst (λ l. IsPermutation l (map (λ t. t.place) turns)) (enumerated_places entries 0)
      (subst (IsPermutation (map first (enumerate_from 0 entries))) (map_twice first numbered_entry turns)
      (IsPermutation-map first (enumerate_from 0 entries) (map numbered_entry turns) all))

  as_many_turns : length turns ≡ length entries
  as_many_turns = sym (length-map turns numbered_entry)
      ∙ length_permutation (enumerate_from 0 entries) (map numbered_entry turns) all ∙ length-enumerate_from 0 entries

  module _ (read : List PlacedVersion) (placed : map (λ p. p.place) read ≡ map (λ t. t.place) turns) where
    as_many_read : length read ≡ length entries
    as_many_read = sym (length-map read (λ p. p.place)) ∙ ap length placed ∙ length-map turns (λ t. t.place)
        ∙ as_many_turns

    pub places_read : IsPermutation (range_with_len 0 (length read)) (map (λ p. p.place) read)
    places_read = subst (IsPermutation (range_with_len 0 (length read))) (sym placed)
        (subst (λ n. IsPermutation (range_with_len 0 n) (map (λ t. t.place) turns)) (sym as_many_read) places_moved)

    module _ (versions : List LoadedVersion)
        (ordered : IsPermutation (map numbered_version read) (enumerate_from 0 versions)) where
      pub as_many_versions : length versions ≡ length entries
      as_many_versions = sym (length-enumerate_from 0 versions)
          ∙ length_permutation (map numbered_version read) (enumerate_from 0 versions) ordered
          ∙ length-map read numbered_version ∙ as_many_read

      aligned : length (map known_version versions) ≡ length (map file_view entries)
      aligned = length-map versions known_version ∙ as_many_versions ∙ sym (length-map entries file_view)

      versions_viewed : IsPermutation (map (λ p. (p.place, placed_known p)) read)
          (enumerate_from 0 (map known_version versions))
      versions_viewed =
          let see : ℕ × LoadedVersion → ℕ × CurrentVersion = λ p. (p.0, known_version p.1) in
          subst (IsPermutation (map (λ p. (p.place, placed_known p)) read)) (enumerated_map known_version versions 0)
          (subst (λ l. IsPermutation l (map see (enumerate_from 0 versions))) (map_twice see numbered_version read)
          (IsPermutation-map see (map numbered_version read) (enumerate_from 0 versions) ordered))

      placed_viewed : map {A = ℕ × CurrentVersion} (λ q. q.0) (map (λ p. (p.place, placed_known p)) read)
          ≡ map {A = ℕ × SpecFileEntry} (λ t. t.0) (map (λ t. (t.place, turn_view t)) turns)
      placed_viewed = map_twice (λ q. q.0) (λ p. (p.place, placed_known p)) read ∙ placed
          ∙ sym (map_twice (λ t. t.0) (λ t. (t.place, turn_view t)) turns)

      seen_turns : map {A = ℕ × SpecFileEntry} (λ t. t.1) (map (λ t. (t.place, turn_view t)) turns) ≡ map turn_view
          turns
      seen_turns = map_twice (λ t. t.1) (λ t. (t.place, turn_view t)) turns

      seen_versions : map {A = ℕ × CurrentVersion} (λ q. q.1) (map (λ p. (p.place, placed_known p)) read) ≡ map
          placed_known read
      seen_versions = map_twice (λ q. q.1) (λ p. (p.place, placed_known p)) read

      pub reached_the_same : (n : ℕ) → reaches_in_entries n (map turn_view turns) (map placed_known read)
          ≡ reaches_in_entries n (map file_view entries) (map known_version versions)
      reached_the_same n = (λ i. reaches_in_entries n (sym seen_turns i) (sym seen_versions i))
          ∙ reached_alike (map file_view entries) (map (λ t. (t.place, turn_view t)) turns)
          (map (λ p. (p.place, placed_known p)) read) (map known_version versions) turns_viewed placed_viewed
          versions_viewed aligned n

      pub whole_the_same : (P : CurrentVersion → Type 0) → AllByRecursion P (map placed_known read)
          → AllByRecursion P (map known_version versions)
      whole_the_same P whole =
          versions_alike (map file_view entries) (map (λ t. (t.place, turn_view t)) turns)
          (map (λ p. (p.place, placed_known p)) read) (map known_version versions) turns_viewed placed_viewed
          versions_viewed aligned P (all_of_map P (λ q. q.1) (map (λ p. (p.place, placed_known p)) read)
          (subst (AllByRecursion P) (sym seen_versions) whole))

      pub read_the_same : (layout : ℕ) (contents : Contents) (ppn : ℕ) (marks after : ℕ → ℕ)
          → AreFilesRead layout contents ppn (map turn_view turns) (map placed_known read) marks after
          → ((n : ℕ) → after n ≡ marks n + reaches_in_entries n (map file_view entries) (map known_version versions))
          → AreFilesRead layout contents ppn (map file_view entries) (map known_version versions) marks after
      read_the_same layout contents ppn marks after were marked =
          files_in_order (map file_view entries) (map (λ t. (t.place, turn_view t)) turns)
          (map (λ p. (p.place, placed_known p)) read) (map known_version versions) turns_viewed placed_viewed
          versions_viewed aligned layout contents ppn marks after
          (subst (λ vs. AreFilesRead layout contents ppn
          (map {A = ℕ × SpecFileEntry} (λ t. t.1) (map (λ t. (t.place, turn_view t)) turns)) vs marks
          after) (sym seen_versions)
          (subst (λ es. AreFilesRead layout contents ppn es (map placed_known read) marks after) (sym seen_turns) were))
          marked
