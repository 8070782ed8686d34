-- A prime block is that of one entry, and of one current version: each block is in one place.
use Rattle.std.proofs.Common.{◌≡◌, ℕ, zero, suc, ◌+◌, ◌<◌, ◌≤◌, cond, Bool, true, false, if◌then◌else◌, List, [], ◌∷◌}
use Rattle.std.proofs.Common.{◌++◌, length, Option, Some, None, slice_index_or, refl, sym, ap, ◌∙◌, arith, ⊎_elim}
use Rattle.std.proofs.lemmas.Bool.{cases_eq}
use Rattle.std.specs.Cmp.{nat_cmp_total}
use Rattle.std.specs.List.{AllByRecursion}
use Rattle.std.specs.Ordering.{nat_cmp, eq_by_cmp}
use Rattle.std.specs.FinMap.{nat_cmp-IsAntisymmetric}
use Rattle.std.specs.FinMap.Entries.{find}
use Rattle.words36.specs.declared.names.FileName.{FileName}
use Rattle.spec_image.specs.Common.{SpecMasterEntry, SpecFileEntry, name_cmp, total, times}
use Rattle.spec_image.proofs.Common.{some_same, some_none, tied, times-append, name_total, name_exact}
use Rattle.alloctab.specs.Common.{bit}
use Rattle.changeset.specs.Common.{times_head}
use Rattle.volume.specs.Common.{CurrentVersion, CurrentDirectory, blocks_reached, reaches_in_entries, reaches_in_known}
use Rattle.volume.specs.Common.{IsWholeDirectory, prime_in, MemoryMap, slot, current_reaches, IsWholeMemory, prime_at}
use Rattle.volume.specs.declared.live.LiveVersion.{LiveVersion}
use Rattle.volume.proofs.common.TableBits.{bit_few}
use Rattle.volume.proofs.PinVersion.Pins.{entries_within, total_at}

-- One current version.

-- two slots count in a sum
pub both_at : {X : Type 0} (f : Option X → ℕ) → f None ≡ 0 → (slots : List (Option X)) (k l : ℕ) → (k ≡ l → ⊥)
    → f (slice_index_or slots k None) + f (slice_index_or slots l None) ≤ total f slots
both_at f none [] k l apart = omega arith
both_at f none (o ∷ slots) zero zero apart = absurd (apart refl)
both_at f none (o ∷ slots) zero (suc l) apart = let rest = total_at f none slots l in omega arith
both_at f none (o ∷ slots) (suc k) zero apart = let rest = total_at f none slots k in omega arith
both_at f none (o ∷ slots) (suc k) (suc l) apart = let rest = both_at f none slots k l (λ same. apart (ap suc same)) in
    omega arith

-- a version that is current reaches its prime block
current_there : (live : List (Option LiveVersion)) (key n : ℕ) (v : LiveVersion) → slot live key ≡ Some v
    → v.is_current ≡ true → v.at ≡ n → 0 < current_reaches n (slot live key)
current_there live key n v there current at =
    let here = ap (current_reaches n) there
    ∙ ap (λ (b : Bool). if b then times n (blocks_reached v.at v.version) else 0) current in
    let head = times_head n v.at (v.version.ribs ++ v.version.blocks) (sym at) in
    omega arith

-- no block occurs in two places of the directories
pub reached_once : (size : ℕ) (c : MemoryMap) → IsWholeMemory size c → (n : ℕ)
    → total (reaches_in_known n) c.known.directories ≤ 1
reached_once size c whole n =
    let bits = whole.map.bits n in
    let few = bit_few c.known.table n in
    omega arith

pub one_key : (size : ℕ) (c : MemoryMap) → IsWholeMemory size c → (key key' : ℕ) (v v' : LiveVersion)
    → slot c.live key ≡ Some v → slot c.live key' ≡ Some v' → v.is_current ≡ true → v'.is_current ≡ true
    → v.at ≡ v'.at → key ≡ key'
one_key size c whole key key' v v' there there' current current' same = ⊎_elim
    (λ (is : key ≡ key'). is)
    (λ apart.
    let both = both_at (current_reaches v'.at) refl c.live key key' apart in
    let one = current_there c.live key v'.at v there current same in
    let other = current_there c.live key' v'.at v' there' current' refl in
    let all = whole.current v'.at in
    let most = entries_within v'.at c.known.directories in
    let once = reached_once size c whole v'.at in
    absurd (omega arith)) (cases_eq key key')

-- The prime block of a current version is set; it occurs in no other one, and is no data block of its own.
module _ (size : ℕ) (c : MemoryMap) (whole : IsWholeMemory size c) (key : ℕ) (v : LiveVersion)
    (there : slot c.live key ≡ Some v) (current : v.is_current ≡ true) where
  current_once : total (current_reaches v.at) c.live ≤ 1
  current_once =
      let all = whole.current v.at in
      let most = entries_within v.at c.known.directories in
      let once = reached_once size c whole v.at in
      omega arith

  reaches_of : (l : ℕ) (u : LiveVersion) → slot c.live l ≡ Some u → u.is_current ≡ true
      → current_reaches v.at (slot c.live l) ≡ times v.at (blocks_reached u.at u.version)
  reaches_of l u at of_file = ap (current_reaches v.at) at
      ∙ ap (λ (b : Bool). if b then times v.at (blocks_reached u.at u.version) else 0) of_file

  pub first_set : 0 < bit c.known.table v.at
  first_set =
      let here = current_there c.live key v.at v there current refl in
      let part = total_at (current_reaches v.at) refl c.live key in
      let all = whole.current v.at in
      let most = entries_within v.at c.known.directories in
      let bits = whole.map.bits v.at in
      omega arith

  pub first_elsewhere : (l : ℕ) (u : LiveVersion) → slot c.live l ≡ Some u → u.is_current ≡ true → (key ≡ l → ⊥)
      → times v.at (blocks_reached u.at u.version) ≡ 0
  first_elsewhere l u at of_file apart =
      let both = both_at (current_reaches v.at) refl c.live key l apart in
      let one = current_there c.live key v.at v there current refl in
      let other = reaches_of l u at of_file in
      let once = current_once in
      omega arith

  pub first_no_data : (l : ℕ) (u : LiveVersion) → slot c.live l ≡ Some u → u.is_current ≡ true
      → times v.at u.version.blocks ≡ 0
  first_no_data l u at of_file = ⊎_elim
      (λ (same : key ≡ l).
      let is : u ≡ v = some_same (sym at ∙ ap (slot c.live) (sym same) ∙ there) in
      let blocks = ap (λ (x : LiveVersion). times v.at x.version.blocks) is in
      let part = total_at (current_reaches v.at) refl c.live key in
      let here = reaches_of key v there current in
      let head = times_head v.at v.at (v.version.ribs ++ v.version.blocks) refl in
      let parts = times-append v.at v.version.ribs v.version.blocks in
      let once = current_once in
      omega arith)
      (λ apart.
      let none = first_elsewhere l u at of_file apart in
      let parts = times-append v.at u.version.ribs u.version.blocks in
      omega arith) (cases_eq key l)

-- One entry.

module _ (n : ℕ) where
  -- an entry reaches its prime block
  first_reaches : (e : SpecFileEntry) (v : CurrentVersion) → e.1 ≡ n → 0 < times n (blocks_reached e.1 v.version)
  first_reaches e v at = let head = times_head n e.1 (v.version.ribs ++ v.version.blocks) (sym at) in omega arith

  name_reaches : (es : List SpecFileEntry) (vs : List CurrentVersion) (name : FileName) → length vs ≡ length es
      → find name_cmp name es ≡ Some n → 0 < reaches_in_entries n es vs
  name_reaches [] vs name same is = absurd (some_none (sym is))
  name_reaches (e ∷ es) [] name same is = absurd (omega arith)
  name_reaches (e ∷ es) (v ∷ vs) name same is = by (eq_by_cmp name_cmp name e.0) is
      (name_reaches es vs name (omega arith))
    where
      by : (b : Bool) → cond b (Some e.1) (find name_cmp name es) ≡ Some n
          → (find name_cmp name es ≡ Some n → 0 < reaches_in_entries n es vs)
          → 0 < reaches_in_entries n (e ∷ es) (v ∷ vs)
      by true at later = let here = first_reaches e v (some_same at) in omega arith
      by false at later = let rest = later at in omega arith

  one_name : (es : List SpecFileEntry) (vs : List CurrentVersion) (name name' : FileName) → length vs ≡ length es
      → reaches_in_entries n es vs ≤ 1 → find name_cmp name es ≡ Some n → find name_cmp name' es ≡ Some n → name ≡ name'
  one_name [] vs name name' same once is is' = absurd (some_none (sym is))
  one_name (e ∷ es) [] name name' same once is is' = absurd (omega arith)
  one_name (e ∷ es) (v ∷ vs) name name' same once is is' = by (eq_by_cmp name_cmp name e.0)
      (eq_by_cmp name_cmp name' e.0) refl refl is is' (one_name es vs name name' (omega arith) (omega arith))
    where
      by : (b b' : Bool) → eq_by_cmp name_cmp name e.0 ≡ b → eq_by_cmp name_cmp name' e.0 ≡ b'
          → cond b (Some e.1) (find name_cmp name es) ≡ Some n → cond b' (Some e.1) (find name_cmp name' es) ≡ Some n
          → (find name_cmp name es ≡ Some n → find name_cmp name' es ≡ Some n → name ≡ name') → name ≡ name'
      by true true t t' at at' later = tied name_total name_exact name e.0 t
          ∙ sym (tied name_total name_exact name' e.0 t')
      by true false t t' at at' later = absurd (let here = first_reaches e v (some_same at) in
          let rest = name_reaches es vs name' (omega arith) at' in omega arith)
      by false true t t' at at' later = absurd (let here = first_reaches e v (some_same at') in
          let rest = name_reaches es vs name (omega arith) at in omega arith)
      by false false t t' at at' later = later at at'

  place_reaches : (size : ℕ) (es : List SpecMasterEntry) (ds : List CurrentDirectory) (ppn : ℕ) (name : FileName)
      → AllByRecursion (IsWholeDirectory size) ds → prime_in es ds ppn name ≡ Some n → 0 < total (reaches_in_known n) ds
  place_reaches size [] ds ppn name all is = absurd (some_none (sym is))
  place_reaches size (e ∷ es) [] ppn name all is = absurd (some_none (sym is))
  place_reaches size (e ∷ es) (d ∷ ds) ppn name all is = by (eq_by_cmp nat_cmp ppn e.0) is
      (place_reaches size es ds ppn name all.1)
    where
      by : (b : Bool) → cond b (find name_cmp name d.chain.entries) (prime_in es ds ppn name) ≡ Some n
          → (prime_in es ds ppn name ≡ Some n → 0 < total (reaches_in_known n) ds)
          → 0 < total (reaches_in_known n) (d ∷ ds)
      by true at later = let here = name_reaches d.chain.entries d.versions name all.0.aligned at in omega arith
      by false at later = let rest = later at in omega arith

  places_one : (size : ℕ) (es : List SpecMasterEntry) (ds : List CurrentDirectory) (ppn ppn' : ℕ)
      (name name' : FileName)
      → AllByRecursion (IsWholeDirectory size) ds → total (reaches_in_known n) ds ≤ 1
      → prime_in es ds ppn name ≡ Some n → prime_in es ds ppn' name' ≡ Some n → (ppn ≡ ppn') × (name ≡ name')
  places_one size [] ds ppn ppn' name name' all once is is' = absurd (some_none (sym is))
  places_one size (e ∷ es) [] ppn ppn' name name' all once is is' = absurd (some_none (sym is))
  places_one size (e ∷ es) (d ∷ ds) ppn ppn' name name' all once is is' = by (eq_by_cmp nat_cmp ppn e.0)
      (eq_by_cmp nat_cmp ppn' e.0) refl refl is is' (places_one size es ds ppn ppn' name name' all.1 (omega arith))
    where
      by : (b b' : Bool) → eq_by_cmp nat_cmp ppn e.0 ≡ b → eq_by_cmp nat_cmp ppn' e.0 ≡ b'
          → cond b (find name_cmp name d.chain.entries) (prime_in es ds ppn name) ≡ Some n
          → cond b' (find name_cmp name' d.chain.entries) (prime_in es ds ppn' name') ≡ Some n
          → (prime_in es ds ppn name ≡ Some n → prime_in es ds ppn' name' ≡ Some n → (ppn ≡ ppn') × (name ≡ name'))
          → (ppn ≡ ppn') × (name ≡ name')
      by true true t t' at at' later = (
        tied nat_cmp_total nat_cmp-IsAntisymmetric ppn e.0 t
            ∙ sym (tied nat_cmp_total nat_cmp-IsAntisymmetric ppn' e.0 t'),
        one_name d.chain.entries d.versions name name' all.0.aligned (omega arith) at at',
      )
      by true false t t' at at' later =
          absurd (let here = name_reaches d.chain.entries d.versions name all.0.aligned at in
          let rest = place_reaches size es ds ppn' name' all.1 at' in omega arith)
      by false true t t' at at' later =
          absurd (let here = name_reaches d.chain.entries d.versions name' all.0.aligned at' in
          let rest = place_reaches size es ds ppn name all.1 at in omega arith)
      by false false t t' at at' later = later at at'

pub one_place : (size : ℕ) (c : MemoryMap) → IsWholeMemory size c → (ppn ppn' : ℕ) (name name' : FileName) (n : ℕ)
    → prime_at c ppn name ≡ Some n → prime_at c ppn' name' ≡ Some n → (ppn ≡ ppn') × (name ≡ name')
one_place size c whole ppn ppn' name name' n is is' =
    places_one n size c.known.master.entries c.known.directories ppn ppn' name name' whole.map.each
    (reached_once size c whole n) is is'
