-- What a directory is charged for: each directory has one charge, and it is the same by the files.
use Rattle.std.proofs.Common.{◌≡◌, ◌↔◌, ℕ, zero, suc, ◌+◌, ◌^◌, ◌%◌, ◌<◌, Bool, true, false, IsTrue, List, [], ◌∷◌}
use Rattle.std.proofs.Common.{length, take, slice_get, Option, Some, None, IfSome, IsSome, is_some, option_map, refl}
use Rattle.std.proofs.Common.{sym, ap, subst, ◌∙◌, arith, eqb, not}
use Rattle.std.proofs.lemmas.Bool.Decides.{nat_tests}
use Rattle.std.specs.Cmp.{nat_cmp_total}
use Rattle.std.specs.FinMap.{nat_cmp-IsAntisymmetric}
use Rattle.std.specs.FinMap.Entries.{find}
use Rattle.std.specs.Ordering.{nat_cmp}
use Rattle.words36.specs.declared.names.FileName.{FileName}
use Rattle.blockdisk.specs.Common.{DiskState}
use Rattle.spec_image.specs.Common.{directory_cost, version_cost, SpecMasterEntry, master_word, File, Files, get, size}
use Rattle.spec_image.specs.Common.{sum_over, total, growth, StoredDirectory, directory_of, entry_of}
use Rattle.spec_image.proofs.Common.{some_same, some_none, find_first, find_tail_none, get-map_values}
use Rattle.spec_image.proofs.Common.{get-from_entries, size-map_values, name_total, name_exact, quota_bound}
use Rattle.volume.specs.Common.{begin_cost, entries_with, version_before, IsBefore, IsDirectoryOf, writes_in, used_by}
use Rattle.volume.specs.Common.{charge_answer, quota_in_files, quota_in_word, IsCharged, IsOver, CurrentMap}
use Rattle.volume.specs.Common.{CurrentDirectory, Before, IsNamed, AgreesOnDirectory, IsWholeDirectory, cost_before}
use Rattle.volume.specs.Common.{cost_of_version, cost_of_directory, MemoryMap, creates, IsWholeMemory, IsSoundMemory}
use Rattle.volume.specs.Common.{RestsAt}
use Rattle.volume.specs.declared.charge.Charge.{Charge}
use Rattle.volume.specs.declared.pending.PendingKind.{PendingKind}
use Rattle.volume.proofs.common.Answers.{Holds, rest_holds, directory_none}
use Rattle.volume.proofs.BeginVersion.Beginnings.{same_directory, one_before}
use Rattle.volume.proofs.common.CostLaws.{size_named, directory_costs}
use Rattle.volume.proofs.VolumeStart.FoundDirectories.{all_at}
use Rattle.volume.proofs.common.Lookups.{first_place}
use Rattle.volume.proofs.common.UsedBlocks.{element_at}
use Rattle.spec_image.specs.Costs as costs

-- One charge.

-- the place at which a key comes first
pub first_once : (es : List SpecMasterEntry) (i j k : ℕ) (v w : ℕ × ℕ) → slice_get es i ≡ Some (k, v)
    → find nat_cmp k (take i es) ≡ None → slice_get es j ≡ Some (k, w) → find nat_cmp k (take j es) ≡ None → i ≡ j
first_once [] i j k v w is before is' before' = cc
first_once (e ∷ es) zero zero k v w is before is' before' = refl
first_once (e ∷ es) zero (suc j) k v w is before is' before' =
    let same : e ≡ (k, v) = some_same is in
    absurd (some_none (sym (find_first nat_cmp_total e (take j es))
    ∙ ap (λ (x : SpecMasterEntry). find nat_cmp x.0 (e ∷ take j es)) same ∙ before'))
first_once (e ∷ es) (suc i) zero k v w is before is' before' =
    let same : e ≡ (k, w) = some_same is' in
    absurd (some_none (sym (find_first nat_cmp_total e (take i es))
    ∙ ap (λ (x : SpecMasterEntry). find nat_cmp x.0 (e ∷ take i es)) same ∙ before))
first_once (e ∷ es) (suc i) (suc j) k v w is before is' before' =
    ap suc (first_once es i j k v w is (find_tail_none nat_cmp e (take i es) k before) is'
    (find_tail_none nat_cmp e (take j es) k before'))

pub charged_once : (c : MemoryMap) (ppn : ℕ) (a b : Charge) → IsCharged c ppn a → IsCharged c ppn b → a ≡ b
charged_once c ppn a b is is' =
    let places = first_once c.known.master.entries is.place is'.place ppn is.word is'.word is.there.is is.there.before
    is'.there.is is'.there.before in
    let word : is.word ≡ is'.word = some_same (sym is.there.found ∙ is'.there.found) in
    let directory : is.directory ≡ is'.directory = some_same (sym is.directory_at
    ∙ ap (slice_get c.known.directories) places ∙ is'.directory_at) in
    let quota : a.quota ≡ b.quota = is.quota_is ∙ ap (λ (w : ℕ × ℕ). w.0 % 2 ^ 18) word ∙ sym is'.quota_is in
    let used : a.used ≡ b.used = is.used_is ∙ ap (λ (d : CurrentDirectory). used_by c d ppn) directory
    ∙ sym is'.used_is in
    λ i. record { quota = quota i; used = used i }

-- a directory that is found has one
pub charged_found : (size : ℕ) (c : MemoryMap) → IsWholeMemory size c → (ppn : ℕ) (word : ℕ × ℕ)
    → find nat_cmp ppn c.known.master.entries ≡ Some word → (charge : Charge) × IsCharged c ppn charge
charged_found size c whole ppn word found =
    let place = first_place nat_cmp_total nat_cmp-IsAntisymmetric c.known.master.entries ppn word found in
    let within = place.1.within in
    let aligned = whole.map.aligned in
    let directory = element_at c.known.directories place.0 (omega arith) in (
      record { quota = word.0 % 2 ^ 18; used = used_by c directory.0 ppn },
      record {
        place = place.0;
        word = word;
        there = place.1;
        directory = directory.0;
        directory_at = directory.1;
        quota_is = refl;
        used_is = refl;
      },
    )

-- The files' charge.

pub word_quota : (p q : ℕ) → q < 262144 → master_word p q % 2 ^ 18 ≡ q
word_quota p q few = omega arith

-- what a directory costs with `more` entries
stored_cost : (size_of_disk : ℕ) (k : CurrentDirectory) (s : StoredDirectory) → AgreesOnDirectory k s
    → IsWholeDirectory size_of_disk k → (more : ℕ)
    → directory_cost (size (directory_of s).files + more)
    + sum_over (λ f. version_cost (length f.body)) (directory_of s).files
    ≡ directory_cost (length k.chain.entries + more) + total cost_of_version k.versions
stored_cost size_of_disk k s known whole more =
    let count = size_named name_total name_exact (λ f. f.prime) s.files k.chain.entries known.names
    whole.chain.each_once in
    let many : size (directory_of s).files
    ≡ length k.chain.entries = size-map_values name_total (λ f. f.file) s.files ∙ count in
    let all : costs.cost_of_directory (directory_of s) ≡ cost_of_directory k = directory_costs size_of_disk k s known
    whole in
    let chain = whole.chain.counted in
    let own = ap directory_cost many in
    let grown = ap (λ n. directory_cost (n + more)) many in
    omega arith

-- The directory with a number, in memory and in terms of the files.
module _ (s : DiskState) (k : CurrentMap) (files : Files File) (holds : Holds s k files) (ppn : ℕ) where
  files_at : get files ppn ≡ option_map directory_of (get holds.map.directories ppn)
  files_at = ap (λ f. get f ppn) (sym holds.files_are)
      ∙ get-map_values nat_cmp_total directory_of holds.map.directories ppn

  entry_at : option_map entry_of (get holds.map.directories ppn) ≡ find nat_cmp ppn k.master.entries
  entry_at = sym (get-map_values nat_cmp_total entry_of holds.map.directories ppn)
      ∙ ap (λ m. get m ppn) holds.held.known.names ∙ get-from_entries nat_cmp_total k.master.entries ppn

  stored_word : (stored : StoredDirectory) (word : ℕ × ℕ) → get holds.map.directories ppn ≡ Some stored
      → find nat_cmp ppn k.master.entries ≡ Some word → word.0 % 2 ^ 18 ≡ stored.quota
  stored_word stored word at found =
      let fits = quota_bound holds.map.layout stored.quota (holds.held.stands.mapped.directories ppn stored at).quota in
      let entry : entry_of stored ≡ word = some_same (sym (ap (option_map entry_of) at) ∙ entry_at ∙ found) in
      ap (λ (w : ℕ × ℕ). w.0 % 2 ^ 18) (sym entry) ∙ word_quota stored.protection stored.quota fits

  -- both have the same quota
  pub quota_same : quota_in_word (find nat_cmp ppn k.master.entries) ≡ quota_in_files (get files ppn)
  quota_same = by (get holds.map.directories ppn) refl (find nat_cmp ppn k.master.entries) refl
    where
      by : (o : Option StoredDirectory) → get holds.map.directories ppn ≡ o → (f : Option (ℕ × ℕ))
          → find nat_cmp ppn k.master.entries ≡ f
          → quota_in_word (find nat_cmp ppn k.master.entries) ≡ quota_in_files (get files ppn)
      by None at None found = ap quota_in_word found
          ∙ sym (ap quota_in_files (files_at ∙ ap (option_map directory_of) at))
      by None at (Some word) found = absurd (some_none (sym found ∙ sym entry_at ∙ ap (option_map entry_of) at))
      by (Some stored) at None found = absurd (some_none (sym (ap (option_map entry_of) at) ∙ entry_at ∙ found))
      by (Some stored) at (Some word) found = ap quota_in_word found ∙ stored_word stored word at found
          ∙ sym (ap quota_in_files (files_at ∙ ap (option_map directory_of) at))

module _ (d : DiskState) (c : MemoryMap) (sound : IsSoundMemory d c false) (honest : d.honest) (files : Files File)
    (rest : RestsAt d files) (ppn : ℕ) where
  holds_here : Holds d c.known files
  holds_here = rest_holds d c false sound honest refl files rest

  pub charged_is : (charge : Charge) → IsCharged c ppn charge
      → charge_answer (get files ppn) (total (creates ppn) c.pending) (total (writes_in ppn) c.pending) ≡ Some charge
  charged_is charge is =
      let creations = total (creates ppn) c.pending in
      let writing = total (writes_in ppn) c.pending in
      let found = holds_here.held.known.each is.place (ppn, is.word) is.directory is.there.is is.directory_at in
      let stored = found.0 in
      let whole : IsWholeDirectory d.size is.directory = all_at (IsWholeDirectory d.size) c.known.directories is.place
      is.directory sound.whole.map.each is.directory_at in
      let quota : stored.quota ≡ charge.quota = sym (stored_word d c.known files holds_here ppn stored is.word found.1
      is.there.found) ∙ sym is.quota_is in
      let used : directory_cost (size (directory_of stored).files + creations)
      + sum_over (λ f. version_cost (length f.body)) (directory_of stored).files + writing ≡ charge.used = ap (λ n. n
      + writing) (stored_cost d.size is.directory stored found.2 whole creations) ∙ sym is.used_is in
      ap (λ o. charge_answer o creations writing) (files_at d c.known files holds_here ppn
      ∙ ap (option_map directory_of) found.1)
      ∙ (λ i. Some (record { quota = quota i; used = used i }))

  pub charged_there : IsSome (get files ppn) → (charge : Charge) × IsCharged c ppn charge
  charged_there there = by (find nat_cmp ppn c.known.master.entries) refl
    where
      by : (o : Option (ℕ × ℕ)) → find nat_cmp ppn c.known.master.entries ≡ o
          → (charge : Charge) × IsCharged c ppn charge
      by None none = absurd (let absent = ap is_some (directory_none d c.known files holds_here ppn none) in
          let both : true ≡ false = sym there ∙ absent in cc)
      by (Some word) found = charged_found d.size c sound.whole ppn word found

  pub quota_is : quota_in_word (find nat_cmp ppn c.known.master.entries) ≡ quota_in_files (get files ppn)
  quota_is = quota_same d c.known files holds_here ppn

  -- the answer for any number, if there is a directory or not
  pub charge_said : (answer : Option Charge) → IfSome answer (IsCharged c ppn)
      → ((answer ≡ None) ↔ (find nat_cmp ppn c.known.master.entries ≡ None))
      → answer ≡ charge_answer (get files ppn) (total (creates ppn) c.pending) (total (writes_in ppn) c.pending)
  charge_said None charged none =
      let absent = directory_none d c.known files holds_here ppn (none.0 refl) in
      sym (ap (λ o. charge_answer o (total (creates ppn) c.pending) (total (writes_in ppn) c.pending)) absent)
  charge_said (Some charge) charged none = sym (charged_is charge charged)

-- What the quota leaves.

pub over_charge : (c : MemoryMap) (ppn more : ℕ) (charge : Charge) → IsCharged c ppn charge → (over : Bool)
    → (IsTrue over ↔ ((0 < charge.quota) × (charge.quota < charge.used + more)))
    → (IsTrue over ↔ IsOver c ppn more)
over_charge c ppn more charge is over says = (
  λ yes. let both = says.0 yes in (charge, is, both.0, both.1),
  λ any. says.1 (subst (λ (x : Charge). (0 < x.quota) × (x.quota < x.used + more))
      (charged_once c ppn any.0 charge any.1 is) (any.2, any.3)),
)

-- The same of the directory and the version that a caller knows.
module _ {size : ℕ} {c : MemoryMap} (whole : IsWholeMemory size c) (ppn : ℕ) (name : FileName) {o : Option ℕ}
    (is : IsBefore c ppn name o) (d : CurrentDirectory) (there : IsDirectoryOf c ppn d) (old : Before)
    (named : IsNamed d name old) where
  before_is : version_before c.live o ≡ old
  before_is =
      let same = same_directory size c ppn there.0 there.1 is.directory d whole is.there there.2.is there.3 in
      let whole_d = all_at (IsWholeDirectory size) c.known.directories there.0 d whole.map.each there.3 in
      one_before d name (version_before c.live o) old
      (subst (λ (x : CurrentDirectory). IsNamed x name (version_before c.live o)) same is.named) named
      whole_d.chain.each_once

  -- a version that is begun
  pub begun_over : (kind : PendingKind) (place : ℕ) (v : ℕ × ℕ) (e : CurrentDirectory) (cost : ℕ)
      → slice_get c.known.master.entries place ≡ Some (ppn, v) → slice_get c.known.directories place ≡ Some e
      → cost ≡ begin_cost kind (entries_with c e ppn) (version_before c.live o) → (over : Bool)
      → (IsTrue over ↔ IsOver c ppn cost) → (IsTrue over ↔ IsOver c ppn (begin_cost kind (entries_with c d ppn) old))
  begun_over kind place v e cost at e_at costs over says =
      let same : d ≡ e = same_directory size c ppn place v d e whole there at e_at in
      let path : cost ≡ begin_cost kind (entries_with c d ppn) old = costs
      ∙ (λ i. begin_cost kind (entries_with c (sym same i) ppn) (before_is i)) in
      subst (λ (n : ℕ). IsTrue over ↔ IsOver c ppn n) path says

  -- a file that comes into the directory of another number
  pub moved_over : (to : ℕ) (t : CurrentDirectory) → IsDirectoryOf c to t
      → (place : ℕ) (v : ℕ × ℕ) (e : CurrentDirectory)
      (cost more : ℕ) → slice_get c.known.master.entries place ≡ Some (to, v)
      → slice_get c.known.directories place ≡ Some e → cost ≡ cost_before (version_before c.live o)
      → more ≡ growth (entries_with c e to) → (over : Bool) → (IsTrue over ↔ IsOver c to (cost + more))
      → (IsTrue over ↔ IsOver c to (cost_before old + growth (entries_with c t to)))
  moved_over to t there_t place v e cost more at e_at costs grows over says =
      let same : t ≡ e = same_directory size c to place v t e whole there_t at e_at in
      let cost_is : cost ≡ cost_before old = costs ∙ ap cost_before before_is in
      let more_is : more ≡ growth (entries_with c t to) = grows
      ∙ (λ i. growth (entries_with c (sym same i) to)) in
      subst (λ (n : ℕ). IsTrue over ↔ IsOver c to n) (λ i. cost_is i + more_is i) says

-- numbers that a test finds different are not the same
pub told_apart : (a b : ℕ) → eqb a b ≡ false → a ≡ b → ⊥
told_apart a b = grind (arith, nat_tests)

-- the answer, if it has to be another directory
pub apart_over : (ppn to : ℕ) (over : Bool) (P : Type 0) → eqb ppn to ≡ false → (IsTrue over ↔ P)
    → ((not over ≡ false) ↔ ((ppn ≡ to → ⊥) × P))
apart_over ppn to over P apart says = (
  λ is. (told_apart ppn to apart, says.0 (by over is)),
  λ both. ap not (says.1 both.1),
)
  where
    by : (b : Bool) → not b ≡ false → b ≡ true
    by true is = refl
    by false is = cc
