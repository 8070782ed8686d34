-- Where the prime block of a place is among the directories, and how it stays if they change.
use Rattle.std.proofs.Common.{◌≡◌, ℕ, zero, suc, cond, Bool, true, false, List, [], ◌∷◌, ◌++◌, take, slice_get}
use Rattle.std.proofs.Common.{slice_set, Option, Some, None, is_none, refl, sym, ap, ◌∙◌, inl, inr}
use Rattle.std.specs.Cmp.{nat_cmp_total}
use Rattle.std.specs.Ordering.{nat_cmp, eq_by_cmp}
use Rattle.std.specs.FinMap.{nat_cmp-IsAntisymmetric}
use Rattle.std.specs.FinMap.Entries.{find}
use Rattle.words36.specs.declared.names.FileName.{FileName}
use Rattle.spec_image.specs.Common.{SpecMasterEntry, name_cmp}
use Rattle.spec_image.proofs.Common.{some_same, some_none, at_itself, not_tied}
use Rattle.alloctab.specs.Common.{TableState}
use Rattle.directory.specs.Common.{StandsAt}
use Rattle.retrieval.specs.declared.prime.Prime.{Prime}
use Rattle.volume.specs.declared.error.CallError.{CallError}
use Rattle.volume.specs.declared.pending.PendingKind.{PendingKind}
use Rattle.volume.specs.Common.{IsBegun, CurrentMap, CurrentDirectory, Before, IsNamed, prime_in, MemoryMap, is_create}
use Rattle.volume.specs.Common.{IsNoFile, prime_at}

-- An answer that a test decides on.

chosen : {A : Type 0} (b : Bool) (x y : A) → b ≡ true → cond b x y ≡ x
chosen true x y is = refl
chosen false x y is = cc

passed : {A : Type 0} (b : Bool) (x y : A) → b ≡ false → cond b x y ≡ y
passed true x y is = cc
passed false x y is = refl

-- nothing is found before an entry: its test fails, and nothing is found after it
unfound : {A : Type 0} (b : Bool) (w : A) (x : Option A) → cond b (Some w) x ≡ None → (b ≡ false) × (x ≡ None)
unfound true w x none = absurd (some_none none)
unfound false w x none = (refl, none)

-- The directory at the place of its number has the entry.
found_at : (es : List SpecMasterEntry) (ds : List CurrentDirectory) (place ppn : ℕ) (name : FileName) (w : ℕ
    × ℕ) (d : CurrentDirectory) → slice_get es place ≡ Some (ppn, w) → find nat_cmp ppn (take place es) ≡ None
    → slice_get ds place ≡ Some d
    → prime_in es ds ppn name ≡ find name_cmp name d.chain.entries
found_at [] ds place ppn name w d is before at = absurd (some_none (sym is))
found_at (e ∷ es) [] place ppn name w d is before at = absurd (some_none (sym at))
found_at (e ∷ es) (x ∷ ds) zero ppn name w d is before at =
    let key : e.0 ≡ ppn = ap (λ (y : SpecMasterEntry). y.0) (some_same is) in
    chosen (eq_by_cmp nat_cmp ppn e.0) (find name_cmp name x.chain.entries) (prime_in es ds ppn name)
    (ap (eq_by_cmp nat_cmp ppn) key ∙ at_itself nat_cmp_total ppn)
    ∙ ap (λ (y : CurrentDirectory). find name_cmp name y.chain.entries) (some_same at)
found_at (e ∷ es) (x ∷ ds) (suc place) ppn name w d is before at =
    let first = unfound (eq_by_cmp nat_cmp ppn e.0) e.1 (find nat_cmp ppn (take place es)) before in
    passed (eq_by_cmp nat_cmp ppn e.0) (find name_cmp name x.chain.entries) (prime_in es ds ppn name) first.0
    ∙ found_at es ds place ppn name w d is first.1 at

pub prime_of_place : (es : List SpecMasterEntry) (ds : List CurrentDirectory) (place ppn : ℕ) (name : FileName) (w : ℕ
    × ℕ) (d : CurrentDirectory) → StandsAt nat_cmp es ppn w place → slice_get ds place ≡ Some d
    → prime_in es ds ppn name ≡ find name_cmp name d.chain.entries
prime_of_place es ds place ppn name w d there at = found_at es ds place ppn name w d there.is there.before at

-- A place has no prime block if its directory doesn't exist,
pub prime_nowhere : (es : List SpecMasterEntry) (ds : List CurrentDirectory) (ppn : ℕ) (name : FileName)
    → find nat_cmp ppn es ≡ None → prime_in es ds ppn name ≡ None
prime_nowhere [] ds ppn name none = refl
prime_nowhere (e ∷ es) [] ppn name none = refl
prime_nowhere (e ∷ es) (d ∷ ds) ppn name none =
    let first = unfound (eq_by_cmp nat_cmp ppn e.0) e.1 (find nat_cmp ppn es) none in
    passed (eq_by_cmp nat_cmp ppn e.0) (find name_cmp name d.chain.entries) (prime_in es ds ppn name) first.0
    ∙ prime_nowhere es ds ppn name first.1

-- nor if its directory has no such name.
pub prime_of_no_file : (c : MemoryMap) (ppn : ℕ) (name : FileName) (error : CallError) → IsNoFile c ppn name error
    → prime_at c ppn name ≡ None
prime_of_no_file c ppn name error (inl absent) =
    prime_nowhere c.known.master.entries c.known.directories ppn name absent.0
prime_of_no_file c ppn name error (inr there) =
    prime_of_place c.known.master.entries c.known.directories there.0 ppn name there.1 there.3 there.2 there.4
    ∙ there.5

-- The table says nothing of places.
pub primes_table : (c c' : MemoryMap) (t : TableState) → c'.known ≡ record c.known { table = t }
    → (ppn : ℕ) (name : FileName) → prime_at c' ppn name ≡ prime_at c ppn name
primes_table c c' t same ppn name = ap (λ (k : CurrentMap). prime_in k.master.entries k.directories ppn name) same

-- If a version begins that is no creation, its place has a file, before and after.
pub begun_named : (c c' : MemoryMap) (key : ℕ) (kind : PendingKind) (prime : Prime) → IsBegun c c' key kind prime
    → is_create kind ≡ false → prime_at c' prime.ppn prime.file ≡ None → ⊥
begun_named c c' key kind prime begins old none = by begins.old begins.named (sym begins.is_new ∙ old)
  where
    by : (prior : Before) → IsNamed begins.directory prime.file prior → is_none prior ≡ false → ⊥
    by None named is = cc
    by (Some v) named is =
        some_none (sym named.1.found
        ∙ sym (prime_of_place c.known.master.entries c.known.directories begins.there.0 prime.ppn prime.file
        begins.there.1 begins.directory begins.there.2 begins.there.3)
        ∙ sym (primes_table c c' _ begins.known prime.ppn prime.file) ∙ none)

-- With directories after the others each place has what it had.
pub prime_stays : (es fs : List SpecMasterEntry) (ds gs : List CurrentDirectory) (ppn : ℕ) (name : FileName) (n : ℕ)
    → prime_in es ds ppn name ≡ Some n → prime_in (es ++ fs) (ds ++ gs) ppn name ≡ Some n
prime_stays [] fs ds gs ppn name n is = absurd (some_none (sym is))
prime_stays (e ∷ es) fs [] gs ppn name n is = absurd (some_none (sym is))
prime_stays (e ∷ es) fs (d ∷ ds) gs ppn name n is = by (eq_by_cmp nat_cmp ppn e.0) is
    (prime_stays es fs ds gs ppn name n)
  where
    by : (b : Bool) → cond b (find name_cmp name d.chain.entries) (prime_in es ds ppn name) ≡ Some n
        → (prime_in es ds ppn name ≡ Some n → prime_in (es ++ fs) (ds ++ gs) ppn name ≡ Some n)
        → cond b (find name_cmp name d.chain.entries) (prime_in (es ++ fs) (ds ++ gs) ppn name) ≡ Some n
    by true at later = at
    by false at later = later at

-- One directory is another, under its number.

-- the places of other numbers have what they had
pub prime_elsewhere : (es : List SpecMasterEntry) (ds : List CurrentDirectory) (place ppn other : ℕ) (name : FileName)
    (w : ℕ
    × ℕ) (d : CurrentDirectory) → slice_get es place ≡ Some (ppn, w) → (other ≡ ppn → ⊥)
    → prime_in es (slice_set ds place d) other name ≡ prime_in es ds other name
prime_elsewhere [] ds place ppn other name w d is differ = absurd (some_none (sym is))
prime_elsewhere (e ∷ es) [] place ppn other name w d is differ = refl
prime_elsewhere (e ∷ es) (x ∷ ds) zero ppn other name w d is differ =
    let key : e.0 ≡ ppn = ap (λ (y : SpecMasterEntry). y.0) (some_same is) in
    let fails : eq_by_cmp nat_cmp other e.0
    ≡ false = not_tied nat_cmp_total nat_cmp-IsAntisymmetric other e.0 (λ same. differ (same ∙ key)) in
    passed (eq_by_cmp nat_cmp other e.0) (find name_cmp name d.chain.entries) (prime_in es ds other name) fails
    ∙ sym (passed (eq_by_cmp nat_cmp other e.0) (find name_cmp name x.chain.entries) (prime_in es ds other name) fails)
prime_elsewhere (e ∷ es) (x ∷ ds) (suc place) ppn other name w d is differ =
    ap (cond (eq_by_cmp nat_cmp other e.0) (find name_cmp name x.chain.entries))
    (prime_elsewhere es ds place ppn other name w d is differ)

-- and those of its number what the new one has
pub prime_set : (es : List SpecMasterEntry) (ds : List CurrentDirectory) (place ppn : ℕ) (name : FileName) (w : ℕ
    × ℕ) (d d' : CurrentDirectory) → StandsAt nat_cmp es ppn w place → slice_get ds place ≡ Some d
    → prime_in es (slice_set ds place d') ppn name ≡ find name_cmp name d'.chain.entries
prime_set es ds place ppn name w d d' there at = prime_of_place es (slice_set ds place d') place ppn name w d' there
    (set_there ds place d d' at)
  where
    set_there : (xs : List CurrentDirectory) (i : ℕ) (x y : CurrentDirectory) → slice_get xs i ≡ Some x
        → slice_get (slice_set xs i y) i ≡ Some y
    set_there [] i x y is = absurd (some_none (sym is))
    set_there (z ∷ xs) zero x y is = refl
    set_there (z ∷ xs) (suc i) x y is = set_there xs i x y is
