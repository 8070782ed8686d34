-- What the directories cost with the entries that are being created in them, when one version begins or ends.
use Rattle.std.proofs.Common.{◌≡◌, ℕ, zero, suc, ◌+◌, ◌-◌, ◌<◌, ◌≤◌, ◌==◌, ◌^◌, Bool, true, false, if◌then◌else◌}
use Rattle.std.proofs.Common.{List, [], ◌∷◌, length, slice_get, Option, Some, None, refl, sym, ap, ◌∙◌, arith}
use Rattle.std.proofs.Common.{slice_set}
use Rattle.std.proofs.lemmas.Bool.Decides.{nat_tests}
use Rattle.std.specs.List.{AllByRecursion}
use Rattle.std.specs.Ordering.{nat_cmp}
use Rattle.std.specs.Cmp.{nat_cmp_total}
use Rattle.std.specs.FinMap.Entries.{find}
use Rattle.spec_image.specs.Common.{directory_cost, SpecMasterEntry, EachOnce, total, growth}
use Rattle.spec_image.proofs.Common.{some_same, some_none, find_first, find_tail_none}
use Rattle.volume.specs.declared.pending.PendingVersion.{PendingVersion}
use Rattle.volume.specs.Common.{CurrentVersion, CurrentDirectory, IsWholeDirectory, cost_of_version, cost_of_directory}
use Rattle.volume.specs.Common.{is_creation, MemoryMap, pending_at, pending_cost, creates, growths, IsWholeMemory}
use Rattle.volume.proofs.BeginVersion.Counts.{creates_few}
use Rattle.volume.proofs.common.LiveTotals.{total_updated}

-- The place of a key, each once.

-- what isn't found is at no place
pub absent_at : (es : List SpecMasterEntry) (i k : ℕ) (v : ℕ × ℕ) → slice_get es i ≡ Some (k, v)
    → find nat_cmp k es ≡ None
    → ⊥
absent_at [] i k v is none = cc
absent_at (e ∷ es) zero k v is none =
    let same : e ≡ (k, v) = some_same is in
    some_none (sym (find_first nat_cmp_total e es) ∙ ap (λ (x : SpecMasterEntry). find nat_cmp x.0 (e ∷ es)) same
    ∙ none)
absent_at (e ∷ es) (suc i) k v is none = absent_at es i k v is (find_tail_none nat_cmp e es k none)

pub one_place : (es : List SpecMasterEntry) (i j k : ℕ) (v w : ℕ × ℕ) → EachOnce nat_cmp es
    → slice_get es i ≡ Some (k, v)
    → slice_get es j ≡ Some (k, w) → i ≡ j
one_place [] i j k v w once is is' = cc
one_place (e ∷ es) zero zero k v w once is is' = refl
one_place (e ∷ es) zero (suc j) k v w once is is' =
    let same : e ≡ (k, v) = some_same is in
    absurd (absent_at es j k w is' (ap (λ (x : SpecMasterEntry). find nat_cmp x.0 es) (sym same) ∙ once.0))
one_place (e ∷ es) (suc i) zero k v w once is is' =
    let same : e ≡ (k, w) = some_same is' in
    absurd (absent_at es i k v is (ap (λ (x : SpecMasterEntry). find nat_cmp x.0 es) (sym same) ∙ once.0))
one_place (e ∷ es) (suc i) (suc j) k v w once is is' = let rest = one_place es i j k v w once.1 is is' in omega arith

-- How the cost of directories grows.

-- what one directory costs more
abbrev pub share : List (Option PendingVersion) → ℕ → CurrentDirectory → ℕ
share pending ppn d = directory_cost (length d.chain.entries + total (creates ppn) pending)
    - directory_cost (length d.chain.entries)

pub cost_rises : (n m : ℕ) → directory_cost n ≤ directory_cost (n + m)
cost_rises n m = grind (arith, nat_tests)

share_more : (n m : ℕ) → directory_cost (n + (m + 1)) - directory_cost n
    ≡ (directory_cost (n + m) - directory_cost n) + growth (n + m)
share_more n m =
    let a = cost_rises n m in
    let b = cost_rises (n + m) 1 in
    let c : directory_cost (n + (m + 1)) ≡ directory_cost (n + m + 1) = ap directory_cost (omega arith) in
    omega arith

-- an entry that was to come is there
pub came : (n m : ℕ) → directory_cost (n + m) - directory_cost n + growth (n + m) + directory_cost n
    ≡ directory_cost (n + 1 + m) - directory_cost (n + 1) + directory_cost (n + 1)
came n m =
    let a = cost_rises n m in
    let b = cost_rises (n + m) 1 in
    let c = cost_rises (n + 1) m in
    let same : directory_cost (n + 1 + m) ≡ directory_cost (n + m + 1) = ap directory_cost (omega arith) in
    omega arith

-- the directory of this entry is another
pub set_growths : (pending : List (Option PendingVersion)) (es : List SpecMasterEntry) (ds : List CurrentDirectory)
    (i ppn : ℕ) (word : ℕ × ℕ) (d d' : CurrentDirectory) → slice_get es i ≡ Some (ppn, word) → slice_get ds i ≡ Some d
    → growths pending es (slice_set ds i d') + share pending ppn d ≡ growths pending es ds + share pending ppn d'
set_growths pending [] ds i ppn word d d' there is = absurd (some_none (sym there))
set_growths pending (e ∷ es) [] i ppn word d d' there is = absurd (some_none (sym is))
set_growths pending (e ∷ es) (x ∷ ds) zero ppn word d d' there is =
    let key = ap (λ (z : SpecMasterEntry). share pending z.0 d') (some_same there) in
    let was : share pending e.0 x ≡ share pending ppn d = (λ j. share pending (some_same there j).0 (some_same is j)) in
    omega arith
set_growths pending (e ∷ es) (x ∷ ds) (suc i) ppn word d d' there is = let rest = set_growths pending
    es ds i ppn word d d' there is in omega arith

module _ (old new : List (Option PendingVersion)) (k : ℕ) (others : (q : ℕ) → (q ≡ k → ⊥)
    → total (creates q) new ≡ total (creates q) old) where
  share_other : (q : ℕ) (d : CurrentDirectory) → (q ≡ k → ⊥) → share new q d ≡ share old q d
  share_other q d other = ap (λ (n : ℕ). directory_cost (length d.chain.entries + n)
      - directory_cost (length d.chain.entries)) (others q other)

  growths_same : (es : List SpecMasterEntry) (ds : List CurrentDirectory) → find nat_cmp k es ≡ None
      → growths new es ds ≡ growths old es ds
  growths_same [] ds none = refl
  growths_same (e ∷ es) [] none = refl
  growths_same (e ∷ es) (d ∷ ds) none =
      let here = share_other e.0 d (λ same. some_none (sym (find_first nat_cmp_total e es)
      ∙ ap (λ (q : ℕ). find nat_cmp q (e ∷ es)) same ∙ none)) in
      let rest = growths_same es ds (find_tail_none nat_cmp e es k none) in
      λ i. here i + rest i

  -- only the directory of this key
  growths_one : (es : List SpecMasterEntry) (ds : List CurrentDirectory) (i : ℕ) (v : ℕ × ℕ) (d : CurrentDirectory)
      → EachOnce nat_cmp es → slice_get es i ≡ Some (k, v) → slice_get ds i ≡ Some d
      → growths new es ds + share old k d ≡ growths old es ds + share new k d
  growths_one [] ds i v d once is at = cc
  growths_one (e ∷ es) [] i v d once is at = cc
  growths_one (e ∷ es) (x ∷ ds) zero v d once is at =
      let same : e ≡ (k, v) = some_same is in
      let is_d : x ≡ d = some_same at in
      let rest = growths_same es ds (ap (λ (y : SpecMasterEntry). find nat_cmp y.0 es) (sym same) ∙ once.0) in
      let now : share new e.0 x ≡ share new k d = λ j. share new (same j).0 (is_d j) in
      let was : share old e.0 x ≡ share old k d = λ j. share old (same j).0 (is_d j) in
      omega arith
  growths_one (e ∷ es) (x ∷ ds) (suc i) v d once is at =
      let here = share_other e.0 x (λ same. absent_at es i k v is (ap (λ (q : ℕ). find nat_cmp q es) (sym same)
      ∙ once.0)) in
      let rest = growths_one es ds i v d once.1 is at in
      omega arith

-- One list has a version more than the other, under this key.
pub record Adds (less more : List (Option PendingVersion)) (key : ℕ) (p : PendingVersion) : Type 0 where
  pub vacant : pending_at less key ≡ None
  pub here : pending_at more key ≡ Some p
  pub others : (k : ℕ) → (k ≡ key → ⊥) → pending_at more k ≡ pending_at less k

module _ (less more : List (Option PendingVersion)) (key : ℕ) (p : PendingVersion) (adds : Adds less more key p) where
  pub added_total : (f : Option PendingVersion → ℕ) → f None ≡ 0 → total f more ≡ total f less + f (Some p)
  added_total f none =
      let all = total_updated f none less more key (Some p) adds.here adds.others in
      let here = ap f adds.vacant in
      omega arith

  created_here : total (creates p.prime.ppn) more ≡ total (creates p.prime.ppn) less + (if is_creation p then 1 else 0)
  created_here = added_total (creates p.prime.ppn) refl
      ∙ ap (λ (n : ℕ). total (creates p.prime.ppn) less + n) (by (is_creation p) p.prime.ppn)
    where
      by : (b : Bool) (q : ℕ) → ◌≡◌ {A = ℕ} (if b then (if q == q then 1 else 0) else 0) (if b then 1 else 0)
      by true q = grind (arith, nat_tests)
      by false q = refl

  pub created_elsewhere : (q : ℕ) → (q ≡ p.prime.ppn → ⊥) → total (creates q) more ≡ total (creates q) less
  created_elsewhere q other = added_total (creates q) refl
      ∙ ap (λ (n : ℕ). total (creates q) less + n) (by (is_creation p) p.prime.ppn (λ same. other (sym same)))
      ∙ omega arith
    where
      by : (b : Bool) (ppn : ℕ) → (ppn ≡ q → ⊥) → ◌≡◌ {A = ℕ} (if b then (if ppn == q then 1 else 0) else 0) 0
      by true ppn apart = grind (arith, nat_tests)
      by false ppn apart = refl

  -- one that is created is counted
  pub created_once : is_creation p ≡ true → total (creates p.prime.ppn) more ≡ total (creates p.prime.ppn) less + 1
  created_once new = created_here ∙ ap (λ (b : Bool). total (creates p.prime.ppn) less + (if b then 1 else 0)) new

  -- one that is no new entry leaves the directories alone
  pub kept_growths : is_creation p ≡ false → (es : List SpecMasterEntry) (ds : List CurrentDirectory)
      → growths more es ds ≡ growths less es ds
  kept_growths old = each
    where
      same : (q : ℕ) → total (creates q) more ≡ total (creates q) less
      same q = added_total (creates q) refl
          ∙ ap (λ (b : Bool). total (creates q) less + (if b then (if p.prime.ppn == q then 1 else 0) else 0)) old
          ∙ omega arith

      each : (es : List SpecMasterEntry) (ds : List CurrentDirectory) → growths more es ds ≡ growths less es ds
      each [] ds = refl
      each (e ∷ es) [] = refl
      each (e ∷ es) (d ∷ ds) = λ i. (directory_cost (length d.chain.entries + same e.0 i)
          - directory_cost (length d.chain.entries)) + each es ds i

  pub added_growths : (es : List SpecMasterEntry) (ds : List CurrentDirectory) (i : ℕ) (v : ℕ × ℕ)
      (d : CurrentDirectory)
      → EachOnce nat_cmp es → slice_get es i ≡ Some (p.prime.ppn, v) → slice_get ds i ≡ Some d
      → growths more es ds ≡ growths less es ds
      + (if is_creation p then growth (length d.chain.entries + total (creates p.prime.ppn) less) else 0)
  added_growths es ds i v d once is at = by (is_creation p) created_here
    where
      by : (b : Bool) → total (creates p.prime.ppn) more ≡ total (creates p.prime.ppn) less + (if b then 1 else 0)
          → growths more es ds ≡ growths less es ds
          + (if b then growth (length d.chain.entries + total (creates p.prime.ppn) less) else 0)
      by true count =
          let one = growths_one less more p.prime.ppn created_elsewhere es ds i v d once is at in
          let now : share more p.prime.ppn d
          ≡ directory_cost (length d.chain.entries + (total (creates p.prime.ppn) less + 1))
          - directory_cost (length d.chain.entries) =
          ap (λ (n : ℕ). directory_cost (length d.chain.entries + n) - directory_cost (length d.chain.entries)) count in
          let grown = share_more (length d.chain.entries) (total (creates p.prime.ppn) less) in
          omega arith
      by false count =
          let one = growths_one less more p.prime.ppn created_elsewhere es ds i v d once is at in
          let now : share more p.prime.ppn d ≡ share less p.prime.ppn d =
          ap (λ (n : ℕ). directory_cost (length d.chain.entries + n) - directory_cost (length d.chain.entries)) (count
          ∙ omega arith) in
          omega arith

-- There are fewer entries than are booked.

pub created_cost : (ppn : ℕ) (pending : List (Option PendingVersion))
    → total (creates ppn) pending ≤ total pending_cost pending
created_cost ppn [] = omega arith
created_cost ppn (None ∷ os) = let rest = created_cost ppn os in omega arith
created_cost ppn (Some p ∷ os) = let rest = created_cost ppn os in let one = creates_few ppn p in omega arith

versions_cost : (vs : List CurrentVersion) → length vs ≤ total cost_of_version vs
versions_cost [] = omega arith
versions_cost (v ∷ vs) = let rest = versions_cost vs in omega arith

entries_cost : (size : ℕ) (ds : List CurrentDirectory) (i : ℕ) (d : CurrentDirectory)
    → AllByRecursion (IsWholeDirectory size) ds → slice_get ds i ≡ Some d
    → length d.chain.entries ≤ total cost_of_directory ds
entries_cost size [] i d all at = cc
entries_cost size (x ∷ ds) zero d all at =
    let is_d : x ≡ d = some_same at in
    let same = ap (λ (y : CurrentDirectory). length y.chain.entries) is_d in
    let aligned = all.0.aligned in
    let few = versions_cost x.versions in
    omega arith
entries_cost size (x ∷ ds) (suc i) d all at = let rest = entries_cost size ds i d all.1 at in omega arith

pub entries_few : (size : ℕ) (c : MemoryMap) (ppn i : ℕ) (d : CurrentDirectory) → IsWholeMemory size c
    → slice_get c.known.directories i ≡ Some d → length d.chain.entries + total (creates ppn) c.pending < 2 ^ 63
entries_few size c ppn i d whole at =
    let few = entries_cost size c.known.directories i d whole.map.each at in
    let new = created_cost ppn c.pending in
    let booked = whole.booked in
    let fits = whole.fits in
    omega arith
