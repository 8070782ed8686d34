-- What a map costs: bounds by which no sum of costs overflows, that it is what its files cost, and that no
-- more blocks are in use than are booked.
use Rattle.std.proofs.Common.{◌≡◌, ℕ, zero, suc, ◌+◌, ◌*◌, ◌<◌, ◌≤◌, List, [], ◌∷◌, map, length, get_or, take, drop}
use Rattle.std.proofs.Common.{refl, ap, ◌∙◌, arith, ◌^◌}
use Rattle.std.specs.List.{AllByRecursion}
use Rattle.spec_image.specs.Common.{directory_cost, InSpace, times, total, IsVolumeSize, most_blocks}
use Rattle.spec_image.proofs.Common.{below_times, each_times}
use Rattle.alloctab.specs.Common.{TableState}
use Rattle.volume.specs.Common.{CurrentVersion, CurrentDirectory, IsWholeVersion, IsWholeDirectory, cost_of_version}
use Rattle.volume.specs.Common.{cost_of_directory}
use Rattle.volume.proofs.common.Lookups.{total-append, total-push, viewed_more, viewed_split}
use Rattle.volume.proofs.common.CostBounds.{below_few}

-- Bounds.

none_above : (size : ℕ) (blocks : List ℕ) → AllByRecursion (InSpace size) blocks → (n : ℕ) → size ≤ n
    → times n blocks ≡ 0
none_above size blocks inside n above = by (times n blocks) refl
  where
    by : (k : ℕ) → times n blocks ≡ k → times n blocks ≡ 0
    by zero is = is
    by (suc k) is = let there = (each_times (InSpace size) blocks n inside (omega arith)).below in
        absurd (omega arith)

-- a chain has no more blocks than the disk
pub chain_short : (size : ℕ) (blocks : List ℕ) → AllByRecursion (InSpace size) blocks → ((n : ℕ) → times n blocks ≤ 1)
    → length blocks ≤ size
chain_short size blocks inside once =
    let few = below_few (λ n. times n blocks) size once in
    let all = below_times size blocks (none_above size blocks inside) in
    omega arith

entries_few : (entries blocks : ℕ) → blocks ≡ directory_cost entries → blocks ≤ 131072 → entries ≤ 5505024
entries_few entries blocks is few = omega arith

pub version_few : (v : CurrentVersion) → IsWholeVersion v → cost_of_version v ≤ 16515
version_few v whole = let counted = whole.counted in let few = whole.few in omega arith

versions_few : (vs : List CurrentVersion) → AllByRecursion IsWholeVersion vs
    → total cost_of_version vs ≤ 16515 * length vs
versions_few [] all = omega arith
versions_few (v ∷ vs) all = let a = version_few v all.0 in let r = versions_few vs all.1 in omega arith

pub directory_few : (size : ℕ) (d : CurrentDirectory) → IsVolumeSize size → IsWholeDirectory size d
    → cost_of_directory d ≤ 100000000000
directory_few size d volume whole =
    let large = volume.large in
    let short = chain_short size d.chain.blocks whole.inside whole.chain.blocks_once in
    let entries = entries_few (length d.chain.entries) (length d.chain.blocks) whole.chain.counted (omega arith) in
    let versions = versions_few d.versions whole.versions in
    let aligned = whole.aligned in
    omega arith

directories_few : (size : ℕ) (ds : List CurrentDirectory) → IsVolumeSize size
    → AllByRecursion (IsWholeDirectory size) ds
    → total cost_of_directory ds ≤ 100000000000 * length ds
directories_few size [] volume all = omega arith
directories_few size (d ∷ ds) volume all = let a = directory_few size d volume all.0 in
    let r = directories_few size ds volume all.1 in omega arith

pub few_blocks : (v : CurrentVersion) → IsWholeVersion v → length v.version.blocks ≤ most_blocks
few_blocks v whole = let counted = whole.counted in let few = whole.few in omega arith

-- a map's cost is far from overflow, up to each directory
pub booked_fits : (size : ℕ) (master : List ℕ) (entries front : ℕ) (ds : List CurrentDirectory) → IsVolumeSize size
    → AllByRecursion (InSpace size) master → ((n : ℕ) → times n master ≤ 1)
    → length master ≡ directory_cost entries → length ds ≡ entries → AllByRecursion (IsWholeDirectory size) ds
    → front ≤ total cost_of_directory ds → length master + front < 2 ^ 63
booked_fits size master entries front ds volume inside once counted aligned all part =
    let large = volume.large in
    let short = chain_short size master inside once in
    let few = entries_few entries (length master) counted (omega arith) in
    let each = directories_few size ds volume all in
    omega arith

-- Sums in a loop.

module _ {A B : Type 0} (view : A → B) (f : B → ℕ) (xs : List A) (i : ℕ) (x : A) (below : i < length xs) (is : x
    ≡ get_or xs i x) where
  pub sum_more : total f (map view (take (i + 1) xs)) ≡ total f (map view (take i xs)) + f (view x)
  sum_more = ap (total f) (viewed_more view xs i x below is) ∙ total-push f (map view (take i xs)) (view x)

  pub sum_within : total f (map view (take i xs)) + f (view x) ≤ total f (map view xs)
  sum_within =
      let split = ap (total f) (viewed_split view xs i x below is) in
      let parts = total-append f (map view (take i xs)) (view x ∷ map view (drop (i + 1) xs)) in
      omega arith

-- what was booked is booked, and more
pub booked_more : (t now new : TableState) (a b n : ℕ) → now ≡ record t { booked = a }
    → new ≡ record now { booked = now.booked + n } → a + n ≡ b → new ≡ record t { booked = b }
booked_more t now new a b n first second sum = second ∙ (λ i. record (first i) { booked = (first i).booked + n })
    ∙ (λ i. record t { booked = sum i })
