-- What the files cost is no more than twice as many blocks as the disk has.
use Rattle.std.proofs.Common.{◌≡◌, ℕ, zero, suc, ◌*◌, ◌≤◌, ⊎_elim, List, [], ◌∷◌, length, arith, length-append}
use Rattle.std.specs.List.{AllByRecursion}
use Rattle.spec_image.specs.Common.{sum_below, SpecFileEntry, times, total}
use Rattle.spec_image.proofs.Common.{below_sum, below_times}
use Rattle.alloctab.specs.Common.{IsTable, bit}
use Rattle.changeset.specs.Common.{some_or_none}
use Rattle.volume.specs.Common.{CurrentVersion, CurrentDirectory, CurrentMap, blocks_reached, reaches_in_entries}
use Rattle.volume.specs.Common.{reaches_in_known, known_reaches, cost_of_version, cost_of_directory, cost_of_known}
use Rattle.volume.specs.Common.{IsWholeDirectory, IsWholeMap}
use Rattle.volume.proofs.common.TableBits.{bit_few}
use Rattle.volume.proofs.common.RetiredVersions.{set_inside}

pub below_few : (f : ℕ → ℕ) (k : ℕ) → ((n : ℕ) → f n ≤ 1) → sum_below f k ≤ k
below_few f zero few = omega arith
below_few f (suc k) few = let a = few k in let r = below_few f k few in omega arith

-- a version costs its blocks, and no more ribs than it has blocks
version_counted : (size prime : ℕ) (v : CurrentVersion)
    → ((n : ℕ) → size ≤ n → times n (blocks_reached prime v.version) ≡ 0)
    → cost_of_version v ≤ 2 * sum_below (λ n. times n (blocks_reached prime v.version)) size
version_counted size prime v none =
    let all = below_times size (blocks_reached prime v.version) none in
    let parts = length-append v.version.ribs v.version.blocks in
    omega arith

entries_counted : (size : ℕ) (es : List SpecFileEntry) (vs : List CurrentVersion) → length vs ≡ length es
    → ((n : ℕ) → size ≤ n → reaches_in_entries n es vs ≡ 0)
    → total cost_of_version vs ≤ 2 * sum_below (λ n. reaches_in_entries n es vs) size
entries_counted size [] [] same none = omega arith
entries_counted size [] (v ∷ vs) same none = absurd (omega arith)
entries_counted size (e ∷ es) [] same none = omega arith
entries_counted size (e ∷ es) (v ∷ vs) same none =
    let one = version_counted size e.1 v (λ n past. let all = none n past in omega arith) in
    let rest = entries_counted size es vs (omega arith) (λ n past. let all = none n past in omega arith) in
    let parts = below_sum (λ n. times n (blocks_reached e.1 v.version)) (λ n. reaches_in_entries n es vs) size in
    omega arith

directory_counted : (size : ℕ) (d : CurrentDirectory) → IsWholeDirectory size d
    → ((n : ℕ) → size ≤ n → reaches_in_known n d ≡ 0)
    → cost_of_directory d ≤ 2 * sum_below (λ n. reaches_in_known n d) size
directory_counted size d whole none =
    let chain = below_times size d.chain.blocks (λ n past. let all = none n past in omega arith) in
    let entries = entries_counted size d.chain.entries d.versions whole.aligned
    (λ n past. let all = none n past in omega arith) in
    let parts = below_sum (λ n. times n d.chain.blocks) (λ n. reaches_in_entries n d.chain.entries d.versions) size in
    omega arith

directories_counted : (size : ℕ) (ds : List CurrentDirectory) → AllByRecursion (IsWholeDirectory size) ds
    → ((n : ℕ) → size ≤ n → total (reaches_in_known n) ds ≡ 0)
    → total cost_of_directory ds ≤ 2 * sum_below (λ n. total (reaches_in_known n) ds) size
directories_counted size [] all none = omega arith
directories_counted size (d ∷ ds) all none =
    let one = directory_counted size d all.0 (λ n past. let sum = none n past in omega arith) in
    let rest = directories_counted size ds all.1 (λ n past. let sum = none n past in omega arith) in
    let parts = below_sum (λ n. reaches_in_known n d) (λ n. total (reaches_in_known n) ds) size in
    omega arith

pub known_few : (size : ℕ) (k : CurrentMap) → IsWholeMap size k → IsTable k.table
    → cost_of_known k.master k.directories ≤ 2 * size
known_few size k whole sound =
    let master = below_times size k.master.blocks (λ n past. let none = past_none n past in omega arith) in
    let directories = directories_counted size k.directories whole.each
    (λ n past. let none = past_none n past in omega arith) in
    let parts = below_sum (λ n. times n k.master.blocks) (λ n. total (reaches_in_known n) k.directories) size in
    let few = below_few (λ n. known_reaches n k.master k.directories) size
    (λ n. let bits = whole.bits n in let one = bit_few k.table n in omega arith) in
    omega arith
  where
    past_none : (n : ℕ) → size ≤ n → known_reaches n k.master k.directories ≡ 0
    past_none n past = ⊎_elim
        (λ some. absurd (let below = set_inside k.table n sound some in let same = whole.size_is in omega arith))
        (λ clear. let bits = whole.bits n in omega arith) (some_or_none (bit k.table n))
