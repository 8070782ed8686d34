-- How many bits are set, and that a version reaches no more blocks than it costs.
use Rattle.std.proofs.Common.{◌≡◌, ℕ, suc, zero, ◌+◌, ◌*◌, ◌<◌, ◌≤◌, Bool, true, false, cond, List, [], ◌∷◌, ◌++◌}
use Rattle.std.proofs.Common.{length, flat_map, refl, sym, ap, subst, ◌∙◌, arith, eqb, length-append, ltb, ltb-false}
use Rattle.std.proofs.lemmas.Bool.Decides.{nat_tests}
use Rattle.std.proofs.lemmas.List.{length-map}
use Rattle.std.specs.List.{AllByRecursion}
use Rattle.blockdisk.specs.Common.{Contents}
use Rattle.spec_image.specs.Maps.{entries, times, total, sum_over}
use Rattle.spec_image.specs.Costs.{cost_of_blocks, version_cost}
use Rattle.spec_image.specs.Files.{Place}
use Rattle.spec_image.specs.Table.{table_bit, fixed}
use Rattle.spec_image.specs.Retrieval.{SpecPrime, SpecRun, Extension, IsRun, AreExtensions, all_runs, run_blocks}
use Rattle.spec_image.specs.Retrieval.{count_up}
use Rattle.spec_image.specs.Retrieval.{IsRetrieved}
use Rattle.spec_image.specs.Stands.{StoredFile, StoredDirectory, DiskMap, blocks_of_file, reaches_in_file}
use Rattle.spec_image.specs.Stands.{reaches_in_directory, reaches, IsVersion, HasMap}
use Rattle.spec_image.specs.Counts.{sum_below, size_of_file, size_of_directory, size_of_map}
use Rattle.spec_image.proofs.Lists.{times-cons}

-- Sums below a number.

below_same : (f g : ℕ → ℕ) (k : ℕ) → ((n : ℕ) → n < k → f n ≡ g n) → sum_below f k ≡ sum_below g k
below_same f g zero h = refl
below_same f g (suc k) h = let a = h k (omega arith) in let r = below_same f g k (λ n l. h n (omega arith)) in
    omega arith

pub below_sum : (f g : ℕ → ℕ) (k : ℕ) → sum_below (λ n. f n + g n) k ≡ sum_below f k + sum_below g k
below_sum f g zero = refl
below_sum f g (suc k) = let r = below_sum f g k in omega arith

pub below_none : (k : ℕ) → sum_below (λ n. 0) k ≡ 0
below_none zero = refl
below_none (suc k) = let r = below_none k in omega arith

-- one number counts once, if it is below the bound
below_one : (x k : ℕ) → sum_below (λ n. cond (eqb n x) 1 0) k ≡ cond (ltb x k) 1 0
below_one x zero = grind (arith, nat_tests)
below_one x (suc k) = let r = below_one x k in grind (arith, nat_tests)

surely_below : (x b : ℕ) (xs : List ℕ) → ((n : ℕ) → b ≤ n → times n (x ∷ xs) ≡ 0) → (c : Bool) → ltb x b ≡ c
    → cond {A = ℕ} c 1 0 ≡ 1
surely_below x b xs h true e = refl
surely_below x b xs h false e = let z = h x (ltb-false x b e) in absurd (omega (arith, times-cons x xs))

-- numbers below a bound, counted one by one, are as many as there are
pub below_times : (b : ℕ) (xs : List ℕ) → ((n : ℕ) → b ≤ n → times n xs ≡ 0) → sum_below (λ n. times n xs) b ≡ length xs
below_times b [] h = below_none b
below_times b (x ∷ xs) h =
    let r = below_times b xs (λ n l. let e = h n l in omega arith) in
    let one = below_one x b in
    let s = below_sum (λ n. cond (eqb n x) 1 0) (λ n. times n xs) b in
    let i : cond {A = ℕ} (ltb x b) 1 0 ≡ 1 = surely_below x b xs h (ltb x b) refl in
    omega arith

-- the same for what is in a map
below_each : {K X : Type 0} (b : ℕ) (g : ℕ → X → ℕ) (f : X → ℕ)
    → ((x : X) → ((n : ℕ) → b ≤ n → g n x ≡ 0) → sum_below (λ n. g n x) b ≡ f x) → (es : List (K × X))
    → ((n : ℕ) → b ≤ n → total (λ e. g n e.1) es ≡ 0) → sum_below (λ n. total (λ e. g n e.1) es) b
    ≡ total (λ e. f e.1) es
below_each b g f one [] h = below_none b
below_each b g f one (e ∷ es) h =
    let a = one e.1 (λ n l. let z = h n l in omega arith) in
    let r = below_each b g f one es (λ n l. let z = h n l in omega arith) in
    let s = below_sum (λ n. g n e.1) (λ n. total (λ x. g n x.1) es) b in
    omega arith

below_directory : (b : ℕ) (d : StoredDirectory) → ((n : ℕ) → b ≤ n → reaches_in_directory n d ≡ 0)
    → sum_below (λ n. reaches_in_directory n d) b ≡ size_of_directory d
below_directory b d h =
    let a = below_times b d.chain (λ n l. let z = h n l in omega arith) in
    let r = below_each b reaches_in_file size_of_file (λ f i. below_times b (blocks_of_file f) i) (entries d.files)
    (λ n l. let z = h n l in omega arith) in
    let s = below_sum (λ n. times n d.chain) (λ n. sum_over (reaches_in_file n) d.files) b in
    omega arith

below_map : (b : ℕ) (m : DiskMap) → ((n : ℕ) → b ≤ n → reaches n m ≡ 0) → sum_below (λ n. reaches n m) b ≡ size_of_map m
below_map b m h =
    let a = below_times b m.chain (λ n l. let z = h n l in omega arith) in
    let r = below_each b reaches_in_directory size_of_directory (λ d i. below_directory b d i) (entries m.directories)
    (λ n l. let z = h n l in omega arith) in
    let s = below_sum (λ n. times n m.chain) (λ n. sum_over (reaches_in_directory n) m.directories) b in
    omega arith

-- The bits that are set are the fixed blocks, and as many more as the map reaches.
pub set_bits : (size : ℕ) (contents : Contents) (m : DiskMap) → HasMap size contents m
    → sum_below (λ n. table_bit size contents n) size ≡ sum_below (fixed size) size + size_of_map m
set_bits size contents m s =
    below_same (λ n. table_bit size contents n) (λ n. fixed size n + reaches n m) size (λ n l. s.marked.bits n)
    ∙ below_sum (fixed size) (λ n. reaches n m) size
    ∙ ap (λ k. sum_below (fixed size) size + k) (below_map size m s.marked.inside)

-- What a version costs.

pub runs-le : (rs : List SpecRun) → AllByRecursion IsRun rs → length rs ≤ length (flat_map run_blocks rs)
runs-le [] a = omega arith
runs-le (r ∷ rs) a = let e = length-append (run_blocks r) (flat_map run_blocks rs) in let h = runs-le rs a.1 in
    let c = counted r.0 r.1 in let p = a.0.0 in omega arith
  where
    counted : (k n : ℕ) → length (count_up k n) ≡ k
    counted zero n = refl
    counted (suc k) n = ap suc (counted k (suc n))

joined : (rs ss : List SpecRun) → AllByRecursion IsRun rs → AllByRecursion IsRun ss → AllByRecursion IsRun (rs ++ ss)
joined [] ss x y = y
joined (r ∷ rs) ss x y = (x.0, joined rs ss x.1 y)

runs_of_extensions : (contents : Contents) (es : List Extension) → AreExtensions contents es
    → AllByRecursion IsRun (all_runs es)
runs_of_extensions contents [] a = tt
runs_of_extensions contents (e ∷ es) a = joined e.1 (all_runs es) a.4 (runs_of_extensions contents es a.5)

extensions-le : (contents : Contents) (es : List Extension) → AreExtensions contents es
    → 126 * length es ≤ length (all_runs es) + 125
extensions-le contents [] a = omega arith
extensions-le contents (e ∷ []) a = let s = length-append e.1 [] in let h = a.1 in omega arith
extensions-le contents (e ∷ next ∷ es) a =
    let s = length-append e.1 (all_runs (next ∷ es)) in
    let f : length e.1 ≡ 126 = a.3 (omega arith) in
    let r = extensions-le contents (next ∷ es) a.5 in
    omega arith

-- A version that is retrieved reaches no more blocks than it costs.
pub retrieved-le-cost : (layout : ℕ) (contents : Contents) (p : SpecPrime) (prime : ℕ) (extensions blocks : List ℕ)
    → IsRetrieved layout contents p prime extensions blocks → 1 + length extensions + length blocks
    ≤ cost_of_blocks (length blocks)
retrieved-le-cost layout contents p prime extensions blocks d =
    let all : length (d.runs ++ all_runs d.further)
    ≤ length blocks = subst (λ ns. length (d.runs ++ all_runs d.further) ≤ length ns) d.blocks_are
    (runs-le (d.runs ++ all_runs d.further)
    (joined d.runs (all_runs d.further) d.are_runs (runs_of_extensions contents d.further d.extended))) in
    let parts = length-append d.runs (all_runs d.further) in
    let count : length d.further ≡ length extensions = sym (length-map d.further (λ e. e.0))
    ∙ ap length d.extensions_are in
    let few = extensions-le contents d.further d.extended in
    bounded (length d.further) (length d.runs) (length (all_runs d.further)) (length blocks)
    (1 + length extensions + length blocks) d.full few (omega arith) (omega arith)
  where
    bounded : (e r a n k : ℕ) → (0 < e → r ≡ 112) → 126 * e ≤ a + 125 → r + a ≤ n → k ≡ 1 + e + n → k ≤ cost_of_blocks n
    bounded zero r a n k f h g i = omega arith
    bounded (suc e) r a n k f h g i = let q : r ≡ 112 = f (omega arith) in omega arith

pub size-le-cost : (layout : ℕ) (contents : Contents) (place : Place) (f : StoredFile)
    → IsVersion layout contents place f → size_of_file f ≤ version_cost (length f.file.body)
size-le-cost layout contents place f is =
    let a = retrieved-le-cost layout contents _ f.prime f.extensions f.blocks is.retrieved in
    let b = length-append f.extensions f.blocks in
    let c = is.retrieved.enough in
    subst (λ n. size_of_file f ≤ cost_of_blocks n) c (omega arith)
