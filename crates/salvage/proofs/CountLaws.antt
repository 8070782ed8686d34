-- Blocks that are counted one after the other.
use Rattle.std.proofs.Common.{◌≡◌, ℕ, zero, suc, ◌+◌, ◌<◌, ◌≤◌, List, [], ◌∷◌, ◌++◌, length, get_or, slice_index, take}
use Rattle.std.proofs.Common.{replicate, refl, sym, ap, subst, ◌∙◌, arith, ⊎_elim, Option, None, Some, IfSome, IfNone}
use Rattle.std.specs.List.{AllByRecursion}
use Rattle.std.proofs.lemmas.Bool.{cases_eq, cases_lt}
use Rattle.std.proofs.lemmas.List.{take_more, take_all, get_or-replicate, get_or_past, length-replicate}
use Rattle.spec_image.specs.Common.{InSpace, times}
use Rattle.spec_image.proofs.Common.{all_append, each_times, times-append, total-append}
use Rattle.changeset.specs.Common.{times_tail}
use Rattle.volume.proofs.common.MarkedBlocks.{times_parts}
use Rattle.salvage.specs.Common.{CountTo, FitsDisk, blocks_of, claims}
use Rattle.salvage.specs.declared.saved.SavedFile.{SavedFile}

-- Counting adds these numbers to whatever was counted.
abbrev pub Adds : List ℕ → List ℕ → (ℕ → ℕ) → Type 0
Adds old new g = (f : ℕ → ℕ) → CountTo old f → CountTo new (λ m. f m + g m)

pub adds_none : (counts : List ℕ) (g : ℕ → ℕ) → ((m : ℕ) → g m ≡ 0) → Adds counts counts g
adds_none counts g none f so_far m = let was = so_far m in let zero = none m in omega arith

pub adds_on : (old now new : List ℕ) (g h k : ℕ → ℕ) → Adds old now g → Adds now new h
    → ((m : ℕ) → k m ≡ g m + h m) → Adds old new k
adds_on old now new g h k first second sum f so_far m =
    let both = second (λ m. f m + g m) (first f so_far) m in
    let all = sum m in omega arith

pub adds_same : (old new : List ℕ) (g h : ℕ → ℕ) → Adds old new g → ((m : ℕ) → h m ≡ g m) → Adds old new h
adds_same old new g h first same f so_far m = let one = first f so_far m in let e = same m in omega arith

-- The blocks of a list, one by one.

pub times_more : (blocks : List ℕ) (i b : ℕ) → i < length blocks → b ≡ get_or blocks i 0 → (m : ℕ)
    → times m (take (i + 1) blocks) ≡ times m (take i blocks) + times m (b ∷ [])
times_more blocks i b below is m = ap (times m)
    (take_more blocks i 0 below ∙ ap (λ (n : ℕ). take i blocks ++ n ∷ []) (sym is))
    ∙ times-append m (take i blocks) (b ∷ [])

pub times_all : (blocks : List ℕ) (i : ℕ) → length blocks ≤ i → (m : ℕ) → times m blocks ≡ times m (take i blocks)
times_all blocks i past m = ap (times m) (sym (take_all i blocks past))

-- Those before a place occur once, and so does the one at the place.
pub alone_more : (counts blocks : List ℕ) (i b : ℕ) → i < length blocks → b ≡ get_or blocks i 0
    → slice_index counts b ≡ 1 → ((n : ℕ) → 0 < times n (take i blocks) → slice_index counts n ≡ 1) → (n : ℕ)
    → 0 < times n (take (i + 1) blocks) → slice_index counts n ≡ 1
alone_more counts blocks i b below is one so_far n among = ⊎_elim
    (λ same. ap (slice_index counts) same ∙ one)
    (λ other. let none = times_tail n b [] other in so_far n (omega (arith, times_more blocks i b below is n)))
    (cases_eq n b)

-- The files of a list, one by one.

pub fits_at : (size : ℕ) (files : List SavedFile) (i : ℕ) (file : SavedFile) → i < length files
    → file ≡ get_or files i file → AllByRecursion (FitsDisk size) files → FitsDisk size file
fits_at size [] i file below is all = absurd (omega arith)
fits_at size (x ∷ xs) zero file below is all = subst (FitsDisk size) (sym is) all.0
fits_at size (x ∷ xs) (suc i) file below is all = fits_at size xs i file (omega arith) is all.1

-- Each block of a file that fits lies in the free space.
pub fits_inside : (size : ℕ) (file : SavedFile) (n : ℕ) → FitsDisk size file → 0 < times n (blocks_of file)
    → InSpace size n
fits_inside size file n fits among = each_times (InSpace size) (blocks_of file) n (
  fits.at_inside,
  all_append (InSpace size) file.stored.version.ribs file.stored.version.blocks fits.ribs_inside fits.blocks_inside,
) among

pub claims_more : (files : List SavedFile) (i : ℕ) (file : SavedFile) → i < length files → file ≡ get_or files i file
    → (m : ℕ) → claims (take (i + 1) files) m ≡ claims (take i files) m + times m (blocks_of file)
claims_more files i file below is m =
    let one : claims (file ∷ []) m ≡ times m (blocks_of file) = omega arith in
    ap (λ (l : List SavedFile). claims l m)
    (take_more files i file below ∙ ap (λ (f : SavedFile). take i files ++ f ∷ []) (sym is))
    ∙ total-append (λ f. times m (blocks_of f)) (take i files) (file ∷ [])
    ∙ ap (λ (k : ℕ). claims (take i files) m + k) one

pub claims_all : (files : List SavedFile) (i : ℕ) → length files ≤ i → (m : ℕ)
    → claims files m ≡ claims (take i files) m
claims_all files i past m = ap (λ (l : List SavedFile). claims l m) (sym (take_all i files past))

-- All blocks of a file occur once if those of its parts do.
pub alone_parts : (counts : List ℕ) (at : ℕ) (ribs blocks : List ℕ) → slice_index counts at ≡ 1
    → ((n : ℕ) → 0 < times n ribs → slice_index counts n ≡ 1)
    → ((n : ℕ) → 0 < times n blocks → slice_index counts n ≡ 1) → (n : ℕ)
    → 0 < times n (at ∷ (ribs ++ blocks)) → slice_index counts n ≡ 1
alone_parts counts at ribs blocks one of_ribs of_blocks n among = ⊎_elim
    (λ same. ap (slice_index counts) same ∙ one)
    (λ other. let none = times_tail n at [] other in let sum = times_parts n at ribs blocks in
    by (times n ribs) refl (omega arith)) (cases_eq n at)
  where
    by : (k : ℕ) → times n ribs ≡ k → 0 < times n ribs + times n blocks → slice_index counts n ≡ 1
    by zero none some = of_blocks n (omega arith)
    by (suc k) here some = of_ribs n (omega arith)

pub some_on : (found : Option ℕ) (P Q : ℕ → Type 0) → ((n : ℕ) → P n → Q n) → IfSome found P → IfSome found Q
some_on None P Q then is = tt
some_on (Some n) P Q then is = then n is

pub none_on : (found : Option ℕ) (A B : Type 0) → (A → B) → IfNone found A → IfNone found B
none_on None A B then is = then is
none_on (Some n) A B then is = tt

-- The counts of all files.

pub zeros_count : (size : ℕ) (zeros : List ℕ) → zeros ≡ replicate size 0 → CountTo zeros (λ m. 0)
zeros_count size zeros is m = ap (λ (l : List ℕ). slice_index l m) is
    ∙ ⊎_elim (λ below. get_or-replicate size m 0 0 below)
    (λ past. get_or_past (replicate size 0) m 0 (let long : length (replicate {A = ℕ} size 0) ≡ size
    = length-replicate size 0 in omega arith)) (cases_lt m size)

pub first_counts : (size : ℕ) (zeros counts : List ℕ) (files seen : List SavedFile) → zeros ≡ replicate size 0
    → seen ≡ files → Adds zeros counts (λ m. claims seen m) → CountTo counts (claims files)
first_counts size zeros counts files seen is same adds m =
    let all = adds (λ n. 0) (zeros_count size zeros is) m in
    let e : claims seen m ≡ claims files m = ap (λ (l : List SavedFile). claims l m) same in
    omega arith
