-- Pointers that are put into a block one after the other.
use Rattle.std.proofs.Common.{◌≡◌, ◌⊎◌, ⊎_elim, ℕ, min, zero, suc, ◌+◌, ◌-◌, ◌^◌, ◌<◌, ◌≤◌, List, [], ◌∷◌, ◌++◌, map}
use Rattle.std.proofs.Common.{length, get_or, take, drop, replicate, slice_set, refl, sym, ◌∙◌, ap, subst, arith}
use Rattle.std.proofs.Common.{append_assoc, length-append}
use Rattle.std.specs.List.{AllByRecursion}
use Rattle.std.proofs.lemmas.List.{map_more, take_all, map-append, length-map, length-take-le}
use Rattle.std.proofs.Math.Seq.{set-append_seam}
use Rattle.spec_image.specs.Common.{SpecPrime, SpecRun, IsRun, run_blocks, pointer, prime_word, extension_word}
use Rattle.spec_image.specs.Common.{prime_block}
use Rattle.spec_image.specs.Retrieval.{attributes}
use Rattle.spec_image.proofs.Common.{all_right}
use Rattle.retrieval.specs.Common.{prime_front, pair_of, pairs_of, blocks_of_runs}
use Rattle.retrieval.specs.declared.run.Run.{Run as RunValue}
use Rattle.retrieval.proofs.RunLists.{length-count_up}

abbrev pub pointers : List RunValue → List ℕ
pointers runs = map pointer (pairs_of runs)

length-pointers : (runs : List RunValue) → length (pointers runs) ≡ length runs
length-pointers runs = length-map (pairs_of runs) pointer ∙ length-map runs pair_of

pub pointers_more : (runs : List RunValue) (i : ℕ) (run : RunValue) → i < length runs → run ≡ get_or runs i run
    → pointers (take (i + 1) runs) ≡ pointers (take i runs) ++ pointer (pair_of run) ∷ []
pointers_more runs i run below is =
    ap (map pointer) (map_more pair_of runs i run below)
    ∙ map-append pointer (pairs_of (take i runs)) (pair_of (get_or runs i run) ∷ [])
    ∙ ap (λ (r : RunValue). pointers (take i runs) ++ pointer (pair_of r) ∷ []) (sym is)

-- One more pointer after the first words of a block.
put_more : (head : List ℕ) (most before : ℕ) (runs : List RunValue) (i : ℕ) (run : RunValue) → length head ≡ before
    → length runs ≤ most → i < length runs → run ≡ get_or runs i run
    → slice_set (head ++ (pointers (take i runs) ++ replicate (most - i) 0)) (before + i) (pointer (pair_of run))
    ≡ head ++ (pointers (take (i + 1) runs) ++ replicate (most - (i + 1)) 0)
put_more head most before runs i run long few below is =
    let front = head ++ pointers (take i runs) in
    let rest : List ℕ = replicate (most - (i + 1)) 0 in
    let n = pointer (pair_of run) in
    let counted : length front ≡ before + i = length-append head (pointers (take i runs))
    ∙ (let e = length-pointers (take i runs) in let f = length-take-le i runs (omega arith) in omega arith) in
    let room : most - i ≡ suc (most - (i + 1)) = omega arith in
    ap (λ (k : ℕ). slice_set (head ++ (pointers (take i runs) ++ replicate k 0)) (before + i) n) room
    ∙ ap (λ (l : List ℕ). slice_set l (before + i) n) (sym (append_assoc head (pointers (take i runs)) (0 ∷ rest)))
    ∙ ap (λ (k : ℕ). slice_set (front ++ 0 ∷ rest) k n) (sym counted)
    ∙ set-append_seam front 0 rest n
    ∙ append_assoc head (pointers (take i runs)) (n ∷ rest)
    ∙ ap (λ (l : List ℕ). head ++ l) (sym (append_assoc (pointers (take i runs)) (n ∷ []) rest)
    ∙ ap (λ (l : List ℕ). l ++ rest) (sym (pointers_more runs i run below is)))

pub put_in_prime : (head : List ℕ) (runs : List RunValue) (i : ℕ) (run : RunValue) → length head ≡ 16
    → length runs ≤ 112 → i < length runs → run ≡ get_or runs i run
    → slice_set (head ++ (pointers (take i runs) ++ replicate (112 - i) 0)) (16 + i) (pointer (pair_of run))
    ≡ head ++ (pointers (take (i + 1) runs) ++ replicate (112 - (i + 1)) 0)
put_in_prime head runs i run long few below is = put_more head 112 16 runs i run long few below is

pub put_in_extension : (a b : ℕ) (runs : List RunValue) (i : ℕ) (run : RunValue) → length runs ≤ 126
    → i < length runs → run ≡ get_or runs i run
    → slice_set (a ∷ b ∷ (pointers (take i runs) ++ replicate (126 - i) 0)) (2 + i) (pointer (pair_of run))
    ≡ a ∷ b ∷ (pointers (take (i + 1) runs) ++ replicate (126 - (i + 1)) 0)
put_in_extension a b runs i run few below is = put_more (a ∷ b ∷ []) 126 2 runs i run refl few below is

-- What each run fits: the first and the count are below 2 ^ 18.

pub all_first : {X : Type 0} (P : X → Type 0) (count : ℕ) (xs : List X) → AllByRecursion P xs
    → AllByRecursion P (take count xs)
all_first P zero xs all = tt
all_first P (suc count) [] all = tt
all_first P (suc count) (x ∷ xs) all = (all.0, all_first P count xs all.1)

pub all_later : {X : Type 0} (P : X → Type 0) (count : ℕ) (xs : List X) → AllByRecursion P xs
    → AllByRecursion P (drop count xs)
all_later P zero xs all = all
all_later P (suc count) [] all = tt
all_later P (suc count) (x ∷ xs) all = all_later P count xs all.1

pub fits_at : (runs : List RunValue) (i : ℕ) (run : RunValue) → i < length runs → run ≡ get_or runs i run
    → AllByRecursion IsRun (pairs_of runs) → IsRun (pair_of run)
fits_at [] i run below is all = absurd (omega arith)
fits_at (first ∷ runs) zero run below is all = subst (λ (r : RunValue). IsRun (pair_of r)) (sym is) all.0
fits_at (first ∷ runs) (suc i) run below is all = fits_at runs i run (omega arith) is all.1

pub runs_fit : (runs : List RunValue) → AllByRecursion (λ n. n < 2 ^ 18) (blocks_of_runs runs)
    → length (blocks_of_runs runs) ≤ 16384 → AllByRecursion IsRun (pairs_of runs)
runs_fit [] all few = tt
runs_fit (run ∷ runs) all few =
    let here = run_blocks (pair_of run) in
    let long = length-append here (blocks_of_runs runs) in
    let count = length-count_up (suc (run.last - run.first)) run.first in (
      (omega arith, omega arith, all.0),
      runs_fit runs (all_right (λ n. n < 2 ^ 18) here (blocks_of_runs runs) all) (omega arith),
    )

-- The first words, each as it is written.
pub front_written : (p : SpecPrime) (count next count' next' words a d e f : ℕ) → a ≡ prime_word → d ≡ extension_word p
    → e ≡ attributes p → f ≡ p.place.ppn → words ≡ p.words → count' ≡ count → next' ≡ next
    → a ∷ p.place.name.name ∷ d ∷ e ∷ f ∷ words ∷ count' ∷ next' ∷ replicate 120 0 ≡ prime_front p count next
    ++ replicate 112 0
front_written p count next count' next' words a d e f mark ext attr ppn length_is counted named =
    λ i. mark i ∷ p.place.name.name ∷ ext i ∷ attr i ∷ ppn i ∷ length_is i ∷ counted i ∷ named i ∷ replicate 120 0

first_of_all : (all : List SpecRun) (count : ℕ) → count ≡ min (length all) 112
    → (take count all ≡ take 112 all) × (length (take 112 all) ≡ count)
first_of_all all count is =
    let few : count ≤ length all = omega arith in
    ⊎_elim
    (λ (more : 112 ≤ length all). let e : count ≡ 112 = omega arith in
    (ap (λ (n : ℕ). take n all) e, length-take-le 112 all more ∙ sym e))
    (λ (less : length all < 112).
    let e : count ≡ length all = omega arith in
    let f : take 112 all ≡ all = take_all 112 all (omega arith) in
    let g : take count all ≡ all = take_all count all (omega arith) in
    (g ∙ sym f, ap length f ∙ sym e))
    (small_or_large (length all))
  where
    small_or_large : (n : ℕ) → (112 ≤ n) ⊎ (n < 112)
    small_or_large n = grind arith

-- and with the pointers put in
pub block_written : (p : SpecPrime) (all : List SpecRun) (part : List RunValue) (new : List ℕ) (count next : ℕ)
    → count ≡ min (length all) 112 → pairs_of part ≡ take count all
    → new ≡ take 16 (prime_front p count next ++ replicate 112 0) ++ (pointers part ++ replicate (112 - length part) 0)
    → new ≡ prime_block p (take 112 all) next
block_written p all part new count next is part_is new_is =
    let both = first_of_all all count is in
    let same : pairs_of part ≡ take 112 all = part_is ∙ both.0 in
    let long : length part ≡ length (take 112 all) = sym (length-map part pair_of) ∙ ap length same in
    new_is
    ∙ ap (λ (l : List SpecRun). prime_front p count next ++ (map pointer l ++ replicate (112 - length part) 0)) same
    ∙ ap (λ (n : ℕ). prime_front p count next ++ (map pointer (take 112 all) ++ replicate (112 - n) 0)) long
    ∙ ap (λ (n : ℕ). prime_front p n next
    ++ (map pointer (take 112 all) ++ replicate (112 - length (take 112 all)) 0)) (sym both.1)

-- What a prime block says is written anew, its length and what follows stay.
pub front_rewritten : (p q : SpecPrime) (runs : List SpecRun) (next d e f : ℕ) (old : List ℕ) → d ≡ extension_word q
    → e ≡ attributes q → f ≡ q.place.ppn → q.words ≡ p.words → old ≡ prime_block p runs next
    → slice_set (slice_set (slice_set (slice_set old 1 q.place.name.name) 2 d) 3 e) 4 f ≡ prime_block q runs next
front_rewritten p q runs next d e f old ext attr ppn length_is is =
    ap (λ (l : List ℕ). slice_set (slice_set (slice_set (slice_set l 1 q.place.name.name) 2 d) 3 e) 4 f) is
    ∙ (λ i. prime_word ∷ q.place.name.name ∷ ext i ∷ attr i ∷ ppn i ∷ sym length_is i ∷ length runs ∷ next
    ∷ 0 ∷ 0 ∷ 0 ∷ 0 ∷ 0 ∷ 0 ∷ 0 ∷ 0 ∷ (map pointer runs ++ replicate (112 - length runs) 0))
