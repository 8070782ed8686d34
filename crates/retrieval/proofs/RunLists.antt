-- The blocks of runs, with one more block and one more run.
use Rattle.std.proofs.Common.{◌≡◌, ℕ, zero, suc, ◌+◌, ◌<◌, ◌≤◌, List, [], ◌∷◌, ◌++◌, length, get_or, take, drop}
use Rattle.std.proofs.Common.{flat_map, refl, sym, ◌∙◌, ap, subst, arith, append_assoc, length-append, append-nil}
use Rattle.std.specs.List.{AllByRecursion}
use Rattle.std.proofs.lemmas.List.{take_more, take-append-drop, map-append}
use Rattle.std.proofs.lemmas.Grind.{flat_map-append}
use Rattle.spec_image.specs.Common.{space_start, count_up, run_blocks, InSpace, RunsInSpace}
use Rattle.retrieval.specs.Common.{run_of, runs_of, VersionState, with_blocks}
use Rattle.spec_image.proofs.Common.{all_right, all_left}

pub length-count_up : (count first : ℕ) → length (count_up count first) ≡ count
length-count_up zero first = refl
length-count_up (suc count) first = let e = length-count_up count (suc first) in omega arith

-- one more block of a run
pub count_more : (count first : ℕ) → count_up (count + 1) first ≡ count_up count first ++ (first + count) ∷ []
count_more zero first = let e : zero + 1 ≡ suc zero = omega arith in let f : first ≡ first + zero = omega arith in
    ap (λ (n : ℕ). count_up n first) e ∙ ap (λ (n : ℕ). n ∷ []) f
count_more (suc count) first =
    let e : suc count + 1 ≡ suc (count + 1) = omega arith in
    let f : suc first + count ≡ first + suc count = omega arith in
    ap (λ (n : ℕ). count_up n first) e ∙ ap (λ (l : List ℕ). first ∷ l) (count_more count (suc first))
    ∙ ap (λ (n : ℕ). first ∷ (count_up count (suc first) ++ n ∷ [])) f

pub with_more : (v : VersionState) (a b : List ℕ) → with_blocks (with_blocks v a) b ≡ with_blocks v (a ++ b)
with_more v a b = λ i. record v { blocks = append_assoc v.blocks a b i }

-- If the first and the last block of a run lie in the free space, all do.
pub run_inside : (size count first : ℕ) → space_start size ≤ first → first + count ≤ size
    → AllByRecursion (InSpace size) (count_up count first)
run_inside size zero first from below = tt
run_inside size (suc count) first from below = (
  record { from = from; below = omega arith },
  run_inside size count (suc first) (omega arith) (omega arith),
)

pub run_ends : (size count first : ℕ) → 0 < count → AllByRecursion (InSpace size) (count_up count first)
    → (space_start size ≤ first) × (first + count ≤ size)
run_ends size zero first some all = absurd (omega arith)
run_ends size (suc zero) first some all = (all.0.from, let b = all.0.below in omega arith)
run_ends size (suc (suc count)) first some all =
    (all.0.from, let e = (run_ends size (suc count) (suc first) (omega arith) all.1).1 in omega arith)

-- one more pointer

module _ (words : List ℕ) (i word : ℕ) (below : i < length words) (is : word ≡ get_or words i word) where
  runs_one_more : runs_of (take (i + 1) words) ≡ runs_of (take i words) ++ run_of word ∷ []
  runs_one_more = ap runs_of (take_more words i word below ∙ ap (λ (n : ℕ). take i words ++ n ∷ []) (sym is))
      ∙ map-append run_of (take i words) (word ∷ [])

  pub blocks_one_more : flat_map run_blocks (runs_of (take (i + 1) words))
      ≡ flat_map run_blocks (runs_of (take i words)) ++ run_blocks (run_of word)
  blocks_one_more = ap (flat_map run_blocks) runs_one_more
      ∙ flat_map-append run_blocks (runs_of (take i words)) (run_of word ∷ [])
      ∙ ap (λ (l : List ℕ). flat_map run_blocks (runs_of (take i words)) ++ l) (append-nil (run_blocks (run_of word)))

-- the blocks of the first pointers, and of this one, are a part of all
pub blocks_behind : (words : List ℕ) (i : ℕ) → flat_map run_blocks (runs_of words)
    ≡ flat_map run_blocks (runs_of (take i words)) ++ flat_map run_blocks (runs_of (drop i words))
blocks_behind words i = ap (λ (l : List ℕ). flat_map run_blocks (runs_of l)) (sym (take-append-drop i words))
    ∙ ap (flat_map run_blocks) (map-append run_of (take i words) (drop i words))
    ∙ flat_map-append run_blocks (runs_of (take i words)) (runs_of (drop i words))

module _ (size : ℕ) (words : List ℕ) (i word : ℕ) (below : i < length words) (is : word ≡ get_or words i word) where
  split : flat_map run_blocks (runs_of words)
      ≡ (flat_map run_blocks (runs_of (take i words)) ++ run_blocks (run_of word))
      ++ flat_map run_blocks (runs_of (drop (i + 1) words))
  split = blocks_behind words (i + 1) ∙ ap (λ (l : List ℕ). l ++ flat_map run_blocks (runs_of (drop (i + 1) words)))
      (blocks_one_more words i word below is)

  pub inside_at : RunsInSpace size (runs_of words) → AllByRecursion (InSpace size) (run_blocks (run_of word))
  inside_at all =
      all_right (InSpace size) (flat_map run_blocks (runs_of (take i words))) (run_blocks (run_of word))
      (all_left (InSpace size) (flat_map run_blocks (runs_of (take i words)) ++ run_blocks (run_of word))
      (flat_map run_blocks (runs_of (drop (i + 1) words)))
      (subst (AllByRecursion (InSpace size)) split all))

  pub counted_at : length (flat_map run_blocks (runs_of (take i words))) + length (run_blocks (run_of word))
      ≤ length (flat_map run_blocks (runs_of words))
  counted_at =
      let a = ap length split in
      let b = length-append (flat_map run_blocks (runs_of (take i words)) ++ run_blocks (run_of word))
      (flat_map run_blocks (runs_of (drop (i + 1) words))) in
      let d = length-append (flat_map run_blocks (runs_of (take i words))) (run_blocks (run_of word)) in
      omega arith
