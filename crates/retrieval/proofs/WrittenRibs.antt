-- Extensions that are written, and blocks that are taken for them.
use Rattle.std.proofs.Common.{inl, inr, ◌≡◌, ℕ, zero, suc, ◌+◌, ◌-◌, ◌/◌, ◌<◌, ◌≤◌, List, [], ◌∷◌, ◌++◌, min, length}
use Rattle.std.proofs.Common.{take, drop, flat_map, Some, Result, Ok, Err, OnOk, refl, sym, ◌∙◌, ap, subst, arith}
use Rattle.std.proofs.Common.{length-drop}
use Rattle.std.specs.List.{AllByRecursion}
use Rattle.std.proofs.lemmas.List.{take_all, take-append-drop, length-take-le}
use Rattle.blockdisk.specs.Common.{Contents}
use Rattle.spec_image.specs.Common.{head_or_zero, times, blocks_of, SpecPrime, SpecRun, IsRun, IsPrime, IsMode}
use Rattle.spec_image.specs.Common.{IsRetrieved}
use Rattle.spec_image.specs.Common.{prime_block, run_blocks, all_runs, AreExtensions, extension_block}
use Rattle.spec_image.specs.Common.{extension_numbers, first_extension}
use Rattle.retrieval.specs.Common.{mode_number, AreApart, extensions_of, rib_count}
use Rattle.retrieval.specs.declared.mode.Mode.{Mode}
use Rattle.retrieval.specs.declared.mode.Mode.TheVariants.{Ascii, AsciiLine, Image, ImageBinary, Binary, Dump}
use Rattle.changeset.specs.Common.{times_head}
use Rattle.retrieval.proofs.BuiltPointers.{all_first}

-- no more than there are
pub take_min : {X : Type 0} (ns : List X) (k count : ℕ) → count ≡ min (length ns) k → take count ns ≡ take k ns
take_min ns zero zero is = refl
take_min ns zero (suc count) is = absurd (omega arith)
take_min [] (suc k) zero is = refl
take_min [] (suc k) (suc count) is = absurd (omega arith)
take_min (n ∷ ns) (suc k) zero is = absurd (omega arith)
take_min (n ∷ ns) (suc k) (suc count) is = ap (λ l. n ∷ l) (take_min ns k count (omega arith))

pub drop_min : {X : Type 0} (ns : List X) (k count : ℕ) → count ≡ min (length ns) k → drop count ns ≡ drop k ns
drop_min ns zero zero is = refl
drop_min ns zero (suc count) is = absurd (omega arith)
drop_min [] (suc k) zero is = refl
drop_min [] (suc k) (suc count) is = absurd (omega arith)
drop_min (n ∷ ns) (suc k) zero is = absurd (omega arith)
drop_min (n ∷ ns) (suc k) (suc count) is = drop_min ns k count (omega arith)

-- Extensions, one more before the others.

pub first_of_extensions : (ribs : List ℕ) (runs : List SpecRun) → first_extension (extensions_of ribs runs)
    ≡ head_or_zero ribs
first_of_extensions [] runs = refl
first_of_extensions (rib ∷ ribs) runs = refl

pub length-extensions_of : (ribs : List ℕ) (runs : List SpecRun) → length (extensions_of ribs runs) ≡ length ribs
length-extensions_of [] runs = refl
length-extensions_of (rib ∷ ribs) runs = let e = length-extensions_of ribs (drop 126 runs) in omega arith

pub numbers_of_extensions : (ribs : List ℕ) (runs : List SpecRun) → extension_numbers (extensions_of ribs runs) ≡ ribs
numbers_of_extensions [] runs = refl
numbers_of_extensions (rib ∷ ribs) runs = ap (λ (l : List ℕ). rib ∷ l) (numbers_of_extensions ribs (drop 126 runs))

pub extensions_same : (c d : Contents) (ribs : List ℕ) (runs : List SpecRun) → ((n : ℕ) → 0 < times n ribs → d n ≡ c n)
    → AreExtensions c (extensions_of ribs runs) → AreExtensions d (extensions_of ribs runs)
extensions_same c d [] runs same are = tt
extensions_same c d (rib ∷ ribs) runs same are = (
  same rib (let e = times_head rib rib ribs refl in omega arith) ∙ are.0,
  are.1,
  are.2,
  are.3,
  are.4,
  extensions_same c d ribs (drop 126 runs) (λ n there. same n (later n there)) are.5,
)
  where
    later : (n : ℕ) → 0 < times n ribs → 0 < times n (rib ∷ ribs)
    later n there = omega arith

pub one_more : (c d : Contents) (rib : ℕ) (ribs : List ℕ) (runs : List SpecRun) (count next : ℕ) → count
    ≡ min (length runs) 126
    → suc (length ribs) ≡ (length runs + 125) / 126 → AllByRecursion IsRun runs
    → times rib ribs ≡ 0 → AreExtensions c (extensions_of ribs (drop count runs)) → next ≡ head_or_zero ribs
    → ((n : ℕ) → (n ≡ rib → ⊥) → d n ≡ c n)
    → d rib ≡ Some (extension_block (take count runs) next)
    → AreExtensions d (extensions_of (rib ∷ ribs) runs)
one_more c d rib ribs runs count next is counted fit apart are named same here =
    let taken = take_min runs 126 count is in
    let rest = drop_min runs 126 count is in
    let long : length (take 126 runs) ≡ count = sym (ap length taken) ∙ length-take-le count runs (omega arith) in
    let others = length-extensions_of ribs (drop 126 runs) in (
      here ∙ ap (λ (l : List SpecRun). Some (extension_block l next)) taken
          ∙ ap (λ (n : ℕ). Some (extension_block (take 126 runs) n))
          (named ∙ sym (first_of_extensions ribs (drop 126 runs))),
      omega arith,
      omega arith,
      (λ some. omega arith),
      all_first IsRun 126 runs fit,
      extensions_same c d ribs (drop 126 runs) (λ n there. same n (λ e. other n there e))
          (subst (λ (l : List SpecRun). AreExtensions c (extensions_of ribs l)) rest are),
    )
  where
    other : (n : ℕ) → 0 < times n ribs → n ≡ rib → ⊥
    other n there e = let f = ap (λ (m : ℕ). times m ribs) e in omega arith

pub is_in : (ribs : List ℕ) (rib : ℕ) (further : List ℕ) → ribs ≡ rib ∷ further → 0 < times rib ribs
is_in ribs rib further is = let e = ap (times rib) is in let f = times_head rib rib further refl in omega arith

pub in_later : (ribs : List ℕ) (rib : ℕ) (further : List ℕ) → ribs ≡ rib ∷ further → (n : ℕ) → 0 < times n further
    → 0 < times n ribs
in_later ribs rib further is n there = let e = ap (times n) is in omega arith

-- what a slice after the first is
pub behind : {X : Type 0} (ns : List X) (count : ℕ) → take (length ns - count) (drop count ns) ≡ drop count ns
behind ns count = take_all (length ns - count) (drop count ns) (let e = length-drop count ns in omega arith)

-- The last write of a list of ribs.
module _ {E : Type 0} (answer : Result (Unit {0}) E) (c d : Contents) (whole : List ℕ) (rib : ℕ) (ribs : List ℕ)
    (runs : List SpecRun) (count next : ℕ) (words : List ℕ) (part first : List SpecRun) where
  pub written_on : whole ≡ rib ∷ ribs → count ≡ min (length runs) 126 → length whole ≡ (length runs + 125) / 126
      → AllByRecursion IsRun runs → AreApart whole
      → part ≡ drop count runs → AreExtensions c (extensions_of ribs part) → next ≡ head_or_zero ribs
      → ((n : ℕ) → (n ≡ rib → ⊥) → d n ≡ c n)
      → first ≡ take count runs → words ≡ extension_block first next
      → OnOk answer (d rib ≡ Some words) → OnOk answer (AreExtensions d (extensions_of whole runs))
  written_on is few counted fit apart part_is are named same first_is words_are put = by_case answer put
    where
      done : d rib ≡ Some words → AreExtensions d (extensions_of whole runs)
      done here =
          subst (λ (l : List ℕ). AreExtensions d (extensions_of l runs)) (sym is)
          (
          one_more c d rib ribs runs count next few (let e = ap length is in
          omega arith) fit (subst AreApart is apart).0
          (subst (λ (l : List SpecRun). AreExtensions c (extensions_of ribs l)) part_is are) named same
          (here ∙ ap Some (words_are ∙ ap (λ (l : List SpecRun). extension_block l next) first_is))
          )

      by_case : (answer : Result (Unit {0}) E) → OnOk answer (d rib ≡ Some words)
          → OnOk answer (AreExtensions d (extensions_of whole runs))
      by_case (Ok done_) put = done put
      by_case (Err fault) put = tt

-- What is on the disk then.

length-first : (k : ℕ) (runs : List SpecRun) → length (take k runs) ≤ k
length-first zero runs = omega arith
length-first (suc k) [] = omega arith
length-first (suc k) (run ∷ runs) = let e = length-first k runs in omega arith

none : (runs : List SpecRun) → length runs ≡ 0 → runs ≡ []
none [] is = refl
none (run ∷ runs) is = absurd (omega arith)

runs_of_extensions : (ribs : List ℕ) (runs : List SpecRun) → length ribs ≡ (length runs + 125) / 126
    → all_runs (extensions_of ribs runs) ≡ runs
runs_of_extensions [] runs counted = sym (none runs (omega arith))
runs_of_extensions (rib ∷ ribs) runs counted =
    ap (λ (l : List SpecRun). take 126 runs ++ l)
    (runs_of_extensions ribs (drop 126 runs) (let e = length-drop 126 runs in omega arith))
    ∙ take-append-drop 126 runs

module _ (c d : Contents) (p : SpecPrime) (at : ℕ) (ribs blocks : List ℕ) (runs part : List SpecRun) where
  other : times at ribs ≡ 0 → (n : ℕ) → 0 < times n ribs → n ≡ at → ⊥
  other apart n there e = let f = ap (λ (m : ℕ). times m ribs) e in omega arith

  extended : AreExtensions c (extensions_of ribs part) → part ≡ drop 112 runs → times at ribs ≡ 0
      → ((n : ℕ) → (n ≡ at → ⊥) → d n ≡ c n) → AreExtensions d (extensions_of ribs (drop 112 runs))
  extended are part_is apart same = extensions_same c d ribs (drop 112 runs)
      (λ n there. same n (λ e. other apart n there e))
      (subst (λ (l : List SpecRun). AreExtensions c (extensions_of ribs l)) part_is are)

  pub extended_on : {E : Type 0} (answer : Result (Unit {0}) E) → AreExtensions c (extensions_of ribs part)
      → part ≡ drop 112 runs → AreApart (at ∷ ribs) → ((n : ℕ) → (n ≡ at → ⊥) → d n ≡ c n)
      → OnOk answer (AreExtensions d (extensions_of ribs (drop 112 runs)))
  extended_on (Ok done) are part_is apart same = extended are part_is apart.0 same
  extended_on (Err fault) are part_is apart same = tt

  pub retrieved : (layout : ℕ) → AreExtensions c (extensions_of ribs part) → part ≡ drop 112 runs → times at ribs ≡ 0
      → ((n : ℕ) → (n ≡ at → ⊥) → d n ≡ c n)
      → d at ≡ Some (prime_block p (take 112 runs) (head_or_zero ribs)) → IsPrime layout p → times 0 ribs ≡ 0
      → AllByRecursion IsRun runs → flat_map run_blocks runs ≡ blocks
      → length ribs ≡ rib_count (length runs) → length blocks ≡ blocks_of p.words
      → IsRetrieved layout d p at ribs blocks
  retrieved layout are part_is apart same here fits nonzero fit whole counted enough = record {
    runs = take 112 runs;
    further = extensions_of ribs (drop 112 runs);
    fits = fits;
    prime_is = here ∙ ap (λ (n : ℕ). Some (prime_block p (take 112 runs) n))
        (sym (first_of_extensions ribs (drop 112 runs)));
    few = length-first 112 runs;
    full = λ some. let a = length-extensions_of ribs (drop 112 runs) in
        let f = length-take-le 112 runs (omega arith) in omega arith;
    extended = extended are part_is apart same;
    extensions_are = numbers_of_extensions ribs (drop 112 runs);
    nonzero = nonzero;
    are_runs = all_first IsRun 112 runs fit;
    blocks_are = ap (λ (l : List SpecRun). flat_map run_blocks (take 112 runs ++ l))
        (runs_of_extensions ribs (drop 112 runs) (let e = length-drop 112 runs in omega arith))
        ∙ ap (flat_map run_blocks) (take-append-drop 112 runs) ∙ whole;
    enough = enough;
  }

  pub retrieved_on : {E : Type 0} (layout : ℕ) (answer : Result (Unit {0}) E) (words : List ℕ)
      → AreExtensions c (extensions_of ribs part) → part ≡ drop 112 runs → AreApart (at ∷ ribs)
      → ((n : ℕ) → (n ≡ at → ⊥) → d n ≡ c n)
      → words ≡ prime_block p (take 112 runs) (head_or_zero ribs) → OnOk answer (d at ≡ Some words)
      → IsPrime layout p → times 0 ribs ≡ 0 → AllByRecursion IsRun runs → flat_map run_blocks runs ≡ blocks
      → length ribs ≡ rib_count (length runs) → length blocks ≡ blocks_of p.words
      → OnOk answer (IsRetrieved layout d p at ribs blocks)
  retrieved_on layout (Ok done) words are part_is apart same words_are put fits nonzero fit whole counted enough =
      retrieved layout are part_is apart.0 same (put ∙ ap Some words_are) fits nonzero fit whole counted enough
  retrieved_on layout (Err fault) words are part_is apart same words_are put fits nonzero fit whole counted enough = tt

pub is_mode : (mode : Mode) → IsMode (mode_number mode)
is_mode Ascii = inl refl
is_mode AsciiLine = inr (inl refl)
is_mode Image = inr (inr (inl refl))
is_mode ImageBinary = inr (inr (inr (inl refl)))
is_mode Binary = inr (inr (inr (inr (inl refl))))
is_mode Dump = inr (inr (inr (inr (inr refl))))
