-- A chain is spelled if each of its blocks is; and what puts of its blocks make of the contents.
use Rattle.std.proofs.Common.{◌≡◌, ◌⊎◌, ℕ, zero, suc, ◌+◌, ◌*◌, ◌<◌, ◌≤◌, List, [], ◌∷◌, length, take, drop, get_or}
use Rattle.std.proofs.Common.{Some, refl, sym, ap, subst, ◌∙◌, arith, inl, inr}
use Rattle.std.proofs.lemmas.List.{drop-drop}
use Rattle.std.proofs.lemmas.Bool.{cases_eq}
use Rattle.std.specs.List.{AllByRecursion}
use Rattle.blockdisk.specs.Common.{Contents}
use Rattle.spec_image.specs.declared.put.Put.{Put}
use Rattle.spec_image.specs.Common.{times, targets, with_puts, first_of, directory_block, IsSpelled}
use Rattle.spec_image.proofs.Common.{times_here, times_later, times-cons}
use Rattle.changeset.specs.Common.{replaced, with_puts-replaced, with_puts_here, with_puts_later, all_replaced}
use Rattle.directory.specs.Common.{ChainState, nodes_of, block_words, block_put}

-- a block of a chain is one of its blocks
pub times_get : (ns : List ℕ) (k : ℕ) → k < length ns → 0 < times (get_or ns k 0) ns
times_get [] k h = absurd (omega arith)
times_get (n ∷ ns) zero h = times_here n ns
times_get (n ∷ ns) (suc k) h = times_later (get_or ns k 0) n ns (times_get ns k (omega arith))

not_later : (n : ℕ) (ns : List ℕ) (k : ℕ) → times n (n ∷ ns) ≤ 1 → k < length ns → n ≡ get_or ns k 0 → ⊥
not_later n ns k one h same =
    let there : 0 < times n ns = subst (λ m. 0 < times m ns) (sym same) (times_get ns k h) in
    let both = times-cons n ns in
    absurd (omega arith)

-- blocks at two places are two blocks
pub get_apart : (ns : List ℕ) (j k : ℕ) → ((n : ℕ) → times n ns ≤ 1) → j < length ns → k < length ns → (j ≡ k → ⊥)
    → get_or ns j 0 ≡ get_or ns k 0 → ⊥
get_apart [] j k once h i other same = absurd (omega arith)
get_apart (n ∷ ns) zero zero once h i other same = other refl
get_apart (n ∷ ns) zero (suc k) once h i other same = not_later n ns k (once n) (omega arith) same
get_apart (n ∷ ns) (suc j) zero once h i other same = not_later n ns j (once n) (omega arith) (sym same)
get_apart (n ∷ ns) (suc j) (suc k) once h i other same = get_apart ns j k (λ m. let e = once m in
    omega arith) (omega arith) (omega arith) (λ e. other (ap suc e)) same

-- Each block of a chain, by its place.

module _ {E : Type 0} (words : E → List ℕ) where
  -- these contents spell block j of the chain
  abbrev pub IsOnAt : Contents → ChainState E → ℕ → Type 0
  IsOnAt c chain j = c (get_or chain.blocks j 0) ≡ Some (block_words words chain j)

  first_next : (ns : List ℕ) (es : List E) → first_of (nodes_of ns es) ≡ get_or ns 0 0
  first_next [] es = refl
  first_next (n ∷ ns) es = refl

  later : (j : ℕ) (es : List E) → take 42 (drop (42 * j) (drop 42 es)) ≡ take 42 (drop (42 * suc j) es)
  later j es = let e : 42 + 42 * j ≡ 42 * suc j = omega arith in
      ap (take 42) (drop-drop (42 * j) 42 es ∙ ap (λ k. drop k es) e)

  pub on_each : (c : Contents) (ns : List ℕ) (es : List E) → IsSpelled words c (nodes_of ns es) → (j : ℕ)
      → j < length ns → IsOnAt c (record { blocks = ns; entries = es }) j
  on_each c [] es on j h = absurd (omega arith)
  on_each c (n ∷ ns) es on zero h = on.0
      ∙ ap (λ m. Some (directory_block words m (take 42 es))) (first_next ns (drop 42 es))
  on_each c (n ∷ ns) es on (suc j) h = on_each c ns (drop 42 es) on.1 j (omega arith)
      ∙ ap (λ fs. Some (directory_block words (get_or ns (suc j) 0) fs)) (later j es)

  pub on_from : (c : Contents) (ns : List ℕ) (es : List E)
      → ((j : ℕ) → j < length ns → IsOnAt c (record { blocks = ns; entries = es }) j)
      → IsSpelled words c (nodes_of ns es)
  on_from c [] es at = tt
  on_from c (n ∷ ns) es at = (
    at 0 (omega arith) ∙ ap (λ m. Some (directory_block words m (take 42 es))) (sym (first_next ns (drop 42 es))),
    on_from c ns (drop 42 es) (λ j h. at (suc j) (omega arith)
        ∙ ap (λ fs. Some (directory_block words (get_or ns (suc j) 0) fs)) (sym (later j es))),
  )

  -- Puts of blocks of a chain.

  module _ (chain : ChainState E) (once : (n : ℕ) → times n chain.blocks ≤ 1) where
    pub put_on : (c : Contents) (puts : List Put) (k : ℕ) → k < length chain.blocks → (j : ℕ) → j < length chain.blocks
        → ((j ≡ k → ⊥) → IsOnAt (with_puts puts c) chain j)
        → IsOnAt (with_puts (replaced (block_put words chain k) puts) c) chain j
    put_on c puts k inside j h else_on = with_puts-replaced (block_put words chain k) puts c (get_or chain.blocks j 0)
        ∙ by_case (cases_eq j k)
      where
        by_case : (j ≡ k) ⊎ (j ≡ k → ⊥) → with_puts (block_put words chain k ∷ puts) c (get_or chain.blocks j 0)
            ≡ Some (block_words words chain j)
        by_case (inl is) = with_puts_here (block_put words chain k) puts c (get_or chain.blocks j 0)
            (ap (λ i. get_or chain.blocks i 0) is) ∙ ap (λ i. Some (block_words words chain i)) (sym is)
        by_case (inr other) = with_puts_later (block_put words chain k) puts c (get_or chain.blocks j 0)
            (get_apart chain.blocks j k once h inside other) ∙ else_on other

  -- two puts, if all other blocks of the new chain are as they were in the old one
  pub two_spell : (old new : ChainState E) → ((n : ℕ) → times n new.blocks ≤ 1) → (puts : List Put) (k l : ℕ)
      → k < length new.blocks → l < length new.blocks
      → ((j : ℕ) → j < length new.blocks → (j ≡ k → ⊥) → (j ≡ l → ⊥) → (j < length old.blocks)
      × (get_or new.blocks j 0 ≡ get_or old.blocks j 0) × (block_words words new j ≡ block_words words old j))
      → (c : Contents) → IsSpelled words (with_puts puts c) (nodes_of old.blocks old.entries)
      → IsSpelled words (with_puts (replaced (block_put words new l) (replaced (block_put words new k) puts)) c)
      (nodes_of new.blocks new.entries)
  two_spell old new once puts k l ki li same c on =
      on_from (with_puts (replaced (block_put words new l) (replaced (block_put words new k) puts)) c)
      new.blocks new.entries
      (λ j h. put_on new once c (replaced (block_put words new k) puts) l li j h
      (λ not_l. put_on new once c puts k ki j h
      (λ not_k. let s = same j h not_k not_l in ap (with_puts puts c) s.1
      ∙ on_each (with_puts puts c) old.blocks old.entries on j s.0 ∙ ap Some (sym s.2))))

  -- one put
  pub one_spells : (old new : ChainState E) → ((n : ℕ) → times n new.blocks ≤ 1) → (puts : List Put) (k : ℕ)
      → k < length new.blocks
      → ((j : ℕ) → j < length new.blocks → (j ≡ k → ⊥) → (j < length old.blocks)
      × (get_or new.blocks j 0 ≡ get_or old.blocks j 0) × (block_words words new j ≡ block_words words old j))
      → (c : Contents) → IsSpelled words (with_puts puts c) (nodes_of old.blocks old.entries)
      → IsSpelled words (with_puts (replaced (block_put words new k) puts) c) (nodes_of new.blocks new.entries)
  one_spells old new once puts k ki same c on =
      on_from (with_puts (replaced (block_put words new k) puts) c) new.blocks new.entries
      (λ j h. put_on new once c puts k ki j h (λ not_k. let s = same j h not_k in ap (with_puts puts c) s.1
      ∙ on_each (with_puts puts c) old.blocks old.entries on j s.0 ∙ ap Some (sym s.2)))

  -- what isn't one of the chain's blocks stays
  pub put_others : (chain : ChainState E) (puts : List Put) (k : ℕ) → k < length chain.blocks → (c : Contents) (n : ℕ)
      → times n chain.blocks ≡ 0 → with_puts (replaced (block_put words chain k) puts) c n ≡ with_puts puts c n
  put_others chain puts k inside c n none =
      with_puts-replaced (block_put words chain k) puts c n
      ∙ with_puts_later (block_put words chain k) puts c n (λ is. absurd (let h = times_get chain.blocks k inside in
      let z : times (get_or chain.blocks k 0) chain.blocks ≡ 0 = subst (λ m. times m chain.blocks ≡ 0) is none in
      omega arith))

all_get : (P : ℕ → Type 0) (ns : List ℕ) (k : ℕ) → k < length ns → AllByRecursion P ns → P (get_or ns k 0)
all_get P [] k h a = absurd (omega arith)
all_get P (n ∷ ns) zero h a = a.0
all_get P (n ∷ ns) (suc k) h a = all_get P ns k (omega arith) a.1

-- a put of a block if all of the chain's blocks may be put
pub put_in_range : (P : ℕ → Type 0) {E : Type 0} (words : E → List ℕ) (chain : ChainState E) (puts : List Put) (k : ℕ)
    → k < length chain.blocks → AllByRecursion P chain.blocks → AllByRecursion P (targets puts)
    → AllByRecursion P (targets (replaced (block_put words chain k) puts))
put_in_range P words chain puts k inside all are = all_replaced P (block_put words chain k) puts are
    (all_get P chain.blocks k inside all)
