-- Edits of a chain: what its entries are afterwards, and that the puts spell them.
-- In each section `o` states that the order of the keys is total, and `exact` that only equal keys tie in it.
use Rattle.std.proofs.Common.{◌≡◌, ◌⊎◌, ℕ, zero, suc, ◌+◌, ◌-◌, ◌*◌, ◌/◌, ◌<◌, ◌≤◌, List, [], ◌∷◌, ◌++◌, length, take}
use Rattle.std.proofs.Common.{get_or, slice_set, refl, sym, ap, ◌∙◌, arith, inl, inr, length-append}
use Rattle.std.proofs.lemmas.List.{get_or_append_left}
use Rattle.std.specs.List.{AllByRecursion}
use Rattle.spec_image.specs.declared.put.Put.{Put}
use Rattle.spec_image.specs.Common.{directory_cost, directory_block, InSpace, IsTarget, times}
use Rattle.changeset.specs.Common.{replaced}
use Rattle.directory.specs.Common.{ChainState, block_words, block_put, PutsChain}
use Rattle.directory.proofs.ChainPuts.{one_spells, two_spell, put_others, put_in_range}
use Rattle.directory.proofs.Windows.{window_set, window_more, window_fewer}

below_or_above : (a b : ℕ) → (a ≡ b → ⊥) → (a < b) ⊎ (b < a)
below_or_above zero zero other = absurd (other refl)
below_or_above zero (suc b) other = inl (omega arith)
below_or_above (suc a) zero other = inr (omega arith)
below_or_above (suc a) (suc b) other = step (below_or_above a b (λ e. other (ap suc e)))
  where
    step : (a < b) ⊎ (b < a) → (suc a < suc b) ⊎ (suc b < suc a)
    step (inl h) = inl (omega arith)
    step (inr h) = inr (omega arith)

pub in_space_target : (size n : ℕ) → InSpace size n → IsTarget size n
in_space_target size n h = let a = h.from in let b = h.below in inr (inr (omega arith, omega arith))

pub all_targets : (size : ℕ) (ns : List ℕ) → AllByRecursion (InSpace size) ns → AllByRecursion (IsTarget size) ns
all_targets size [] a = tt
all_targets size (n ∷ ns) a = (in_space_target size n a.0, all_targets size ns a.1)

-- an entry of another block is before this one or after it
block_side : (j i : ℕ) → (j < i / 42) ⊎ (i / 42 < j) → (42 * j + 42 ≤ i) ⊎ (i < 42 * j)
block_side j i (inl h) = inl (omega arith)
block_side j i (inr h) = inr (omega arith)

-- Which puts an edit takes.

module _ {K V : Type 0} (words : K × V → List ℕ) where
  -- one entry is another
  pub put_replaced : (ns : List ℕ) (es : List (K × V)) (i : ℕ) (e : K × V) (puts : List Put)
      → length ns ≡ directory_cost (length es) → ((n : ℕ) → times n ns ≤ 1) → i < length es
      → PutsChain words (record { blocks = ns; entries = es }) (record { blocks = ns; entries = slice_set es i e }) puts
      (replaced (block_put words (record { blocks = ns; entries = slice_set es i e }) (i / 42)) puts)
  put_replaced ns es i e puts counted once inside =
      let old : ChainState (K × V) = record { blocks = ns; entries = es } in
      let new : ChainState (K × V) = record { blocks = ns; entries = slice_set es i e } in
      let here : i / 42 < length ns = omega arith in
      record {
        spells = one_spells words old new once puts (i / 42) here
            (λ j h other. (
              h,
              refl,
              ap (λ fs. directory_block words (get_or ns (suc j) 0) fs)
                  (window_set (42 * j) 42 es i e (block_side j i (below_or_above j (i / 42) other))),
            ));
        others = put_others words new puts (i / 42) here;
        in_range = λ size all are. put_in_range (IsTarget size) words new puts (i / 42) here
            (all_targets size ns all) are;
      }

  -- one more entry, in the last block
  pub put_appended : (ns : List ℕ) (es : List (K × V)) (e : K × V) (puts : List Put)
      → length ns ≡ directory_cost (length es) → ((n : ℕ) → times n ns ≤ 1) → (length es ≡ 42 * length ns → ⊥)
      → PutsChain words (record { blocks = ns; entries = es }) (record { blocks = ns; entries = es ++ e ∷ [] }) puts
      (replaced (block_put words (record { blocks = ns; entries = es ++ e ∷ [] }) (length ns - 1)) puts)
  put_appended ns es e puts counted once room =
      let old : ChainState (K × V) = record { blocks = ns; entries = es } in
      let new : ChainState (K × V) = record { blocks = ns; entries = es ++ e ∷ [] } in
      let last = length ns - 1 in
      let here : last < length ns = omega arith in
      record {
        spells = one_spells words old new once puts last here
            (λ j h other. let full : 42 * j + 42 ≤ length es = omega arith in (
              h,
              refl,
              ap (λ fs. directory_block words (get_or ns (suc j) 0) fs) (window_more (42 * j) 42 es (e ∷ []) full),
            ));
        others = put_others words new puts last here;
        in_range = λ size all are. put_in_range (IsTarget size) words new puts last here (all_targets size ns all) are;
      }

  -- one more entry, in a new block
  pub put_grown : (ns : List ℕ) (es : List (K × V)) (n : ℕ) (e : K × V) (puts : List Put)
      → length ns ≡ directory_cost (length es) → ((m : ℕ) → times m (ns ++ n ∷ []) ≤ 1) → length es ≡ 42 * length ns
      → PutsChain words (record { blocks = ns; entries = es })
      (record { blocks = ns ++ n ∷ []; entries = es ++ e ∷ [] }) puts
      (replaced (block_put words (record { blocks = ns ++ n ∷ []; entries = es ++ e ∷ [] }) (length ns))
      (replaced (block_put words (record { blocks = ns ++ n ∷ []; entries = es ++ e ∷ [] }) (length ns - 1)) puts))
  put_grown ns es n e puts counted once full =
      let old : ChainState (K × V) = record { blocks = ns; entries = es } in
      let new : ChainState (K × V) = record { blocks = ns ++ n ∷ []; entries = es ++ e ∷ [] } in
      let before = length ns - 1 in
      let first = replaced (block_put words new before) puts in
      let many = length-append ns (n ∷ []) in
      let old_last : before < length (ns ++ n ∷ []) = omega arith in
      let new_last : length ns < length (ns ++ n ∷ []) = omega arith in
      record {
        spells = two_spell words old new once puts before (length ns) old_last new_last
            (λ j h not_before not_last.
            let inside : j < length ns = omega arith in
            let next : suc j < length ns = omega arith in
            let whole : 42 * j + 42 ≤ length es = omega arith in (
              inside,
              get_or_append_left ns (n ∷ []) 0 j inside,
              (λ k. directory_block words (get_or_append_left ns (n ∷ []) 0 (suc j) next k)
                  (window_more (42 * j) 42 es (e ∷ []) whole k)),
            ));
        others = λ c m none. put_others words new first (length ns) new_last c m none
            ∙ put_others words new puts before old_last c m none;
        in_range = λ size all are. put_in_range (IsTarget size) words new first (length ns) new_last
            (all_targets size (ns ++ n ∷ []) all)
            (put_in_range (IsTarget size) words new puts before old_last (all_targets size (ns ++ n ∷ []) all) are);
      }

  -- one entry fewer, the last one in its place, and perhaps the last block out
  module _ (ns ms freed : List ℕ) (es : List (K × V)) (i : ℕ) (x : K × V) (puts : List Put) (kept : ns ≡ ms ++ freed)
      (counted : length ns ≡ directory_cost (length es)) (now_counted : length ms ≡ directory_cost (length es - 1))
      (once : (n : ℕ) → times n ms ≤ 1) (inside : i < length es) where
    abbrev pub without : ChainState (K × V)
    without = record { blocks = ms; entries = take (length es - 1) (slice_set es i x) }

    untouched : (j : ℕ) → j < length ms → (j ≡ i / 42 → ⊥) → (j ≡ length ms - 1 → ⊥) → (j < length ns)
        × (get_or ms j 0 ≡ get_or ns j 0)
        × (block_words words without j ≡ block_words words (record { blocks = ns; entries = es }) j)
    untouched j h not_here not_last =
        let many = ap length kept ∙ length-append ms freed in
        let next : suc j < length ms = omega arith in
        let whole : 42 * j + 42 ≤ length es - 1 = omega arith in (
          omega arith,
          sym (get_or_append_left ms freed 0 j h) ∙ ap (λ ks. get_or ks j 0) (sym kept),
          (λ k. directory_block words ((sym (get_or_append_left ms freed 0 (suc j) next)
              ∙ ap (λ ks. get_or ks (suc j) 0) (sym kept)) k)
              ((window_fewer (42 * j) 42 (length es - 1) (slice_set es i x) whole
              ∙ window_set (42 * j) 42 es i x (block_side j i (below_or_above j (i / 42) not_here))) k)),
        )

    pub put_removed : i / 42 < length ms - 1
        → PutsChain words (record { blocks = ns; entries = es }) without puts
        (replaced (block_put words without (length ms - 1)) (replaced (block_put words without (i / 42)) puts))
    put_removed two =
        let first = replaced (block_put words without (i / 42)) puts in
        let last : length ms - 1 < length ms = omega arith in
        let here : i / 42 < length ms = omega arith in
        record {
          spells = two_spell words (record { blocks = ns; entries = es }) without once puts (i / 42)
              (length ms - 1) here last untouched;
          others = λ c m none. put_others words without first (length ms - 1) last c m none
              ∙ put_others words without puts (i / 42) here c m none;
          in_range = λ size all are. put_in_range (IsTarget size) words without first (length ms - 1) last
              (all_targets size ms all) (put_in_range (IsTarget size) words without puts (i / 42) here
              (all_targets size ms all) are);
        }

    pub put_shortened : length ms - 1 ≤ i / 42
        → PutsChain words (record { blocks = ns; entries = es }) without puts
        (replaced (block_put words without (length ms - 1)) puts)
    put_shortened end =
        let last : length ms - 1 < length ms = omega arith in
        record {
          spells = one_spells words (record { blocks = ns; entries = es }) without once puts (length ms - 1) last
              (λ j h other. untouched j h (λ e. other (omega arith)) other);
          others = put_others words without puts (length ms - 1) last;
          in_range = λ size all are. put_in_range (IsTarget size) words without puts (length ms - 1) last
              (all_targets size ms all) are;
        }
