-- The steps of the code: chains as they are seen, and the puts of their blocks.
-- `inside` is a chain as it is stored, and `old` the same one as clauses see it.
use Rattle.std.proofs.Common.{◌≡◌, ◌⊎◌, inl, inr, ℕ, suc, ◌-◌, ◌*◌, ◌/◌, ◌<◌, ◌≤◌, Bool, List, [], ◌∷◌, ◌++◌, map}
use Rattle.std.proofs.Common.{length, take, drop, get_or, swap_remove, slice_set, Option, Some, None, is_some}
use Rattle.std.proofs.Common.{MatchOption, option_to_list, IsTrue, IsFalse, append-nil, refl, sym, ap, subst, ◌∙◌}
use Rattle.std.proofs.Common.{Ordering, arith, length-append}
use Rattle.std.proofs.lemmas.List.{length-map, map-append, map-set, take-map, drop-map, length-set, length-take-le}
use Rattle.std.proofs.lemmas.Option.{slice_get-get_or}
use Rattle.std.specs.Cmp.{IsTotalOrder}
use Rattle.std.specs.FinMap.{IsAntisymmetric}
use Rattle.std.specs.FinMap.Entries.{find}
use Rattle.spec_image.specs.declared.put.Put.{Put}
use Rattle.spec_image.specs.Common.{directory_cost, times, from_entries, insert, remove}
use Rattle.spec_image.proofs.Common.{times-append, below_or_not}
use Rattle.changeset.specs.Common.{replaced}
use Rattle.directory.specs.Common.{ChainState, IsChain, viewed, StandsAt, block_put, inserted, renamed, removed}
use Rattle.directory.specs.Common.{last_first, PutsChain}
use Rattle.directory.proofs.ChainEdits.{put_replaced, put_appended, put_grown, without, put_removed, put_shortened}
use Rattle.directory.proofs.EditedEntries.{chain_replaced, chain_appended, chain_grown, chain_removed, swap_removed}
use Rattle.directory.proofs.EditedEntries.{removed_is, map_removed, not_elsewhere, absent_elsewhere, inserted_is}
use Rattle.directory.proofs.EditedEntries.{inserted_new, renamed_is, map_replaced, map_renamed, map_appended}

module _ {E K V : Type 0} {R : K → K → Ordering} (o : IsTotalOrder R) (IsEntry : K × V → Type 0) (view : E
    → K × V) where
  -- no other entry has the key of this one
  abbrev pub IsAlone : ChainState E → ℕ → E → Type 0
  IsAlone chain i e = find R (view e).0 (take i (map view chain.entries) ++ drop (suc i) (map view chain.entries))
      ≡ None

  pub replaced_sound : (inside old : ChainState E) (i : ℕ) (e : E) → inside ≡ old
      → IsChain R IsEntry (viewed view inside) → i < length old.entries → IsAlone old i e → IsEntry (view e)
      → IsChain R IsEntry (viewed view (record { blocks = inside.blocks; entries = slice_set inside.entries i e }))
  replaced_sound inside old i e is sound within alone good =
      let within' : i < length inside.entries = subst (λ (s : ChainState E). i < length s.entries) (sym is) within in
      let alone' : IsAlone inside i e = subst (λ (s : ChainState E). IsAlone s i e) (sym is) alone in
      let many = length-map inside.entries view in
      let there : i < length (map view inside.entries) = omega arith in
      subst (λ es. IsChain R IsEntry (record { blocks = inside.blocks; entries = es }))
      (sym (map-set view inside.entries i e))
      (chain_replaced o IsEntry inside.blocks (map view inside.entries) i _ (view e) sound there
      (slice_get-get_or (map view inside.entries) i (view e) there) alone' good)

  module _ (words : K × V → List ℕ) where
    pub replaced_put : (inside old : ChainState E) (i : ℕ) (e : E) (ns : List ℕ) (es : List E) (before after : List Put)
        → inside ≡ old → IsChain R IsEntry (viewed view inside) → i < length old.entries
        → ns ≡ inside.blocks → es ≡ slice_set inside.entries i e
        → after ≡ replaced (block_put words (record { blocks = ns; entries = map view es }) (i / 42)) before
        → PutsChain words (viewed view old)
        (viewed view (record { blocks = inside.blocks; entries = slice_set inside.entries i e })) before after
    replaced_put inside old i e ns es before after is sound within blocks_are entries_are put =
        let within' : i < length inside.entries = subst (λ (s : ChainState E). i < length s.entries) (sym is) within in
        let many = length-map inside.entries view in
        let there : i < length (map view inside.entries) = omega arith in
        let seen : ChainState (K
        × V) = viewed view (record { blocks = inside.blocks; entries = slice_set inside.entries i e }) in
        let made : PutsChain words (viewed view inside) seen before (replaced (block_put words seen (i / 42)) before) =
        subst (λ xs. PutsChain words (viewed view inside) (record { blocks = inside.blocks; entries = xs }) before
        (replaced (block_put words (record { blocks = inside.blocks; entries = xs }) (i / 42)) before))
        (sym (map-set view inside.entries i e)) (put_replaced words inside.blocks (map view inside.entries) i
        (view e) before sound.counted sound.blocks_once there) in
        let puts : after ≡ replaced (block_put words seen (i / 42)) before = put
        ∙ (λ j. replaced (block_put words (record { blocks = blocks_are j; entries = map view (entries_are j) })
        (i / 42)) before) in
        subst (λ (s : ChainState E). PutsChain words (viewed view s) seen before after) is
        (subst (λ ps. PutsChain words (viewed view inside) seen before ps) (sym puts) made)

  -- the last block has room, or it is full and this block isn't one of the chain's
  abbrev pub IsFitting : ChainState E → Option ℕ → Type 0
  IsFitting chain block = MatchOption block (length chain.entries ≡ 42 * length chain.blocks
      → ⊥) (λ n. (length chain.entries ≡ 42 * length chain.blocks) × (times n chain.blocks ≡ 0))

  pub appended_sound : (inside old : ChainState E) (e : E) (block : Option ℕ) (ns : List ℕ) (es : List E)
      → inside ≡ old → IsChain R IsEntry (viewed view inside) → find R (view e).0 (map view old.entries) ≡ None
      → IsFitting old block → IsEntry (view e)
      → ns ≡ inside.blocks ++ option_to_list block → map view es ≡ map view inside.entries ++ view e ∷ []
      → IsChain R IsEntry (viewed view (record { blocks = ns; entries = es }))
  appended_sound inside old e block ns es is sound absent fits good blocks_are entries_are =
      subst (λ (s : ChainState (K × V)). IsChain R IsEntry s)
      (λ j. record { blocks = sym blocks_are j; entries = sym entries_are j })
      (step block (subst (λ (s : ChainState E). IsFitting s block) (sym is) fits))
    where
      absent' : find R (view e).0 (map view inside.entries) ≡ None
      absent' = subst (λ (s : ChainState E). find R (view e).0 (map view s.entries) ≡ None) (sym is) absent

      step : (b : Option ℕ) → IsFitting inside b
          → IsChain R IsEntry
          (record { blocks = inside.blocks ++ option_to_list b; entries = map view inside.entries ++ view e ∷ [] })
      step None room = let many = length-map inside.entries view in
          subst (λ ms. IsChain R IsEntry (record { blocks = ms; entries = map view inside.entries ++ view e ∷ [] }))
          (sym (append-nil inside.blocks))
          (chain_appended o IsEntry inside.blocks (map view inside.entries) (view e) sound
          (λ h. room (sym many ∙ h)) absent' good)
      step (Some n) fits = let many = length-map inside.entries view in
          chain_grown o IsEntry inside.blocks (map view inside.entries) n (view e) sound (many
          ∙ fits.0) fits.1 absent' good

  module _ (words : K × V → List ℕ) where
    -- the last block, and the one before it
    abbrev last_put : ChainState (K × V) → ℕ → Put
    last_put chain k = block_put words chain (length chain.blocks - k)

    pub appended_put : (inside old : ChainState E) (e : E) (block : Option ℕ) (ns ms : List ℕ) (es fs : List E)
        (b : Bool) (before after : List Put) → inside ≡ old → IsChain R IsEntry (viewed view inside)
        → find R (view e).0 (map view old.entries) ≡ None
        → IsFitting old block → IsEntry (view e) → ns ≡ inside.blocks ++ option_to_list block
        → map view es ≡ map view inside.entries ++ view e ∷ [] → ms ≡ ns → fs ≡ es → b ≡ is_some block
        → (IsFalse b → after ≡ replaced (last_put (record { blocks = ms; entries = map view fs }) 1) before)
        → (IsTrue b → after ≡ replaced (last_put (record { blocks = ms; entries = map view fs }) 1)
        (replaced (last_put (record { blocks = ms; entries = map view fs }) 2) before))
        → PutsChain words (viewed view old) (viewed view (record { blocks = ns; entries = es })) before after
    appended_put inside old e block ns ms es fs b before after is sound absent fits good blocks_are entries_are
        same_blocks same_entries flag one both =
        subst (λ (s : ChainState E). PutsChain words (viewed view s)
        (viewed view (record { blocks = ns; entries = es })) before after) is
        (step block refl (subst (λ (s : ChainState E). IsFitting s block) (sym is) fits))
      where
        many : length (map view inside.entries) ≡ length inside.entries
        many = length-map inside.entries view

        absent' : find R (view e).0 (map view inside.entries) ≡ None
        absent' = subst (λ (s : ChainState E). find R (view e).0 (map view s.entries) ≡ None) (sym is) absent

        made_in : List ℕ → ChainState (K × V)
        made_in ms = record { blocks = ms; entries = map view inside.entries ++ view e ∷ [] }

        made : Option ℕ → ChainState (K × V)
        made x = record { blocks = inside.blocks ++ option_to_list x; entries = map view inside.entries ++ view e ∷ [] }

        now : (x : Option ℕ) → block ≡ x → made x ≡ viewed view (record { blocks = ns; entries = es })
        now x at = λ j. record {
          blocks = (ap (λ y. inside.blocks ++ option_to_list y) (sym at) ∙ sym blocks_are) j;
          entries = sym entries_are j;
        }

        slices : viewed view (record { blocks = ms; entries = fs }) ≡ viewed view (record { blocks = ns; entries = es })
        slices = λ j. record { blocks = same_blocks j; entries = map view (same_entries j) }

        step : (x : Option ℕ) → block ≡ x → IsFitting inside x
            → PutsChain words (viewed view inside) (viewed view (record { blocks = ns; entries = es })) before after
        step None at room =
            let counted = sound.counted in
            let first : made_in inside.blocks ≡ viewed view (record { blocks = ns; entries = es }) =
            (λ j. made_in (sym (append-nil inside.blocks) j)) ∙ now None at in
            subst (λ ps. PutsChain words (viewed view inside) (viewed view (record { blocks = ns; entries = es }))
            before ps) (sym (one (flag ∙ ap is_some at) ∙ (λ j. replaced (last_put (slices j) 1) before)))
            (subst (λ ch. PutsChain words (viewed view inside) ch before (replaced (last_put ch 1) before)) first
            (put_appended words inside.blocks (map view inside.entries) (view e) before counted sound.blocks_once
            (λ h. room (sym many ∙ h))))
        step (Some n) at room =
            let counted = sound.counted in
            let more = length-append inside.blocks (n ∷ []) in
            let last : length (inside.blocks ++ n ∷ []) - 1 ≡ length inside.blocks = omega arith in
            let before_last : length (inside.blocks ++ n ∷ []) - 2 ≡ length inside.blocks - 1 = omega arith in
            let grown = chain_grown o IsEntry inside.blocks (map view inside.entries) n (view e) sound (many
            ∙ room.0) room.1 absent' good in
            subst (λ ps. PutsChain words (viewed view inside) (viewed view (record { blocks = ns; entries = es }))
            before ps)
            (sym (both (flag ∙ ap is_some at)
            ∙ (λ j. replaced (last_put (slices j) 1) (replaced (last_put (slices j) 2) before))))
            (subst (λ ch. PutsChain words (viewed view inside) ch before
            (replaced (last_put ch 1) (replaced (last_put ch 2) before))) (now (Some n) at)
            (subst (λ ps. PutsChain words (viewed view inside) (made (Some n)) before ps)
            (λ j. replaced (block_put words (made (Some n)) (sym last j))
            (replaced (block_put words (made (Some n)) (sym before_last j)) before))
            (put_grown words inside.blocks (map view inside.entries) n (view e) before counted grown.blocks_once (many
            ∙ room.0))))

module _ {E K V : Type 0} {R : K → K → Ordering} (o : IsTotalOrder R) (IsEntry : K × V → Type 0) (view : E
    → K × V) where
  pub alone_at : (chain : ChainState E) (i : ℕ) (k : K) (v : V) (e : E) → IsChain R IsEntry (viewed view chain)
      → StandsAt R (map view chain.entries) k v i → k ≡ (view e).0 → IsAlone o IsEntry view chain i e
  alone_at chain i k v e sound at key = subst
      (λ q. find R q (take i (map view chain.entries) ++ drop (suc i) (map view chain.entries))
      ≡ None) key (not_elsewhere o (map view chain.entries) i k v sound.each_once at)

  -- a key that is nowhere, too
  pub alone_absent : (chain : ChainState E) (i : ℕ) (k : K) (v : V) (e : E) → StandsAt R (map view chain.entries) k v i
      → find R (view e).0 (map view chain.entries) ≡ None → IsAlone o IsEntry view chain i e
  alone_absent chain i k v e at none = absent_elsewhere o (map view chain.entries) i (k, v) (view e).0 at.is none

  pub alone_either : (chain : ChainState E) (i : ℕ) (k : K) (v : V) (e : E) → IsChain R IsEntry (viewed view chain)
      → StandsAt R (map view chain.entries) k v i → (k ≡ (view e).0)
      ⊎ (find R (view e).0 (map view chain.entries) ≡ None) → IsAlone o IsEntry view chain i e
  alone_either chain i k v e sound at (inl same) = alone_at chain i k v e sound at same
  alone_either chain i k v e sound at (inr none) = alone_absent chain i k v e at none

  module _ (old new : ChainState E) (i : ℕ) (k : K) (v : V) (e : E) (done : new
      ≡ record old { entries = slice_set old.entries i e }) (at : StandsAt R (map view old.entries) k v i) where
    seen : map view new.entries ≡ slice_set (map view old.entries) i (view e)
    seen = ap (λ (s : ChainState E). map view s.entries) done ∙ map-set view old.entries i e

    pub replaced_items : k ≡ (view e).0 → map view new.entries ≡ inserted R (map view old.entries) (view e)
    replaced_items key = seen ∙ sym (inserted_is o (map view old.entries) i (view e) v
        (subst (λ q. StandsAt R (map view old.entries) q v i) key at))

    pub replaced_map : (exact : IsAntisymmetric R) → k ≡ (view e).0 → IsChain R IsEntry (viewed view old)
        → from_entries {R = R} (map view new.entries)
        ≡ insert (from_entries (map view old.entries)) (view e).0 (view e).1
    replaced_map exact key sound = ap from_entries seen
        ∙ map_replaced o exact (map view old.entries) i v (view e) sound.each_once
        (subst (λ q. StandsAt R (map view old.entries) q v i) key at)

    pub renamed_items : map view new.entries ≡ renamed R (map view old.entries) k (view e)
    renamed_items = seen ∙ sym (renamed_is o (map view old.entries) i k v (view e) at)

    pub renamed_map : (exact : IsAntisymmetric R) → IsAlone o IsEntry view old i e → IsChain R IsEntry (viewed view old)
        → from_entries {R = R} (map view new.entries)
        ≡ insert (remove (from_entries (map view old.entries)) k) (view e).0 (view e).1
    renamed_map exact alone sound = ap from_entries seen
        ∙ map_renamed o exact (map view old.entries) i k v (view e) sound.each_once at alone

  module _ (old new : ChainState E) (e : E) (more : map view new.entries ≡ map view old.entries ++ view e ∷ [])
      (none : find R (view e).0 (map view old.entries) ≡ None) where
    pub appended_items : map view new.entries ≡ inserted R (map view old.entries) (view e)
    appended_items = more ∙ sym (inserted_new o (map view old.entries) (view e) none)

    pub appended_map : (exact : IsAntisymmetric R) → from_entries {R = R} (map view new.entries)
        ≡ insert (from_entries (map view old.entries)) (view e).0 (view e).1
    appended_map exact = ap from_entries more ∙ map_appended o exact (map view old.entries) (view e) none

-- An entry is taken out.
module _ {E K V : Type 0} {R : K → K → Ordering} (o : IsTotalOrder R) (IsEntry : K × V → Type 0) (view : E
    → K × V) where
  seen_moved : (es : List E) (i : ℕ) → map view (take i es ++ last_first (drop (suc i) es))
      ≡ take i (map view es) ++ last_first (drop (suc i) (map view es))
  seen_moved es i =
      let vs = drop (suc i) es in
      map-append view (take i es) (last_first vs)
      ∙ (λ j. sym (take-map view i es) j ++ map-append view (drop (length vs - 1) vs) (take (length vs - 1) vs) j)
      ∙ (λ j. take i (map view es)
      ++ (sym (drop-map view (length vs - 1) vs) j ++ sym (take-map view (length vs - 1) vs) j))
      ∙ (λ j. take i (map view es) ++ (drop (sym (length-map vs view) j - 1) (map view vs)
      ++ take (sym (length-map vs view) j - 1) (map view vs)))
      ∙ ap (λ ws. take i (map view es) ++ last_first ws) (sym (drop-map view (suc i) es))

  pub removed_entries : (inside old : ChainState E) (i : ℕ) (x : E) (es : List E) → inside ≡ old
      → i < length old.entries → es ≡ swap_remove inside.entries i x
      → es ≡ take i old.entries ++ last_first (drop (suc i) old.entries)
  removed_entries inside old i x es is within moved =
      moved ∙ swap_removed inside.entries i x (subst (λ (s : ChainState E). i < length s.entries) (sym is) within)
      ∙ ap (λ (s : ChainState E). take i s.entries ++ last_first (drop (suc i) s.entries)) is

  pub removed_sound : (inside old : ChainState E) (i : ℕ) (x : E) (ms : List ℕ) (freed : Option ℕ) (es : List E)
      → inside ≡ old → IsChain R IsEntry (viewed view inside) → i < length old.entries
      → inside.blocks ≡ ms ++ option_to_list freed
      → es ≡ swap_remove inside.entries i x → length ms ≡ directory_cost (length es)
      → IsChain R IsEntry (viewed view (record { blocks = ms; entries = es }))
  removed_sound inside old i x ms freed es is sound within kept moved counted =
      let within' : i < length inside.entries = subst (λ (s : ChainState E). i < length s.entries) (sym is) within in
      let many = length-map inside.entries view in
      let there : i < length (map view inside.entries) = omega arith in
      let items : map view es ≡ take i (map view inside.entries)
      ++ last_first (drop (suc i) (map view inside.entries)) = ap (map view) (moved
      ∙ swap_removed inside.entries i x within') ∙ seen_moved inside.entries i in
      let counted' = counted ∙ ap directory_cost (sym (length-map es view) ∙ ap length items) in
      subst (λ xs. IsChain R IsEntry (record { blocks = ms; entries = xs })) (sym items)
      (chain_removed o IsEntry inside.blocks ms (option_to_list freed) (map view inside.entries) i
      (get_or (map view inside.entries) i (view x)) sound (slice_get-get_or (map view inside.entries) i (view x) there)
      kept counted')

  module _ (words : K × V → List ℕ) where
    pub removed_put : (inside old : ChainState E) (i : ℕ) (x : E) (ms ls : List ℕ) (freed : Option ℕ) (es fs : List E)
        (before after : List Put) → inside ≡ old → IsChain R IsEntry (viewed view inside) → i < length old.entries
        → inside.blocks ≡ ms ++ option_to_list freed → es ≡ swap_remove inside.entries i x
        → length ms ≡ directory_cost (length es) → ls ≡ ms → fs ≡ es
        → (length ls - 1 ≤ i / 42
        → after ≡ replaced (block_put words (record { blocks = ls; entries = map view fs }) (length ls - 1)) before)
        → (i / 42 < length ls - 1 → after
        ≡ replaced (block_put words (record { blocks = ls; entries = map view fs }) (length ls - 1))
        (replaced (block_put words (record { blocks = ls; entries = map view fs }) (i / 42)) before))
        → PutsChain words (viewed view old) (viewed view (record { blocks = ms; entries = es })) before after
    removed_put inside old i x ms ls freed es fs before after is sound within kept moved counted same_blocks
        same_entries one both =
        subst (λ (s : ChainState E). PutsChain words (viewed view s) now before after) is
        (step (below_or_not (i / 42) (length ms - 1)))
      where
        items : List (K × V)
        items = map view inside.entries

        last : E
        last = get_or inside.entries (length inside.entries - 1) x

        now : ChainState (K × V)
        now = viewed view (record { blocks = ms; entries = es })

        within' : i < length inside.entries
        within' = subst (λ (s : ChainState E). i < length s.entries) (sym is) within

        many : length items ≡ length inside.entries
        many = length-map inside.entries view

        there : i < length items
        there = let a = within' in let b = many in omega arith

        result : map view es ≡ take (length items - 1) (slice_set items i (view last))
        result = ap (map view) moved ∙ sym (take-map view (length inside.entries - 1) (slice_set inside.entries i last))
            ∙ (λ j. take (sym many j - 1) (map-set view inside.entries i last j))

        fewer : length es ≡ length items - 1
        fewer = let n = length-set items i (view last) in sym (length-map es view) ∙ ap length result
            ∙ length-take-le (length items - 1) (slice_set items i (view last)) (omega arith)

        counted' : length ms ≡ directory_cost (length items - 1)
        counted' = counted ∙ ap directory_cost fewer

        once : (n : ℕ) → times n ms ≤ 1
        once n = let whole = ap (times n) kept ∙ times-append n ms (option_to_list freed) in
            let single = sound.blocks_once n in omega arith

        state : without words inside.blocks ms (option_to_list freed) items i
            (view last) before kept sound.counted counted' once there ≡ now
        state = λ j. record { blocks = ms; entries = sym result j }

        slices : viewed view (record { blocks = ls; entries = fs }) ≡ now
        slices = λ j. record { blocks = same_blocks j; entries = map view (same_entries j) }

        step : (i / 42 < length ms - 1) ⊎ (length ms - 1 ≤ i / 42)
            → PutsChain words (viewed view inside) now before after
        step (inl h) =
            subst (λ ps. PutsChain words (viewed view inside) now before ps)
            (sym (both (subst (λ ks. i / 42 < length ks - 1) (sym same_blocks) h)
            ∙ (λ j. replaced (block_put words (slices j) (length (same_blocks j) - 1))
            (replaced (block_put words (slices j) (i / 42)) before))))
            (subst (λ ch. PutsChain words (viewed view inside) ch before
            (replaced (block_put words ch (length ms - 1)) (replaced (block_put words ch (i / 42)) before))) state
            (put_removed words inside.blocks ms (option_to_list freed) items i
            (view last) before kept sound.counted counted' once there h))
        step (inr h) =
            subst (λ ps. PutsChain words (viewed view inside) now before ps)
            (sym (one (subst (λ ks. length ks - 1 ≤ i / 42) (sym same_blocks) h)
            ∙ (λ j. replaced (block_put words (slices j) (length (same_blocks j) - 1)) before)))
            (subst (λ ch. PutsChain words (viewed view inside) ch before
            (replaced (block_put words ch (length ms - 1)) before)) state
            (put_shortened words inside.blocks ms (option_to_list freed) items i
            (view last) before kept sound.counted counted' once there h))

  module _ (old new : ChainState E) (i : ℕ) (k : K) (v : V) (done : new.entries ≡ take i old.entries
      ++ last_first (drop (suc i) old.entries)) (at : StandsAt R (map view old.entries) k v i) where
    pub removed_items : map view new.entries ≡ removed R (map view old.entries) k
    removed_items = ap (map view) done ∙ seen_moved old.entries i ∙ sym (removed_is o (map view old.entries) i k v at)

    pub removed_map : (exact : IsAntisymmetric R) → IsChain R IsEntry (viewed view old)
        → from_entries {R = R} (map view new.entries) ≡ remove (from_entries (map view old.entries)) k
    removed_map exact sound = ap from_entries (ap (map view) done ∙ seen_moved old.entries i)
        ∙ map_removed o exact (map view old.entries) i k v sound.each_once at
