-- A directory's entry is put: in place of the one with its name, or after the others.
use Rattle.std.proofs.Common.{◌≡◌, ℕ, zero, suc, ◌+◌, ◌⊎◌, inl, inr, cond, List, [], ◌∷◌, ◌++◌, length, take}
use Rattle.std.proofs.Common.{slice_get, slice_set, Some, None, refl, sym, ap, ◌∙◌, arith, length-append}
use Rattle.std.proofs.lemmas.List.{length-set}
use Rattle.std.proofs.lemmas.Option.{slice_get_within}
use Rattle.std.specs.Ordering.{eq_by_cmp}
use Rattle.std.specs.FinMap.Entries.{find}
use Rattle.words36.specs.declared.names.FileName.{FileName}
use Rattle.spec_image.specs.Common.{SpecFileEntry, IsFileEntry, name_cmp, times, insert, from_entries}
use Rattle.spec_image.proofs.Common.{some_same, some_none, at_itself, name_total}
use Rattle.directory.specs.Common.{ChainState, IsChain, StandsAt, inserted}
use Rattle.volume.specs.Common.{CurrentVersion, CurrentDirectory, IsWholeDirectory, blocks_reached, reaches_in_entries}
use Rattle.volume.specs.Common.{cost_of_version, IsEntryPut}
use Rattle.volume.proofs.common.Lookups.{total-push}
use Rattle.volume.proofs.MakeDir.Law.{pushed_at}
use Rattle.volume.proofs.common.Lists.{set_cases, absent_at, one_entry, total_set}
use Rattle.volume.proofs.common.ReachedBlocks.{entries_push}
use Rattle.volume.proofs.common.HoleLists.{other_key}

-- The place of a name, each once.

-- Where an entry is put.

-- an entry of a name that is in the list takes its place
pub inserted_at : (es : List SpecFileEntry) (i : ℕ) (e : SpecFileEntry) (w : ℕ) → slice_get es i ≡ Some (e.0, w)
    → find name_cmp e.0 (take i es) ≡ None → inserted name_cmp es e ≡ slice_set es i e
inserted_at [] i e w is none = absurd (some_none (sym is))
inserted_at (x ∷ es) zero e w is none =
    let same : x ≡ (e.0, w) = some_same is in
    ap (λ b. cond b (e ∷ es) (x ∷ inserted name_cmp es e)) (ap (λ (y : SpecFileEntry). eq_by_cmp name_cmp e.0 y.0) same
    ∙ at_itself name_total e.0)
inserted_at (x ∷ es) (suc i) e w is none =
    let first = other_key (eq_by_cmp name_cmp e.0 x.0) x.1 (find name_cmp e.0 (take i es)) none in
    ap (λ b. cond b (e ∷ es) (x ∷ inserted name_cmp es e)) first.0 ∙ ap (λ ys. x ∷ ys) (inserted_at es i e w is first.1)

-- and one of a new name is the last one
pub inserted_new : (es : List SpecFileEntry) (e : SpecFileEntry) → find name_cmp e.0 es ≡ None
    → inserted name_cmp es e ≡ es ++ e ∷ []
inserted_new [] e none = refl
inserted_new (x ∷ es) e none =
    let first = other_key (eq_by_cmp name_cmp e.0 x.0) x.1 (find name_cmp e.0 es) none in
    ap (λ b. cond b (e ∷ es) (x ∷ inserted name_cmp es e)) first.0 ∙ ap (λ ys. x ∷ ys) (inserted_new es e first.1)

-- Sums with one element in the place of another.

pub reaches_set : (n : ℕ) (es : List SpecFileEntry) (vs : List CurrentVersion) (i : ℕ) (e e' : SpecFileEntry)
    (u v : CurrentVersion)
    → slice_get es i ≡ Some e → slice_get vs i ≡ Some u
    → reaches_in_entries n (slice_set es i e') (slice_set vs i v) + times n (blocks_reached e.1 u.version)
    ≡ reaches_in_entries n es vs + times n (blocks_reached e'.1 v.version)
reaches_set n [] vs i e e' u v here there = absurd (some_none (sym here))
reaches_set n (x ∷ es) [] i e e' u v here there = absurd (some_none (sym there))
reaches_set n (x ∷ es) (y ∷ vs) zero e e' u v here there =
    let same : times n (blocks_reached x.1 y.version) ≡ times n (blocks_reached e.1 u.version) = λ k.
    times n (blocks_reached (some_same here k).1 (some_same there k).version) in
    omega arith
reaches_set n (x ∷ es) (y ∷ vs) (suc i) e e' u v here there = let rest = reaches_set n es vs i e e' u v here there in
    omega arith

-- The entry.

pub entry_replaced : (size : ℕ) (d : CurrentDirectory) (chain : ChainState SpecFileEntry) (name : FileName)
    (at w i : ℕ) (u v : CurrentVersion) → IsWholeDirectory size d → StandsAt name_cmp d.chain.entries name w i
    → slice_get d.versions i ≡ Some u
    → chain.entries ≡ inserted name_cmp d.chain.entries (name, at) → IsChain name_cmp IsFileEntry chain
    → from_entries {R = name_cmp} chain.entries ≡ insert (from_entries d.chain.entries) name at
    → IsEntryPut d (record { chain = chain; versions = slice_set d.versions i v }) name at v (Some (w, u))
entry_replaced size d chain name at w i u v whole stands was entries is_chain names = record {
  was = (i, stands, was);
  chain = is_chain;
  aligned = length-set d.versions i v ∙ whole.aligned
      ∙ sym (ap (λ (es : List SpecFileEntry). length es) set ∙ length-set d.chain.entries i (name, at));
  count = let a = ap (λ (es : List SpecFileEntry). length es) set in let b = length-set d.chain.entries i (name, at) in
      omega arith;
  names = names;
  each = λ j e x here there. by_place j e x (set_cases d.chain.entries i j (name, at) e
      (ap (λ es. slice_get es j) (sym set) ∙ here)) (set_cases d.versions i j v x there);
  reaches = λ n. ap (λ (es : List SpecFileEntry). reaches_in_entries n es (slice_set d.versions i v)
      + times n (blocks_reached w u.version)) set
      ∙ reaches_set n d.chain.entries d.versions i (name, w) (name, at) u v stands.is was;
  cost = total_set cost_of_version d.versions i u v was;
}
  where
    set : chain.entries ≡ slice_set d.chain.entries i (name, at)
    set = entries ∙ inserted_at d.chain.entries i (name, at) w stands.is stands.before

    by_place : (j : ℕ) (e : SpecFileEntry) (x : CurrentVersion) → ((j ≡ i) × (e ≡ (name, at)))
        ⊎ ((j ≡ i → ⊥) × (slice_get d.chain.entries j ≡ Some e)) → ((j ≡ i) × (x ≡ v))
        ⊎ ((j ≡ i → ⊥) × (slice_get d.versions j ≡ Some x))
        → ((e ≡ (name, at)) × (x ≡ v)) ⊎ ((e.0 ≡ name → ⊥) × (k : ℕ) × (slice_get d.chain.entries k ≡ Some e)
        × (slice_get d.versions k ≡ Some x))
    by_place j e x (inl a) (inl b) = inl (a.1, b.1)
    by_place j e x (inl a) (inr b) = absurd (b.0 a.0)
    by_place j e x (inr a) (inl b) = absurd (a.0 b.0)
    by_place j e x (inr a) (inr b) =
        inr (
          λ same. a.0 (one_entry d.chain.entries j i name e.1 w whole.chain.each_once (a.1
              ∙ ap (λ (q : FileName). Some (q, e.1)) same) stands.is),
          j,
          a.1,
          b.1,
        )

pub entry_added : (size : ℕ) (d : CurrentDirectory) (chain : ChainState SpecFileEntry) (name : FileName) (at : ℕ)
    (v : CurrentVersion) → IsWholeDirectory size d → find name_cmp name d.chain.entries ≡ None
    → chain.entries ≡ inserted name_cmp d.chain.entries (name, at) → IsChain name_cmp IsFileEntry chain
    → from_entries {R = name_cmp} chain.entries ≡ insert (from_entries d.chain.entries) name at
    → IsEntryPut d (record { chain = chain; versions = d.versions ++ v ∷ [] }) name at v None
entry_added size d chain name at v whole absent entries is_chain names = record {
  was = absent;
  chain = is_chain;
  aligned = length-append d.versions (v ∷ []) ∙ ap (λ (k : ℕ). k + 1) whole.aligned
      ∙ sym (ap (λ (es : List SpecFileEntry). length es) pushed ∙ length-append d.chain.entries ((name, at) ∷ []));
  count = let a = ap (λ (es : List SpecFileEntry). length es) pushed in
      let b = length-append d.chain.entries ((name, at) ∷ []) in omega arith;
  names = names;
  each = λ j e x here there. by_place j e x (pushed_at d.chain.entries (name, at) e j
      (ap (λ es. slice_get es j) (sym pushed) ∙ here)) (pushed_at d.versions v x j there);
  reaches = λ n.
      let all = ap (λ (es : List SpecFileEntry). reaches_in_entries n es (d.versions ++ v ∷ [])) pushed in
      let one = entries_push n d.chain.entries d.versions (name, at) v whole.aligned in
      omega arith;
  cost = let one = total-push cost_of_version d.versions v in omega arith;
}
  where
    pushed : chain.entries ≡ d.chain.entries ++ (name, at) ∷ []
    pushed = entries ∙ inserted_new d.chain.entries (name, at) absent

    by_place : (j : ℕ) (e : SpecFileEntry) (x : CurrentVersion) → (slice_get d.chain.entries j ≡ Some e)
        ⊎ ((j ≡ length d.chain.entries) × (e ≡ (name, at))) → (slice_get d.versions j ≡ Some x)
        ⊎ ((j ≡ length d.versions) × (x ≡ v))
        → ((e ≡ (name, at)) × (x ≡ v)) ⊎ ((e.0 ≡ name → ⊥) × (k : ℕ) × (slice_get d.chain.entries k ≡ Some e)
        × (slice_get d.versions k ≡ Some x))
    by_place j e x (inl a) (inl b) = inr
        (λ same. absent_at d.chain.entries j name e.1 (a ∙ ap (λ (q : FileName). Some (q, e.1)) same) absent, j, a, b)
    by_place j e x (inr a) (inr b) = inl (a.1, b.1)
    by_place j e x (inl a) (inr b) = absurd (let l = slice_get_within d.chain.entries j e a in let r = b.0 in
        let same = whole.aligned in omega arith)
    by_place j e x (inr a) (inl b) = absurd (let l = slice_get_within d.versions j x b in let r = a.0 in
        let same = whole.aligned in omega arith)
