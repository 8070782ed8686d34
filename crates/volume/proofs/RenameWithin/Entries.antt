-- An entry of a directory comes to have another name, in its place, and its version another prime.
use Rattle.std.proofs.Common.{◌≡◌, ℕ, zero, suc, ◌⊎◌, inl, inr, cond, List, [], ◌∷◌, length, take, slice_get}
use Rattle.std.proofs.Common.{slice_set, Some, None, refl, sym, ap, ◌∙◌, arith}
use Rattle.std.proofs.lemmas.List.{length-set}
use Rattle.std.specs.Ordering.{eq_by_cmp}
use Rattle.std.specs.FinMap.Entries.{find}
use Rattle.words36.specs.declared.names.FileName.{FileName}
use Rattle.spec_image.specs.Common.{SpecFileEntry, IsFileEntry, name_cmp, times, insert, remove, from_entries}
use Rattle.spec_image.proofs.Common.{some_same, some_none, at_itself, name_total}
use Rattle.directory.specs.Common.{ChainState, IsChain, StandsAt, renamed}
use Rattle.retrieval.specs.Common.{VersionState}
use Rattle.volume.specs.Common.{CurrentVersion, CurrentDirectory, IsWholeDirectory, blocks_reached, reaches_in_entries}
use Rattle.volume.specs.Common.{cost_of_version, IsEntryRenamed, IsFreeFor}
use Rattle.volume.proofs.common.Lists.{set_cases, absent_at, one_entry, total_set}
use Rattle.volume.proofs.PublishVersion.Entries.{reaches_set}
use Rattle.volume.proofs.common.HoleLists.{other_key}

-- an element in its own place
pub set_itself : {X : Type 0} (xs : List X) (i : ℕ) (x : X) → slice_get xs i ≡ Some x → slice_set xs i x ≡ xs
set_itself [] i x is = refl
set_itself (y ∷ xs) zero x is = ap (λ z. z ∷ xs) (sym (some_same is))
set_itself (y ∷ xs) (suc i) x is = ap (λ zs. y ∷ zs) (set_itself xs i x is)

renamed_at : (es : List SpecFileEntry) (i : ℕ) (name : FileName) (w : ℕ) (e : SpecFileEntry)
    → slice_get es i ≡ Some (name, w)
    → find name_cmp name (take i es) ≡ None → renamed name_cmp es name e ≡ slice_set es i e
renamed_at [] i name w e is none = absurd (some_none (sym is))
renamed_at (x ∷ es) zero name w e is none =
    ap (λ b. cond b (e ∷ es) (x ∷ renamed name_cmp es name e))
    (ap (λ (y : SpecFileEntry). eq_by_cmp name_cmp name y.0) (some_same is) ∙ at_itself name_total name)
renamed_at (x ∷ es) (suc i) name w e is none =
    let first = other_key (eq_by_cmp name_cmp name x.0) x.1 (find name_cmp name (take i es)) none in
    ap (λ b. cond b (e ∷ es) (x ∷ renamed name_cmp es name e)) first.0
    ∙ ap (λ ys. x ∷ ys) (renamed_at es i name w e is first.1)

-- the new entry is in place of the old one
pub renamed_is : (es : List SpecFileEntry) (i : ℕ) (name : FileName) (w : ℕ) (e : SpecFileEntry)
    → StandsAt name_cmp es name w i
    → renamed name_cmp es name e ≡ slice_set es i e
renamed_is es i name w e at = renamed_at es i name w e at.is at.before

pub entry_renamed : (size : ℕ) (d : CurrentDirectory) (chain : ChainState SpecFileEntry) (name to : FileName) (w i : ℕ)
    (u v : CurrentVersion) → IsWholeDirectory size d → StandsAt name_cmp d.chain.entries name w i
    → slice_get d.versions i ≡ Some u → IsFreeFor d name to → v.version ≡ u.version
    → chain.entries ≡ renamed name_cmp d.chain.entries name (to, w) → chain.blocks ≡ d.chain.blocks
    → IsChain name_cmp IsFileEntry chain
    → from_entries {R = name_cmp} chain.entries ≡ insert (remove (from_entries d.chain.entries) name) to w
    → IsEntryRenamed d (record { chain = chain; versions = slice_set d.versions i v }) name to (w, u) v
entry_renamed size d chain name to w i u v whole stands was free lies entries blocks is_chain names = record {
  was = (i, stands, was);
  free = free;
  lies = lies;
  chain = is_chain;
  blocks = blocks;
  aligned = length-set d.versions i v ∙ whole.aligned
      ∙ sym (ap (λ (es : List SpecFileEntry). length es) set ∙ length-set d.chain.entries i (to, w));
  count = ap (λ (es : List SpecFileEntry). length es) set ∙ length-set d.chain.entries i (to, w);
  names = names;
  each = λ j e x here there. by_place j e x (set_cases d.chain.entries i j (to, w) e
      (ap (λ es. slice_get es j) (sym set) ∙ here)) (set_cases d.versions i j v x there);
  reaches = λ n.
      let all = reaches_set n d.chain.entries d.versions i (name, w) (to, w) u v stands.is was in
      let now = ap (λ (es : List SpecFileEntry). reaches_in_entries n es (slice_set d.versions i v)) set in
      let same = ap (λ (x : VersionState). times n (blocks_reached w x)) lies in
      omega arith;
  cost =
      let all = total_set cost_of_version d.versions i u v was in
      let same = ap (λ (x : VersionState). cost_of_version (record { prime = v.prime; version = x })) lies in
      omega arith;
}
  where
    set : chain.entries ≡ slice_set d.chain.entries i (to, w)
    set = entries ∙ renamed_is d.chain.entries i name w (to, w) stands

    -- an entry of another place has another name than the old one, and than the new one
    new_name : IsFreeFor d name to → (j : ℕ) (e : SpecFileEntry) → (j ≡ i → ⊥) → slice_get d.chain.entries j ≡ Some e
        → e.0 ≡ to → ⊥
    new_name (inl same) j e other at is =
        other (one_entry d.chain.entries j i name e.1 w whole.chain.each_once (at
        ∙ ap (λ (q : FileName). Some (q, e.1)) (is ∙ same)) stands.is)
    new_name (inr none) j e other at is =
        absent_at d.chain.entries j to e.1 (at ∙ ap (λ (q : FileName). Some (q, e.1)) is) none

    by_place : (j : ℕ) (e : SpecFileEntry) (x : CurrentVersion) → ((j ≡ i) × (e ≡ (to, w)))
        ⊎ ((j ≡ i → ⊥) × (slice_get d.chain.entries j ≡ Some e)) → ((j ≡ i) × (x ≡ v))
        ⊎ ((j ≡ i → ⊥) × (slice_get d.versions j ≡ Some x))
        → ((e ≡ (to, w)) × (x ≡ v)) ⊎ ((e.0 ≡ to → ⊥) × (e.0 ≡ name → ⊥) × (k : ℕ)
        × (slice_get d.chain.entries k ≡ Some e) × (slice_get d.versions k ≡ Some x))
    by_place j e x (inl a) (inl b) = inl (a.1, b.1)
    by_place j e x (inl a) (inr b) = absurd (b.0 a.0)
    by_place j e x (inr a) (inl b) = absurd (a.0 b.0)
    by_place j e x (inr a) (inr b) =
        inr (
          new_name free j e a.0 a.1,
          λ same. a.0 (one_entry d.chain.entries j i name e.1 w whole.chain.each_once (a.1
              ∙ ap (λ (q : FileName). Some (q, e.1)) same) stands.is),
          j,
          a.1,
          b.1,
        )
