-- What is cached is still what the disk holds, whatever is put or taken out.
use Rattle.std.proofs.Common.{◌≡◌, ◌∙◌, ◌⊎◌, ◌+◌, suc, ℕ, true, false, List, [], ◌∷◌, Some, None, Result, Ok, Err}
use Rattle.std.proofs.Common.{OnOk, OnErr, Contains, nat_eq, refl, sym, ap, subst, inl, inr, arith, ⊎_elim}
use Rattle.std.proofs.lemmas.Bool.Decides.{nat_tests}
use Rattle.std.proofs.lemmas.Map.{lookup-remove_entry}
use Rattle.std.specs.Cmp.{nat_eq_equiv}
use Rattle.std.specs.List.{IsDistinct}
use Rattle.std.specs.Map.{lookup, lookup_entry, remove_entry, keys_of}
use Rattle.std.specs.Option.{option_map_or}
use Rattle.lru.specs.LruCache.{lru_cache, put_entries, promoted}
use Rattle.lru.proofs.Splits.{Contains-cons, Contains-nil}
use Rattle.lru.proofs.CallerLemmas.{Contains-put_entries, Contains-promoted, Contains-lookup, Contains-remove_entry}
use Rattle.blockdisk.specs.Common.{Contents, SameOutside}
use Rattle.blockcache.specs.Cache.{CachedBlocks, AreCached, IsCached, used, without, without_run}

same_key : (n m : ℕ) → nat_eq n m ≡ true → m ≡ n
same_key n m e = grind (arith, nat_tests)

-- what a look-up finds is what the contents hold
pub held_found : (entries : List (ℕ × List ℕ)) (contents : Contents) (n : ℕ) (words : List ℕ)
    → AreCached entries contents
    → lookup (nat_eq n) entries ≡ Some words → contents n ≡ Some words
held_found entries contents n words held found =
    let at = Contains-lookup (nat_eq n) entries words found in
    ap contents (sym (same_key n at.0 at.2)) ∙ held (at.0, words) at.1

-- nothing moves if nothing is found
pub used_missed : (kept : CachedBlocks) (n : ℕ) → lookup (nat_eq n) kept.entries ≡ None → used n kept ≡ kept
used_missed kept n missed = ap (λ es. lru_cache es kept.cap) (unmoved kept.entries missed)
  where
    no_entry : (es : List (ℕ × List ℕ)) → lookup (nat_eq n) es ≡ None → lookup_entry (nat_eq n) es ≡ None
    no_entry [] none = refl
    no_entry (f ∷ es) none = (elim (nat_eq n f.0) as (λ b. nat_eq n f.0 ≡ b → lookup_entry (nat_eq n) (f ∷ es) ≡ None) [
      | true ↦ λ t. let none' = rw t at none in absurd (none_some f.1 none')
      | false ↦ λ t. rw t (no_entry es (rw t at none))
    ]) refl
      where
        none_some : {X : Type 0} (x : X) → Some x ≡ None → ⊥
        none_some x e = cc

    unmoved : (es : List (ℕ × List ℕ)) → lookup (nat_eq n) es ≡ None → promoted (nat_eq n) es ≡ es
    unmoved es none = ap (λ o. option_map_or (λ e. e ∷ remove_entry (nat_eq n) es) o es) (no_entry es none)

pub held_used : (kept : CachedBlocks) (contents : Contents) (n : ℕ) → AreCached kept.entries contents
    → AreCached (used n kept).entries contents
held_used kept contents n held e is = held e (Contains-promoted (nat_eq n) kept.entries e is)

-- Puts

-- each entry after a put was there, or is the one put
put_entry : (kept : CachedBlocks) (n : ℕ) (words : List ℕ) (e : ℕ × List ℕ)
    → Contains (put_entries nat_eq kept n words) e
    → Contains kept.entries e ⊎ ((e.0 ≡ n) × (e.1 ≡ words))
put_entry kept n words e is = elim (Contains-put_entries nat_eq kept n words e is) [
  | inl there ↦ inl there
  | inr put ↦ elim put.1 [
    | inl key ↦ inr (key, put.0)
    | inr other ↦ inr (same_key n e.0 other.2, put.0)
  ]
]

held_put : (kept : CachedBlocks) (contents : Contents) (n : ℕ) (words : List ℕ) → AreCached kept.entries contents
    → contents n ≡ Some words → AreCached (put_entries nat_eq kept n words) contents
held_put kept contents n words held here e is = elim (put_entry kept n words e is) [
  | inl there ↦ held e there
  | inr put ↦ ap contents put.0 ∙ here ∙ ap (λ w. Some w) (sym put.1)
]

pub held_kept : (kept new : CachedBlocks) (contents : Contents) (n : ℕ) (words : List ℕ) → IsCached n words kept new
    → AreCached kept.entries contents → contents n ≡ Some words → AreCached new.entries contents
held_kept kept new contents n words is held here = ⊎_elim
    (λ put. subst (λ (c : CachedBlocks). AreCached c.entries contents) (sym put)
    (held_put kept contents n words held here))
    (λ same. subst (λ (c : CachedBlocks). AreCached c.entries contents) (sym same) held) is

-- a put changes the cache, or is refused and changes nothing
pub put_or_not : {R E : Type 0} (answer : Result R E) (kept new : CachedBlocks) (n : ℕ) (words : List ℕ)
    → OnOk answer (new ≡ lru_cache (put_entries nat_eq kept n words) kept.cap) → OnErr answer (new ≡ kept)
    → IsCached n words kept new
put_or_not (Ok old) kept new n words ok err = inl ok
put_or_not (Err refused) kept new n words ok err = inr err

-- What is taken out

one_key : (n x y : ℕ) → nat_eq n x ≡ true → nat_eq n y ≡ nat_eq x y
one_key n x y e = let s : x ≡ n = same_key n x e in rw s refl

pub gone : (n : ℕ) (es : List (ℕ × List ℕ)) → IsDistinct nat_eq (keys_of es)
    → lookup (nat_eq n) (remove_entry (nat_eq n) es) ≡ None
gone n es distinct = lookup-remove_entry nat_eq_equiv (nat_eq n) (one_key n) n es distinct
    ∙ rw (nat_eq_equiv.refl n) refl

pub none_some : {X : Type 0} (x : X) → Some x ≡ None → ⊥
none_some x e = cc

pub some_same : {X : Type 0} (x y : X) → Some x ≡ Some y → x ≡ y
some_same x y e = cc

-- an entry of a block is found under its number
pub found_somewhere : (n : ℕ) (es : List (ℕ × List ℕ)) (e : ℕ × List ℕ) → Contains es e → e.0 ≡ n
    → lookup (nat_eq n) es ≡ None → ⊥
found_somewhere n [] e is key none = absurd (Contains-nil e is)
found_somewhere n (f ∷ es) e is key none = (elim (nat_eq n f.0) as (λ b. nat_eq n f.0 ≡ b → ⊥) [
  | true ↦ λ t. let none' = rw t at none in none_some f.1 none'
  | false ↦ λ t. let none' = rw t at none in elim (Contains-cons f es e is) [
    | inl same ↦ let z : f.0 ≡ n = ap (λ (p : ℕ × List ℕ). p.0) same ∙ key in grind (arith, nat_tests)
    | inr rest ↦ found_somewhere n es e rest key none'
  ]
]) refl

pub held_without : (kept : CachedBlocks) (contents : Contents) (n : ℕ) → AreCached kept.entries contents
    → AreCached (without n kept).entries contents
held_without kept contents n held e is = held e (Contains-remove_entry (nat_eq n) kept.entries e is)

-- one block more isn't cached
pub run_more : (first more count : ℕ) (kept : CachedBlocks) → more + 1 ≡ count
    → without (first + more) (without_run first more kept) ≡ without_run first count kept
run_more first more count kept is =
    let next : suc more ≡ count = omega (arith, is) in ap (λ k. without_run first k kept) next

-- what is cached of other blocks is still right, whatever happens to block n
pub held_beside : (entries : List (ℕ × List ℕ)) (contents now : Contents) (n : ℕ) → AreCached entries contents
    → lookup (nat_eq n) entries ≡ None → ((m : ℕ) → (m ≡ n → ⊥) → now m ≡ contents m) → AreCached entries now
held_beside entries contents now n held none others e is =
    others e.0 (λ here. found_somewhere n entries e is here none) ∙ held e is

-- what is not found is not found after an entry is taken out
pub none_without : (m n : ℕ) (es : List (ℕ × List ℕ)) → lookup (nat_eq m) es ≡ None
    → lookup (nat_eq m) (remove_entry (nat_eq n) es) ≡ None
none_without m n [] none = refl
none_without m n (f ∷ es) none = (elim (nat_eq m f.0) as (λ b. nat_eq m f.0 ≡ b
    → lookup (nat_eq m) (remove_entry (nat_eq n) (f ∷ es)) ≡ None) [
      | true ↦ λ t. let none' = rw t at none in absurd (none_some f.1 none')
      | false ↦ λ t. let none' = rw t at none in (elim (nat_eq n f.0) as (λ b. nat_eq n f.0 ≡ b
          → lookup (nat_eq m) (remove_entry (nat_eq n) (f ∷ es)) ≡ None) [
            | true ↦ λ u. rw u none'
            | false ↦ λ u. rw (u, t) (none_without m n es none')
          ]) refl
    ]) refl

-- what is cached of other blocks is still right, whatever happens to those of a set of blocks
pub held_outside : (In : ℕ → Type 0) (entries : List (ℕ × List ℕ)) (contents now : Contents)
    → AreCached entries contents
    → ((n : ℕ) → In n → lookup (nat_eq n) entries ≡ None) → SameOutside In contents now → AreCached entries now
held_outside In entries contents now held none others e is =
    others e.0 (λ within. found_somewhere e.0 entries e is refl (none e.0 within)) ∙ held e is
