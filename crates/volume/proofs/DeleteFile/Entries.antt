-- A directory's entry is taken out, and the key of its version: the last ones move into their places.
use Rattle.std.proofs.Common.{◌≡◌, ℕ, suc, ◌<◌, List, [], ◌∷◌, map, filter_map, length, slice_get, slice_index_or}
use Rattle.std.proofs.Common.{drop, Option, Some, None, option_map, refl, sym, ap, subst, ◌∙◌, arith}
use Rattle.std.proofs.lemmas.Option.{slice_get_within}
use Rattle.std.specs.List.{AllZip, cons_option}
use Rattle.words36.specs.declared.names.FileName.{FileName}
use Rattle.spec_image.specs.Common.{SpecFileEntry, IsFileEntry, name_cmp, remove, from_entries}
use Rattle.spec_image.proofs.Common.{some_same}
use Rattle.directory.specs.Common.{ChainState, IsChain, StandsAt, removed}
use Rattle.volume.specs.Common.{CurrentVersion, CurrentDirectory, IsWholeDirectory, reaches_in_entries, cost_of_version}
use Rattle.volume.specs.Common.{as_known, slot, IsCurrent, known_at, IsEntryRemoved}
use Rattle.volume.specs.declared.live.LiveVersion.{LiveVersion}
use Rattle.volume.proofs.VolumeStart.FoundDirectories.{zip_at}
use Rattle.volume.proofs.common.LiveLookups.{AreCurrent, knowns_first}
use Rattle.volume.proofs.common.Lists.{one_entry}
use Rattle.volume.proofs.common.HoleLists.{hole, hole_map, hole_total, hole_length, hole_reaches, hole_at, hole_other}
use Rattle.volume.proofs.common.HoleLists.{one_from, IsFrom, removed_is}

-- Lists.

alike : {A B : Type 0} (f g : A → B) (xs : List A) → ((j : ℕ) (y : A) → slice_get xs j ≡ Some y → f y ≡ g y)
    → map f xs ≡ map g xs
alike f g [] same = refl
alike f g (x ∷ xs) same = λ i. same 0 x refl i ∷ alike f g xs (λ j y is. same (suc j) y is) i

-- what is found of each is all that is found
all_found : {A B : Type 0} (h : A → Option B) (xs : List A) (ys : List B) → map h xs ≡ map Some ys
    → filter_map h xs ≡ ys
all_found h [] [] same = refl
all_found h [] (y ∷ ys) same = absurd (let many = ap (λ zs. length zs) same in omega arith)
all_found h (x ∷ xs) [] same = absurd (let many = ap (λ zs. length zs) same in omega arith)
all_found h (x ∷ xs) (y ∷ ys) same =
    let first : h x ≡ Some y = ap (λ zs. slice_index_or zs 0 None) same in
    let rest = all_found h xs ys (ap (λ zs. drop 1 zs) same) in
    λ j. cons_option (first j) (rest j)

pub zip_places : {A B : Type 0} (P : A → B → Type 0) (xs : List A) (ys : List B) → length xs ≡ length ys
    → ((j : ℕ) (x : A) (y : B) → slice_get xs j ≡ Some x → slice_get ys j ≡ Some y → P x y) → AllZip P xs ys
zip_places P [] [] same each = tt
zip_places P [] (y ∷ ys) same each = absurd (omega arith)
zip_places P (x ∷ xs) [] same each = absurd (omega arith)
zip_places P (x ∷ xs) (y ∷ ys) same each = (
  each 0 x y refl refl,
  zip_places P xs ys (omega arith) (λ j z w at there. each (suc j) z w at there),
)

pub zip_length : {A B : Type 0} (P : A → B → Type 0) (xs : List A) (ys : List B) → AllZip P xs ys → length xs
    ≡ length ys
zip_length P [] [] zip = refl
zip_length P [] (y ∷ ys) zip = absurd zip
zip_length P (x ∷ xs) [] zip = absurd zip
zip_length P (x ∷ xs) (y ∷ ys) zip = ap suc (zip_length P xs ys zip.1)

-- The keys.

-- each key's version is known
all_known : (live : List (Option LiveVersion)) (es : List SpecFileEntry) (keys : List ℕ) → AreCurrent live es keys
    → map (known_at live) keys ≡ map Some (filter_map (known_at live) keys)
all_known live [] [] zip = refl
all_known live [] (k ∷ keys) zip = absurd zip
all_known live (e ∷ es) [] zip = absurd zip
all_known live (e ∷ es) (k ∷ keys) zip =
    let now : known_at live k ≡ Some (as_known zip.0.version) = ap (option_map as_known) zip.0.there in
    let rest = all_known live es keys zip.1 in
    (λ j. now j ∷ rest j) ∙ ap (map Some) (sym (knowns_first live k e.1 keys zip.0))

module _ (live live' : List (Option LiveVersion)) (es : List SpecFileEntry) (keys : List ℕ) (i key : ℕ)
    (zip : AllZip (λ e k. IsCurrent live k e.1) es keys) (at : slice_get keys i ≡ Some key)
    (only : (j : ℕ) → slice_get keys j ≡ Some key → j ≡ i)
    (others : (k : ℕ) → (k ≡ key → ⊥) → slot live' k ≡ slot live k) where
  below : i < length keys
  below = slice_get_within keys i key at

  many : length es ≡ length keys
  many = zip_length (λ (e : SpecFileEntry) (k : ℕ). IsCurrent live k e.1) es keys zip

  -- the others' versions stay
  same_slot : (j k : ℕ) → slice_get (hole i keys) j ≡ Some k → slot live' k ≡ slot live k
  same_slot j k is =
      let from = hole_at keys i j k is in
      others k (λ same. hole_other keys i j from.0 k below is from.1 (only from.0 (from.2 ∙ ap Some same)))

  pub removed_known : filter_map (known_at live') (hole i keys) ≡ hole i (filter_map (known_at live) keys)
  removed_known =
      all_found (known_at live') (hole i keys) (hole i (filter_map (known_at live) keys))
      (alike (known_at live') (known_at live) (hole i keys)
      (λ j k is. ap (option_map as_known) (same_slot j k is))
      ∙ hole_map (known_at live) keys i ∙ ap (λ ys. hole i ys) (all_known live es keys zip)
      ∙ sym (hole_map Some (filter_map (known_at live) keys) i))

  pub removed_keyed : AllZip (λ e k. IsCurrent live' k e.1) (hole i es) (hole i keys)
  removed_keyed =
      zip_places (λ (e : SpecFileEntry) (k : ℕ). IsCurrent live' k e.1) (hole i es) (hole i keys)
      (let a = hole_length es i (let b = below in let m = many in omega arith) in let b = hole_length keys i below in
      let m = many in omega arith)
      (λ j e k here there.
      let p = hole_at es i j e here in
      let q = hole_at keys i j k there in
      let from : IsFrom (length keys) i j p.0 = subst (λ (n : ℕ). IsFrom n i j p.0) many p.1 in
      let same : p.0 ≡ q.0 = one_from (length keys) i j p.0 q.0 from q.1 in
      let pair = zip_at (λ (x : SpecFileEntry) (n : ℕ). IsCurrent live n x.1) es keys q.0 k zip q.2 in
      let entry : pair.0 ≡ e = some_same (sym pair.1 ∙ ap (slice_get es) (sym same) ∙ p.2) in
      let is = pair.2 in
      record {
        version = is.version;
        there = same_slot j k there ∙ is.there;
        at = is.at ∙ ap (λ (x : SpecFileEntry). x.1) entry;
        current = is.current;
      })

-- The entry.

pub entry_removed : (size : ℕ) (d : CurrentDirectory) (chain : ChainState SpecFileEntry) (name : FileName) (w i : ℕ)
    (u : CurrentVersion) → IsWholeDirectory size d → StandsAt name_cmp d.chain.entries name w i
    → slice_get d.versions i ≡ Some u → chain.entries ≡ removed name_cmp d.chain.entries name
    → IsChain name_cmp IsFileEntry chain
    → from_entries {R = name_cmp} chain.entries ≡ remove (from_entries d.chain.entries) name
    → IsEntryRemoved d (record { chain = chain; versions = hole i d.versions }) name (w, u)
entry_removed size d chain name w i u whole stands was entries is_chain names = record {
  was = (i, stands, was);
  chain = is_chain;
  aligned = let a = hole_length d.versions i within in let b = hole_length d.chain.entries i stands.within in
      let aligned = whole.aligned in let same = ap (λ (es : List SpecFileEntry). length es) set in omega arith;
  count = let b = hole_length d.chain.entries i stands.within in
      let same = ap (λ (es : List SpecFileEntry). length es) set in omega arith;
  names = names;
  each = λ j e x here there. by_place j e x (ap (λ es. slice_get es j) (sym set) ∙ here) there;
  reaches = λ n.
      let all = hole_reaches n d.chain.entries d.versions i (name, w) u whole.aligned stands.is was in
      let same = ap (λ (es : List SpecFileEntry). reaches_in_entries n es (hole i d.versions)) set in
      omega arith;
  cost = hole_total cost_of_version d.versions i u was;
}
  where
    set : chain.entries ≡ hole i d.chain.entries
    set = entries ∙ removed_is d.chain.entries i name w stands

    within : i < length d.versions
    within = slice_get_within d.versions i u was

    by_place : (j : ℕ) (e : SpecFileEntry) (x : CurrentVersion) → slice_get (hole i d.chain.entries) j ≡ Some e
        → slice_get (hole i d.versions) j ≡ Some x
        → (e.0 ≡ name → ⊥) × (k : ℕ) × (slice_get d.chain.entries k ≡ Some e) × (slice_get d.versions k ≡ Some x)
    by_place j e x here there =
        let p = hole_at d.chain.entries i j e here in
        let q = hole_at d.versions i j x there in
        let from : IsFrom (length d.chain.entries) i j q.0 = subst (λ (n : ℕ). IsFrom n i j q.0) whole.aligned q.1 in
        let same : q.0 ≡ p.0 = one_from (length d.chain.entries) i j q.0 p.0 from p.1 in (
          λ is. hole_other d.chain.entries i j p.0 e stands.within here p.1
              (one_entry d.chain.entries p.0 i name e.1 w whole.chain.each_once (p.2
              ∙ ap (λ (z : FileName). Some (z, e.1)) is) stands.is),
          p.0,
          p.2,
          ap (slice_get d.versions) (sym same) ∙ q.2,
        )
