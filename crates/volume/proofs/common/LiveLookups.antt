-- The versions under the keys of a directory.
use Rattle.std.proofs.Common.{◌≡◌, ℕ, zero, suc, ◌<◌, List, [], ◌∷◌, map, length, get_or, slice_get, Option, Some}
use Rattle.std.proofs.Common.{IfSome, filter_map, option_map, refl, sym, ap, subst, ◌∙◌, arith}
use Rattle.std.specs.List.{AllByRecursion, AllZip}
use Rattle.spec_image.specs.Common.{SpecFileEntry}
use Rattle.spec_image.proofs.Common.{some_same}
use Rattle.volume.specs.declared.live.LiveVersion.{LiveVersion}
use Rattle.volume.specs.Common.{CurrentVersion, CurrentDirectory, slot, as_known, IsCurrent, IsKeyed, known_at}

-- the keys of these entries' current versions
abbrev pub AreCurrent : List (Option LiveVersion) → List SpecFileEntry → List ℕ → Type 0
AreCurrent live es keys = AllZip (λ e key. IsCurrent live key e.1) es keys

pub as_many : (live : List (Option LiveVersion)) (es : List SpecFileEntry) (keys : List ℕ) → AreCurrent live es keys
    → length keys ≡ length es
as_many live [] [] zip = refl
as_many live [] (k ∷ ks) zip = absurd zip
as_many live (e ∷ es) [] zip = absurd zip
as_many live (e ∷ es) (k ∷ ks) zip = let rest = as_many live es ks zip.1 in omega arith

known_current : (live : List (Option LiveVersion)) (key prime : ℕ) → (is : IsCurrent live key prime)
    → known_at live key ≡ Some (as_known is.version)
known_current live key prime is = ap (option_map as_known) is.there

pub knowns_first : (live : List (Option LiveVersion)) (key prime : ℕ) (ks : List ℕ) → (is : IsCurrent live key prime)
    → filter_map (known_at live) (key ∷ ks) ≡ as_known is.version ∷ filter_map (known_at live) ks
knowns_first live key prime ks is = rw (known_current live key prime is) refl

-- the version of the entry at a place is the one under the key at that place
pub kept_at : (live : List (Option LiveVersion)) (es : List SpecFileEntry) (keys : List ℕ) (i key d : ℕ)
    → AreCurrent live es keys → i < length es → key ≡ get_or keys i d
    → (v : LiveVersion) × (slot live key ≡ Some v) × (slice_get (filter_map (known_at live) keys) i ≡ Some (as_known v))
kept_at live [] keys i key d zip below is = absurd (omega arith)
kept_at live (e ∷ es) [] i key d zip below is = absurd zip
kept_at live (e ∷ es) (k ∷ ks) zero key d zip below is = (
  zip.0.version,
  ap (slot live) is ∙ zip.0.there,
  ap (λ (l : List CurrentVersion). slice_get l 0) (knowns_first live k e.1 ks zip.0),
)
kept_at live (e ∷ es) (k ∷ ks) (suc i) key d zip below is =
    let rest = kept_at live es ks i key d zip.1 (omega arith) is in
    (rest.0, rest.1, ap (λ (l : List CurrentVersion). slice_get l (suc i)) (knowns_first live k e.1 ks zip.0) ∙ rest.2)

-- what all slots have, the one under a key has
pub standing_at : (P : LiveVersion → Type 0) (live : List (Option LiveVersion)) (key : ℕ) (v : LiveVersion)
    → AllByRecursion (λ o. IfSome o P) live → slot live key ≡ Some v → P v
standing_at P [] key v all is = cc
standing_at P (o ∷ os) zero v all is = subst (λ (x : Option LiveVersion). IfSome x P) is all.0
standing_at P (o ∷ os) (suc key) v all is = standing_at P os key v all.1 is

-- the keys of the directory at a place are those of its entries
pub keyed_at : {A : Type 0} (live : List (Option LiveVersion)) (directory : A → CurrentDirectory) (keys : A
    → List ℕ) (ds : List A) (i : ℕ) (d e : A) → AllZip (IsKeyed live) (map directory ds) (map keys ds)
    → i < length ds → d ≡ get_or ds i e
    → IsKeyed live (directory d) (keys d)
keyed_at live directory keys [] i d e zip below is = absurd (omega arith)
keyed_at live directory keys (x ∷ xs) zero d e zip below is = subst (λ y. IsKeyed live (directory y) (keys y))
    (sym is) zip.0
keyed_at live directory keys (x ∷ xs) (suc i) d e zip below is = keyed_at live directory keys xs i d e zip.1
    (omega arith) is

pub current_at : (live : List (Option LiveVersion)) (es : List SpecFileEntry) (keys : List ℕ) (i key d : ℕ)
    (e : SpecFileEntry)
    → AreCurrent live es keys → slice_get es i ≡ Some e → key ≡ get_or keys i d → IsCurrent live key e.1
current_at live [] keys i key d e zip there is = cc
current_at live (x ∷ es) [] i key d e zip there is = absurd zip
current_at live (x ∷ es) (k ∷ ks) zero key d e zip there is =
    subst (λ (n : ℕ). IsCurrent live n e.1) (sym is)
    (subst (λ (y : SpecFileEntry). IsCurrent live k y.1) (some_same there) zip.0)
current_at live (x ∷ es) (k ∷ ks) (suc i) key d e zip there is = current_at live es ks i key d e zip.1 there is
