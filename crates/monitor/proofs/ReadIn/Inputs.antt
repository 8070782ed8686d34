-- IN: the words that a list names, dealt out.
use Rattle.std.proofs.Common.{◌≡◌, ℕ, zero, suc, ◌+◌, ◌<◌, ◌≤◌, List, [], ◌∷◌, ◌++◌, take, drop, Some, refl, ap, arith}
use Rattle.std.specs.List.{All}
use Rattle.std.specs.Prelude.{option_map}
use Rattle.std.proofs.lemmas.List.{drop-take}
use Rattle.std.proofs.lemmas.List.Elements.{All-head}
use Rattle.spec_machine.specs.declared.area.Area.{Area}
use Rattle.spec_machine.specs.Common.{placed, dealt, word_count}
use Rattle.retrieval.specs.Common.{VersionState}
use Rattle.volume.specs.Common.{MemoryMap, version_under, IsReadable}
use Rattle.volume.specs.declared.handles.VersionHandle.{VersionHandle}
use Rattle.volume.specs.declared.handles.VersionHandle.TheVariants.{Pinned, Pending}

-- what may be read is there
pub version_there : (c : MemoryMap) (handle : VersionHandle) → IsReadable c handle
    → (v : VersionState) × (version_under c handle ≡ Some v)
version_there c (Pinned pin) (v, there, some) = (v.version, ap (option_map (λ x. x.version)) there)
version_there c (Pending pending) (p, there) = (p.version, ap (option_map (λ x. x.version)) there)

-- the first ones of the first ones
pub take_front : (c m : ℕ) (xs : List ℕ) → c ≤ m → take c (take m xs) ≡ take c xs
take_front zero m xs less = refl
take_front (suc c) zero xs less = absurd (omega arith)
take_front (suc c) (suc m) [] less = refl
take_front (suc c) (suc m) (x ∷ xs) less = ap (λ ys. x ∷ ys) (take_front c m xs (omega arith))

-- no more words are dealt out than the areas have
pub dealt_enough : (areas : List Area) (words : List ℕ)
    → dealt areas (take (word_count areas) words) ≡ dealt areas words
dealt_enough [] words = refl
dealt_enough (area ∷ areas) words =
    rw (
      take_front area.count (area.count + word_count areas) words (omega arith),
      drop-take area.count (word_count areas) words,
    )
    (ap (λ writes. placed area.first (take area.count words) ++ writes) (dealt_enough areas (drop area.count words)))

-- areas that have words each, and none together
pub no_area : (areas : List Area) → All (λ area. 0 < area.count) areas → word_count areas ≡ 0 → areas ≡ []
no_area [] some none = refl
no_area (area ∷ areas) some none =
    let first : 0 < area.count = All-head (λ area. 0 < area.count) area areas some in
    absurd (omega (arith, first, none))
