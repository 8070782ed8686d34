-- That no version has many readers, checked one slot after the other.
use Rattle.std.proofs.Common.{◌≡◌, ◌+◌, ◌<◌, ◌^◌, ℕ, zero, suc, List, [], ◌∷◌, Option, Some, None, refl, sym, subst}
use Rattle.std.specs.List.{AllByRecursion}
use Rattle.slab.specs.Slab.{entries_from}
use Rattle.spec_image.proofs.Common.{some_same, some_none}
use Rattle.volume.specs.Common.{slot}
use Rattle.volume.specs.declared.live.LiveVersion.{LiveVersion}

abbrev pub HaveFew : List (ℕ × LiveVersion) → Type 0
HaveFew es = AllByRecursion (λ e. e.1.readers + 1 < 2 ^ 32) es

abbrev pub AreFew : List (Option LiveVersion) → Type 0
AreFew slots = (key : ℕ) (v : LiveVersion) → slot slots key ≡ Some v → v.readers + 1 < 2 ^ 32

pub few_of_entries : (k : ℕ) (slots : List (Option LiveVersion)) → HaveFew (entries_from k slots) → AreFew slots
few_of_entries k [] few key v is = absurd (some_none (sym is))
few_of_entries k (None ∷ rest) few zero v is = absurd (some_none (sym is))
few_of_entries k (None ∷ rest) few (suc key) v is = few_of_entries (k + 1) rest few key v is
few_of_entries k (Some w ∷ rest) few zero v is = subst (λ (x : LiveVersion). x.readers + 1 < 2 ^ 32)
    (some_same is) few.0
few_of_entries k (Some w ∷ rest) few (suc key) v is = few_of_entries (k + 1) rest few.1 key v is

pub entries_of_few : (k : ℕ) (slots : List (Option LiveVersion)) → AreFew slots → HaveFew (entries_from k slots)
entries_of_few k [] few = tt
entries_of_few k (None ∷ rest) few = entries_of_few (k + 1) rest (λ key v is. few (suc key) v is)
entries_of_few k (Some w ∷ rest) few = (few zero w refl, entries_of_few (k + 1) rest (λ key v is. few (suc key) v is))
