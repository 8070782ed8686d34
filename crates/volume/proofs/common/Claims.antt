-- Whether a place is claimed, looked up among the versions that are being written.
use Rattle.std.proofs.Common.{◌≡◌, ℕ, ◌+◌, Bool, List, [], ◌∷◌, Option, None, Some, refl, ap}
use Rattle.std.specs.List.{list_any}
use Rattle.std.specs.Prelude.{◌||◌}
use Rattle.spec_image.specs.Common.{Place}
use Rattle.slab.specs.Slab.{entries_from}
use Rattle.volume.specs.declared.pending.PendingVersion.{PendingVersion}
use Rattle.volume.specs.Common.{claims_at, claims}

-- one of these entries is of the place
abbrev pub claimed_among : Place → List (ℕ × PendingVersion) → Bool
claimed_among place es = list_any (λ e. claims_at place (Some e.1)) es

pub claimed_from : (place : Place) (k : ℕ) (slots : List (Option PendingVersion))
    → claimed_among place (entries_from k slots) ≡ claims slots place
claimed_from place k [] = refl
claimed_from place k (None ∷ rest) = claimed_from place (k + 1) rest
claimed_from place k (Some p ∷ rest) = ap (λ b. claims_at place (Some p) || b) (claimed_from place (k + 1) rest)
