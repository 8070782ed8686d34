-- A place is claimed if a version is being written for it.
use Rattle.std.specs.Prelude.{Bool, false, List, Option, None, Some}
use Rattle.std.specs.List.{list_any}
use Rattle.spec_image.specs.Common.{Place, same_place, place_of}
use Rattle.volume.specs.declared.pending.PendingVersion.{PendingVersion}

abbrev pub claims_at : Place → Option PendingVersion → Bool
claims_at place None = false
claims_at place (Some p) = same_place (place_of p.prime.ppn p.prime.file) place

abbrev pub claims : List (Option PendingVersion) → Place → Bool
claims pending place = list_any (claims_at place) pending
