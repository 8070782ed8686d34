-- The layout of the disk has room for the moment of a file, and of its version in memory.
use Rattle.std.proofs.Common.{◌≡◌, ℕ, ◌<◌, Some, ap, subst, slice_get}
use Rattle.std.specs.Ordering.{nat_cmp}
use Rattle.words36.specs.declared.names.FileName.{FileName}
use Rattle.blockdisk.specs.Common.{Contents}
use Rattle.spec_image.specs.Common.{date_limit, DiskMap}
use Rattle.directory.specs.Common.{StandsAt}
use Rattle.volume.specs.Common.{Facts, CurrentMap, CurrentVersion, CurrentDirectory, MatchesMap, IsNamed}

pub known_dated : (size : ℕ) (k : CurrentMap) (m : DiskMap) (contents : Contents) → MatchesMap size k m contents
    → (ppn : ℕ)
    (d : CurrentDirectory) (place : ℕ) (word : ℕ × ℕ) → StandsAt nat_cmp k.master.entries ppn word place
    → slice_get k.directories place ≡ Some d → (name : FileName) (v : ℕ × CurrentVersion) → IsNamed d name (Some v)
    → v.1.prime.moment.date < date_limit m.layout
known_dated size k m contents held ppn d place word there at name v named =
    let found = held.known.each place (ppn, word) d there.is at in
    let stored = found.2.each named.0 (name, v.0) v.1 named.1.is named.2 in
    let version = (held.stands.mapped.directories ppn found.0 found.1).files name stored.0 stored.1 in
    subst (λ (date : ℕ). date < date_limit m.layout) (ap (λ (x : Facts). x.date) stored.2) version.retrieved.fits.date
