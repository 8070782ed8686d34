use Rattle.std.proofs.Common.{◌≡◌, ◌⊎◌, Ok, Err, IsErrOf, sym}
use Rattle.std.proofs.lemmas.Result.{err_from_is_err_and}
use Rattle.blockdisk.specs.Common.{Still}
use Rattle.changeset.proofs.LogRead.{passed_on}
use Rattle.changeset.specs.Common.{IsRecovered}
use Rattle.spec_image.specs.Common.{layout_number, pack_of, files_of}
use Rattle.volume.specs.declared.error.VolumeError.TheVariants.{Device}
use Rattle.volume.specs.declared.migrate.Migrated.{Migrated}
use Rattle.volume.specs.declared.migrate.Migrated.TheVariants.{Done, Already}
use Rattle.volume.specs.Common.{StandsOrRaised}
use Rattle.volume.proofs.common.PassedErrors.{handed}
use Rattle.volume.proofs.MigrateVolume.Migrations.{each_other, before_raised, synced_on, synced_raised}
use Rattle.volume.proofs.MigrateVolume.Migrations.{migrate_leaves, either_before, map_rest, map_first, stood_here}
use Rattle.volume.proofs.MigrateVolume.Migrations.{told, rests_already, rests_raised, is_migrated, stood_then}
use Rattle.volume.proofs.volume.Volume.migrate.Goals as goal

-- If the reading refused.

pub returns-in_err-map-clause-crash : goal.returns-in_err-map-clause-crash
returns-in_err-map-clause-crash g c h =
    before_raised (g.D.Disk.state c.args.disk.now) (g.D.Disk.state c.read_volume.new.disk)
    (c.read_volume.ensures.crash h)

pub returns-in_err-map-clause-synced : goal.returns-in_err-map-clause-synced
returns-in_err-map-clause-synced g c h =
    let p = err_from_is_err_and c.from_residual.result c.from_residual.ensures.1 in
    synced_raised g.D.Disk.state c.args.disk.now c.read_volume.new.disk (IsErrOf c.read_volume.result Device)
    (IsErrOf c.from_residual.result Device)
    (λ (is : c.read_volume.result ≡ Err Device). passed_on c.read_volume.result c.from_residual.result
    c.in_err-map.field-0.0 p.0 Device is c.in_err-map.was (sym p.2) p.1)
    (c.read_volume.ensures.synced h)

pub returns-in_err-map-clause-kept : goal.returns-in_err-map-clause-kept
returns-in_err-map-clause-kept g c h =
    let s = g.D.Disk.state c.args.disk.now in
    let s1 = g.D.Disk.state c.read_volume.new.disk in
    let p = err_from_is_err_and c.from_residual.result c.from_residual.ensures.1 in
    let Kept = Still s s1 ⊎ IsRecovered s.size s.contents s1.contents in
    handed (λ error. (error ≡ Device → ⊥) → Kept) c.from_residual.result c.read_volume.result p.0
    c.in_err-map.field-0.0 p.1 p.2 c.in_err-map.was
    (each_other c.read_volume.result Device Kept (c.read_volume.ensures.kept h))

-- If there was nothing to do.

pub returns-in-Two-clause-crash : goal.returns-in-Two-clause-crash
returns-in-Two-clause-crash g c h =
    before_raised (g.D.Disk.state c.args.disk.now) (g.D.Disk.state c.read_volume.new.disk)
    (c.read_volume.ensures.crash h)

pub returns-in-Two-clause-synced : goal.returns-in-Two-clause-synced
returns-in-Two-clause-synced g c h =
    synced_raised g.D.Disk.state c.args.disk.now c.read_volume.new.disk (IsErrOf c.read_volume.result Device)
    (IsErrOf {T = Migrated} (Ok Already) Device)
    (λ (is : c.read_volume.result ≡ Err Device). let was = c.in_ok-map.was in cc) (c.read_volume.ensures.synced h)

pub returns-in-Two-clause-stood : goal.returns-in-Two-clause-stood
returns-in-Two-clause-stood g c h =
    let s = g.D.Disk.state c.args.disk.now in
    let s1 = g.D.Disk.state c.read_volume.new.disk in
    let said = c.in_ok-map.ensures in
    let stood = said.stood h in (
      (pack_of s1).layout,
      stood.0,
      stood_then s s1 c.in_ok-map.map said.disk.same.size (said.recovered h) (said.settled h) (said.rest h)
          (said.layout h)
          stood.0 stood.1,
    )

pub returns-in-Two-clause-files : goal.returns-in-Two-clause-files
returns-in-Two-clause-files g c h layout files stands =
    let s = g.D.Disk.state c.args.disk.now in
    let s1 = g.D.Disk.state c.read_volume.new.disk in
    let said = c.in_ok-map.ensures in
    let two : layout_number c.in_ok-map.map.layout ≡ 2 = let is = c.in-Two.is in cc in (
      told s s1 c.in_ok-map.map said.disk.same.size (said.recovered h) (said.settled h) (said.rest h) (said.layout h) 2
          layout files two stands,
      rests_already s s1 c.in_ok-map.map said.disk.same.size (said.recovered h) (said.settled h) (said.rest h)
          (said.layout h) layout files two stands,
    )

-- If the change failed.

pub returns-in_err-raise-in-One-clause-crash : goal.returns-in_err-raise-in-One-clause-crash
returns-in_err-raise-in-One-clause-crash g c h =
    let s = g.D.Disk.state c.args.disk.now in
    let s1 = g.D.Disk.state c.read_volume.new.disk in
    let said = c.in_ok-map.ensures in
    let h1 = c.raise.ensures.disk.same.was_honest h in
    let rest = said.rest h1 in
    migrate_leaves s s1 (g.D.Disk.state c.raise.new.disk) rest.map said.disk.same.size
    (stood_here s s1 c.in_ok-map.map said.disk.same.size (said.recovered h1) (said.settled h1) rest (said.layout h1))
    (c.read_volume.ensures.crash h1)
    (c.raise.ensures.crash h rest.map
    (map_first s s1 c.in_ok-map.map said.disk.same.size (said.recovered h1) (said.settled h1) rest (said.layout h1)
    c.blocks-in-One.result.now c.blocks-in-One.ensures.value)
    (map_rest s s1 c.in_ok-map.map said.disk.same.size (said.recovered h1) (said.settled h1) rest (said.layout h1)))

pub returns-in_err-raise-in-One-clause-synced : goal.returns-in_err-raise-in-One-clause-synced
returns-in_err-raise-in-One-clause-synced g c h =
    let s = g.D.Disk.state c.args.disk.now in
    let s1 = g.D.Disk.state c.read_volume.new.disk in
    let said = c.in_ok-map.ensures in
    let h1 = c.raise.ensures.disk.same.was_honest h in
    let rest = said.rest h1 in
    synced_on g.D.Disk.state c.args.disk.now c.read_volume.new.disk c.raise.new.disk
    (IsErrOf c.read_volume.result Device) (IsErrOf c.from_residual-in_err-raise-in-One.result Device)
    (StandsOrRaised s1.size rest.map.layout (files_of rest.map))
    (λ (is : c.read_volume.result ≡ Err Device). let was = c.in_ok-map.was in cc) (c.read_volume.ensures.synced h1)
    (c.raise.ensures.crash h rest.map
    (map_first s s1 c.in_ok-map.map said.disk.same.size (said.recovered h1) (said.settled h1) rest (said.layout h1)
    c.blocks-in-One.result.now c.blocks-in-One.ensures.value)
    (map_rest s s1 c.in_ok-map.map said.disk.same.size (said.recovered h1) (said.settled h1) rest (said.layout h1)))
    (either_before s s1 (g.D.Disk.state c.raise.new.disk) rest.map said.disk.same.size
    (stood_here s s1 c.in_ok-map.map said.disk.same.size (said.recovered h1) (said.settled h1) rest (said.layout h1)))

-- If both copies were written.

pub returns-clause-crash : goal.returns-clause-crash
returns-clause-crash g c h =
    let s = g.D.Disk.state c.args.disk.now in
    let s1 = g.D.Disk.state c.read_volume.new.disk in
    let said = c.in_ok-map.ensures in
    let h1 = c.raise.ensures.disk.same.was_honest h in
    let rest = said.rest h1 in
    migrate_leaves s s1 (g.D.Disk.state c.raise.new.disk) rest.map said.disk.same.size
    (stood_here s s1 c.in_ok-map.map said.disk.same.size (said.recovered h1) (said.settled h1) rest (said.layout h1))
    (c.read_volume.ensures.crash h1)
    (c.raise.ensures.crash h rest.map
    (map_first s s1 c.in_ok-map.map said.disk.same.size (said.recovered h1) (said.settled h1) rest (said.layout h1)
    c.blocks-in-One.result.now c.blocks-in-One.ensures.value)
    (map_rest s s1 c.in_ok-map.map said.disk.same.size (said.recovered h1) (said.settled h1) rest (said.layout h1)))

pub returns-clause-synced : goal.returns-clause-synced
returns-clause-synced g c h =
    let s = g.D.Disk.state c.args.disk.now in
    let s1 = g.D.Disk.state c.read_volume.new.disk in
    let said = c.in_ok-map.ensures in
    let h1 = c.raise.ensures.disk.same.was_honest h in
    let rest = said.rest h1 in
    synced_on g.D.Disk.state c.args.disk.now c.read_volume.new.disk c.raise.new.disk
    (IsErrOf c.read_volume.result Device) (IsErrOf {T = Migrated} (Ok Done) Device)
    (StandsOrRaised s1.size rest.map.layout (files_of rest.map))
    (λ (is : c.read_volume.result ≡ Err Device). let was = c.in_ok-map.was in cc) (c.read_volume.ensures.synced h1)
    (c.raise.ensures.crash h rest.map
    (map_first s s1 c.in_ok-map.map said.disk.same.size (said.recovered h1) (said.settled h1) rest (said.layout h1)
    c.blocks-in-One.result.now c.blocks-in-One.ensures.value)
    (map_rest s s1 c.in_ok-map.map said.disk.same.size (said.recovered h1) (said.settled h1) rest (said.layout h1)))
    (either_before s s1 (g.D.Disk.state c.raise.new.disk) rest.map said.disk.same.size
    (stood_here s s1 c.in_ok-map.map said.disk.same.size (said.recovered h1) (said.settled h1) rest (said.layout h1)))

pub returns-clause-stood : goal.returns-clause-stood
returns-clause-stood g c h =
    let s = g.D.Disk.state c.args.disk.now in
    let s1 = g.D.Disk.state c.read_volume.new.disk in
    let said = c.in_ok-map.ensures in
    let h1 = c.raise.ensures.disk.same.was_honest h in
    let stood = said.stood h1 in (
      (pack_of s1).layout,
      stood.0,
      stood_then s s1 c.in_ok-map.map said.disk.same.size (said.recovered h1) (said.settled h1) (said.rest h1)
          (said.layout h1) stood.0 stood.1,
    )

pub returns-clause-files : goal.returns-clause-files
returns-clause-files g c h layout files stands =
    let s = g.D.Disk.state c.args.disk.now in
    let s1 = g.D.Disk.state c.read_volume.new.disk in
    let said = c.in_ok-map.ensures in
    let h1 = c.raise.ensures.disk.same.was_honest h in
    let rest = said.rest h1 in
    let one : layout_number c.in_ok-map.map.layout ≡ 1 = let is = c.in-One.is in cc in
    let first = map_first s s1 c.in_ok-map.map said.disk.same.size (said.recovered h1) (said.settled h1) rest
    (said.layout h1) c.blocks-in-One.result.now c.blocks-in-One.ensures.value in
    let still = map_rest s s1 c.in_ok-map.map said.disk.same.size (said.recovered h1) (said.settled h1) rest
    (said.layout h1) in (
      told s s1 c.in_ok-map.map said.disk.same.size (said.recovered h1) (said.settled h1) rest (said.layout h1) 1
          layout files one stands,
      rests_raised s s1 c.in_ok-map.map said.disk.same.size (said.recovered h1) (said.settled h1) rest (said.layout h1)
          (g.D.Disk.state c.raise.new.disk) layout files stands
          (c.in_ok-raise-in-One.ensures.done h rest.map first still),
    )

pub returns-clause-done : goal.returns-clause-done
returns-clause-done g c h is =
    let s = g.D.Disk.state c.args.disk.now in
    let s1 = g.D.Disk.state c.read_volume.new.disk in
    let said = c.in_ok-map.ensures in
    let h1 = c.raise.ensures.disk.same.was_honest h in
    let rest = said.rest h1 in
    let one : layout_number c.in_ok-map.map.layout ≡ 1 = let which = c.in-One.is in cc in
    let first = map_first s s1 c.in_ok-map.map said.disk.same.size (said.recovered h1) (said.settled h1) rest
    (said.layout h1) c.blocks-in-One.result.now c.blocks-in-One.ensures.value in
    let still = map_rest s s1 c.in_ok-map.map said.disk.same.size (said.recovered h1) (said.settled h1) rest
    (said.layout h1) in
    is_migrated s s1 c.in_ok-map.map said.disk.same.size (said.recovered h1) (said.settled h1) rest (said.layout h1)
    (g.D.Disk.state c.raise.new.disk) _ c.raise.ensures.disk.same.size one first
    (c.in_ok-raise-in-One.ensures.done h rest.map first still).shut (c.in_ok-raise-in-One.ensures.modified h)
    (c.in_ok-raise-in-One.ensures.copies h)
