use Rattle.std.proofs.Common.{refl}
use Rattle.filser.proofs.program.perform.Goals as goal

pub returns-in-Fresh-clause-ran : goal.returns-in-Fresh-clause-ran
returns-in-Fresh-clause-ran g c = rw (c.in-Fresh.is, c.of_memory.ensures) (c.serve_fresh.ensures.ran, refl, refl, refl)

pub returns-in-Init-clause-ran : goal.returns-in-Init-clause-ran
returns-in-Init-clause-ran g c =
    rw (c.in-Init.is, c.of_new.ensures)
    (refl, rw c.new-volume.ensures at c.init_image-made.ensures.ran, refl, refl, c.init_image-made.ensures.bits, refl)

pub returns-in-Work-clause-ran : goal.returns-in-Work-clause-ran
returns-in-Work-clause-ran g c =
    rw (c.in-Work.is, c.of_image.ensures) (c.serve_image-served.ensures.ran, refl, refl, refl)

pub returns-in-Convert-clause-ran : goal.returns-in-Convert-clause-ran
returns-in-Convert-clause-ran g c =
    rw (c.in-Convert.is, c.of_both.ensures) (
      refl,
      rw c.new-conversion.ensures at c.convert_image-converted.ensures.ran,
      refl,
      rw c.new-conversion.ensures at c.convert_image-converted.ensures.looked,
      rw c.new-conversion.ensures at c.convert_image-converted.ensures.bits,
      refl,
    )

pub returns-in-Migrate-clause-ran : goal.returns-in-Migrate-clause-ran
returns-in-Migrate-clause-ran g c =
    rw (c.in-Migrate.is, c.of_image-in-Migrate.ensures) (refl, c.migrate_image-migrated.ensures.ran, refl, refl, refl)

pub returns-in-Import-clause-ran : goal.returns-in-Import-clause-ran
returns-in-Import-clause-ran g c =
    rw (c.in-Import.is, c.of_image-in-Import.ensures, c.into_permit.ensures)
    (refl, rw (c.of-shelf.ensures.host, c.of-shelf.ensures.permit) at c.import_image-imported.ensures.ran, refl, refl)

pub returns-in-Export-clause-ran : goal.returns-in-Export-clause-ran
returns-in-Export-clause-ran g c =
    rw (c.in-Export.is, c.of_image-in-Export.ensures, c.into_permit-in-Export.ensures) (
      refl,
      rw (c.of-shelf-in-Export.ensures.host, c.of-shelf-in-Export.ensures.permit)
          at c.export_image-exported.ensures.ran,
      refl,
      refl,
    )

pub returns-in-Salvage-clause-ran : goal.returns-in-Salvage-clause-ran
returns-in-Salvage-clause-ran g c =
    rw (c.in-Salvage.is, c.of_image-in-Salvage.ensures, c.into_permit-in-Salvage.ensures) (
      refl,
      rw (c.of-shelf-in-Salvage.ensures.host, c.of-shelf-in-Salvage.ensures.permit)
          at c.salvage_image-saved.ensures.ran,
      refl,
      refl,
    )
