use Rattle.std.proofs.Common.{inl, inr}
use Rattle.filser.proofs.RaisedVolumes.{migration, migration_refused}
use Rattle.filser.proofs.migrate_image.migrate.Goals as goal

pub returns-in-Ok-clause-ran : goal.returns-in-Ok-clause-ran
returns-in-Ok-clause-ran g c =
    let p = c.in-Ok.ensures in
    inl (
      migration _ _ c.in-Ok.field-0 p.disk.same (p.disk.served (λ e. cc)) p.stood p.files p.settled p.crash p.done
          p.already,
      c.report_layout.ensures.told,
    )

pub returns-in-Err-clause-ran : goal.returns-in-Err-clause-ran
returns-in-Err-clause-ran g c =
    let p = c.in-Err.ensures in
    inr (
      c.in-Err.error,
      migration_refused _ _ c.in-Err.error p.disk.same p.named p.disk.failed p.disk.served p.refused p.kept p.crash,
      c.say.ensures.said,
    )
