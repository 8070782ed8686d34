use Rattle.std.proofs.Common.{inl, inr, refl, subst}
use Rattle.filser.proofs.ImageOutcomes.{refused_by}
use Rattle.filser.proofs.import_image.import_on.Goals as goal

pub returns-in-Ok-clause-was_honest : goal.returns-in-Ok-clause-was_honest
returns-in-Ok-clause-was_honest g c h = c.in-Ok.ensures.same.was_honest
    (c.import_files-imported.ensures.goes.goes.was_honest
    (subst (λ disk. (g.D.Disk.state disk).honest) c.finish.ensures h))

pub returns-in-Ok-clause-ran : goal.returns-in-Ok-clause-ran
returns-in-Ok-clause-ran g c =
    let first = λ (h : _). c.import_files-imported.ensures.goes.goes.was_honest
    (subst (λ disk. (g.D.Disk.state disk).honest) c.finish.ensures h) in
    inl (record {
      first = c.in-Ok.monitor;
      last = c.import_files-imported.new.monitor;
      result = c.import_files-imported.result;
      serving = c.in-Ok.ensures.fresh.0;
      nobody = c.in-Ok.ensures.fresh.1;
      size = c.in-Ok.ensures.same.size;
      failures = c.in-Ok.ensures.served;
      was_honest = λ h. c.in-Ok.ensures.same.was_honest (first h);
      started = λ h.
          let stood = c.in-Ok.ensures.stood (first h) in
          record {
            files = stood.0;
            stood = stood.1;
            serves = stood.2;
            crash = c.in-Ok.ensures.crash (first h);
            recovered = c.in-Ok.ensures.recovered (first h);
            settled = c.in-Ok.ensures.settled (first h);
          };
      transcript = c.import_files-imported.ensures.done;
      ends = c.ending-status.ensures.ends;
      ended = c.finish.ensures;
    })

pub returns-in-Err-clause-ran : goal.returns-in-Err-clause-ran
returns-in-Err-clause-ran g c =
    let p = c.in-Err.ensures in
    inr (
      refl,
      record {
        error = c.in-Err.error;
        refused = refused_by _ _ c.in-Err.error p.same_refused p.named p.failed p.served_refused p.refused p.kept
            p.crash_refused;
        said = c.say.ensures.said;
        unread = refl;
      },
    )
