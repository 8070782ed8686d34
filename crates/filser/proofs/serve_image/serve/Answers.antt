use Rattle.std.proofs.Common.{inl, inr, refl, subst, ◌∙◌}
use Rattle.filser.proofs.ServiceFacts.{was_honest}
use Rattle.filser.proofs.ImageOutcomes.{given_honest, given_size, refused_by}
use Rattle.filser.proofs.serve_image.serve.Goals as goal

pub returns-in-Ok-clause-was_honest : goal.returns-in-Ok-clause-was_honest
returns-in-Ok-clause-was_honest g c h =
    c.in-Ok.ensures.same.was_honest
    (was_honest g.D.Disk.state c.args.task _ _ _ _ c.in-Ok.monitor _ c.attend-attended.result
    c.attend-attended.ensures (subst (λ disk. (g.D.Disk.state disk).honest) c.finish.ensures h))

pub returns-in-Ok-clause-ran : goal.returns-in-Ok-clause-ran
returns-in-Ok-clause-ran g c =
    let first = λ (h : _).
    was_honest g.D.Disk.state c.args.task _ _ _ _ c.in-Ok.monitor _ c.attend-attended.result c.attend-attended.ensures
    (subst (λ disk. (g.D.Disk.state disk).honest) c.finish.ensures h) in
    inl (record {
      first = c.in-Ok.monitor;
      last = c.attend-attended.new.monitor;
      result = c.attend-attended.result;
      serving = c.in-Ok.ensures.fresh.0;
      nobody = c.in-Ok.ensures.fresh.1;
      size = c.in-Ok.ensures.same.size;
      failures = c.in-Ok.ensures.served;
      was_honest = λ h. c.in-Ok.ensures.same.was_honest (first h);
      started = λ h.
          let stood = c.in-Ok.ensures.stood (first h) in
          record {
            files = stood.0;
            stood = stood.1;
            serves = stood.2;
            crash = c.in-Ok.ensures.crash (first h);
            recovered = c.in-Ok.ensures.recovered (first h);
            settled = c.in-Ok.ensures.settled (first h);
          };
      transcript = c.attend-attended.ensures;
      ends = c.ending-status.ensures.ends;
      ended = c.finish.ensures;
    })

pub returns-in-Err-clause-size : goal.returns-in-Err-clause-size
returns-in-Err-clause-size g c = given_size g.D.Disk.state c.args.task c.in-Err.disk c.give_back.result
    c.give_back.ensures ∙ c.in-Err.ensures.same_refused.size

pub returns-in-Err-clause-was_honest : goal.returns-in-Err-clause-was_honest
returns-in-Err-clause-was_honest g c h = c.in-Err.ensures.same_refused.was_honest
    (given_honest g.D.Disk.state c.args.task c.in-Err.disk c.give_back.result c.give_back.ensures h)

pub returns-in-Err-clause-ran : goal.returns-in-Err-clause-ran
returns-in-Err-clause-ran g c =
    let p = c.in-Err.ensures in
    inr (
      c.in-Err.disk,
      record {
        error = c.in-Err.error;
        refused = refused_by _ _ c.in-Err.error p.same_refused p.named p.failed p.served_refused p.refused p.kept
            p.crash_refused;
        said = c.say-status.ensures.said;
        unread = refl;
      },
      c.give_back.ensures,
    )
