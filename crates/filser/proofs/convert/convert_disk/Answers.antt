use Rattle.std.proofs.Common.{◌∙◌, inl, inr, refl}
use Rattle.filser.proofs.convert.convert_disk.Goals as goal

pub returns-in-Ok-clause-ran : goal.returns-in-Ok-clause-ran
returns-in-Ok-clause-ran g c =
    let p = c.write_new.ensures.ran in
    let t = c.in-Ok.ensures in (
      p.0,
      p.1,
      record { size = p.2.size ∙ t.same.size; was_honest = λ h. t.same.was_honest (p.2.was_honest h) },
      p.3 c.args.disk t.same t.alone,
      inr (record {
        mid = c.in-Ok.source;
        size = t.same.size;
        was_honest = p.2.was_honest;
        was_taken = t.same.was_honest;
        taken = t.taken;
        done = p.4;
      }),
    )

pub returns-in-Err-clause-ran : goal.returns-in-Err-clause-ran
returns-in-Err-clause-ran g c =
    let t = c.in-Err.ensures in (
      c.in-Err.disk,
      c.unconverted-outcome.ensures.image,
      record { size = t.refused.size; was_honest = t.refused.was_honest },
      t.alone_refused,
      inl (
        c.unconverted-outcome.ensures.new,
        (_, (c.in-Err.error, refl, (_, c.failure_of.ensures), t.refused), c.unconverted-outcome.ensures.explained),
      ),
    )
