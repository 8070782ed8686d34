use Rattle.std.proofs.Common.{Err, inl, inr, refl, subst, sym, ap, ◌∙◌, ◌+◌, ◌*◌, ◌≤◌, ⊎_elim}
use Rattle.blockdisk.specs.Common.{held}
use Rattle.spec_image.specs.Common.{SettledStands}
use Rattle.salvage.specs.Common.{failed_by}
use Rattle.filser.proofs.SalvageLaws.{uncopied_cause}
use Rattle.filser.proofs.salvage_image.salvage_from.Goals as goal

pub returns-in-Ok-clause-ran : goal.returns-in-Ok-clause-ran
returns-in-Ok-clause-ran g c =
    let p = c.in-Ok.ensures in
    let copy = c.in-Ok.copied.disk in
    let f = p.failures in
    let begun = g.D.Disk.state c.args.disk.now in
    record {
      still = λ h. (p.reads h).still;
      done = inl (record {
        copy = copy;
        last = c.salvage_copy.new.copied.disk;
        faults = c.in-Ok.copied.faults;
        copied = p.copied;
        lengths = p.lengths;
        few = subst (λ n. n ≤ 2 * begun.size + 2) (sym f.3) f.1;
        failures = f.2 ∙ ap (λ n. failed_by n begun.failures) (sym f.3);
        ran = ⊎_elim
            (λ found. inl (
              found.0,
              found.1,
              found.2,
              found.3,
              λ h none stored stands.
                  let there = (p.copied h).stands none stored stands in
                  found.4 stored (subst (λ n. SettledStands n (held copy.blocks) stored) (sym there.1) there.2),
            ))
            (λ unsurveyed. inr unsurveyed) c.salvage_copy.ensures.ran;
      });
    }

pub returns-in-Err-clause-ran : goal.returns-in-Err-clause-ran
returns-in-Err-clause-ran g c =
    let p = c.in-Err.ensures in
    let f = p.failures in
    let begun = g.D.Disk.state c.args.disk.now in
    record {
      still = λ h. (p.reads h).still;
      done = inr (
        refl,
        record {
          error = c.in-Err.error;
          unread = f.0;
          cause = uncopied_cause c.in-Err.error begun (g.D.Disk.state c.of.new.disk) f.0
              (λ is. let range = p.range (ap Err is) in (range.0, range.1, λ h. p.unsaid h (ap Err is)))
              (λ is. f.4 (ap Err is));
          few = f.1;
          failures = f.2;
          said = rw c.start_error.ensures at c.say.ensures.said;
        },
      );
    }
