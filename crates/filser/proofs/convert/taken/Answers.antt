use Rattle.filser.proofs.ImageOutcomes.{refused_by}
use Rattle.filser.proofs.convert.taken.Goals as goal

pub returns-in-Ok-clause-taken : goal.returns-in-Ok-clause-taken
returns-in-Ok-clause-taken g c = rw c.into_disk.ensures (λ h.
    let stood = c.in-Ok.ensures.stood h in
    record {
      files = stood.0;
      stood = stood.1;
      rests = stood.2;
      recovered = c.in-Ok.ensures.recovered h;
    })

pub returns-in-Err-clause-refused : goal.returns-in-Err-clause-refused
returns-in-Err-clause-refused g c =
    let p = c.in-Err.ensures in
    refused_by _ _ _ p.disk_refused.same p.named p.disk_refused.failed p.disk_refused.served p.refused p.kept
    p.crash_refused
