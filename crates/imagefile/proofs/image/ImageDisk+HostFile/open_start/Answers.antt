use Rattle.imagefile.specs.Common.{system_of, unseen_of, history_of, with_failures, recorded, assumed_in}
use Rattle.imagefile.proofs.Began.{opened_cut}
use Rattle.imagefile.proofs.image.ImageDisk+HostFile.open_start.Goals as goal

pub returns-clause-began : goal.returns-clause-began
returns-clause-began c = opened_cut c.of_start.result (λ cut. cut.0.form) (λ cut. cut.0.blocks) (λ cut. cut.1)
    (λ cut. with_failures (recorded (unseen_of cut.0.file.file.calls) (history_of (system_of cut.0.file.file.calls)))
    cut.0.file.file.failures)
    c.args.form (assumed_in c.args.supposed) (unseen_of c.from_file.result.calls)
    (history_of (system_of c.from_file.result.calls)) c.from_file.result.failures c.from_file.ensures.supposed
    c.from_file.ensures.history c.from_file.ensures.none_failed c.of_start.ensures.form c.of_start.ensures.image
