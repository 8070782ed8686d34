use Rattle.imagefile.specs.Common.{system_of, unseen_of, history_of, with_failures, recorded, assumed_in}
use Rattle.imagefile.proofs.Began.{opened_began}
use Rattle.imagefile.proofs.image.ImageDisk+HostFile.open_file.Goals as goal

pub returns-clause-began : goal.returns-clause-began
returns-clause-began c = opened_began c.of_form.result (λ disk. disk.form) (λ disk. disk.blocks)
    (λ disk. with_failures (recorded (unseen_of disk.file.file.calls) (history_of (system_of disk.file.file.calls)))
    disk.file.file.failures)
    c.args.form (assumed_in c.args.supposed) (unseen_of c.from_file.result.calls)
    (history_of (system_of c.from_file.result.calls)) c.from_file.result.failures c.from_file.ensures.supposed
    c.from_file.ensures.history c.from_file.ensures.none_failed c.of_form.ensures.form c.of_form.ensures.image
