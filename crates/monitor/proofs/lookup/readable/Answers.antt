use Rattle.std.proofs.Common.{◌∙◌, sym}
use Rattle.spec_image.specs.Common.{get}
use Rattle.monitor.proofs.LookupFile.LookupAnswers.{read}
use Rattle.monitor.proofs.lookup.readable.Goals as goal

pub returns-clause-found : goal.returns-clause-found
returns-clause-found g c h alive files rests =
    read c.args.who c.args.owner c.args.file.now (get files c.args.owner) c.in-Ok.protection c.in-Ok-look.facts
    (c.in-Ok.ensures.value h alive files rests) (sym c.dir_right.ensures.allowed ∙ c.if-not-dir_right.false)
    (λ zero. c.if-bits-eq0.false (c.bits.ensures.value ∙ zero)) (c.in-Ok-look.ensures.value h alive files rests)
    (sym c.may_read.ensures ∙ c.if-not-may_read.false)
