use Rattle.std.proofs.Common.{sym, ◌∙◌}
use Rattle.filser.proofs.ImageOutcomes.{copied_all, copy_refused}
use Rattle.filser.proofs.convert.copy.Goals as goal

pub returns-clause-copied : goal.returns-clause-copied
returns-clause-copied g c = rw (c.end.ensures, sym c.new-watched.ensures) (λ h k.
    let p = c.copy_image-copied.ensures in
    let size = p.target.same.size ∙ (λ i. (c.new-watched.ensures i).blocks) ∙ sym c.requires in
    copied_all c.copy_image-copied.result _ _ _ _ size (p.stood h k) (p.settled k) (p.last h k) (p.rests h) (p.kept h))

pub returns-clause-refused : goal.returns-clause-refused
returns-clause-refused g c error is =
    let p = c.copy_image-copied.ensures in
    copy_refused c.copy_image-copied.result _ _ p.source.same p.named p.source.failed p.source.served p.refused p.kept
    p.crash error is
