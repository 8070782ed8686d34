use Rattle.std.proofs.lemmas.Result.{IfErr-weaker}
use Rattle.filser.proofs.ImageOutcomes.{not_made}
use Rattle.filser.proofs.image.volume_in.Goals as goal

pub returns-clause-denied : goal.returns-clause-denied
returns-clause-denied g c = IfErr-weaker c.volume_on.result _ _
    (λ denied left. not_made _ _ _ _ _ _ _ left.0 denied.0 denied.1 c.in_ok-disk.ensures.made left.1 left.2)
    c.volume_on.ensures.denied
