use Rattle.spec_image.proofs.Common.{splice-outside}
use Rattle.spec_machine.proofs.machine.splices_put_words.Goals as goal

pub returns-clause-outside : goal.returns-clause-outside
returns-clause-outside c = splice-outside
