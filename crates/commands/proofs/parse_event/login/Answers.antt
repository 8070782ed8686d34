use Rattle.commands.proofs.EventTextLaws.{fields_none, no_login}
use Rattle.commands.proofs.parse_event.login.Goals as goal

pub returns-in_err-owner : goal.returns-in_err-owner
returns-in_err-owner c = λ field moment place. fields_none _ moment _ c.from_residual.ensures
    (no_login field _ _ moment (λ p k s t. c.in_err-owner.ensures.none p s))
