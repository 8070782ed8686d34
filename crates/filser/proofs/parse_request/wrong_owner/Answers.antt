use Rattle.std.proofs.Common.{subst, sym}
use Rattle.clap.specs.Words.{Text}
use Rattle.commands.specs.Common.{IsOwnerName}
use Rattle.filser.proofs.parse_request.wrong_owner.Goals as goal

pub returns-in-None-clause-some : goal.returns-in-None-clause-some
returns-in-None-clause-some c = (
  c.in_ok-text.ensures,
  λ owner is. c.in-None.ensures.none owner
      (subst (λ (t : Text). IsOwnerName t owner) (sym c.as_bytes.ensures.value) is),
)
