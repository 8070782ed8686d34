use Rattle.std.proofs.Common.{map, subst, sym}
use Rattle.spec_language.specs.Common.{upper}
use Rattle.clap.specs.Words.{Text}
use Rattle.commands.specs.Common.{IsFileName}
use Rattle.filser.proofs.parse_request.wrong_name.Goals as goal

pub returns-in-None-clause-some : goal.returns-in-None-clause-some
returns-in-None-clause-some c = (
  c.in_ok-text.ensures,
  λ name ext is. c.in-None.ensures.none name ext
      (subst (λ (t : Text). IsFileName (map upper t) name ext) (sym c.as_bytes.ensures.value) is),
)
