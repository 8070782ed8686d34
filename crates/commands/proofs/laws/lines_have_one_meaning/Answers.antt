use Rattle.spec_language.proofs.Common.{same_means}
use Rattle.commands.proofs.laws.lines_have_one_meaning.Goals as goal

pub returns : goal.returns
returns c line meant said m s = same_means line said meant s m
