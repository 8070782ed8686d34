use Rattle.commands.proofs.ExportLaws.{comes_back}
use Rattle.commands.proofs.laws.exports_come_back.Goals as goal

pub returns : goal.returns
returns c = comes_back
