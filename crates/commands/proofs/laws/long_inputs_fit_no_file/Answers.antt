use Rattle.commands.proofs.ExcessLaws.{too_long_for_words}
use Rattle.commands.proofs.laws.long_inputs_fit_no_file.Goals as goal

pub returns : goal.returns
returns c = too_long_for_words
