use Rattle.spec_language.proofs.Common.{same_says_event}
use Rattle.commands.proofs.laws.orders_have_one_reading.Goals as goal

pub returns : goal.returns
returns c = same_says_event
