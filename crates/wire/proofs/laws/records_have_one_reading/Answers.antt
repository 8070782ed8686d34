use Rattle.wire.proofs.Spellings.{one_reading}
use Rattle.wire.proofs.laws.records_have_one_reading.Goals as goal

pub returns-clause-orders : goal.returns-clause-orders
returns-clause-orders c = one_reading
