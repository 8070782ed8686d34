use Rattle.spec_image.proofs.Vectors.{v1_stands, v1_costs, v1_open_stands}
use Rattle.spec_image.proofs.laws.vectors_stand.Goals as goal

pub returns-clause-closed : goal.returns-clause-closed
returns-clause-closed c = v1_stands

pub returns-clause-cost : goal.returns-clause-cost
returns-clause-cost c = v1_costs

pub returns-clause-open_gate : goal.returns-clause-open_gate
returns-clause-open_gate c = v1_open_stands
