use Rattle.monitor.specs.Common.{areas_set_up}
use Rattle.monitor.proofs.CoreAreas.Calls.{opened_there}
use Rattle.monitor.proofs.changed.set_up_for_input.Goals as goal

pub returns : goal.returns
returns c = opened_there (λ v. v.items) c.set_up.result c.args.core.now c.in-Some.open c.args.channel
    (λ k. areas_set_up c.args.core.now k k.input_header c.args.buffers) c.in-Some.is c.set_up.ensures
