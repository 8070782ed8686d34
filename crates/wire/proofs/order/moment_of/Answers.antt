use Rattle.std.proofs.Common.{◌∙◌}
use Rattle.wire.proofs.Moments.{moment_made, parts_of}
use Rattle.wire.proofs.order.moment_of.Goals as goal

pub returns-clause-all : goal.returns-clause-all
returns-clause-all c moment is =
    let parts = parts_of moment.date moment.minute c.args.detail moment.minute_in_range is in
    c.ok.ensures.value ∙ moment_made c.new.result _ _ c.new.ensures.date c.new.ensures.minute c.new.ensures.in_range
    moment parts.0 parts.1
