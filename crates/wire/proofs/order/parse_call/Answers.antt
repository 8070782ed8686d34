use Rattle.std.proofs.Common.{rules}
use Rattle.wire.proofs.Orders.{call_parts}
use Rattle.wire.proofs.order.parse_call.Goals as goal

pub returns-in_err-moment-clause-all : goal.returns-in_err-moment-clause-all
returns-in_err-moment-clause-all c order is =
    let parts = call_parts order c.args.header.now is c.requires.kind in
    let found = c.moment_of.ensures.all parts.moment parts.detail in
    search rules

pub returns-clause-all : goal.returns-clause-all
returns-clause-all c order is =
    let parts = call_parts order c.args.header.now is c.requires.kind in
    let called = c.call_of.ensures.all parts.call parts.code parts.channel parts.number in
    let found = c.moment_of.ensures.all parts.moment parts.detail in
    let spelled = parts.is in
    search rules
