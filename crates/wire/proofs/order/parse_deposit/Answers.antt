use Rattle.std.proofs.Common.{rules, arith}
use Rattle.wire.proofs.Orders.{deposit_parts, deposit_made}
use Rattle.wire.proofs.order.parse_deposit.Goals as goal

pub returns-in-None-clause-is : goal.returns-in-None-clause-is
returns-in-None-clause-is c =
    let made = deposit_made c.args.header.now c.args.body.now (λ j. let few = c.type_inv.body j in grind arith)
    c.requires in
    let bad = c.first_bad_word.ensures in
    search rules

pub returns-in-Some-clause-all : goal.returns-in-Some-clause-all
returns-in-Some-clause-all c order words is =
    let parts = deposit_parts order c.args.header.now c.args.body.now words is c.requires in
    absurd (parts.good c.in-Some.field-0 ((c.first_bad_word.ensures c.in-Some.field-0).0 c.in-Some.is))

pub returns-then-from-body-clause-all : goal.returns-then-from-body-clause-all
returns-then-from-body-clause-all c order words is =
    let parts = deposit_parts order c.args.header.now c.args.body.now words is c.requires in
    let long = parts.long in
    absurd (omega arith)
