use Rattle.std.proofs.Common.{rules, arith}
use Rattle.wire.proofs.Orders.{login_parts, login_made}
use Rattle.wire.proofs.order.parse_login.Goals as goal

pub returns-in_err-word_at-clause-all : goal.returns-in_err-word_at-clause-all
returns-in_err-word_at-clause-all c order words is =
    let parts = login_parts order c.args.header.now c.args.body.now words is c.requires in
    let ppn = parts.ppn.word in
    let number = parts.number in
    search rules

pub returns-in_err-owner-clause-all : goal.returns-in_err-owner-clause-all
returns-in_err-owner-clause-all c order words is =
    let parts = login_parts order c.args.header.now c.args.body.now words is c.requires in
    let ppn = parts.ppn in
    let number = parts.number in
    search rules

pub returns-clause-is : goal.returns-clause-is
returns-clause-is c =
    let made = login_made c.args.header.now c.args.body.now c.in_ok-owner.owner
    (λ j. let few = c.type_inv.body j in grind arith) c.requires in
    search rules

pub returns-clause-all : goal.returns-clause-all
returns-clause-all c order words is =
    let parts = login_parts order c.args.header.now c.args.body.now words is c.requires in
    let a = parts.is in
    let b = parts.code in
    let d = parts.channel in
    let e = parts.detail in
    let f = parts.count in
    let g = parts.number in
    search rules
