use Rattle.std.proofs.Common.{◌≡◌, List, length, ap, sym, subst, ◌∙◌, arith, OnOk, Result, Ok, Err}
use Rattle.spec_machine.specs.declared.area.Area.{Area}
use Rattle.exchange.specs.Turns.{addresses}
use Rattle.exchange.specs.Exchanges.{AreTold}
use Rattle.exchange.proofs.OrderLaws.{few_told}
use Rattle.exchange.proofs.TurnLaws.{appended_answer, turned, turned_down}
use Rattle.exchange.proofs.turns.take_turn.Goals as goal

on_both : {T E : Type 0} (r : Result T E) (A B C : Type 0) → OnOk r A → OnOk r B → (A → B → C) → OnOk r C
on_both (Ok x) A B C a b f = f a b
on_both (Err e) A B C a b f = tt

pub returns-in_default-clause-ok : goal.returns-in_default-clause-ok
returns-in_default-clause-ok g c = on_both c.refuse.result _ _ _ c.refuse.ensures.ok c.refuse.ensures.refused
    (λ ok refused. turned_down g.S.FileService.machine g.met.S.FileService.stands _ _ _ _ _ _ c.requires
    (λ order words is. c.in_default.not-Some order (c.parse_order.ensures.all order words is)) ok refused
    c.refuse.ensures.broke c.refuse.ensures.reason)

pub unreachable-requires : goal.unreachable-requires
unreachable-requires g c =
    let told = subst (λ (areas : List Area). AreTold (g.S.FileService.machine c.args.service.now) c.in-Some.order areas)
    (sym c.deref-2.ensures.value) c.in_ok-areas.ensures.told in
    let obeyed = c.serve_order-answer.ensures c.args.header.now c.in-Some.ensures.is.0 c.in-Some.ensures.is.1 told in
    let few = few_told g.S.FileService.machine _ _ _ _ _ _ _ _ told obeyed in
    let groups = ap length c.deref-3.ensures.value in
    let asked : length (addresses c.deref.result.now) ≡ length (addresses c.deref-2.result.now)
    = ap (λ (areas : List Area). length (addresses areas)) (c.deref.ensures.value ∙ sym c.deref-2.ensures.value) in
    let room = c.in_ok-groups.ensures.bytes in
    let all = c.in_ok-groups.ensures.few in
    let kept = ap length c.in_ok-groups.ensures.kept in
    let never = c.in_default-push_answer.ensures.succeeds (omega arith) (omega arith) in
    cc

pub returns-clause-ok : goal.returns-clause-ok
returns-clause-ok g c =
    let told = subst (λ (areas : List Area). AreTold (g.S.FileService.machine c.args.service.now) c.in-Some.order areas)
    (sym c.deref-2.ensures.value) c.in_ok-areas.ensures.told in
    let obeyed = c.serve_order-answer.ensures c.args.header.now c.in-Some.ensures.is.0 c.in-Some.ensures.is.1 told in
    turned g.S.FileService.machine _ _ _ _ _ _ _ _ _ _ _ _ c.requires
    c.in-Some.ensures.is.1 obeyed
    (appended_answer c.args.answers.now.items c.answer_room.new.answers.items c.push_answer.new.bytes.items
    c.serve_order-answer.result c.serve_order-answer.new.groups.items c.deref-3.result.now c.in-Ok.ensures.ok
    c.in_ok-groups.ensures.kept c.deref-3.ensures.value)
    c.count.ensures.refused c.count.ensures.broke c.count.ensures.reason
