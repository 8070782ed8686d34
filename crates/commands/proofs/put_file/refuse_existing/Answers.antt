use Rattle.std.proofs.Common.{◌∙◌, List, ap, drop, get_or, take}
use Rattle.spec_machine.specs.declared.call.Event.{Event}
use Rattle.commands.proofs.AbsentLaws.{looked_up}
use Rattle.commands.proofs.put_file.refuse_existing.Goals as goal

pub returns : goal.returns
returns g c =
    let events = c.as_slice.ensures ∙ c.lookup_events-events.ensures in
    looked_up g.S.FileService.machine g.met.S.FileService.stands _ _ _ c.args.moment c.args.spec
    c.split_at.result.0.now (c.split_at.ensures.front ∙ ap (take 8) events) c.index-lookup-0.result
    (c.index-lookup-0.is ∙ ap (λ (l : List Event). get_or l 0 c.index-lookup-0.result)
    (c.split_at.ensures.back ∙ ap (drop 8) events)) c.event-reply.result c.in_ok-ask_all.ensures
    c.event-reply.ensures c.absence_of.result (c.absence_of.ensures c.args.moment)
