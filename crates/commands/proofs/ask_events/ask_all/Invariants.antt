use Rattle.std.proofs.Common.{take}
use Rattle.commands.specs.Common.{HasDone}
use Rattle.commands.proofs.ask_events.ask_all.Given as goal

abbrev pub invariant-loop-event : goal.invariant-loop-event
invariant-loop-event g l = HasDone g.S.FileService.machine l.fn.service l.service (take l.event-index l.events)
