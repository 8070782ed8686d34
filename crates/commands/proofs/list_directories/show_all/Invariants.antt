use Rattle.std.proofs.Common.{◌≡◌}
use Rattle.commands.proofs.SurveyLaws.{Shows}
use Rattle.commands.proofs.list_directories.show_all.Given as goal

abbrev pub invariant-loop-owner : goal.invariant-loop-owner
invariant-loop-owner g l = Shows g.S.FileService.machine l.fn.style l.fn.owners l.fn.tally l.fn.service l.service
    l.owner-index
    l.bytes.items l.tally × (l.tally.reason ≡ l.fn.tally.reason)
