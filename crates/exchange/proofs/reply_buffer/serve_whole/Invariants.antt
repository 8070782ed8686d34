use Rattle.std.proofs.Common.{◌≤◌, ◌-◌, length, take}
use Rattle.exchange.specs.Exchanges.{StepsOn}
use Rattle.exchange.proofs.reply_buffer.serve_whole.Given as goal

abbrev pub invariant-loop-header : goal.invariant-loop-header
invariant-loop-header g l = record {
  within : l.place ≤ length l.held;
  steps : StepsOn g.S.FileService.machine l.fn.service l.service (g.W.Write.contents l.fn.writer)
      (g.W.Write.contents l.writer) l.fn.answers.items l.answers.items l.fn.tally l.tally (take l.place l.held);
}

abbrev pub decreases-loop-header : goal.decreases-loop-header
decreases-loop-header g l = length l.held - l.place
