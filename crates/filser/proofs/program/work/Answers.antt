use Rattle.std.proofs.Common.{◌≡◌, MatchOption, Option, map, subst}
use Rattle.filser.specs.Common.{status_code}
use Rattle.filser.proofs.ExitCodes.{code_asked, code_is, code_mistaken, code_ran, code_written}
use Rattle.filser.proofs.LedImages.{reports_spared}
use Rattle.filser.specs.declared.output.OutputFault.{OutputFault}
use Rattle.filser.proofs.program.work.Goals as goal

pub returns-clause-mistaken : goal.returns-clause-mistaken
returns-clause-mistaken g c h = code_mistaken c.answer-outcome.result.status c.exit_code.result
    (code_is c.fault.result c.answer-outcome.result.status c.exit_code.result c.exit_code.ensures)
    (c.answer-outcome.ensures.mistaken h)

pub returns-clause-asked : goal.returns-clause-asked
returns-clause-asked g c r asks none = code_asked c.answer-outcome.result.status c.exit_code.result
    (code_is c.fault.result c.answer-outcome.result.status c.exit_code.result c.exit_code.ensures)
    (c.answer-outcome.ensures.asked r asks none)

pub returns-clause-ran : goal.returns-clause-ran
returns-clause-ran g c = (
  c.answer-outcome.result.status,
  g.W.Write.contents c.answer-outcome.new.streams.writer.writer,
  code_ran {F = OutputFault} c.flush.new.self.fault c.answer-outcome.result.status c.exit_code.result
      (subst (λ (f : Option OutputFault). MatchOption f
      (c.exit_code.result ≡ status_code c.answer-outcome.result.status) (λ why. c.exit_code.result ≡ 4))
      c.fault.ensures c.exit_code.ensures),
  c.flush.ensures.bytes,
  c.answer-outcome.ensures.ran,
)

pub returns-clause-written : goal.returns-clause-written
returns-clause-written g c = code_written c.flush.result _ c.flush.new.self.fault c.flush.new.self.is_flushed
    c.answer-outcome.result.status c.exit_code.result (subst (λ (f : Option OutputFault). MatchOption f
    (c.exit_code.result ≡ status_code c.answer-outcome.result.status) (λ why. c.exit_code.result ≡ 4))
    c.fault.ensures c.exit_code.ensures) c.flush.ensures.first
    c.flush.ensures.flushed

pub returns-clause-spared : goal.returns-clause-spared
returns-clause-spared g c = reports_spared _ (map (λ w. w.now) c.args.words.now) _ _ _
    c.answer-outcome.ensures.spared c.report_streams.ensures
