use Rattle.std.proofs.Common.{ap, arith}
use Rattle.std.proofs.lemmas.Result.{err_from_is_err_and}
use Rattle.collection.specs.Common.{most_told}
use Rattle.collection.proofs.FaultLaws.{told_all, told_cut, told_more}
use Rattle.collection.proofs.faults.report_first.Goals as goal

pub loop-finding-preserved : goal.loop-finding-preserved
loop-finding-preserved g c = (
  rw (c.added-tally.ensures, c.saturating_sub-room.ensures, c.from.ensures) (told_more c.args.task.now c.args.kind
      most_told c.args.findings.now (g.W.Write.contents c.args.writer.now) c.loop-finding.finding-index
      c.loop-finding.room c.loop-finding.tally (g.W.Write.contents c.loop-finding.writer)
      (g.W.Write.contents c.report_if.new.writer) c.finding-item.result c.loop-finding-test.true c.finding-item.is
      c.loop-finding.invariant.0 c.has_line-has_line.result c.has_line-has_line.ensures c.loop-finding.invariant.1
      c.in_ok-one.one c.in_ok-one.ensures.told c.in_ok-one.ensures.passed),
  ap (λ tally. tally.reason) c.added-tally.ensures,
)

pub returns-in_err-one : goal.returns-in_err-one
returns-in_err-one g c =
    let p = err_from_is_err_and c.from_residual.result c.from_residual.ensures.1 in
    rw (p.1, p.2) (told_cut c.args.task.now c.args.kind most_told c.args.findings.now
    (g.W.Write.contents c.args.writer.now) c.loop-finding.finding-index c.loop-finding.room c.loop-finding.tally
    (g.W.Write.contents c.loop-finding.writer) (g.W.Write.contents c.report_if.new.writer) c.finding-item.result
    c.loop-finding-test.true c.finding-item.is c.loop-finding.invariant.0 c.has_line-has_line.result
    c.has_line-has_line.ensures c.in_err-one.field-0.0 c.in_err-one.ensures.told c.in_err-one.ensures.passed)

pub returns : goal.returns
returns g c = told_all c.args.task.now c.args.kind most_told c.args.findings.now (g.W.Write.contents c.args.writer.now)
    c.loop-finding.finding-index c.loop-finding.room c.loop-finding.tally (g.W.Write.contents c.loop-finding.writer)
    (omega arith) c.loop-finding.invariant.0
