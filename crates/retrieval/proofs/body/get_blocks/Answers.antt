use Rattle.std.proofs.Common.{◌≡◌, length, arith}
use Rattle.std.proofs.lemmas.Result.{err_from_is_err_and}
use Rattle.retrieval.specs.declared.error.BodyError.TheVariants.{BadData}
use Rattle.changeset.proofs.LogRead.{passed_on}
use Rattle.retrieval.proofs.RunReads.{stand_at}
use Rattle.retrieval.proofs.body.get_blocks.Goals as goal

pub returns-in_err-read_run-clause-bad : goal.returns-in_err-read_run-clause-bad
returns-in_err-read_run-clause-bad g c h k is =
    let p = err_from_is_err_and c.from_residual.result c.from_residual.ensures.1 in
    c.read_run.ensures.bad h k (passed_on c.from_residual.result c.read_run.result p.0 c.in_err-read_run.field-0.0
    (BadData k) is p.1 p.2 c.in_err-read_run.was)

pub returns-clause-words : goal.returns-clause-words
returns-clause-words g c h =
    let long : length c.read_run.new.run ≡ length c.args.run.now = omega arith in
    stand_at (g.D.Disk.state c.args.disk.now).contents c.args.first (length c.args.run.now)
    (length c.args.words.now.items) c.args.wanted c.read_run.new.run c.push_blocks.new.words.items
    (λ i less. c.in_ok-read_run.ensures.words h i (omega (arith, less, long)))
    (λ i less. c.push_blocks.ensures.whole i (omega (arith, less, long)))
    (λ i k less. c.push_blocks.ensures.put i k (omega (arith, less, long)))
