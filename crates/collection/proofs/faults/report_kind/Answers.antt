use Rattle.std.proofs.Common.{◌≡◌, ◌-◌, Err, Ok, arith, length, subst, take}
use Rattle.std.proofs.lemmas.Result.{err_from_is_err_and}
use Rattle.collection.specs.Common.{EachDone, IsLineDone, IsRestDone, most_told, none_counted, of_kind}
use Rattle.collection.proofs.EachLaws.{both_done, second_cut}
use Rattle.collection.proofs.faults.report_kind.Goals as goal

pub returns-in_err-rest : goal.returns-in_err-rest
returns-in_err-rest g c =
    let task = c.args.task.now in
    let list = of_kind task.owner c.args.kind c.args.findings.now in
    let more : c.saturating_sub-more.result ≡ length list - most_told =
    omega (arith, c.count_kind-count.ensures, c.saturating_sub-more.ensures) in
    let e = err_from_is_err_and c.from_residual-in_err-rest.result c.from_residual-in_err-rest.ensures.1 in
    rw (e.1, e.2) (second_cut (EachDone (IsLineDone task) (take most_told list) none_counted)
    (IsRestDone task c.args.kind (length list - most_told)) (g.W.Write.contents c.args.writer.now)
    (g.W.Write.contents c.report_first.new.writer) (g.W.Write.contents c.report_rest.new.writer) tt tt tt
    c.in_ok-first.first c.in_ok-first.ensures c.in_err-rest.field-0.0
    (subst (λ n. IsRestDone task c.args.kind n (g.W.Write.contents c.report_first.new.writer)
    (g.W.Write.contents c.report_rest.new.writer) tt tt (Err c.in_err-rest.field-0.0)) more c.in_err-rest.ensures))

pub returns : goal.returns
returns g c =
    let task = c.args.task.now in
    let list = of_kind task.owner c.args.kind c.args.findings.now in
    let more : c.saturating_sub-more.result ≡ length list - most_told =
    omega (arith, c.count_kind-count.ensures, c.saturating_sub-more.ensures) in
    both_done (EachDone (IsLineDone task) (take most_told list) none_counted)
    (IsRestDone task c.args.kind (length list - most_told)) (g.W.Write.contents c.args.writer.now)
    (g.W.Write.contents c.report_first.new.writer) (g.W.Write.contents c.report_rest.new.writer) tt tt tt
    c.in_ok-first.first c.in_ok-first.ensures c.in_ok-rest.rest c.added.result c.added.ensures
    (subst (λ n. IsRestDone task c.args.kind n (g.W.Write.contents c.report_first.new.writer)
    (g.W.Write.contents c.report_rest.new.writer) tt tt (Ok c.in_ok-rest.rest)) more c.in_ok-rest.ensures)
