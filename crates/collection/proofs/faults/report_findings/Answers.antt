use Rattle.std.proofs.Common.{◌<◌, ◌≤◌, ◌+◌, length, rules, sym, subst}
use Rattle.std.proofs.lemmas.Result.{err_from_is_err_and}
use Rattle.collection.specs.Common.{IsKindDone, kind_texts, kinds}
use Rattle.collection.proofs.EachLaws.{Done, done_none, done_more, done_cut, done_all}
use Rattle.collection.proofs.FaultLaws.{kind_at, kind_below, kinds_done}
use Rattle.collection.proofs.faults.report_findings.Goals as goal

pub loop-kind-init : goal.loop-kind-init
loop-kind-init g c = subst (λ t. Done (IsKindDone c.args.task.now c.args.findings.now) kinds
    (g.W.Write.contents c.args.writer.now) tt 0 t (g.W.Write.contents c.args.writer.now) tt) (sym c.none-tally.ensures)
    (done_none (IsKindDone c.args.task.now c.args.findings.now) kinds (g.W.Write.contents c.args.writer.now) tt)

pub loop-kind-preserved : goal.loop-kind-preserved
loop-kind-preserved g c =
    let below : c.loop-kind.kind < length kind_texts = search rules in
    subst (λ t. Done (IsKindDone c.args.task.now c.args.findings.now) kinds (g.W.Write.contents c.args.writer.now) tt
    (c.loop-kind.kind + 1) t (g.W.Write.contents c.report_kind.new.writer) tt) (sym c.added-tally.ensures)
    (done_more (IsKindDone c.args.task.now c.args.findings.now) kinds (g.W.Write.contents c.args.writer.now) tt
    c.loop-kind.kind c.loop-kind.tally _ _ tt tt c.loop-kind.kind (kind_below c.loop-kind.kind below)
    (kind_at c.loop-kind.kind below) c.loop-kind.invariant c.in_ok-one.one c.in_ok-one.ensures)

pub returns-in_err-one : goal.returns-in_err-one
returns-in_err-one g c =
    let below : c.loop-kind.kind < length kind_texts = search rules in
    let p = err_from_is_err_and c.from_residual.result c.from_residual.ensures.1 in
    rw (p.1, p.2) (done_cut (IsKindDone c.args.task.now c.args.findings.now) kinds
    (g.W.Write.contents c.args.writer.now) tt c.loop-kind.kind c.loop-kind.tally _ _ tt tt c.loop-kind.kind
    (kind_below c.loop-kind.kind below) (kind_at c.loop-kind.kind below) c.loop-kind.invariant c.in_err-one.field-0.0
    c.in_err-one.ensures)

pub returns : goal.returns
returns g c =
    let past : length kind_texts ≤ c.loop-kind.kind = search rules in
    done_all (IsKindDone c.args.task.now c.args.findings.now) kinds (g.W.Write.contents c.args.writer.now) tt
    c.loop-kind.kind c.loop-kind.tally _ tt (kinds_done c.loop-kind.kind past) c.loop-kind.invariant
