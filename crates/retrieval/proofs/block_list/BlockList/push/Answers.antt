use Rattle.std.proofs.Common.{◌∙◌, ap}
use Rattle.std.proofs.lemmas.Result.{on_ok_weaker}
use Rattle.retrieval.specs.Common.{pairs_of, behind}
use Rattle.retrieval.proofs.RunListLaws.{pushed}
use Rattle.retrieval.proofs.RunEnds.{kept_more}
use Rattle.retrieval.proofs.block_list.BlockList.push.Goals as goal

pub invariant_of-self : goal.invariant_of-self
invariant_of-self c =
    let runs = c.self.inside.runs.items in
    let now = c.push_run.new.runs.items in
    kept_more c.push_run.result runs now c.self.inside.ends.items c.push_run.new.ends.items c.args.n
    c.self.invariant
    (on_ok_weaker c.push_run.result (λ more. more ∙ ap (behind (pairs_of runs)) c.of.ensures) c.push_run.ensures.ok)
    c.push_run.ensures.ends c.push_run.ensures.same_runs c.push_run.ensures.same_ends

pub returns-clause-ok : goal.returns-clause-ok
returns-clause-ok c =
    let runs = c.self.inside.runs.items in
    rw (← c.self.view_is) (on_ok_weaker c.push_run.result (λ more. (pushed runs c.push_run.new.runs.items c.args.n
    c.self.invariant.are_longest (more ∙ ap (behind (pairs_of runs)) c.of.ensures)).1) c.push_run.ensures.ok)
