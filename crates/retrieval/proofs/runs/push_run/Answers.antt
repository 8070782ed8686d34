use Rattle.std.proofs.Common.{◌+◌, ◌∷◌, [], ap, ◌∙◌, sym}
use Rattle.spec_image.specs.Common.{count_up}
use Rattle.retrieval.specs.Common.{VersionState, with_blocks}
use Rattle.retrieval.proofs.RunLists.{count_more, with_more}
use Rattle.retrieval.proofs.runs.push_run.Goals as goal

pub loop-i-preserved : goal.loop-i-preserved
loop-i-preserved c =
    let block = c.args.first + c.loop-i.i in
    c.in_ok-push.ensures.ok
    ∙ ap (λ (v : VersionState). with_blocks v (block ∷ [])) c.loop-i.invariant
    ∙ with_more c.args.version.now (count_up c.loop-i.i c.args.first) (block ∷ [])
    ∙ ap (with_blocks c.args.version.now) (sym (count_more c.loop-i.i c.args.first))
