use Rattle.std.proofs.Common.{ap, ◌∙◌, sym, Some, List, subst}
use Rattle.retrieval.specs.Common.{IsAtOffset}
use Rattle.retrieval.specs.declared.run.Run.{Run as RunValue}
use Rattle.retrieval.proofs.RunListLaws.{block_in}
use Rattle.retrieval.proofs.block_list.BlockList.get.Goals as goal

pub returns : goal.returns
returns c =
    let runs = c.self.inside.runs.items in
    let place = c.in_ok-place.place in
    let is_in = subst (λ (l : List RunValue). IsAtOffset l c.args.i place.run place.offset) c.deref.ensures.value
    c.in_ok-place.ensures.some in
    rw (← c.self.view_is) (ap Some c.at.ensures
    ∙ sym (block_in runs c.args.i place.run place.offset c.index.result.now is_in
    c.index.ensures))
