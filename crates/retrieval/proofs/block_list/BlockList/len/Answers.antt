use Rattle.std.proofs.Common.{◌≡◌, ◌∙◌, ◌∷◌, ℕ, List, ap, length, arith}
use Rattle.std.specs.Prelude.{slice_index}
use Rattle.retrieval.proofs.RunEnds.{before_end}
use Rattle.retrieval.proofs.block_list.BlockList.len.Goals as goal

pub returns : goal.returns
returns c =
    let ends = c.self.inside.ends.items in
    let long = c.len.ensures in
    let all : c.len.result ≡ length ends = omega (arith, c.self.inside.ends.ok) in
    rw (← c.self.view_is) (c.blocks_before.ensures
    ∙ ap (λ (l : List ℕ). slice_index (0 ∷ l) c.len.result) c.deref.ensures.value
    ∙ ap (slice_index (0 ∷ ends)) all ∙ before_end c.self.inside.runs.items ends c.self.invariant.are_ends)
