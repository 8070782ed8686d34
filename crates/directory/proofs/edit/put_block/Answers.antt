use Rattle.std.proofs.Common.{ℕ, suc, ◌-◌, ◌*◌, List, length, take, drop, get_or, map, ◌+◌, ◌≤◌, ap, sym, subst, ◌∙◌}
use Rattle.spec_image.specs.declared.put.Put.{Put}
use Rattle.spec_image.specs.Common.{directory_block}
use Rattle.changeset.specs.Common.{replaced, length-replaced}
use Rattle.directory.proofs.Windows.{sliced}
use Rattle.directory.proofs.edit.put_block.Goals as goal

pub returns-clause-set : goal.returns-clause-set
returns-clause-set g c =
    let words = g.E.ChainEntry.words_of in
    let image = c.block_image-words.ensures
    ∙ ap (λ n. directory_block words n
    (map g.E.ChainEntry.view (take c.min-count.result (take (length c.args.entries.now - 42 * c.args.k)
    (drop (42 * c.args.k) c.args.entries.now))))) c.block_after.ensures
    ∙ ap (directory_block words (get_or c.args.blocks.now (suc c.args.k) 0))
    (sliced g.E.ChainEntry.view c.args.entries.now (42 * c.args.k) 42 c.min-count.result c.min-count.ensures) in
    c.in-Ok.ensures.ok ∙ ap (λ (ws : List ℕ).
    replaced (record { block = get_or c.args.blocks.now c.args.k 0; words = ws }) c.args.set.now) image

pub returns-clause-few : goal.returns-clause-few
returns-clause-few g c = subst (λ (l : List Put). length l ≤ length c.args.set.now + 1) (sym c.in-Ok.ensures.ok)
    (length-replaced _ c.args.set.now)
