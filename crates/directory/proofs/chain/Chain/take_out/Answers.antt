use Rattle.std.proofs.Common.{ap, ◌∙◌}
use Rattle.spec_image.specs.Common.{directory_cost}
use Rattle.directory.proofs.Steps.{removed_entries, removed_sound, removed_put}
use Rattle.directory.proofs.chain.Chain.take_out.Goals as goal

pub invariant_of-self : goal.invariant_of-self
invariant_of-self g c = (
  removed_sound g.met.E.ChainEntry.total g.E.ChainEntry.IsEntry g.E.ChainEntry.view
      (record { blocks = c.self.inside.blocks.items; entries = c.self.inside.entries }) c.args.self.now
      c.args.i c.swap_remove.result
      c.pop_empty-freed.new.blocks.items c.pop_empty-freed.result c.swap_remove.new.self c.self.view_is
      c.self.invariant.0 c.requires.within c.pop_empty-freed.ensures.blocks c.swap_remove.ensures.entries
      (c.pop_empty-freed.ensures.counted ∙ ap directory_cost c.len.ensures),
  c.pop_empty-freed.ensures.places,
)

pub returns-clause-entries : goal.returns-clause-entries
returns-clause-entries g c =
    removed_entries g.met.E.ChainEntry.total g.E.ChainEntry.IsEntry g.E.ChainEntry.view
    (record { blocks = c.self.inside.blocks.items; entries = c.self.inside.entries }) c.args.self.now
    c.args.i c.swap_remove.result
    c.swap_remove.new.self c.self.view_is c.requires.within c.swap_remove.ensures.entries

pub returns-clause-put : goal.returns-clause-put
returns-clause-put g c =
    removed_put g.met.E.ChainEntry.total g.E.ChainEntry.IsEntry g.E.ChainEntry.view g.E.ChainEntry.words_of
    (record { blocks = c.self.inside.blocks.items; entries = c.self.inside.entries }) c.args.self.now
    c.args.i c.swap_remove.result
    c.pop_empty-freed.new.blocks.items c.deref.result.now c.pop_empty-freed.result c.swap_remove.new.self
    c.as_slice.result.now c.args.set.now c.put_hole.new.set
    c.self.view_is c.self.invariant.0 c.requires.within c.pop_empty-freed.ensures.blocks c.swap_remove.ensures.entries
    (c.pop_empty-freed.ensures.counted ∙ ap directory_cost c.len.ensures)
    c.deref.ensures.value c.as_slice.ensures c.put_hole.ensures.one c.put_hole.ensures.both
