use Rattle.std.proofs.Common.{IfSome, length, ap, map, sym, subst, ◌∙◌}
use Rattle.std.proofs.lemmas.List.{map_push}
use Rattle.directory.specs.Common.{IsSpareFor}
use Rattle.directory.proofs.Reserves.{room_block}
use Rattle.directory.proofs.Steps.{appended_sound, appended_put}
use Rattle.directory.proofs.chain.Chain.append_into.Goals as goal

pub push_block-requires-clause-spare : goal.push_block-requires-clause-spare
push_block-requires-clause-spare g c =
    subst (λ n. IfSome c.args.block (λ _. IsSpareFor n c.reserve.inside.blocks))
    (sym (c.self.inside.blocks.ok.0 ∙ ap (λ s. length s.blocks) c.self.view_is))
    (subst (λ r. IfSome c.args.block (λ _. IsSpareFor (length c.args.self.now.blocks) r))
    (sym (ap (λ r. r.blocks) c.reserve.view_is))
    (room_block g.E.ChainEntry.view c.args.self.now (g.E.ChainEntry.view c.args.entry).0 c.args.reserve
    c.requires.reserve
    c.requires.absent c.args.block c.requires.block))

pub invariant_of-self : goal.invariant_of-self
invariant_of-self g c = (
  appended_sound g.met.E.ChainEntry.total g.E.ChainEntry.IsEntry g.E.ChainEntry.view
      (record { blocks = c.self.inside.blocks.items; entries = c.self.inside.entries }) c.args.self.now
      c.args.entry c.args.block
      c.push_block.new.blocks.items c.push_into.new.self c.self.view_is c.self.invariant.0 c.requires.absent
      c.requires.block c.words-words.ensures.good
      c.push_block.ensures.blocks (ap (map g.E.ChainEntry.view) c.push_into.ensures
      ∙ map_push g.E.ChainEntry.view c.self.inside.entries c.args.entry),
  c.push_block.ensures.places,
)

pub returns-clause-put : goal.returns-clause-put
returns-clause-put g c =
    appended_put g.met.E.ChainEntry.total g.E.ChainEntry.IsEntry g.E.ChainEntry.view g.E.ChainEntry.words_of
    (record { blocks = c.self.inside.blocks.items; entries = c.self.inside.entries }) c.args.self.now
    c.args.entry c.args.block
    c.push_block.new.blocks.items c.deref.result.now c.push_into.new.self c.as_slice.result.now
    c.is_some.result c.args.set.now c.put_end.new.set
    c.self.view_is c.self.invariant.0 c.requires.absent c.requires.block c.words-words.ensures.good
    c.push_block.ensures.blocks (ap (map g.E.ChainEntry.view) c.push_into.ensures
    ∙ map_push g.E.ChainEntry.view c.self.inside.entries c.args.entry) c.deref.ensures.value c.as_slice.ensures
    c.is_some.ensures
    c.put_end.ensures.one c.put_end.ensures.both
