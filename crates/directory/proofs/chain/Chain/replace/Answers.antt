use Rattle.std.proofs.Common.{sym, subst, ◌∙◌}
use Rattle.directory.specs.Common.{IsChain, viewed, PutsChain}
use Rattle.directory.proofs.Steps.{replaced_sound, replaced_put}
use Rattle.directory.proofs.chain.Chain.replace.Goals as goal

pub invariant_of-self : goal.invariant_of-self
invariant_of-self g c = (
  subst (λ es. IsChain g.E.ChainEntry.order g.E.ChainEntry.IsEntry
      (viewed g.E.ChainEntry.view (record { blocks = c.self.inside.blocks.items; entries = es }))) (sym c.set.ensures)
      (replaced_sound g.met.E.ChainEntry.total g.E.ChainEntry.IsEntry g.E.ChainEntry.view
      (record { blocks = c.self.inside.blocks.items; entries = c.self.inside.entries }) c.args.self.now
      c.args.i c.args.entry
      c.self.view_is c.self.invariant.0 c.requires.within c.requires.alone c.words-words.ensures.good),
  c.self.invariant.1,
)

pub returns-clause-put : goal.returns-clause-put
returns-clause-put g c =
    subst (λ es. PutsChain g.E.ChainEntry.words_of (viewed g.E.ChainEntry.view c.args.self.now)
    (viewed g.E.ChainEntry.view (record { blocks = c.self.inside.blocks.items; entries = es })) c.args.set.now
    c.put_block.new.set) (sym c.set.ensures)
    (replaced_put g.met.E.ChainEntry.total g.E.ChainEntry.IsEntry g.E.ChainEntry.view g.E.ChainEntry.words_of
    (record { blocks = c.self.inside.blocks.items; entries = c.self.inside.entries }) c.args.self.now
    c.args.i c.args.entry
    c.deref.result.now c.as_slice.result.now c.args.set.now c.put_block.new.set
    c.self.view_is c.self.invariant.0 c.requires.within c.deref.ensures.value (c.as_slice.ensures ∙ c.set.ensures)
    c.put_block.ensures.set)
