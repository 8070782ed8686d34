use Rattle.std.proofs.Common.{subst, arith}
use Rattle.directory.proofs.BlockEntries.{SpellsSome, some_none_yet, some_more, none_there}
use Rattle.directory.proofs.parse.are_entries.Goals as goal

pub loop-i-init : goal.loop-i-init
loop-i-init g c = some_none_yet g.E.ChainEntry.words_of g.met.E.ChainEntry.apart g.E.ChainEntry.IsEntry c.args.block.now

pub returns-then-not-is_entry-clause-no : goal.returns-then-not-is_entry-clause-no
returns-then-not-is_entry-clause-no g c es many s =
    absurd (none_there g.E.ChainEntry.words_of g.met.E.ChainEntry.apart g.E.ChainEntry.IsEntry c.args.block.now
    c.entry_words.result
    c.args.count c.loop-i.i c.told-block c.entry_words.ensures c.loop-i-test.true
    (λ e good is. let t = c.is_entry.ensures.no e good is in let f = c.if-not-is_entry.true in cc) es many s)

pub loop-i-preserved : goal.loop-i-preserved
loop-i-preserved g c =
    some_more g.E.ChainEntry.words_of g.met.E.ChainEntry.apart g.E.ChainEntry.IsEntry c.args.block.now
    c.entry_words.result c.loop-i.i
    c.told-block c.entry_words.ensures (c.is_entry.ensures.yes c.if-not-is_entry.false) c.loop-i.invariant

pub returns-clause-yes : goal.returns-clause-yes
returns-clause-yes g c is = subst (SpellsSome g.E.ChainEntry.words_of g.E.ChainEntry.IsEntry c.args.block.now)
    (let e = c.loop-i-test.false in let f = c.loop-i.auto.i-end in omega arith) c.loop-i.invariant
