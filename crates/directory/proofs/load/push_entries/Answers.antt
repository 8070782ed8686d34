use Rattle.std.proofs.Common.{◌∙◌, sym, ap, arith, map, append-nil, ◌++◌}
use Rattle.std.proofs.lemmas.List.{take_all}
use Rattle.std.proofs.lemmas.Result.{err_from_is_err_and}
use Rattle.directory.specs.declared.load.AddError.TheVariants.{Outside, Again}
use Rattle.directory.proofs.AddedEntries.{pushed, one_outside, one_again}
use Rattle.changeset.proofs.LogRead.{passed_on}
use Rattle.directory.proofs.load.push_entries.Goals as goal

pub loop-i-init : goal.loop-i-init
loop-i-init g c = record {
  so_far = λ next es s many. sym (append-nil (map g.E.ChainEntry.view c.args.entries.now));
  good = c.requires.good;
}

pub push_entry-requires-clause-good : goal.push_entry-requires-clause-good
push_entry-requires-clause-good g c = c.loop-i.invariant.good

pub returns-in_err-push_entry-clause-outside : goal.returns-in_err-push_entry-clause-outside
returns-in_err-push_entry-clause-outside g c is next es s many =
    let p = err_from_is_err_and c.from_residual.result c.from_residual.ensures.1 in
    one_outside g.met.E.ChainEntry.total g.E.ChainEntry.words_of g.met.E.ChainEntry.apart g.E.ChainEntry.IsEntry
    g.E.ChainEntry.target
    c.args.size c.args.block.now c.entry_words.result c.args.count c.loop-i.i c.loop-i-test.true
    c.told-block c.entry_words.ensures next es s many
    (c.push_entry.ensures.outside (passed_on c.from_residual.result c.push_entry.result p.0
    c.in_err-push_entry.field-0.0 Outside is p.1 p.2 c.in_err-push_entry.was))

pub returns-in_err-push_entry-clause-again : goal.returns-in_err-push_entry-clause-again
returns-in_err-push_entry-clause-again g c is next es s many =
    let p = err_from_is_err_and c.from_residual.result c.from_residual.ensures.1 in
    one_again g.met.E.ChainEntry.total g.E.ChainEntry.words_of g.met.E.ChainEntry.apart g.E.ChainEntry.IsEntry
    g.E.ChainEntry.target
    c.args.size c.args.block.now c.entry_words.result c.args.count c.loop-i.i c.loop-i-test.true
    c.told-block c.entry_words.ensures next es s many (map g.E.ChainEntry.view c.args.entries.now)
    (map g.E.ChainEntry.view c.loop-i.entries) (c.loop-i.invariant.so_far next es s many)
    (c.push_entry.ensures.again (passed_on c.from_residual.result c.push_entry.result p.0 c.in_err-push_entry.field-0.0
    Again is p.1 p.2 c.in_err-push_entry.was))

pub loop-i-preserved : goal.loop-i-preserved
loop-i-preserved g c = record {
  so_far = λ next es s many. pushed g.met.E.ChainEntry.total g.E.ChainEntry.words_of g.met.E.ChainEntry.apart
      g.E.ChainEntry.IsEntry
      g.E.ChainEntry.target c.args.size c.args.block.now c.entry_words.result c.args.count c.loop-i.i c.loop-i-test.true
      c.told-block c.entry_words.ensures next es s many (map g.E.ChainEntry.view c.args.entries.now)
      (map g.E.ChainEntry.view c.loop-i.entries) (map g.E.ChainEntry.view c.push_entry.new.entries)
      (c.loop-i.invariant.so_far next es s many)
      c.in_ok-push_entry.ensures.ok;
  good = c.in_ok-push_entry.ensures.good;
}

pub returns-clause-ok : goal.returns-clause-ok
returns-clause-ok g c next es s many =
    c.loop-i.invariant.so_far next es s many
    ∙ ap (λ l. map g.E.ChainEntry.view c.args.entries.now ++ l) (take_all c.loop-i.i es (let e = c.loop-i-test.false in
    omega arith))

pub returns-clause-good : goal.returns-clause-good
returns-clause-good g c = c.loop-i.invariant.good
