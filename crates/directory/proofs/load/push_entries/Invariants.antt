use Rattle.std.proofs.Common.{◌≡◌, ◌++◌, ℕ, List, length, map, take}
use Rattle.directory.specs.Common.{SpellsBlock, AreGood}
use Rattle.directory.proofs.load.push_entries.Given as goal

abbrev pub invariant-loop-i : goal.invariant-loop-i
invariant-loop-i g l = record {
  so_far : (next : ℕ) (es : List (g.row.E-Key.Denot × g.E.ChainEntry.Stored))
      → SpellsBlock g.E.ChainEntry.words_of g.E.ChainEntry.IsEntry l.block next es → length es ≡ l.count
      → map g.E.ChainEntry.view l.entries ≡ map g.E.ChainEntry.view l.fn.entries ++ take l.i es;
  good : AreGood g.E.ChainEntry.order g.E.ChainEntry.IsEntry g.E.ChainEntry.target l.size
      (map g.E.ChainEntry.view l.entries);
}
