use Rattle.std.proofs.Common.{◌≡◌, ◌-◌, ◌*◌, ◌∷◌, ◌++◌, map, take, length, flat_map, replicate}
use Rattle.directory.proofs.image.block_image.Given as goal

abbrev pub invariant-loop-i : goal.invariant-loop-i
invariant-loop-i g l = l.block ≡ l.fn.next ∷ length l.entries
    ∷ (flat_map g.E.ChainEntry.words_of (take l.i (map g.E.ChainEntry.view l.entries)) ++ replicate (126 - 3 * l.i) 0)
