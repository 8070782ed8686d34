use Rattle.std.proofs.Common.{◌≡◌, ℕ, List, All, take}
use Rattle.words36.specs.Common.{IsWord, block_bytes}
use Rattle.commands.specs.Common.{GoesBy}
use Rattle.exchange.specs.Turns.{puts}
use Rattle.exchange.proofs.serve_order.put_words.Given as goal

abbrev pub invariant-loop-place : goal.invariant-loop-place
invariant-loop-place g l = (words : List ℕ) → All IsWord words → block_bytes words ≡ l.body
    → GoesBy g.S.FileService.machine l.fn.service l.service (puts l.job l.first (take l.place words))
