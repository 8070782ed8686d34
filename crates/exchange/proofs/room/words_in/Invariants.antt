use Rattle.std.proofs.Common.{◌≡◌, length, take}
use Rattle.exchange.specs.Turns.{addresses}
use Rattle.exchange.proofs.room.words_in.Given as goal

abbrev pub invariant-loop-area : goal.invariant-loop-area
invariant-loop-area l = l.words ≡ length (addresses (take l.area-index l.areas))
