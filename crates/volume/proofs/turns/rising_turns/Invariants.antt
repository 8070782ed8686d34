use Rattle.std.proofs.Common.{◌≡◌, map, take}
use Rattle.std.specs.List.{enumerate_from}
use Rattle.volume.specs.Common.{numbered_entry}
use Rattle.volume.proofs.turns.rising_turns.Given as goal

abbrev pub invariant-loop-place : goal.invariant-loop-place
invariant-loop-place l = map numbered_entry l.turns.items ≡ enumerate_from 0 (take l.place l.entries)
