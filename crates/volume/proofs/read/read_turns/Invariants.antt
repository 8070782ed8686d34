use Rattle.std.proofs.Common.{◌≡◌, ℕ, ◌+◌, map, take, length}
use Rattle.std.specs.List.{AllByRecursion}
use Rattle.alloctab.specs.Common.{digit_at}
use Rattle.spec_image.specs.Common.{layout_number}
use Rattle.volume.specs.Common.{KeepsDisk, turn_view, placed_known, reaches_in_entries, IsWholeVersion, IsOnlySpace}
use Rattle.volume.specs.Common.{AreFilesRead}
use Rattle.volume.proofs.read.read_turns.Given as goal

abbrev pub invariant-loop-turn : goal.invariant-loop-turn
invariant-loop-turn g l = record {
  disk : KeepsDisk (g.D.Disk.state l.fn.disk) (g.D.Disk.state l.disk) ⊥;
  marks : length l.reached ≡ length l.fn.reached;
  whole : AllByRecursion IsWholeVersion (map placed_known l.read.items);
  space : IsOnlySpace (g.D.Disk.state l.fn.disk).size l.fn.reached
      → IsOnlySpace (g.D.Disk.state l.fn.disk).size l.reached;
  aligned : length l.read.items ≡ l.turn-index;
  placed : map (λ p. p.place) l.read.items ≡ map (λ t. t.place) (take l.turn-index l.turns);
  marked : (n : ℕ) → digit_at l.reached n ≡ digit_at l.fn.reached n
      + reaches_in_entries n (map turn_view (take l.turn-index l.turns)) (map placed_known l.read.items);
  read : (g.D.Disk.state l.disk).honest
      → AreFilesRead (layout_number l.layout) (g.D.Disk.state l.fn.disk).contents l.ppn
      (map turn_view (take l.turn-index l.turns))
      (map placed_known l.read.items) (digit_at l.fn.reached) (digit_at l.reached);
}
