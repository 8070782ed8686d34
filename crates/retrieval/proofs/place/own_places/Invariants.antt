use Rattle.std.proofs.Common.{◌≡◌, ◌⊎◌, ◌≤◌, ◌<◌, ◌+◌, ◌-◌, ◌*◌, ℕ, length}
use Rattle.std.specs.Prelude.{slice_index}
use Rattle.std.specs.List.{AllByRecursion}
use Rattle.spec_image.specs.Common.{InSpace, times}
use Rattle.alloctab.specs.Common.{holds, uses}
use Rattle.retrieval.specs.Common.{IsOwn, AddsFree, KeepsOwn, StandAlone}
use Rattle.retrieval.proofs.place.own_places.Given as goal

abbrev pub invariant-loop-i : goal.invariant-loop-i
invariant-loop-i l = record {
  own : (j : ℕ) → l.first ≤ j → j < l.i → IsOwn l.fn.table l.fn.blocks.blocks (slice_index l.blocks.blocks j);
  apart : StandAlone l.blocks.blocks l.first l.i;
  others : (j : ℕ) → (j < l.first) ⊎ (l.i ≤ j) → slice_index l.blocks.blocks j ≡ slice_index l.fn.blocks.blocks j;
  spare : 2 * (l.end - l.i) ≤ l.blocks.spare;
  long : length l.blocks.blocks ≡ length l.fn.blocks.blocks;
  inside : AllByRecursion (InSpace l.fn.table.size) l.blocks.blocks;
  adds : AddsFree l.fn.table l.fn.blocks.blocks l.blocks.blocks;
  table : l.table ≡ record l.fn.table { held = l.table.held };
  held : (n : ℕ) → holds l.table n + times n l.fn.blocks.blocks ≡ holds l.fn.table n + times n l.blocks.blocks;
  used : uses l.table ≡ uses l.fn.table;
  few : (n : ℕ) → times n l.fn.blocks.blocks ≤ 1 → times n l.blocks.blocks ≤ 1;
  stays : KeepsOwn l.fn.table l.fn.blocks.blocks l.blocks.blocks;
}
