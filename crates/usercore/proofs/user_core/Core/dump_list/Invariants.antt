use Rattle.std.proofs.Common.{◌≡◌, ◌<◌, ◌≤◌, ◌*◌, ◌-◌, ◌+◌, length}
use Rattle.std.specs.List.{All}
use Rattle.arrayvec.specs.ArrayVec.{array_vec_len}
use Rattle.spec_machine.specs.Common.{areas_from, word_count}
use Rattle.usercore.proofs.ListLaws.{prepend}
use Rattle.usercore.proofs.user_core.Core.dump_list.Given as goal

abbrev pub invariant-loop-looked : goal.invariant-loop-looked
invariant-loop-looked l = record {
  found : areas_from l.self 512 l.fn.address ≡ prepend l.areas.items (areas_from l.self (512 - l._looked) l.address);
  few : array_vec_len l.areas ≤ l._looked;
  counted : l.total ≡ word_count l.areas.items;
  small : l.total ≤ 131072 * l._looked;
  within : All (λ area. area.first + area.count ≤ length l.self) l.areas.items;
  some : All (λ area. 0 < area.count) l.areas.items;
}
