use Rattle.std.proofs.Common.{rules, length}
use Rattle.std.proofs.lemmas.List.Sorted.{IsNonDecreasingBy-from_sort_by_key}
use Rattle.salvage.proofs.KeptFiles.{by_size}
use Rattle.salvage.proofs.take.smallest_first.Goals as goal

pub returns-in-Ok-clause-sorted : goal.returns-in-Ok-clause-sorted
returns-in-Ok-clause-sorted c =
    let sorted = c.sort_by_key.new.self.items in
    by_size sorted (IsNonDecreasingBy-from_sort_by_key (λ file. length file.stored.version.blocks) sorted
    c.in-Ok.ensures.sorted (λ a r f g. search rules))
