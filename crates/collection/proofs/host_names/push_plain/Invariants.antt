use Rattle.std.proofs.Common.{◌≡◌, ◌++◌, drop}
use Rattle.collection.specs.Common.{plain}
use Rattle.collection.proofs.host_names.push_plain.Given as goal

abbrev pub invariant-loop-byte : goal.invariant-loop-byte
invariant-loop-byte l = l.text.items ++ plain l.room (drop l.byte-index l.fn.part)
    ≡ l.fn.text.items ++ plain l.fn.most l.fn.part
