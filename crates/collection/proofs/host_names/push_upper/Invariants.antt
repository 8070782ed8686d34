use Rattle.std.proofs.Common.{◌≡◌, ◌++◌, take, map}
use Rattle.spec_language.specs.Common.{upper}
use Rattle.collection.proofs.host_names.push_upper.Given as goal

abbrev pub invariant-loop-byte : goal.invariant-loop-byte
invariant-loop-byte l = l.text.items ≡ l.fn.text.items ++ map upper (take l.byte-index l.fn.part)
