use Rattle.std.proofs.Common.{◌≡◌, ◌<◌, ◌*◌, ◌^◌, length}
use Rattle.std.specs.List.{AllByRecursion}
use Rattle.spec_image.specs.Common.{InSpace}
use Rattle.test_retrieval.proofs.write_tests.version_of.Given as goal

abbrev pub invariant-loop-i : goal.invariant-loop-i
invariant-loop-i l = record {
  words : l.version.words ≡ l.count * 128;
  blocks : length l.version.blocks ≡ l.i;
  fit : AllByRecursion (λ n. n < 2 ^ 18) l.version.blocks;
  inside : AllByRecursion (InSpace 1024) l.version.blocks;
}
