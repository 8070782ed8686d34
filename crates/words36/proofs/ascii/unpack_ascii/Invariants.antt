use Rattle.std.proofs.Common.{◌≡◌, take, All}
use Rattle.words36.specs.Common.{unpacked, IsWord}
use Rattle.words36.proofs.ascii.unpack_ascii.Given as goal

abbrev pub invariant-loop-word : goal.invariant-loop-word
invariant-loop-word l = record {
  text_is : l.text.items ≡ unpacked (take l.word-index l.words);
  words_fit : All IsWord (take l.word-index l.words);
}
