use Rattle.std.proofs.Common.{All, take}
use Rattle.words36.specs.Common.{IsWord}
use Rattle.commands.proofs.export_file.see_words.Given as goal

abbrev pub invariant-loop-word : goal.invariant-loop-word
invariant-loop-word l = All IsWord (take l.word-index l.words)
