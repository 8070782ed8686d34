use Rattle.std.proofs.Common.{◌≡◌, ◌/◌, ◌++◌, length, take}
use Rattle.std.specs.Prelude.{flat_map}
use Rattle.std.specs.Simd.{first_chunks}
use Rattle.words36.specs.Common.{word_bytes, block_bytes}
use Rattle.commands.proofs.type_line.push_words.Given as goal

abbrev pub invariant-loop-word : goal.invariant-loop-word
invariant-loop-word l = l.bytes.items
    ≡ (l.fn.bytes.items ++ flat_map block_bytes (first_chunks 128 (length l.fn.words / 128) l.fn.words))
    ++ flat_map word_bytes (take l.word-index l.others)
