-- Bodies as lists of words, written and read by blocks of 128. The first block of a body is block 1.
use Rattle.std.specs.Prelude.{ℕ, ◌+◌, ◌-◌, ◌*◌, ◌==◌, max, if◌then◌else◌, List, [], ◌∷◌, ◌++◌, length, replicate}
use Rattle.std.specs.Prelude.{take, drop}

-- how many words are before a block
abbrev pub block_start : ℕ → ℕ
block_start block = (block - 1) * 128

-- The body with words put at a block: over what is there, and after zeros if the body ends before that block. If there
-- are no words, nothing changes.
abbrev pub splice : List ℕ → ℕ → List ℕ → List ℕ
splice body block [] = body
splice body block (w ∷ ws) =
    take (block_start block) body ++ replicate (block_start block - length body) 0
    ++ (w ∷ ws) ++ drop (block_start block + length (w ∷ ws)) body

-- how many words a body of `words` words has after `count` words are put at a block
abbrev pub length_after : ℕ → ℕ → ℕ → ℕ
length_after words block count = if count == 0 then words else max words (block_start block + count)

-- the words from the start of a block
abbrev pub words_from : List ℕ → ℕ → List ℕ
words_from body block = drop (block_start block) body
