-- An image: block n of the disk is the bytes of one block from place n times their number. In the wide form a block
-- has 1024 bytes, and is damaged if a word has top bits that aren't zero; in the packed form it has 576, and none is
-- damaged by its bytes.
use Rattle.std.specs.Prelude.{◌≡◌, ◌<◌, ◌≤◌, ◌+◌, ◌*◌, ◌/◌, ◌^◌, ◌==◌, ◌&&◌, ◌||◌, if◌then◌else◌, ℕ, zero, suc, Bool}
use Rattle.std.specs.Prelude.{true, false, List, [], ◌∷◌, ◌++◌, Option, Some, None, take, drop}
use Rattle.words36.specs.Common.{number_at, nine_words}
use Rattle.blockdisk.specs.Common.{Contents, DiskState}
use Rattle.imagefile.specs.File.{Bytes, Remains, FileState, Inside, window}
use Rattle.imagefile.specs.declared.form.Form.{Form}
use Rattle.imagefile.specs.declared.form.Form.TheVariants.{Wide, Packed}

-- the number of bytes of a block
abbrev pub block_length : Form → ℕ
block_length Wide = 1024
block_length Packed = 576

abbrev pub other_form : Form → Form
other_form Wide = Packed
other_form Packed = Wide

-- the first n words of a wide block's bytes have top bits of zero
unfoldable pub are_words : List ℕ → ℕ → Bool
are_words bytes zero = true
are_words bytes (suc n) = are_words bytes n && (number_at bytes n / 2 ^ 36 == 0)

-- the first n words of a wide block's bytes
unfoldable pub first_words : List ℕ → ℕ → List ℕ
first_words bytes zero = []
first_words bytes (suc n) = first_words bytes n ++ number_at bytes n ∷ []

-- the words of a wide block's bytes, or none if it is damaged
abbrev pub wide_content : List ℕ → Option (List ℕ)
wide_content bytes = if are_words bytes 128 then Some (first_words bytes 128) else None

-- the words of a block's bytes, or none if it is damaged
abbrev pub block_content : Form → List ℕ → Option (List ℕ)
block_content Wide bytes = wide_content bytes
block_content Packed bytes = Some (nine_words bytes)

-- what a disk holds if its image has these bytes
abbrev pub image_contents : Form → Bytes → Contents
image_contents form b n = block_content form (window b (block_length form * n) (block_length form))

-- what the blocks with these bytes hold, one after the other
abbrev pub spelled_blocks : Form → List ℕ → Contents
spelled_blocks form bytes i = block_content form (take (block_length form) (drop (block_length form * i) bytes))

-- one of the n places from `at` is open
unfoldable pub opened_in : (ℕ → Bool) → ℕ → ℕ → Bool
opened_in o at zero = false
opened_in o at (suc n) = o at || opened_in o (at + 1) n

-- the bytes of block n
abbrev pub InBlock : Form → ℕ → ℕ → Type 0
InBlock form n p = Inside (block_length form * n) (block_length form) p

-- Each block of c whose bytes are all known holds what they spell; if nothing is known about a byte of a block, c may
-- hold anything there.
abbrev pub ReadsAs : Form → Remains → Contents → Type 0
ReadsAs form r c = (n : ℕ) (b : Bytes) → ((p : ℕ) → InBlock form n p → r p ≡ Some (b p)) → c n ≡ image_contents form b n

-- the disk of this number of blocks whose image this file is
abbrev pub image_state : Form → ℕ → FileState → DiskState
image_state form blocks f = record {
  size = blocks;
  honest = f.honest;
  failures = f.failures;
  contents = image_contents form f.bytes;
  is_open = λ n. opened_in f.is_open (block_length form * n) (block_length form);
  clock = f.clock;
  left_since = λ t c. (r : Remains) × f.left_since t r × ReadsAs form r c;
}

-- the size in bytes of an image that a disk can be made of
abbrev pub IsImageSize : Form → ℕ → Type 0
IsImageSize form size = (blocks : ℕ) × (blocks < 2 ^ 32) × (size ≡ block_length form * blocks)

-- a file of this many bytes has 2^32 whole blocks or more
abbrev pub HasTooManyBlocks : Form → ℕ → Type 0
HasTooManyBlocks form size = block_length form * 2 ^ 32 ≤ size
