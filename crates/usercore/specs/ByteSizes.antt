-- The bytes of a ring, by how many bits they have.
use Rattle.std.specs.Prelude.{ℕ}
use Rattle.usercore.specs.declared.byte_size.ByteSize.{ByteSize}
use Rattle.usercore.specs.declared.byte_size.ByteSize.TheVariants.{Ascii, Whole}

abbrev pub bits_of : ByteSize → ℕ
bits_of Ascii = 7
bits_of Whole = 36
