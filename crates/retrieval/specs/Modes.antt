-- The numbers of the data modes. (TOPS-10 Monitor Calls Manual.)
use Rattle.std.specs.Prelude.{ℕ}
use Rattle.retrieval.specs.declared.mode.Mode.{Mode}
use Rattle.retrieval.specs.declared.mode.Mode.TheVariants.{Ascii, AsciiLine, Image, ImageBinary, Binary, Dump}

abbrev pub mode_number : Mode → ℕ
mode_number Ascii = 0
mode_number AsciiLine = 1
mode_number Image = 0o10
mode_number ImageBinary = 0o13
mode_number Binary = 0o14
mode_number Dump = 0o17
