-- Bytes of a file that are in memory, as they were read.
use Rattle.std.specs.Prelude.{◌≡◌, ℕ, List, length}
use Rattle.imagefile.specs.File.{Bytes, window}

-- neighbouring bytes, from place `at`
pub record HeldBytes : Type 0 where
  pub at : ℕ
  pub bytes : List ℕ

-- they are those of a file with these bytes
abbrev pub IsHeld : Bytes → HeldBytes → Type 0
IsHeld b held = held.bytes ≡ window b held.at (length held.bytes)

-- two stretches of bytes: the one that was read last, and the one before
pub record HeldTwice : Type 0 where
  pub last : HeldBytes
  pub earlier : HeldBytes

-- both are those of a file with these bytes
pub record AreHeld (b : Bytes) (held : HeldTwice) : Type 0 where
  pub last : IsHeld b held.last
  pub earlier : IsHeld b held.earlier
