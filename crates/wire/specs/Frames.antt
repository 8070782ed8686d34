-- Records in a row, each followed by the words that it announces.
use Rattle.std.specs.Prelude.{◌≡◌, ◌*◌, ◌<◌, ◌≤◌, ℕ, List, ◌++◌, length}
use Rattle.wire.specs.Records.{record_bytes, most_words, FitsRecord}
use Rattle.wire.specs.declared.header.Header.{Header}
use Rattle.wire.specs.declared.front.Front.{Front}
use Rattle.wire.specs.declared.front.Front.TheVariants.{Whole, Part, TooLong}

-- a record and the bytes after it
pub record Framed : Type 0 where
  pub header : Header
  pub body : List ℕ

abbrev pub frame_bytes : Framed → List ℕ
frame_bytes f = record_bytes f.header ++ f.body

-- The words that a record announces follow it, and they are no more than 18 bits can address.
pub record IsFrame (f : Framed) : Type 0 where
  pub fits : FitsRecord f.header
  pub long : length f.body ≡ 8 * f.header.count
  pub few : f.header.count ≤ most_words

-- bytes that don't begin with a whole record
abbrev pub IsPart : List ℕ → Type 0
IsPart bytes = (f : Framed) (more : List ℕ) → IsFrame f → bytes ≡ frame_bytes f ++ more → ⊥

-- they announce more words than 18 bits can address
abbrev pub IsTooLong : List ℕ → Type 0
IsTooLong bytes =
    (header : Header) × FitsRecord header × (more : List ℕ) × (bytes ≡ record_bytes header ++ more)
    × (most_words < header.count)

-- What bytes begin with.
abbrev pub BeginsWith : List ℕ → Front → Type 0
BeginsWith bytes (Whole header body) =
    IsFrame (record { header = header; body = body.now })
    × ((more : List ℕ) × (bytes ≡ (record_bytes header ++ body.now) ++ more))
BeginsWith bytes Part = IsPart bytes
BeginsWith bytes TooLong = IsTooLong bytes
