-- The lines of an input. A line ends with a line feed, and a carriage return just before that isn't part of it; an
-- empty line doesn't count. A last line without a line feed counts, with all its bytes.
use Rattle.std.specs.Prelude.{ℕ, ◌-◌, ◌==◌, ◌&&◌, nat_lt, nat_le, if◌then◌else◌, List, [], ◌∷◌, ◌++◌, length, map}

-- a line: its bytes, or more bytes than fit in one
pub data Line : Type 0 where
  Bytes : List ℕ → Line
  TooLong : Line

abbrev pub feed : ℕ
feed = 10

abbrev pub return : ℕ
return = 13

-- the bytes without a carriage return at the end
abbrev pub without_return : List ℕ → List ℕ
without_return [] = []
without_return (b ∷ []) = if b == return then [] else b ∷ []
without_return (b ∷ c ∷ bs) = b ∷ without_return (c ∷ bs)

-- letters of either case are read as upper case
abbrev pub upper : ℕ → ℕ
upper b = if nat_le 97 b && nat_le b 122 then b - 32 else b

abbrev pub line_of : List ℕ → List Line
line_of [] = []
line_of (b ∷ bs) = Bytes (map upper (b ∷ bs)) ∷ []

-- a line of at most 255 bytes, a carriage return included
abbrev pub fitting : List ℕ → List ℕ → List Line
fitting raw bytes = if nat_lt 255 (length raw) then TooLong ∷ [] else line_of bytes

-- the lines of these bytes, which come after others without a line feed
abbrev pub lines_after : List ℕ → List ℕ → List Line
lines_after raw [] = fitting raw raw
lines_after raw (b ∷ bs) = if b == feed then fitting raw (without_return raw) ++ lines_after [] bs
    else lines_after (raw ++ b ∷ []) bs

abbrev pub lines : List ℕ → List Line
lines input = lines_after [] input
