-- The names of files of the host on a volume, and of files of a volume on the host.
use Rattle.std.specs.Prelude.{◌≡◌, ◌⊎◌, ◌/◌, ◌%◌, ◌+◌, ◌-◌, ◌==◌, ℕ, zero, suc, Bool, true, nat_lt, nat_le}
use Rattle.std.specs.Prelude.{if◌then◌else◌, List, [], ◌∷◌, ◌++◌, ◌||◌, ◌&&◌, map, flat_map, slice_index, Option, Some}
use Rattle.std.specs.Prelude.{None, codes, option_map}
use Rattle.std.specs.Fmt.{decimal}
use Rattle.std.specs.Path.{path_file_name, path_file_stem, path_extension}
use Rattle.words36.specs.Common.{characters}
use Rattle.words36.specs.declared.names.FileName.{FileName}
use Rattle.spec_language.specs.Common.{upper, is_letter, extension_text, owner_text, trimmed}
use Rattle.commands.specs.Common.{IsFileName}

-- The name that a file of the host gets.

-- the first letters and digits of a text, in upper case, and at most `most` of them
abbrev pub plain : ℕ → List ℕ → List ℕ
plain zero text = []
plain (suc most) [] = []
plain (suc most) (b ∷ bs) = if is_letter (upper b) then upper b ∷ plain most bs else plain (suc most) bs

abbrev pub dotted : List ℕ → List ℕ
dotted [] = []
dotted (c ∷ cs) = 46 ∷ c ∷ cs

-- six of its stem, and three of its extension, if it has one
abbrev pub shortened : List ℕ → Option (List ℕ) → List ℕ
shortened stem None = plain 6 stem
shortened stem (Some extension) = plain 6 stem ++ dotted (plain 3 extension)

-- its own in upper case
abbrev pub IsOwnText : List ℕ → Option (List ℕ) → Type 0
IsOwnText path text = text ≡ option_map (map upper) (path_file_name path)

-- a shorter one
abbrev pub IsShortText : List ℕ → Option (List ℕ) → Type 0
IsShortText path text = text ≡ option_map (λ stem. shortened stem (path_extension path)) (path_file_stem path)

-- Its own, if that is a name; or a shorter one, if that is allowed and its own isn't a name.
abbrev pub IsNameFor : Bool → List ℕ → List ℕ → FileName → Type 0
IsNameFor shortens path text file = IsFileName (map upper text) file.name file.ext
    × (IsOwnText path (Some text)
    ⊎ ((shortens ≡ true) × IsShortText path (Some text)
    × ((own : List ℕ) (named : FileName) → IsOwnText path (Some own)
    → IsFileName (map upper own) named.name named.ext → ⊥)))

-- A path as it is shown in a line: with a question mark for each character on which a terminal might act.

abbrev pub is_within : ℕ → ℕ → ℕ → Bool
is_within low high b = nat_le low b && nat_le b high

-- How many bytes the character has that begins with these bytes, if it isn't shown, else 0. Not shown are control
-- characters, U+0080 to U+009F among them, and marks that turn the direction of writing: U+202A to U+202E and U+2066 to
-- U+2069.
abbrev pub hidden : ℕ → ℕ → ℕ → ℕ
hidden a b c =
    if nat_lt a 32 || a == 127 then 1
    else if a == 194 && is_within 128 159 b then 2
    else if a == 226 && b == 128 && is_within 170 174 c then 3
    else if a == 226 && b == 129 && is_within 166 169 c then 3
    else 0

-- a byte of a character that isn't hidden, or a question mark for one that has this many bytes
abbrev pub shown_byte : ℕ → ℕ → ℕ
shown_byte n b = if n == 0 then b else 63

-- the bytes as they are shown, without these first ones
abbrev pub shown_after : ℕ → List ℕ → List ℕ
shown_after skip [] = []
shown_after zero (b ∷ bs) =
    let n = hidden b (slice_index bs 0) (slice_index bs 1) in shown_byte n b ∷ shown_after (n - 1) bs
shown_after (suc skip) (b ∷ bs) = shown_after skip bs

abbrev pub shown : List ℕ → List ℕ
shown path = shown_after 0 path

-- The path of a file of a volume on the host: FOLDER/10,20/FOO.TXT. In a name, a character that isn't a letter or a
-- digit is shown as % and its code in two hexadecimal digits.

abbrev pub hexadecimal : ℕ → ℕ
hexadecimal n = if nat_lt n 10 then n + 48 else n + 55

abbrev pub escaped : ℕ → List ℕ
escaped c = if is_letter c then c ∷ [] else 37 ∷ hexadecimal (c / 16) ∷ hexadecimal (c % 16) ∷ []

abbrev pub extended : List ℕ → List ℕ
extended [] = []
extended (c ∷ cs) = 46 ∷ flat_map escaped (c ∷ cs)

abbrev pub host_name : FileName → List ℕ
host_name file = flat_map escaped (trimmed (characters file.name)) ++ extended (trimmed (extension_text file.ext))

abbrev pub folder_of : List ℕ → ℕ → List ℕ
folder_of folder owner = folder ++ codes "/" ++ owner_text owner

abbrev pub path_of : List ℕ → ℕ → FileName → List ℕ
path_of folder owner file = folder_of folder owner ++ codes "/" ++ host_name file

-- Files that are kept apart from those in their place.

-- the folder for files with a block that may not be theirs
abbrev pub doubtful_folder : List ℕ → List ℕ
doubtful_folder folder = folder ++ codes "/doubtful"

-- the folder for files that no directory names
abbrev pub unnamed_folder : List ℕ → List ℕ
unnamed_folder folder = folder ++ codes "/unnamed"

-- The path of a file that no directory names: FOLDER/10,20/FOO%1234.TXT, with % and the number of its prime block in
-- decimal behind the name, since several of these may have one name.
abbrev pub numbered_name : FileName → ℕ → List ℕ
numbered_name file prime = flat_map escaped (trimmed (characters file.name)) ++ 37 ∷ decimal prime
    ++ extended (trimmed (extension_text file.ext))

abbrev pub numbered_path : List ℕ → ℕ → FileName → ℕ → List ℕ
numbered_path folder owner file prime = folder_of folder owner ++ codes "/" ++ numbered_name file prime
