-- Files in directories, as users see them: no blocks, and no order on a disk. A directory belongs to a
-- project-programmer number. A file is in it under a name and an extension. What is at a name is a parameter: here only
-- files, or else versions of files.
use Rattle.std.specs.Prelude.{ℕ, List, Option, Some, None}
use Rattle.std.specs.declared.cmp.Ordering.{Ordering}
use Rattle.std.specs.Ordering.{nat_cmp, ordering_then}
use Rattle.words36.specs.declared.names.FileName.{FileName}
use Rattle.spec_image.specs.Maps.{FinMap, get, insert, map_values}

pub record File : Type 0 where
  -- three octal digits: owner, project, others
  pub protection : ℕ
  -- the data mode it was written in
  pub mode : ℕ
  -- minutes since midnight
  pub time : ℕ
  pub date : ℕ
  -- its words
  pub body : List ℕ

-- by name and then by extension, as numbers
abbrev pub name_cmp : FileName → FileName → Ordering
name_cmp a b = ordering_then (nat_cmp a.name b.name) (nat_cmp a.ext b.ext)

pub record Directory (V : Type 0) : Type 0 where
  pub protection : ℕ
  -- how many blocks it may take, 0 for any number; always 0 in layout 1
  pub quota : ℕ
  pub files : FinMap name_cmp V

-- directories by project-programmer number
abbrev pub Files : Type 0 → Type 0
Files V = FinMap nat_cmp (Directory V)

abbrev pub map_directory : {V W : Type 0} → (V → W) → Directory V → Directory W
map_directory f d = record { protection = d.protection; quota = d.quota; files = map_values f d.files }

-- the same directories and names, with f of what is at each name
abbrev pub map_files : {V W : Type 0} → (V → W) → Files V → Files W
map_files f files = map_values (map_directory f) files

abbrev pub with_quota : {V : Type 0} → Files V → ℕ → ℕ → Option (Directory V) → Files V
with_quota files owner quota None = files
with_quota files owner quota (Some d) = insert files owner (record d { quota = quota })

-- the files, with another quota of a directory if it exists
abbrev pub files_limited : {V : Type 0} → Files V → ℕ → ℕ → Files V
files_limited files owner quota = with_quota files owner quota (get files owner)

-- where a file is
pub record Place : Type 0 where
  pub ppn : ℕ
  pub name : FileName
