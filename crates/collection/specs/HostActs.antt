-- The calls on files of the host that are no images, with their answers.
use Rattle.std.specs.Prelude.{◌≡◌, ◌⊎◌, ℕ, Bool, List, ◌∷◌, Option, Some, None, Result, Ok, Err, refl}
use Rattle.std.specs.Coded.{Coded, code_by, coded×, coded⊎, coded_ℕ, coded_bool, coded_list, coded_option}
use Rattle.std.specs.declared.io.Error.{Error}
use Rattle.std.proofs.Common.{inl, inr}
use Rattle.words36.specs.declared.moment.Moment.{Moment}
use Rattle.collection.specs.declared.source.Source.{Source}

-- a date and a minute, if there is one
abbrev pub Day : Type 0
Day = Option (ℕ × ℕ)

pub data FileAct : Type 0 where
  -- the file at a path was read from its beginning to its end, or up to one byte more than this number: its bytes, and
  -- when it was changed last; none if it couldn't be read
  ReadFile : List ℕ → ℕ → Option (List ℕ × Day) → FileAct
  -- a folder was to be made at a path, unless there is one, and whether there is one now
  MadeFolder : List ℕ → Bool → FileAct
  -- a file of these bytes was to be made at a path where there was none, changed last at this time; and whether it was:
  -- then it is on the device, with its name
  MadeFile : List ℕ → List ℕ → Day → Bool → FileAct

-- when a file was changed last
abbrev pub day_of : Option Moment → Day
day_of None = None
day_of (Some at) = Some (at.date, at.minute)

-- what was read
abbrev pub read_from : {E : Type 0} → Result Source E → Option (List ℕ × Day)
read_from (Ok source) = Some (source.bytes.items, day_of source.changed)
read_from (Err error) = None

-- How the logic stores an act.

abbrev coded_day : Coded Day
coded_day = coded_option (coded× coded_ℕ coded_ℕ)

abbrev ActParts : Type 0
ActParts = (List ℕ × (ℕ × Option (List ℕ × Day))) ⊎ ((List ℕ × Bool) ⊎ (List ℕ × (List ℕ × (Day × Bool))))

abbrev to_parts : FileAct → ActParts
to_parts (ReadFile path most found) = inl (path, (most, found))
to_parts (MadeFolder path made) = inr (inl (path, made))
to_parts (MadeFile path bytes changed made) = inr (inr (path, (bytes, (changed, made))))

abbrev from_parts : ActParts → FileAct
from_parts (inl p) = ReadFile p.0 p.1.0 p.1.1
from_parts (inr (inl p)) = MadeFolder p.0 p.1
from_parts (inr (inr p)) = MadeFile p.0 p.1.0 p.1.1.0 p.1.1.1

pub from_parts-to_parts : (act : FileAct) → from_parts (to_parts act) ≡ act
from_parts-to_parts (ReadFile path most found) = refl
from_parts-to_parts (MadeFolder path made) = refl
from_parts-to_parts (MadeFile path bytes changed made) = refl

abbrev pub acts_code : Coded (List FileAct)
acts_code = coded_list (code_by ActParts
    (coded⊎ (coded× (coded_list coded_ℕ) (coded× coded_ℕ (coded_option (coded× (coded_list coded_ℕ) coded_day))))
    (coded⊎ (coded× (coded_list coded_ℕ) coded_bool)
    (coded× (coded_list coded_ℕ) (coded× (coded_list coded_ℕ) (coded× coded_day coded_bool)))))
    to_parts from_parts from_parts-to_parts)

-- What was done with files of the host so far, the newest act first, beside something else.

abbrev pub Acted : Type 0 → Type 0
Acted S = List FileAct × S

-- a folder was to be made, and this came of it
abbrev pub folder_made : {S : Type 0} → List ℕ → Bool → Acted S → Acted S
folder_made path made was = (MadeFolder path made ∷ was.0, was.1)

-- a file was to be read, and couldn't be
abbrev pub unread : {S : Type 0} → List ℕ → ℕ → Acted S → Acted S
unread path most was = (ReadFile path most None ∷ was.0, was.1)
