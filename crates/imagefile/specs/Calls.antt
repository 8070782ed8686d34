-- The calls of a system on an open file, and their answers: none if a call failed.
use Rattle.std.specs.Prelude.{◌≡◌, ◌⊎◌, ℕ, Bool, List, Option, Some, None, Result, Ok, Err, take, refl}
use Rattle.std.specs.Coded.{Coded, code_by, coded×, coded⊎, coded_ℕ, coded_bool, coded_list, coded_option}
use Rattle.std.proofs.Common.{inl, inr}

pub data Call : Type 0 where
  -- a seek to this number of bytes from the beginning; the answer is the position
  SeekStart : ℕ → Option ℕ → Call
  -- a seek to the end
  SeekEnd : Option ℕ → Call
  -- a read of this number of bytes, and the bytes that came
  Read : ℕ → Option (List ℕ) → Call
  -- a write of these bytes, and how many were written
  Write : List ℕ → Option ℕ → Call
  -- a sync, and whether all that was written is on the device
  Sync : Bool → Call

-- the answer of a call, if it didn't fail
abbrev pub answer : {T E : Type 0} → Result T E → Option T
answer (Ok value) = Some value
answer (Err error) = None

-- the bytes in a buffer that a read returned
abbrev pub came : {E : Type 0} → Result ℕ E → List ℕ → Option (List ℕ)
came (Ok count) buffer = Some (take count buffer)
came (Err error) buffer = None

-- How the logic stores a call.

abbrev CallParts : Type 0
CallParts = (ℕ × Option ℕ) ⊎ (Option ℕ ⊎ ((ℕ × Option (List ℕ)) ⊎ ((List ℕ × Option ℕ) ⊎ Bool)))

abbrev to_parts : Call → CallParts
to_parts (SeekStart at place) = inl (at, place)
to_parts (SeekEnd place) = inr (inl place)
to_parts (Read asked bytes) = inr (inr (inl (asked, bytes)))
to_parts (Write bytes count) = inr (inr (inr (inl (bytes, count))))
to_parts (Sync done) = inr (inr (inr (inr done)))

abbrev from_parts : CallParts → Call
from_parts (inl p) = SeekStart p.0 p.1
from_parts (inr (inl place)) = SeekEnd place
from_parts (inr (inr (inl p))) = Read p.0 p.1
from_parts (inr (inr (inr (inl p)))) = Write p.0 p.1
from_parts (inr (inr (inr (inr done)))) = Sync done

pub from_parts-to_parts : (c : Call) → from_parts (to_parts c) ≡ c
from_parts-to_parts (SeekStart at place) = refl
from_parts-to_parts (SeekEnd place) = refl
from_parts-to_parts (Read asked bytes) = refl
from_parts-to_parts (Write bytes count) = refl
from_parts-to_parts (Sync done) = refl

abbrev pub calls_code : Coded (List Call)
calls_code = coded_list (code_by CallParts
    (coded⊎ (coded× coded_ℕ (coded_option coded_ℕ))
    (coded⊎ (coded_option coded_ℕ) (coded⊎ (coded× coded_ℕ (coded_option (coded_list coded_ℕ)))
    (coded⊎ (coded× (coded_list coded_ℕ) (coded_option coded_ℕ)) coded_bool)))) to_parts from_parts from_parts-to_parts)
