-- The calls on a file at its places, and the record of a file that answers all of them by the model, whole and at
-- once.
use Rattle.std.specs.Prelude.{◌+◌, ◌≤◌, ℕ, true, List, [], ◌∷◌, length, Some}
use Rattle.imagefile.specs.File.{window}
use Rattle.imagefile.specs.Calls.{Call, SeekEnd, Read, Write, Sync}
use Rattle.imagefile.specs.Unseen.{Unseen, size_of}
use Rattle.imagefile.specs.Recorded.{after_calls, words_asked_at}

pub data HostCall : Type 0 where
  -- a call for the number of bytes
  Measure : HostCall
  -- a read of this number of bytes, from this place
  ReadAt : ℕ → ℕ → HostCall
  -- a write of these bytes, from this place
  WriteAt : ℕ → List ℕ → HostCall
  -- a sync of everything that was written
  SyncAll : HostCall

-- it is within a file of `size` bytes
abbrev pub IsInFile : ℕ → HostCall → Type 0
IsInFile size Measure = Unit {0}
IsInFile size (ReadAt at count) = at + count ≤ size
IsInFile size (WriteAt at given) = at + length given ≤ size
IsInFile size SyncAll = Unit {0}

-- the record after one more call and its answer
abbrev pub one_answered : Unseen → HostCall → List Call → List Call
one_answered u Measure earlier = SeekEnd (Some (size_of u)) ∷ earlier
one_answered u (ReadAt at count) earlier = words_asked_at at (Some at)
    (Read count (Some (window (after_calls u earlier).bytes at count))) earlier
one_answered u (WriteAt at given) earlier = words_asked_at at (Some at) (Write given (Some (length given))) earlier
one_answered u SyncAll earlier = Sync true ∷ earlier

-- the record after all these calls, the newest first
abbrev pub answered : Unseen → List HostCall → List Call
answered u [] = []
answered u (asked ∷ before) = one_answered u asked (answered u before)
