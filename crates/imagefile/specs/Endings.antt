-- The outcome of the newest recorded call.
use Rattle.std.specs.Prelude.{◌≡◌, Bool, true, false, List, [], ◌∷◌, Some, None}
use Rattle.imagefile.specs.Calls.{Call, SeekStart, SeekEnd, Read, Write, Sync}
use Rattle.imagefile.specs.Outcomes.{Outcome, Failed, Stalled, Moved, Measured, Synced}

abbrev pub has_failed : Call → Bool
has_failed (SeekStart at None) = true
has_failed (SeekStart at (Some place)) = false
has_failed (SeekEnd None) = true
has_failed (SeekEnd (Some place)) = false
has_failed (Read asked None) = true
has_failed (Read asked (Some bytes)) = false
has_failed (Write given None) = true
has_failed (Write given (Some count)) = false
has_failed (Sync true) = false
has_failed (Sync false) = true

abbrev pub is_failure : Outcome → Bool
is_failure (Failed error) = true
is_failure Stalled = false
is_failure Moved = false
is_failure (Measured size) = false
is_failure Synced = false

-- The newest recorded call failed exactly if this outcome is a failure.
abbrev pub EndsSo : Outcome → List Call → Type 0
EndsSo outcome [] = ⊥
EndsSo outcome (call ∷ earlier) = has_failed call ≡ is_failure outcome
