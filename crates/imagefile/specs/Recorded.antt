-- A file as the record of its calls shows it, and when that record could be that of a file that keeps to the model.
use Rattle.std.specs.Prelude.{◌≡◌, ◌⊎◌, ◌+◌, ◌-◌, ◌≤◌, ℕ, suc, nat_le, Bool, true, false, ◌&&◌, ◌||◌, if◌then◌else◌}
use Rattle.std.specs.Prelude.{unwrap_or, List, [], ◌∷◌, length, get_or, Option, Some, None, IfSome, IsSomeAnd}
use Rattle.imagefile.specs.File.{Bytes, Remains, FileState, window}
use Rattle.imagefile.specs.Calls.{Call, SeekStart, SeekEnd, Read, Write, Sync}
use Rattle.imagefile.specs.Unseen.{Unseen, size_of, first_bytes, first_open, left_by}

-- the state between two calls
pub record BetweenCalls : Type 0 where
  pub bytes : Bytes
  pub is_open : ℕ → Bool
  -- where the next read or write begins, if that is known
  pub position : Option ℕ

-- p is one of the n places from `at`
unfoldable pub is_inside : ℕ → ℕ → ℕ → Bool
is_inside at n p = nat_le at p && nat_le (suc p) (at + n)

-- a position, moved further by a number of bytes
abbrev pub moved : Option ℕ → Option ℕ → Option ℕ
moved None count = None
moved (Some p) None = None
moved (Some p) (Some n) = Some (p + n)

abbrev pub count_of : Option (List ℕ) → Option ℕ
count_of None = None
count_of (Some bytes) = Some (length bytes)

-- the bytes after a write from `at` that took `count` bytes, and left these in the places of the others
abbrev pub bytes_after : ℕ → List ℕ → ℕ → Bytes → Bytes → Bytes
bytes_after at given count left b p =
    if is_inside at count p then get_or given (p - at) 0 else if is_inside at (length given) p then left p else b p

-- the bytes after a sync that failed and left these in the places that were open
abbrev pub bytes_lost : BetweenCalls → Bytes → Bytes
bytes_lost b left p = if b.is_open p then left p else b.bytes p

-- the state after a call that comes after n others
abbrev pub after_call : Unseen → ℕ → Call → BetweenCalls → BetweenCalls
after_call u n (SeekStart at place) b = record { bytes = b.bytes; is_open = b.is_open; position = place }
after_call u n (SeekEnd place) b = record { bytes = b.bytes; is_open = b.is_open; position = place }
after_call u n (Read asked bytes) b = record {
  bytes = b.bytes;
  is_open = b.is_open;
  position = moved b.position (count_of bytes);
}
after_call u n (Write given count) b = record {
  bytes = bytes_after (unwrap_or b.position 0) given (unwrap_or count 0) (left_by u n) b.bytes;
  is_open = λ p. is_inside (unwrap_or b.position 0) (length given) p || b.is_open p;
  position = moved b.position count;
}
after_call u n (Sync true) b = record { bytes = b.bytes; is_open = λ p. false; position = b.position }
after_call u n (Sync false) b = record {
  bytes = bytes_lost b (left_by u n);
  is_open = b.is_open;
  position = b.position;
}

-- the state after all calls of a record, the newest first
abbrev pub after_calls : Unseen → List Call → BetweenCalls
after_calls u [] = record { bytes = first_bytes u; is_open = first_open u; position = None }
after_calls u (call ∷ earlier) = after_call u (length earlier) call (after_calls u earlier)

-- What a file that keeps to the model may answer. A seek to a place needs nothing of the device, and does not fail;
-- the other calls may. The model states nothing about a read or write at a position that isn't known, or past the
-- end.
abbrev pub IsAllowed : Unseen → BetweenCalls → Call → Type 0
IsAllowed u b (SeekStart at place) = place ≡ Some at
IsAllowed u b (SeekEnd place) = IfSome place (λ p. p ≡ size_of u)
IsAllowed u b (Read asked bytes) = IfSome bytes (λ came. IsSomeAnd b.position (λ at. (at + length came ≤ size_of u)
    × (came ≡ window b.bytes at (length came))))
IsAllowed u b (Write given count) = IsSomeAnd b.position (λ at. (at + length given ≤ size_of u)
    × IfSome count (λ n. n ≤ length given))
IsAllowed u b (Sync done) = Unit {0}

-- each recorded answer is one that such a file may give
abbrev pub IsHonestRecord : Unseen → List Call → Type 0
IsHonestRecord u [] = Unit {0}
IsHonestRecord u (call ∷ earlier) = IsHonestRecord u earlier × IsAllowed u (after_calls u earlier) call

-- what a crash may leave between two calls: anything at the open bytes
abbrev pub MayStay : BetweenCalls → Remains → Type 0
MayStay b r = (p : ℕ) → b.is_open p ≡ false → r p ≡ Some (b.bytes p)

-- what a crash may have left since the moment after t calls
abbrev pub LeftSince : Unseen → List Call → ℕ → Remains → Type 0
LeftSince u [] t r = (t ≤ 0) × MayStay (after_calls u []) r
LeftSince u (call ∷ earlier) t r = LeftSince u earlier t r
    ⊎ ((t ≤ length (call ∷ earlier)) × MayStay (after_calls u (call ∷ earlier)) r)

-- the file; its failed calls are counted elsewhere
abbrev pub recorded : Unseen → List Call → FileState
recorded u calls = record {
  size = size_of u;
  honest = IsHonestRecord u calls;
  failures = 0;
  bytes = (after_calls u calls).bytes;
  is_open = (after_calls u calls).is_open;
  clock = length calls;
  left_since = LeftSince u calls;
}

-- a call at a place: a seek to it, and the call itself if the seek didn't fail
abbrev pub words_asked_at : ℕ → Option ℕ → Call → List Call → List Call
words_asked_at at None call earlier = SeekStart at None ∷ earlier
words_asked_at at (Some place) call earlier = call ∷ SeekStart at (Some place) ∷ earlier

-- The next read or write begins at this place.
abbrev pub BeginsAt : Unseen → List Call → ℕ → Type 0
BeginsAt u calls at = IsHonestRecord u calls → (after_calls u calls).position ≡ Some at

-- The calls that make the next read or write begin at a place: none if it begins there anyway, else a seek to it.
abbrev pub GoesTo : ℕ → List Call → List Call → Type 0
GoesTo at earlier now = ((now ≡ earlier) × ((u : Unseen) → BeginsAt u earlier at))
    ⊎ ((place : ℕ) × (now ≡ SeekStart at (Some place) ∷ earlier))

-- This call was made at this place, and no other; or the seek to it failed, and the call wasn't made.
abbrev pub AsksAt : ℕ → Call → Bool → List Call → List Call → Type 0
AsksAt at call done earlier now = ((between : List Call) × GoesTo at earlier between × (now ≡ call ∷ between))
    ⊎ ((now ≡ SeekStart at None ∷ earlier) × (done ≡ false))
