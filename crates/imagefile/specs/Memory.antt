-- A file in memory: its bytes, which of them are open, and the record of its writes and syncs, from which each
-- earlier moment can be reconstructed.
use Rattle.std.specs.Prelude.{◌<◌, ◌+◌, ◌≡◌, ◌⊎◌, ◌≤◌, ◌*◌, ℕ, Bool, true, false, List, [], ◌∷◌, ◌++◌, Some, get_or}
use Rattle.std.specs.Prelude.{take, drop, length, replicate}
use Rattle.blockdisk.specs.Common.{one_more}
use Rattle.imagefile.specs.File.{Remains, FileState}
use Rattle.imagefile.specs.declared.memory.FileCall.{FileCall}
use Rattle.imagefile.specs.declared.memory.FileCall.TheVariants.{Write, Sync}

-- a call that succeeded
pub data Step : Type 0 where
  -- these bytes were written from this place
  Wrote : ℕ → List ℕ → Step
  Synced : Step

-- the steps that a record spells: the bytes of its writes lie one after the other
unfoldable pub spelled : List FileCall → List ℕ → List Step
spelled [] written = []
spelled (Write at n ∷ calls) written = Wrote at (take n written) ∷ spelled calls (drop n written)
spelled (Sync ∷ calls) written = Synced ∷ spelled calls written

-- how many bytes the writes of a record have
unfoldable pub bytes_in : List FileCall → ℕ
bytes_in [] = 0
bytes_in (Write at n ∷ calls) = n + bytes_in calls
bytes_in (Sync ∷ calls) = bytes_in calls

pub record FileMemory : Type 0 where
  -- what a read returns
  pub bytes : List ℕ
  -- what a read returned at first, when no byte was open
  pub first : List ℕ
  -- the writes and syncs since then that succeeded
  pub steps : List Step
  -- which bytes are open
  pub opened : List Bool
  -- how many bytes the record has
  pub written : ℕ
  -- how many steps and how many bytes it has room for
  pub room : ℕ
  pub byte_room : ℕ
  pub failures : ℕ

-- a file in memory that has all this
abbrev pub memory_of : List ℕ → List ℕ → List FileCall → List ℕ → List Bool → ℕ → ℕ → ℕ → FileMemory
memory_of bytes first calls written opened room byte_room failures = record {
  bytes = bytes;
  first = first;
  steps = spelled calls written;
  opened = opened;
  written = length written;
  room = room;
  byte_room = byte_room;
  failures = failures;
}

-- the list with these elements from a place
unfoldable pub put : {A : Type 0} → ℕ → List A → List A → List A
put at xs all = take at all ++ (xs ++ drop (at + length xs) all)

-- the bytes at a moment, and which of them are open
pub record FileMoment : Type 0 where
  pub bytes : List ℕ
  pub opened : List Bool

abbrev pub after_step : FileMoment → Step → FileMoment
after_step m (Wrote at xs) = record { bytes = put at xs m.bytes; opened = put at (replicate (length xs) true) m.opened }
after_step m Synced = record { bytes = m.bytes; opened = replicate (length m.opened) false }

abbrev pub after_steps : FileMoment → List Step → FileMoment
after_steps m [] = m
after_steps m (step ∷ steps) = after_steps (after_step m step) steps

-- the moment after k steps of the record
abbrev pub moment_at : FileMemory → ℕ → FileMoment
moment_at m k = after_steps (record { bytes = m.first; opened = replicate (length m.first) false }) (take k m.steps)

abbrev pub moment_now : FileMemory → FileMoment
moment_now m = record { bytes = m.bytes; opened = m.opened }

-- what a crash leaves at a moment: anything at the open bytes
abbrev pub FileLeaves : FileMoment → Remains → Type 0
FileLeaves m r = (p : ℕ) → get_or m.opened p false ≡ false → r p ≡ Some (get_or m.bytes p 0)

abbrev pub memory_state : FileMemory → FileState
memory_state m = record {
  size = length m.bytes;
  honest = Unit {0};
  failures = m.failures;
  bytes = λ p. get_or m.bytes p 0;
  is_open = λ p. get_or m.opened p false;
  clock = length m.steps;
  left_since = λ t r. ((k : ℕ) × (t ≤ k) × (k < length m.steps) × FileLeaves (moment_at m k) r)
      ⊎ FileLeaves (moment_now m) r;
}

-- the record gives the present state
pub record IsFileReplayed (m : FileMemory) : Type 0 where
  pub same_size : length m.opened ≡ length m.bytes
  pub first_size : length m.first ≡ length m.bytes
  pub bytes : (moment_at m (length m.steps)).bytes ≡ m.bytes
  -- a write that failed opened its bytes, and is not in the record; nothing is recorded after that
  pub opened : length m.steps < m.room → (moment_at m (length m.steps)).opened ≡ m.opened
  pub fits : length m.steps ≤ m.room
  pub bytes_fit : m.written ≤ m.byte_room

-- The memory after each call.

-- these bytes, and room for this number of calls
abbrev pub begun : List ℕ → ℕ → FileMemory
begun bytes room = record {
  bytes = bytes;
  first = bytes;
  steps = [];
  opened = replicate (length bytes) false;
  written = 0;
  room = room;
  byte_room = 1024 * room;
  failures = 0;
}

abbrev pub bytes_written : FileMemory → ℕ → List ℕ → FileMemory
bytes_written m at xs = record m {
  bytes = put at xs m.bytes;
  steps = m.steps ++ Wrote at xs ∷ [];
  opened = put at (replicate (length xs) true) m.opened;
  written = m.written + length xs;
}

-- the bytes are open all the same, and the record is closed
abbrev pub write_refused : FileMemory → ℕ → ℕ → FileMemory
write_refused m at n = record m {
  opened = put at (replicate n true) m.opened;
  room = length m.steps;
  failures = one_more m.failures;
}

abbrev pub bytes_synced : FileMemory → FileMemory
bytes_synced m = record m { steps = m.steps ++ Synced ∷ []; opened = replicate (length m.opened) false }

abbrev pub sync_refused : FileMemory → FileMemory
sync_refused m = record m { failures = one_more m.failures }

-- the record has room for a write of n bytes
pub record HasRoom (m : FileMemory) (n : ℕ) : Type 0 where
  pub steps : length m.steps < m.room
  pub bytes : m.written + n ≤ m.byte_room
