-- A disk in memory: its blocks, which of them are open, and the record of its writes and syncs, from which each
-- earlier moment can be reconstructed.
use Rattle.std.specs.Prelude.{◌<◌, ◌≡◌, ◌⊎◌, ◌≤◌, ◌+◌, ◌^◌, ℕ, Bool, true, false, List, [], ◌∷◌, ◌++◌, Option, Some}
use Rattle.std.specs.Prelude.{None, get_or, take, length, replicate, slice_set}
use Rattle.blockdisk.specs.Disk.{Contents, DiskState, one_more}
use Rattle.blockdisk.specs.declared.memory.DiskCall.{DiskCall}
use Rattle.blockdisk.specs.declared.memory.DiskCall.TheVariants.{Write, Sync}

pub record Memory : Type 0 where
  -- what a read returns
  pub blocks : List (Option (List ℕ))
  -- what a read returned before the first call of the record, when no block was open
  pub first : List (Option (List ℕ))
  -- the writes and syncs since then that succeeded
  pub calls : List DiskCall
  -- which blocks are open
  pub opened : List Bool
  -- how many calls the record has room for
  pub room : ℕ
  pub failures : ℕ

-- blocks as contents; there are no words past the last
abbrev pub held : List (Option (List ℕ)) → Contents
held blocks n = get_or blocks n None

-- the blocks at a moment, and which of them are open
pub record DiskMoment : Type 0 where
  pub blocks : List (Option (List ℕ))
  pub opened : List Bool

abbrev pub after_call : DiskMoment → DiskCall → DiskMoment
after_call m (Write n words) = record { blocks = slice_set m.blocks n (Some words); opened = slice_set m.opened n true }
after_call m Sync = record { blocks = m.blocks; opened = replicate (length m.opened) false }

abbrev pub after_calls : DiskMoment → List DiskCall → DiskMoment
after_calls m [] = m
after_calls m (call ∷ calls) = after_calls (after_call m call) calls

-- the moment after k calls of the record
abbrev pub moment_at : Memory → ℕ → DiskMoment
moment_at m k = after_calls (record { blocks = m.first; opened = replicate (length m.first) false }) (take k m.calls)

abbrev pub moment_now : Memory → DiskMoment
moment_now m = record { blocks = m.blocks; opened = m.opened }

-- what a crash leaves at a moment: anything in the open blocks
abbrev pub Leaves : DiskMoment → Contents → Type 0
Leaves m c = (n : ℕ) → get_or m.opened n false ≡ false → c n ≡ held m.blocks n

abbrev pub memory_state : Memory → DiskState
memory_state m = record {
  size = length m.blocks;
  honest = Unit {0};
  failures = m.failures;
  contents = held m.blocks;
  is_open = λ n. get_or m.opened n false;
  clock = length m.calls;
  left_since = λ t c. ((k : ℕ) × (t ≤ k) × (k < length m.calls) × Leaves (moment_at m k) c) ⊎ Leaves (moment_now m) c;
}

-- the record gives the present state
pub record IsReplayed (m : Memory) : Type 0 where
  pub same_size : length m.opened ≡ length m.blocks
  pub first_size : length m.first ≡ length m.blocks
  pub blocks : (moment_at m (length m.calls)).blocks ≡ m.blocks
  -- a write that failed for lack of room opened its block, and is not in the record
  pub opened : length m.calls < m.room → (moment_at m (length m.calls)).opened ≡ m.opened
  pub fits : length m.calls ≤ m.room
  pub few : length m.blocks < 2 ^ 32

-- The memory after each call.

-- this number of blocks of zeros, and room for this number of calls
abbrev pub zeroed : ℕ → ℕ → Memory
zeroed blocks room = record {
  blocks = replicate blocks (Some (replicate 128 0));
  first = replicate blocks (Some (replicate 128 0));
  calls = [];
  opened = replicate blocks false;
  room = room;
  failures = 0;
}

abbrev pub written : Memory → ℕ → List ℕ → Memory
written m n words = record m {
  blocks = slice_set m.blocks n (Some words);
  calls = m.calls ++ Write n words ∷ [];
  opened = slice_set m.opened n true;
}

-- the blocks of a run written one after the other, from block `first`
abbrev pub run_written : Memory → ℕ → List (List ℕ) → Memory
run_written m first [] = m
run_written m first (words ∷ blocks) = run_written (written m first words) (first + 1) blocks

abbrev pub write_refused : Memory → ℕ → Memory
write_refused m n = record m { opened = slice_set m.opened n true; failures = one_more m.failures }

abbrev pub synced : Memory → Memory
synced m = record m { calls = m.calls ++ Sync ∷ []; opened = replicate (length m.opened) false }

abbrev pub sync_refused : Memory → Memory
sync_refused m = record m { failures = one_more m.failures }

-- nothing is recorded and no block is open
abbrev pub begun_anew : Memory → Memory
begun_anew m = record m { first = m.blocks; calls = []; opened = replicate (length m.opened) false }

-- block n holds this, nothing is recorded and no block is open
abbrev pub loaded : Memory → ℕ → Option (List ℕ) → Memory
loaded m n content = record m {
  blocks = slice_set m.blocks n content;
  first = slice_set m.blocks n content;
  calls = [];
  opened = replicate (length m.opened) false;
}

-- The record has room for the first `made` blocks of the run and not for the next one. Those are written, and the next
-- one is open.
pub record HasNoRoomFor (first : ℕ) (blocks : List (List ℕ)) (old new : Memory) : Type 0 where
  pub made : ℕ
  pub fewer : made < length blocks
  pub full : length old.calls + made ≡ old.room
  pub refused : new ≡ write_refused (run_written old first (take made blocks)) (first + made)
