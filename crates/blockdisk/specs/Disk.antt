-- What a disk is: its blocks now, the blocks that are open, a clock, and what a crash may leave or
-- have left. A block is open from the beginning of a write to it until a sync succeeds. A crash leaves
-- the closed blocks as they are, and anything in the open ones; a sync that fails may do the same.
use Rattle.std.specs.Prelude.{◌≡◌, ◌⊎◌, ◌+◌, ◌-◌, ◌^◌, ◌<◌, ◌≤◌, ℕ, Bool, true, false, List, Option, None, Some, []}
use Rattle.std.specs.Prelude.{length, min, get_or}

-- what each block holds: its words, or none if it is damaged
abbrev pub Contents : Type 0
Contents = ℕ → Option (List ℕ)

-- The block isn't damaged, and holds 128 words.
pub record IsWholeBlock (contents : Contents) (n : ℕ) : Type 0 where
  pub words : List ℕ
  pub holds : contents n ≡ Some words
  pub all : length words ≡ 128

-- This is the first damaged block from `first` and before `end`, and those before it are whole; or there is none.
abbrev pub AreVerified : Contents → ℕ → ℕ → Option ℕ → Type 0
AreVerified contents first end None = (n : ℕ) → first ≤ n → n < end → IsWholeBlock contents n
AreVerified contents first end (Some bad) = (contents bad ≡ None)
    × ((n : ℕ) → first ≤ n → n < bad → IsWholeBlock contents n)

-- the block, if any, is one of them
abbrev pub IsWithin : ℕ → ℕ → Option ℕ → Type 0
IsWithin first end None = Unit {0}
IsWithin first end (Some bad) = (first ≤ bad) × (bad < end)

-- Block n is one of `count` blocks from `first`.
abbrev pub IsInRun : ℕ → ℕ → ℕ → Type 0
IsInRun first count n = (first ≤ n) × (n < first + count)

-- The blocks from `first` hold these words, one after the other.
abbrev pub HoldRun : Contents → ℕ → List (List ℕ) → Type 0
HoldRun contents first blocks = (i : ℕ) → i < length blocks → contents (first + i) ≡ Some (get_or blocks i [])

-- These are the words of the blocks from `first`, one for each place: of all, or of those before this one, which is
-- damaged.
abbrev pub AreFilled : Contents → ℕ → List (List ℕ) → Option ℕ → Type 0
AreFilled contents first blocks None = HoldRun contents first blocks
AreFilled contents first blocks (Some bad) = (contents bad ≡ None)
    × ((i : ℕ) → first + i < bad → contents (first + i) ≡ Some (get_or blocks i []))

-- a disk as contracts see it
pub record DiskState : Type 1 where
  -- the number of blocks
  pub size : ℕ
  -- it has kept to the laws below so far; if it ever breaks one, it is no longer honest
  pub honest : Type 0
  -- how often a call answered Device, counted up to 2^64 - 1
  pub failures : ℕ
  -- what a read returns
  pub contents : Contents
  -- the blocks that were written since the last sync that succeeded
  pub is_open : ℕ → Bool
  -- the moment, a number that doesn't fall
  pub clock : ℕ
  -- what a crash at that moment or later may have left, within a call or between two
  pub left_since : ℕ → Contents → Type 0

-- what a crash at this moment may leave: anything in the open blocks
abbrev pub MayLeave : DiskState → Contents → Type 0
MayLeave s c = (n : ℕ) → s.is_open n ≡ false → c n ≡ s.contents n

-- no block is open, so a crash leaves what a read returns
abbrev pub NoneOpen : DiskState → Type 0
NoneOpen s = (n : ℕ) → s.is_open n ≡ false

-- Time passes from s to s', and a crash meanwhile leaves only what has P.
pub record Passes (s s' : DiskState) (P : Contents → Type 0) : Type 0 where
  pub later : s.clock ≤ s'.clock
  -- what was left since an earlier moment was left before s, or has P
  pub nothing_else : (t : ℕ) (c : Contents) → t ≤ s.clock → s'.left_since t c → s.left_since t c ⊎ P c
  -- what is new was left since each moment up to s
  pub new_since : (t u : ℕ) (c : Contents) → t ≤ s.clock → u ≤ s.clock → s'.left_since t c
      → s.left_since t c ⊎ s'.left_since u c
  -- what was left is still left
  pub keeps : (t : ℕ) (c : Contents) → t ≤ s.clock → s.left_since t c → s'.left_since t c

-- What every call guarantees, on every disk. Its answer may end honesty, and none brings it back.
pub record SameDisk (s s' : DiskState) : Type 0 where
  pub size : s'.size ≡ s.size
  pub was_honest : s'.honest → s.honest

-- one more failure
abbrev pub one_more : ℕ → ℕ
one_more n = min (n + 1) (2 ^ 64 - 1)

-- A read: nothing changed.
pub record Keeps (s s' : DiskState) : Type 0 where
  pub contents : (n : ℕ) → s'.contents n ≡ s.contents n
  pub is_open : (n : ℕ) → s'.is_open n ≡ s.is_open n
  pub time : Passes s s' (MayLeave s')

-- A sync that failed: the closed blocks stay, and no block is closed. An open one may then hold anything.
pub record Fails (s s' : DiskState) : Type 0 where
  pub contents : (n : ℕ) → s.is_open n ≡ false → s'.contents n ≡ s.contents n
  pub is_open : (n : ℕ) → s'.is_open n ≡ s.is_open n
  pub time : Passes s s' (MayLeave s')

-- A write to block n, whether it succeeded or failed: the block is open, the others stay.
pub record Writes (n : ℕ) (s s' : DiskState) : Type 0 where
  pub contents : (m : ℕ) → (m ≡ n → ⊥) → s'.contents m ≡ s.contents m
  pub opened : s'.is_open n ≡ true
  pub is_open : (m : ℕ) → (m ≡ n → ⊥) → s'.is_open m ≡ s.is_open m
  pub time : Passes s s' (MayLeave s')

-- A sync that succeeded: no block is open.
pub record Syncs (s s' : DiskState) : Type 0 where
  pub contents : (n : ℕ) → s'.contents n ≡ s.contents n
  pub closed : NoneOpen s'
  pub time : Passes s s' (MayLeave s')

-- The vocabulary of the layers above: stretches of any number of calls.

-- the same at each block outside a set of blocks
abbrev pub SameOutside : (ℕ → Type 0) → Contents → Contents → Type 0
SameOutside In c d = (n : ℕ) → (In n → ⊥) → d n ≡ c n

-- outside this set of blocks, it is something that a crash may leave at s
abbrev pub Near : (ℕ → Type 0) → DiskState → Contents → Type 0
Near In s c = (d : Contents) × MayLeave s d × SameOutside In d c

-- Only blocks of this set were written, and nothing is known of what they hold.
pub record Modifies (In : ℕ → Type 0) (s s' : DiskState) : Type 0 where
  pub contents : SameOutside In s.contents s'.contents
  pub crash : (c : Contents) → MayLeave s' c → Near In s c
  pub time : Passes s s' (Near In s)

-- Nothing was written.
pub record Still (s s' : DiskState) : Type 0 where
  pub contents : (n : ℕ) → s'.contents n ≡ s.contents n
  pub crash : (c : Contents) → MayLeave s' c → MayLeave s c
  pub time : Passes s s' (MayLeave s)

-- From s to s' a crash at any moment, now included, left only what has P.
pub record LeavesOnly (s s' : DiskState) (P : Contents → Type 0) : Type 0 where
  pub now : (c : Contents) → MayLeave s' c → P c
  pub since : (c : Contents) → s'.left_since s.clock c → P c
  -- for a run that began earlier
  pub time : Passes s s' P

-- what a crash left since moment t, and not since moment u, has P
abbrev pub Between : DiskState → ℕ → ℕ → (Contents → Type 0) → Type 0
Between s t u P = (c : Contents) → s.left_since t c → s.left_since u c ⊎ P c
