-- What a file is: its bytes now, the bytes that are open, a clock, and what a crash may leave or have
-- left. A byte is open from the beginning of a write to it until a sync succeeds. A crash leaves the
-- closed bytes as they are, and anything at the open ones; a sync that fails may do the same.
use Rattle.std.specs.Prelude.{◌≡◌, ◌⊎◌, ◌+◌, ◌<◌, ◌≤◌, ℕ, zero, suc, Bool, true, false, List, [], ◌∷◌, Option, Some}

-- the byte at each place
abbrev pub Bytes : Type 0
Bytes = ℕ → ℕ

-- what a crash leaves at each place: a byte, or none if nothing is known about it
abbrev pub Remains : Type 0
Remains = ℕ → Option ℕ

-- a file as contracts see it
pub record FileState : Type 1 where
  -- the number of bytes
  pub size : ℕ
  -- it has kept to the laws below so far; an answer may end that, and none brings it back
  pub honest : Type 0
  -- how often a call answered Device, counted up to 2^64 - 1
  pub failures : ℕ
  -- what a read returns
  pub bytes : Bytes
  -- the bytes that were written since the last sync that succeeded
  pub is_open : ℕ → Bool
  -- the moment, a number that doesn't fall
  pub clock : ℕ
  -- what a crash at that moment or later may have left, within a call or between two
  pub left_since : ℕ → Remains → Type 0

-- what a crash at this moment may leave: anything at the open bytes
abbrev pub MayRemain : FileState → Remains → Type 0
MayRemain s r = (p : ℕ) → s.is_open p ≡ false → r p ≡ Some (s.bytes p)

-- p is one of the n places from `at`
pub record Inside (at n p : ℕ) : Type 0 where
  pub low : at ≤ p
  pub high : p < at + n

-- the n bytes from `at`
unfoldable pub window : Bytes → ℕ → ℕ → List ℕ
window b at zero = []
window b at (suc n) = b at ∷ window b (at + 1) n

-- Time passes from s to s', and a crash meanwhile leaves only what has P.
pub record FilePasses (s s' : FileState) (P : Remains → Type 0) : Type 0 where
  pub later : s.clock ≤ s'.clock
  -- what was left since an earlier moment was left before s, or has P
  pub nothing_else : (t : ℕ) (r : Remains) → t ≤ s.clock → s'.left_since t r → s.left_since t r ⊎ P r
  -- what is new was left since each moment up to s
  pub new_since : (t u : ℕ) (r : Remains) → t ≤ s.clock → u ≤ s.clock → s'.left_since t r
      → s.left_since t r ⊎ s'.left_since u r
  -- what was left is still left
  pub keeps : (t : ℕ) (r : Remains) → t ≤ s.clock → s.left_since t r → s'.left_since t r

-- What every call guarantees, on every file. Its answer may end honesty, and none brings it back.
pub record SameFile (s s' : FileState) : Type 0 where
  pub size : s'.size ≡ s.size
  pub was_honest : s'.honest → s.honest

-- A read: nothing changed.
pub record FileKeeps (s s' : FileState) : Type 0 where
  pub bytes : (p : ℕ) → s'.bytes p ≡ s.bytes p
  pub is_open : (p : ℕ) → s'.is_open p ≡ s.is_open p
  pub time : FilePasses s s' (MayRemain s')

-- A sync that failed: the closed bytes stay, and no byte is closed. An open one may then be anything.
pub record FileFails (s s' : FileState) : Type 0 where
  pub bytes : (p : ℕ) → s.is_open p ≡ false → s'.bytes p ≡ s.bytes p
  pub is_open : (p : ℕ) → s'.is_open p ≡ s.is_open p
  pub time : FilePasses s s' (MayRemain s')

-- A write to the n places from `at`, whether it succeeded or failed: they are open, the others stay.
pub record FileWrites (at n : ℕ) (s s' : FileState) : Type 0 where
  pub bytes : (p : ℕ) → (Inside at n p → ⊥) → s'.bytes p ≡ s.bytes p
  pub opened : (p : ℕ) → Inside at n p → s'.is_open p ≡ true
  pub is_open : (p : ℕ) → (Inside at n p → ⊥) → s'.is_open p ≡ s.is_open p
  pub time : FilePasses s s' (MayRemain s')

-- A sync that succeeded: no byte is open.
pub record FileSyncs (s s' : FileState) : Type 0 where
  pub bytes : (p : ℕ) → s'.bytes p ≡ s.bytes p
  pub closed : (p : ℕ) → s'.is_open p ≡ false
  pub time : FilePasses s s' (MayRemain s')
