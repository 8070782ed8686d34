-- What the beginning of a version does to memory.
use Rattle.std.specs.Prelude.{◌≡◌, ◌⊎◌, ℕ, ◌+◌, Bool, true, false, if◌then◌else◌, List, [], length, is_none}
use Rattle.std.specs.Prelude.{slice_get, Option, Some, None, IfSome, option_map}
use Rattle.std.specs.Ordering.{nat_cmp}
use Rattle.std.specs.FinMap.Entries.{find}
use Rattle.words36.specs.declared.names.FileName.{FileName}
use Rattle.spec_image.specs.declared.code.ErrorCode.{ErrorCode}
use Rattle.spec_image.specs.declared.code.ErrorCode.TheVariants.{NoDirectory, NameExists, NotFound, NoRoom}
use Rattle.spec_image.specs.Common.{name_cmp, total, times, growth}
use Rattle.alloctab.specs.Common.{holds}
use Rattle.directory.specs.Common.{StandsAt}
use Rattle.retrieval.specs.Common.{VersionState}
use Rattle.retrieval.specs.declared.prime.Prime.{Prime}
use Rattle.volume.specs.CurrentMap.{CurrentDirectory, Before, IsNamed, cost_before}
use Rattle.volume.specs.MemoryMap.{MemoryMap, as_known, slot, pending_at, creates, is_create}
use Rattle.volume.specs.PinVersion.{IsKeyOf}
use Rattle.volume.specs.declared.live.LiveVersion.{LiveVersion}
use Rattle.volume.specs.declared.pending.PendingKind.{PendingKind}
use Rattle.volume.specs.declared.pending.PendingKind.TheVariants.{Create, Supersede, Update, Append}
use Rattle.volume.specs.declared.pending.PendingVersion.{PendingVersion}

-- whether it begins with what the file of its place has
abbrev pub is_update : PendingKind → Bool
is_update Create = false
is_update Supersede = false
is_update Update = true
is_update Append = true

-- What a version costs when it begins: its prime block, and, if its name is new, the directory's growth; or as much as
-- the one that it begins with, all of whose blocks it shares.
abbrev pub begin_cost : PendingKind → ℕ → Before → ℕ
begin_cost Create entries old = 1 + growth entries
begin_cost Supersede entries old = 1
begin_cost Update entries old = cost_before old
begin_cost Append entries old = cost_before old

-- how many entries a directory has, with those that are being created
abbrev pub entries_with : MemoryMap → CurrentDirectory → ℕ → ℕ
entries_with c d ppn = length d.chain.entries + total (creates ppn) c.pending

-- The version that begins, if the name has this one before.

abbrev pub no_words : VersionState
no_words = record { words = 0; blocks = []; ribs = [] }

-- its length and its blocks
abbrev pub shared_body : Before → VersionState
shared_body None = no_words
shared_body (Some v) = record { words = v.1.version.words; blocks = v.1.version.blocks; ribs = [] }

-- what its prime block says of it
abbrev pub shared_prime : Prime → Before → Prime
shared_prime prime None = prime
shared_prime prime (Some v) = v.1.prime

abbrev pub begun_prime : PendingKind → Prime → Before → Prime
begun_prime kind prime old =
    record (if is_update kind then shared_prime prime old else prime) { file = prime.file; ppn = prime.ppn }

abbrev pub begun_version : PendingKind → Before → VersionState
begun_version kind old = if is_update kind then shared_body old else no_words

-- how many blocks it has that must not be written over
abbrev pub kept_blocks : PendingKind → Before → ℕ
kept_blocks Create old = 0
kept_blocks Supersede old = 0
kept_blocks Update old = 0
kept_blocks Append old = length (shared_body old).blocks

abbrev pub begun : PendingKind → Prime → Before → PendingVersion
begun kind prime old = record {
  prime = begun_prime kind prime old;
  version = begun_version kind old;
  kind = kind;
  kept_blocks = kept_blocks kind old;
}

-- the directory in memory with this ppn
abbrev pub IsDirectoryOf : MemoryMap → ℕ → CurrentDirectory → Type 0
IsDirectoryOf c ppn d = (place : ℕ) × (v : ℕ × ℕ) × StandsAt nat_cmp c.known.master.entries ppn v place
    × (slice_get c.known.directories place ≡ Some d)

-- the version under a key, if there is one, with its prime block
abbrev pub version_before : List (Option LiveVersion) → Option ℕ → Before
version_before live None = None
version_before live (Some key) = option_map (λ v. (v.at, as_known v)) (slot live key)

-- What a place has before a version begins for it: the key of its file's version, or `None`.
pub record IsBefore (c : MemoryMap) (ppn : ℕ) (name : FileName) (before : Option ℕ) : Type 0 where
  pub directory : CurrentDirectory
  pub there : IsDirectoryOf c ppn directory
  pub named : IsNamed directory name (version_before c.live before)
  pub key : IfSome before (IsKeyOf c ppn name)

-- whether a name is new in a directory
abbrev pub is_absent : FileName → CurrentDirectory → Bool
is_absent name d = is_none (find name_cmp name d.chain.entries)

-- A version begins under a key; all else is as before, except what is held and booked.
pub record IsBegun (c c' : MemoryMap) (key : ℕ) (kind : PendingKind) (prime : Prime) : Type 0 where
  pub directory : CurrentDirectory
  pub there : IsDirectoryOf c prime.ppn directory
  -- the version that the name has: a creation has no version before it, and each other kind has one
  pub old : Before
  pub named : IsNamed directory prime.file old
  pub is_new : is_create kind ≡ is_none old
  pub vacant : pending_at c.pending key ≡ None
  pub here : pending_at c'.pending key ≡ Some (begun kind prime old)
  pub others : (k : ℕ) → (k ≡ key → ⊥) → pending_at c'.pending k ≡ pending_at c.pending k
  pub live : c'.live ≡ c.live
  pub keys : c'.keys ≡ c.keys
  pub held : (n : ℕ) → holds c'.known.table n
      ≡ holds c.known.table n + times n (begun_version kind old).blocks
  pub known : c'.known
      ≡ record c.known {
        table = record c.known.table {
          held = c'.known.table.held;
          booked = c.known.table.booked + begin_cost kind (entries_with c directory prime.ppn) old;
        };
      }

-- the codes that a beginning may be refused with
abbrev pub IsBeginRefusal : ErrorCode → Type 0
IsBeginRefusal code = (code ≡ NoDirectory) ⊎ (code ≡ NameExists) ⊎ (code ≡ NotFound) ⊎ (code ≡ NoRoom)

-- Whether a version is a creation, and whether its name is new, give this answer: the code of a refusal, or `None`.
abbrev pub IsMisfit : Bool → Bool → Option ErrorCode → Type 0
IsMisfit creates absent None = creates ≡ absent
IsMisfit creates absent (Some code) = ((code ≡ NameExists) × (creates ≡ true) × (absent ≡ false))
    ⊎ ((code ≡ NotFound) × (creates ≡ false) × (absent ≡ true))
