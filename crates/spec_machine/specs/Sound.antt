-- What is true of every state that a run comes to.
use Rattle.std.specs.Prelude.{◌≡◌, ◌⊎◌, ℕ, true, false, Option, Some, None, IsSome}
use Rattle.spec_image.specs.Common.{get, Place, SpecVersion, same_place, file_at}
use Rattle.spec_machine.specs.Jobs.{SpecOutput, SpecJob, State, is_create, channel_at, job_at}
use Rattle.spec_machine.specs.Room.{output_of, version_of}

abbrev pub output_for : ℕ → Option SpecJob → Option SpecOutput
output_for ch None = None
output_for ch (Some job) = output_of (channel_at job ch)

-- the output side of job n on channel ch
abbrev pub writes_at : State → ℕ → ℕ → Option SpecOutput
writes_at s n ch = output_for ch (job_at s n)

abbrev pub version_for : ℕ → Option SpecJob → Option SpecVersion
version_for ch None = None
version_for ch (Some job) = version_of (channel_at job ch)

-- the version that the input side of job n on channel ch pins
abbrev pub holds_at : State → ℕ → ℕ → Option SpecVersion
holds_at s n ch = version_for ch (job_at s n)

-- a version that is current or pinned
abbrev pub Exists : State → SpecVersion → Type 0
Exists s v = ((place : Place) × (file_at s.files place ≡ Some v)) ⊎ ((n : ℕ) × (ch : ℕ) × (holds_at s n ch ≡ Some v))

-- the same words of the same moment in the same mode: a RENAME may have changed the protection
pub record AreAlike (v w : SpecVersion) : Type 0 where
  pub mode : v.file.mode ≡ w.file.mode
  pub time : v.file.time ≡ w.file.time
  pub date : v.file.date ≡ w.file.date
  pub body : v.file.body ≡ w.file.body

pub record IsSound (s : State) : Type 0 where
  -- a name has at most one output side
  pub single : (n m ch k : ℕ) (o p : SpecOutput) → writes_at s n ch ≡ Some o → writes_at s m k ≡ Some p
      → same_place o.place p.place ≡ true → (n ≡ m) × (ch ≡ k)
  -- it is in a directory that exists
  pub housed : (n ch : ℕ) (o : SpecOutput) → writes_at s n ch ≡ Some o → IsSome (get s.files o.place.ppn)
  -- a file that will be superseded or updated exists
  pub present : (n ch : ℕ) (o : SpecOutput) → writes_at s n ch ≡ Some o → is_create o.kind ≡ false
      → IsSome (file_at s.files o.place)
  -- a serial has one version, except for its protection
  pub serials : (v w : SpecVersion) → Exists s v → Exists s w → v.serial ≡ w.serial → AreAlike v w
