-- A crash at any moment of a call that leaves the disk as it is, or the files, finds the files from before.
use Rattle.std.proofs.Common.{◌≡◌, ℕ, List, Option, sym, subst, inl}
use Rattle.words36.specs.declared.moment.Moment.{Moment}
use Rattle.blockdisk.specs.Common.{Contents, DiskState, MayLeave, LeavesOnly, leaves_start, leaves_weaker}
use Rattle.changeset.specs.Common.{rest_settles}
use Rattle.spec_image.specs.Common.{File, Files, pack_of, SettledStandsOn, StandsOn, without_serials}
use Rattle.spec_machine.specs.declared.call.Call.{Call}
use Rattle.volume.specs.Common.{MemoryMap, RestsAt}
use Rattle.monitor.specs.Common.{CallCrashes}
use Rattle.monitor.specs.declared.job.Job.{Job}

-- The disk is what it was; `only_now` is its law of that name.
module _ {D : Type 0} (state : D → DiskState) (only_now : (disk : D) (contents : Contents) → (state disk).honest
    → (state disk).left_since (state disk).clock contents → MayLeave (state disk) contents) (old new : D) (same : new
    ≡ old) where
  pub untouched_leaves : (state new).honest → (P : Contents → Type 0)
      → ((contents : Contents) → MayLeave (state old) contents → P contents) → LeavesOnly (state old) (state new) P
  untouched_leaves honest P here = subst (λ disk. LeavesOnly (state old) (state disk) P) (sym same)
      (leaves_start (state old) P
      (λ contents left. only_now old contents (subst (λ disk. (state disk).honest) same honest) left) here)

  pub untouched_quiet : (state new).honest → (f : Files File) → RestsAt (state old) f
      → LeavesOnly (state old) (state new) (λ contents. StandsOn (pack_of (state old)) contents f)
  untouched_quiet honest f rests = untouched_leaves honest (λ contents. StandsOn (pack_of (state old)) contents f)
      (λ contents left. rest_settles (state old) (λ d. SettledStandsOn (pack_of (state old)) d f) rests contents left)

  pub untouched_crashes : (c : MemoryMap) (jobs : List (Option Job)) (n : ℕ) (call : Call) (moment : Moment)
      → CallCrashes (state old) (state new) c jobs n call moment
  untouched_crashes c jobs n call moment honest s is =
      untouched_leaves honest _ (λ contents left.
      inl (rest_settles (state old) (λ d. SettledStandsOn (pack_of (state old)) d (without_serials s.files)) is.files
      contents left))

-- The files are what they were, whatever was written.
pub quiet_crashes : (d d' : DiskState) (c : MemoryMap) (jobs : List (Option Job)) (n : ℕ) (call : Call)
    (moment : Moment)
    → (d'.honest → (f : Files File) → RestsAt d f → LeavesOnly d d' (λ contents. StandsOn (pack_of d) contents f))
    → CallCrashes d d' c jobs n call moment
quiet_crashes d d' c jobs n call moment quiet honest s is =
    leaves_weaker d d' (λ contents. StandsOn (pack_of d) contents (without_serials s.files)) _
    (quiet honest (without_serials s.files) is.files) (λ contents was. inl was)
