-- Who reads: the versions that are pinned, by the input sides of jobs.
use Rattle.std.proofs.Common.{◌≡◌, ℕ, zero, suc, ◌+◌, ◌*◌, ◌^◌, ◌<◌, ◌≤◌, Bool, true, false, List, [], ◌∷◌, length}
use Rattle.std.proofs.Common.{Option, Some, None, refl, sym, ap, subst, ◌∙◌, arith}
use Rattle.std.specs.Prelude.{◌==◌, if◌then◌else◌, slice_set, replicate, filter_map, IsTrue, IsFalse}
use Rattle.std.specs.List.{cons_option}
use Rattle.words36.specs.declared.names.FileName.{FileName}
use Rattle.blockdisk.specs.Common.{DiskState}
use Rattle.spec_image.specs.Common.{Files, times, SpecVersion}
use Rattle.spec_machine.specs.Common.{slot}
use Rattle.spec_image.proofs.Common.{some_none}
use Rattle.volume.specs.Common.{MemoryMap, slot as version_at, prime_at}
use Rattle.volume.specs.declared.live.LiveVersion.{LiveVersion}
use Rattle.monitor.specs.Common.{OnlyDrops, Closes, readers_of, AreRead, KeepsReading, HasReaders, AreReading}
use Rattle.monitor.specs.Common.{reader_of, readers_in, readers, pins_of, reset_job}
use Rattle.monitor.specs.declared.channel.OpenChannel.{OpenChannel}
use Rattle.monitor.specs.declared.input.Input.{Input}
use Rattle.monitor.specs.declared.job.Job.{Job}
use Rattle.monitor.proofs.common.Dropped.{same_or_not}
use Rattle.monitor.proofs.common.ReaderLists.{held, held-append, held-set, held-slot}

-- A slot that is set has what was put into it, if there is such a slot; all others stay.

pub slot_set : {X : Type 0} (xs : List (Option X)) (n k : ℕ) (x y : X) → slot (slice_set xs n (Some x)) k ≡ Some y
    → (k ≡ n → x ≡ y) × ((k ≡ n → ⊥) → slot xs k ≡ Some y)
slot_set [] n k x y at = ((λ same. absurd (some_none (sym at))), (λ apart. at))
slot_set (o ∷ xs) zero zero x y at = ((λ same. cc at), (λ apart. absurd (apart refl)))
slot_set (o ∷ xs) zero (suc k) x y at = ((λ same. cc same), (λ apart. at))
slot_set (o ∷ xs) (suc n) zero x y at = ((λ same. cc same), (λ apart. at))
slot_set (o ∷ xs) (suc n) (suc k) x y at = let rest = slot_set xs n k x y at in
    ((λ same. rest.0 (omega (arith, same))), (λ apart. rest.1 (λ same. apart (ap suc same))))

pub length-slice_set : {X : Type 0} (xs : List X) (n : ℕ) (x : X) → length (slice_set xs n x) ≡ length xs
length-slice_set [] n x = refl
length-slice_set (y ∷ xs) zero x = refl
length-slice_set (y ∷ xs) (suc n) x = ap suc (length-slice_set xs n x)

module _ (jobs : List (Option Job)) (n : ℕ) (job : Job) where
  -- each job still has valid readers if another job comes into a slot
  pub each_set : ((k : ℕ) (j : Job) → slot jobs k ≡ Some j → HasReaders j) → HasReaders job → (k : ℕ) (j : Job)
      → slot (slice_set jobs n (Some job)) k ≡ Some j → HasReaders j
  each_set each here k j at = same_or_not k n (λ same. subst HasReaders ((slot_set jobs n k job j at).0 same) here)
      (λ apart. each k j ((slot_set jobs n k job j at).1 apart))

-- The job of a slot is another one, and versions are pinned or unpinned with its input sides.
pub keeps_reading : (live live' : List (Option LiveVersion)) (jobs : List (Option Job)) (n : ℕ) (job job' : Job)
    → AreReading live jobs → slot jobs n ≡ Some job → KeepsReading live live' job job'
    → AreReading live' (slice_set jobs n (Some job'))
keeps_reading live live' jobs n job job' reading there keeps = record {
  pinned = λ key.
      let set = held-set key jobs n (Some job') (λ e. absurd (some_none (sym there ∙ e))) in
      let was = reading.pinned key in
      let kept = keeps.once key in
      let here = ap (λ o. held key (readers_in o)) there in
      omega arith;
  each = each_set jobs n job' reading.each (keeps.each (reading.each n job there));
  slots = length-slice_set jobs n (Some job') ∙ reading.slots;
}

-- The job of a slot is another one, with no input side, and what it read is unpinned.
pub closed_reading : (c c' : MemoryMap) (keys : List ℕ) (jobs : List (Option Job)) (n : ℕ) (x : Job)
    → AreReading c.live jobs → Closes c c' keys (pins_of (readers_in (slot jobs n))) → readers_in (Some x) ≡ []
    → HasReaders x
    → AreReading c'.live (slice_set jobs n (Some x))
closed_reading c c' keys jobs n x reading closed none here = record {
  pinned = λ key.
      let bare = ap (held key) none in
      let set = held-set key jobs n (Some x) (λ e. bare) in
      let was = reading.pinned key in
      let gone = closed.released key in
      omega arith;
  each = each_set jobs n x reading.each here;
  slots = length-slice_set jobs n (Some x) ∙ reading.slots;
}

-- a version is pinned by each input side of a job
pub job_held : (live : List (Option LiveVersion)) (jobs : List (Option Job)) (n : ℕ) (job : Job) → AreReading live jobs
    → slot jobs n ≡ Some job → (key : ℕ) → times key (pins_of (readers_in (Some job)))
    ≤ readers_of (version_at live key)
job_held live jobs n job reading there key =
    let once = reading.pinned key in
    let part = held-slot key jobs n in
    let here = ap (λ o. held key (readers_in o)) there in
    omega arith

-- What is read stays as it is read if readers come or go.
pub reads_left : (d : DiskState) (c c' : MemoryMap) (files : Files SpecVersion) (read : ℕ → SpecVersion)
    → OnlyDrops c c'
    → AreRead d c files read → AreRead d c' files read
reads_left d c c' files read leaves reads = record {
  each = λ key v at some.
      let was = leaves.live key v at in
      let is = reads.each key (record v { readers = was.0 }) was.2 (omega (arith, was.1, some)) in
      record {
        version = record {
          protection = is.version.protection;
          mode = is.version.mode;
          time = is.version.time;
          date = is.version.date;
          words = is.version.words;
          body = is.version.body;
        };
        current = λ now. let place = is.current now in (place.0, places place.0.ppn place.0.name ∙ place.1, place.2);
        past = is.past;
      };
  unread = leaves.unread reads.unread;
  apart = λ key other v w at there some more.
      let one = leaves.live key v at in
      let two = leaves.live other w there in
      reads.apart key other (record v { readers = one.0 }) (record w { readers = two.0 }) one.2 two.2
      (omega (arith, one.1, some)) (omega (arith, two.1, more));
}
  where
    places : (ppn : ℕ) (name : FileName) → prime_at c' ppn name ≡ prime_at c ppn name
    places ppn name = ap (λ k. prime_at (record c { known = k }) ppn name) leaves.known

-- There are few readers: each of 65 slots has at most sixteen channels.

few_in : (cs : List (Option OpenChannel)) → length (filter_map reader_of cs) ≤ length cs
few_in [] = omega arith
few_in (None ∷ cs) = omega (arith, few_in cs)
few_in (Some c ∷ cs) = by c.input (few_in cs)
  where
    by : (o : Option Input) → length (filter_map reader_of cs) ≤ length cs
        → length (cons_option o (filter_map reader_of cs)) ≤ length (Some c ∷ cs)
    by None few = omega arith
    by (Some i) few = omega arith

at_most_one : (b : Bool) → (if b then 1 else 0) ≤ 1
at_most_one true = omega arith
at_most_one false = omega arith

most : (key : ℕ) (is : List Input) → held key is ≤ length is
most key [] = omega arith
most key (i ∷ is) = omega (arith, most key is, at_most_one (key == i.pin.key))

few_held : (key : ℕ) (jobs : List (Option Job)) → ((n : ℕ) (job : Job) → slot jobs n ≡ Some job → HasReaders job)
    → held key (readers jobs) ≤ 16 * length jobs
few_held key [] each = omega arith
few_held key (None ∷ jobs) each = omega (arith, few_held key jobs (λ n job at. each (suc n) job at))
few_held key (Some job ∷ jobs) each =
    let rest = few_held key jobs (λ n j at. each (suc n) j at) in
    let here = most key (readers_in (Some job)) in
    let channels = few_in job.channels in
    let sixteen = (each 0 job refl).sixteen in
    let both = held-append key (readers_in (Some job)) (readers jobs) in
    omega arith

pub few_readers : (live : List (Option LiveVersion)) (jobs : List (Option Job)) → AreReading live jobs
    → (key : ℕ) (v : LiveVersion) → version_at live key ≡ Some v → v.readers + 1 < 2 ^ 32
few_readers live jobs reading key v at =
    let pinned = reading.pinned key in
    let few = few_held key jobs reading.each in
    let slots = reading.slots in
    let here = ap readers_of at in
    omega arith

-- Jobs that log in, or are reset, have no open channel.

none_open : (many number : ℕ) (c : OpenChannel) → slot (replicate many None) number ≡ Some c → ⊥
none_open zero number c at = some_none (sym at)
none_open (suc many) zero c at = some_none (sym at)
none_open (suc many) (suc number) c at = none_open many number c at

pub bare_readers : (job : Job) → job.channels ≡ replicate 16 None → HasReaders job
bare_readers job bare = record {
  each = λ number c at. absurd (none_open 16 number c (ap (λ cs. slot cs number) (sym bare) ∙ at));
  sixteen = ap length bare;
}

-- a job is reset, if there is one
pub reset_reading : (c c' : MemoryMap) (keys : List ℕ) (jobs jobs' : List (Option Job)) (n : ℕ) (result : Bool)
    → AreReading c.live jobs → Closes c c' keys (pins_of (readers_in (slot jobs n)))
    → (IsTrue result → (job : Job) × (slot jobs n ≡ Some job) × (jobs' ≡ slice_set jobs n (Some (reset_job job))))
    → (IsFalse result → (slot jobs n ≡ None) × (jobs' ≡ jobs)) → AreReading c'.live jobs'
reset_reading c c' keys jobs jobs' n true reading closed found none =
    let done = found refl in
    subst (AreReading c'.live) (sym done.2) (closed_reading c c' keys jobs n (reset_job done.0) reading closed refl
    (bare_readers (reset_job done.0) refl))
reset_reading c c' keys jobs jobs' n false reading closed found none =
    let same = none refl in
    subst (AreReading c'.live) (sym same.1) (record {
      pinned = λ key. let gone = closed.released key in let was = reading.pinned key in
          let here = ap (λ o. held key (readers_in o)) same.0 in omega arith;
      each = reading.each;
      slots = reading.slots;
    })
