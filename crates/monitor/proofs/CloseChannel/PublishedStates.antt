-- A CLOSE or RELEAS that publishes is the machine's row.
use Rattle.std.proofs.Common.{◌≡◌, ◌<◌, ℕ, Bool, true, false, List, [], ◌∷◌, ◌++◌, length, Option, Some, refl, sym}
use Rattle.std.proofs.Common.{ap, subst, ◌∙◌, slice_set, arith}
use Rattle.std.specs.Prelude.{◌==◌, ◌||◌, IsSome}
use Rattle.std.specs.List.{AllByRecursion}
use Rattle.blockdisk.specs.Common.{DiskState}
use Rattle.spec_image.specs.Common.{Files, SpecVersion, without_serials, with_file, splice, length_after}
use Rattle.spec_machine.specs.Common.{State, slot, current_versions, pinned_versions, has_serial, IsFresh}
use Rattle.spec_machine.specs.Common.{HaveDistinctSerials, IsSound}
use Rattle.spec_image.proofs.Common.{some_none, some_is}
use Rattle.volume.specs.Common.{MemoryMap, pending_at, IsWholeMemory, slot as version_at, file_of, files_published}
use Rattle.volume.specs.Common.{RestsAt}
use Rattle.volume.specs.declared.live.LiveVersion.{LiveVersion}
use Rattle.volume.specs.declared.pending.PendingVersion.{PendingVersion}
use Rattle.monitor.specs.Common.{MayPublish, HasPublished, readers_of, AreRead, KeepsSides, ArePlaced, AreKeyed}
use Rattle.monitor.specs.Common.{IsSide, IsWriting, IsState, Writing, UnderKeys, state_of, sides_in}
use Rattle.monitor.specs.declared.job.Job.{Job}
use Rattle.monitor.specs.declared.output.Output.{Output}
use Rattle.monitor.proofs.common.Dropped.{side_stays}
use Rattle.monitor.proofs.common.PinnedReaders.{fresh_read}
use Rattle.monitor.proofs.CloseChannel.Publications.{IsBehind}
use Rattle.monitor.proofs.common.Copies.{versions_in}
use Rattle.monitor.proofs.CloseChannel.PublishedFiles.{files_with, put_elsewhere, distinct_put}
use Rattle.monitor.proofs.CloseChannel.PublishedRows.{version_with}
use Rattle.monitor.proofs.common.JobReaders.{keeps_reading}
use Rattle.monitor.proofs.common.ReadsPublished.{reads_published}
use Rattle.monitor.proofs.common.SideLists.{count, count-set, each-set, each-slot}
use Rattle.monitor.proofs.common.WrittenStays.{writing_stays}

-- Output sides: the caller's are others, and no version is new.
pub kept_keyed : (old new : List (Option PendingVersion)) (jobs : List (Option Job)) (n : ℕ) (job job' : Job)
    → slot jobs n ≡ Some job → KeepsSides old new job job'
    → ((k : ℕ) (q : PendingVersion) → pending_at new k ≡ Some q → pending_at old k ≡ Some q)
    → AreKeyed old jobs → AreKeyed new (slice_set jobs n (Some job'))
kept_keyed old new jobs n job job' there keeps stays keyed = record {
  once = λ key.
      let set = count-set key jobs n (Some job') (λ none. absurd (some_none (sym there ∙ none))) in
      let was = keyed.once key in
      let moved = keeps.once key in
      let here = ap (λ o. count key (sides_in o)) there in
      omega arith;
  each = each-set (IsSide new) jobs n (Some job') (side_stays old new stays jobs keyed.each)
      (keeps.each (subst (λ o. AllByRecursion (IsSide new) (sides_in o)) there
      (each-slot (IsSide new) jobs n (side_stays old new stays jobs keyed.each))));
}

-- The state.

none_first : (k : ℕ) (vs ws : List SpecVersion) → has_serial k (vs ++ ws) ≡ false → has_serial k vs ≡ false
none_first k [] ws none = refl
none_first k (v ∷ vs) ws none = by (v.serial == k) (none_first k vs ws) none
  where
    by : (b : Bool) → (has_serial k (vs ++ ws) ≡ false → has_serial k vs ≡ false)
        → (b || has_serial k (vs ++ ws)) ≡ false → (b || has_serial k vs) ≡ false
    by true rest e = e
    by false rest e = rest e

-- the file that the volume publishes
file_is : (d : DiskState) (p : PendingVersion) (w : Writing) (body : List ℕ) → IsWriting d p w
    → record w.file { body = body } ≡ file_of p.prime body
file_is d p w body is = λ i. record {
  protection = is.protection i;
  mode = is.mode i;
  time = is.time i;
  date = is.date i;
  body = body;
}

-- the files that the volume publishes are the machine's
pub published_are : (d : DiskState) (c : MemoryMap) (jobs : List (Option Job)) (s : State) (state : IsState d c jobs s)
    (key next : ℕ) (last : List ℕ) (serial : ℕ) (p : PendingVersion) → IsWriting d p (state.under.written key)
    → files_published (without_serials s.files) p.prime.ppn p.prime.file
    (file_of p.prime (splice (state.under.written key).file.body next last))
    ≡ without_serials
    (with_file s.files (state.under.written key).place (version_with (state.under.written key) next last serial))
published_are d c jobs s state key next last serial p is =
    sym (files_with s.files (state.under.written key).place (version_with (state.under.written key) next last serial)
    ∙ (λ i. files_published (without_serials s.files) (is.place i).ppn (is.place i).name
    (file_is d p (state.under.written key) (splice (state.under.written key).file.body next last) is i)))

module _ (d d' : DiskState) (c b c' : MemoryMap) (jobs : List (Option Job)) (n : ℕ) (job job' : Job)
    (o : Output) (last : List ℕ) (there : slot jobs n ≡ Some job) (whatever : MayPublish d d' c b o last)
    (has : HasPublished d d' c b o last) (behind : IsBehind c b c' job job')
    (live : IsSome (pending_at c.pending o.pending.key)) where
  abbrev key : ℕ
  key = o.pending.key

  -- a version that is still being written
  still_there : (k : ℕ) (q : PendingVersion) → pending_at c'.pending k ≡ Some q
      → (k ≡ key → ⊥) × (pending_at c.pending k ≡ Some q)
  still_there k q at =
      let here : pending_at b.pending k ≡ Some q = sym (ap (λ ps. pending_at ps k) behind.pending) ∙ at in
      let other : k ≡ key → ⊥ = λ same. some_none (sym here ∙ ap (pending_at b.pending) same ∙ has.gone) in
      (other, sym (whatever.others k other) ∙ here)

  pub keyed_published : AreKeyed c.pending jobs → AreKeyed c'.pending (slice_set jobs n (Some job'))
  keyed_published keyed = kept_keyed c.pending c'.pending jobs n job job' there behind.keeps
      (λ k q at. (still_there k q at).1) keyed

  module _ (honest : d'.honest) (s : State) (state : IsState d c jobs s) (placed : ArePlaced c) (serial : ℕ)
      (fresh : IsFresh s serial) where
    abbrev w : UnderKeys
    w = state.under

    abbrev files' : Files SpecVersion
    files' = with_file s.files (w.written key).place (version_with (w.written key) o.next last serial)

    pub rests : RestsAt d' (without_serials files')
    rests =
        let p = some_is (pending_at c.pending key) live in
        let is = state.versions key p.0 p.1 in
        subst (RestsAt d') (published_are d c jobs s state key o.next last serial p.0 is)
        (has.files honest (without_serials s.files) state.files p.0 p.1 (w.written key).file.body is.words is.body)

    pub distinct : HaveDistinctSerials (versions_in files')
    distinct = distinct_put s.files (w.written key).place (version_with (w.written key) o.next last serial)
        state.serials
        (none_first serial (current_versions s) (pinned_versions s) fresh)

    -- another version has another place
    elsewhere : (p : PendingVersion) → pending_at c.pending key ≡ Some p → (k : ℕ) (q : PendingVersion)
        → (k ≡ key → ⊥) → pending_at c.pending k ≡ Some q → (w.written k).place ≡ (w.written key).place → ⊥
    elsewhere p here k q other at same =
        let place = sym (state.versions k q at).place ∙ same ∙ (state.versions key p here).place in
        other (placed.single k key q p at here (ap (λ l. l.ppn) place) (ap (λ l. l.name) place))

    -- what is read has another serial
    unlike : (k : ℕ) (v : LiveVersion) → version_at c.live k ≡ Some v → 0 < v.readers → serial ≡ (w.read k).serial → ⊥
    unlike k v at some = let pinned = state.reading.pinned k in let here = ap readers_of at in
        fresh_read s w jobs state.jobs_are serial fresh k (omega arith)

    -- what is read just after the publication
    pub reads_between : IsWholeMemory d.size c → AreRead d' b files' w.read
    reads_between whole =
        let p = some_is (pending_at c.pending key) live in
        reads_published d d' c b s.files w.read key p.0 (length_after p.0.version.words o.next (length last))
        (w.written key).place
        (version_with (w.written key) o.next last serial) state.read whole (has.map p.0 p.1) state.serials
        (state.versions key p.0 p.1).place unlike (has.readers honest)

    -- if the versions that are read are these
    pub published_state : (read : ℕ → SpecVersion) → AreRead d' c' files' read
        → IsSound (state_of files' (record w { read = read }) (slice_set jobs n (Some job')))
        → IsState d' c' (slice_set jobs n (Some job'))
        (state_of files' (record w { read = read }) (slice_set jobs n (Some job')))
    published_state read reads sound =
        let p = some_is (pending_at c.pending key) live in
        record {
          files = rests;
          serials = distinct;
          under = record w { read = read };
          versions = λ k q at.
              let was = still_there k q at in
              let is = state.versions k q was.1 in
              writing_stays d d' q (w.written k) is
              (λ m held. has.writers honest k q was.0 was.1 m held);
          absent = λ k q at new.
              let was = still_there k q at in
              put_elsewhere s.files (w.written key).place (version_with (w.written key) o.next last serial)
              (w.written k).place
              (elsewhere p.0 p.1 k q was.0 was.1) ∙ state.absent k q was.1 new;
          keyed = keyed_published state.keyed;
          read = reads;
          reading = keeps_reading c.live c'.live jobs n job job' state.reading there behind.reads;
          jobs_are = refl;
          sound = sound;
        }
