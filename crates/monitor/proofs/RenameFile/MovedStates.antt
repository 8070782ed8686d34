-- The state that the monitor stands for after a file has moved.
use Rattle.std.proofs.Common.{◌≡◌, ◌≢◌, ℕ, false, List, Option, Some, None, refl, sym, ap, subst, ◌∙◌, ⊎_elim}
use Rattle.std.proofs.Common.{slice_set}
use Rattle.std.proofs.lemmas.Bool.{cases_eq}
use Rattle.words36.specs.declared.names.FileName.{FileName}
use Rattle.blockdisk.specs.Common.{DiskState}
use Rattle.spec_image.specs.Common.{Files, Directory, Place, get, SpecVersion, without_serials, file_at, place_of}
use Rattle.spec_machine.specs.Common.{State, slot}
use Rattle.volume.specs.Common.{claims, MemoryMap, pending_at, IsWholeMemory, slot as version_at, RestsAt, KeepsRead}
use Rattle.volume.specs.Common.{KeepsEachWritten}
use Rattle.volume.specs.declared.pending.PendingVersion.{PendingVersion}
use Rattle.volume.proofs.RenameWithin.Places.{unclaimed_place}
use Rattle.monitor.specs.Common.{OnlyDrops, readers_of, AreKeyed, ArePlaced, AreReading, IsState, UnderKeys, state_of}
use Rattle.monitor.specs.declared.job.Job.{Job}
use Rattle.monitor.proofs.LookupFile.Lookups.{placed_still}
use Rattle.monitor.proofs.RenameFile.MovedCore.{MovesFile, placed_moved}
use Rattle.monitor.proofs.RenameFile.MovedFiles.{moved, moved_elsewhere, distinct_moved, shown_moved, same_or_another}
use Rattle.monitor.proofs.common.PlacedVersions.{unclaimed}
use Rattle.monitor.proofs.CloseChannel.Publications.{IsBehind}
use Rattle.monitor.proofs.CloseChannel.PublishedStates.{kept_keyed}
use Rattle.monitor.proofs.common.JobReaders.{keeps_reading, reads_left}
use Rattle.monitor.proofs.common.ReadsMoved.{with_protected, reads_moved}
use Rattle.monitor.proofs.common.WrittenStays.{writing_stays}
use Rattle.spec_machine.specs.Sound as machine_states
use Rattle.volume.specs.RenameFile as volume

-- each version has as many readers as before
pub readers_moved : (c c' : MemoryMap) (ppn : ℕ) (name : FileName) (to_ppn : ℕ) (to : FileName) (protection : ℕ)
    → MovesFile c c' ppn name to_ppn to protection → (k : ℕ)
    → readers_of (version_at c'.live k) ≡ readers_of (version_at c.live k)
readers_moved c c' ppn name to_ppn to protection is k = ⊎_elim
    (λ (same : k ≡ is.key). ap readers_of (ap (version_at c'.live) same ∙ is.here)
    ∙ sym (ap readers_of (ap (version_at c.live) same ∙ is.there)))
    (λ apart. ap readers_of (is.others k apart)) (cases_eq k is.key)

-- The file has moved, and what the caller's channel read of it, or of another version, is unpinned after it.
module _ (c b c' : MemoryMap) (jobs : List (Option Job)) (n : ℕ) (job job' : Job) (there : slot jobs n ≡ Some job)
    (ppn : ℕ) (name : FileName) (to_ppn : ℕ) (to : FileName) (protection : ℕ)
    (is : MovesFile c b ppn name to_ppn to protection) (behind : IsBehind c b c' job job') where
  abbrev old : Place
  old = place_of ppn name

  abbrev new : Place
  new = place_of to_ppn to

  -- a version that is being written was there
  still_there : (k : ℕ) (p : PendingVersion) → pending_at c'.pending k ≡ Some p → pending_at c.pending k ≡ Some p
  still_there k p at = ap (λ ps. pending_at ps k) (sym is.pending ∙ sym behind.pending) ∙ at

  pub moved_keyed : AreKeyed c.pending jobs → AreKeyed c'.pending (slice_set jobs n (Some job'))
  moved_keyed keyed = kept_keyed c.pending c'.pending jobs n job job' there behind.keeps still_there keyed

  pub moved_reading : AreReading c.live jobs → AreReading c'.live (slice_set jobs n (Some job'))
  moved_reading reading = keeps_reading c.live c'.live jobs n job job' reading there behind.reads

  module _ (free : claims c.pending old ≡ false) (vacant : new ≢ old → claims c.pending new ≡ false) where
    pub moved_placed : ArePlaced c → ArePlaced c'
    moved_placed placed = placed_still b c' behind.pending behind.known
        (placed_moved c b ppn name to_ppn to protection is
        (λ k p at.
        let not_old = unclaimed_place c.pending ppn name k p free at in (
          not_old,
          λ same. ⊎_elim
              (λ (back : new ≡ old). not_old (
                same.0 ∙ ap (λ (q : Place). q.ppn) back,
                same.1 ∙ ap (λ (q : Place). q.name) back,
              ))
              (λ apart. unclaimed_place c.pending to_ppn to k p (vacant apart) at same)
              (same_or_another new old),
        )) placed)

    module _ (d d' : DiskState) (s : State) (state : IsState d c jobs s) (whole : IsWholeMemory d.size c)
        (x : SpecVersion)
        (at : file_at s.files old ≡ Some x) (home : Directory SpecVersion) (housed : get s.files to_ppn ≡ Some home)
        (absent : new ≢ old → file_at s.files new ≡ None)
        (rests : RestsAt d' (volume.files_moved (without_serials s.files) ppn name to_ppn to protection))
        (readers : KeepsRead d.contents d'.contents c) (writers : KeepsEachWritten d.contents d'.contents c)
        (leaves : OnlyDrops b c') where
      abbrev w : UnderKeys
      w = state.under

      abbrev pub under_moved : UnderKeys
      under_moved = with_protected w is.key protection

      abbrev files' : Files SpecVersion
      files' = moved s.files old new protection x at home housed

      -- a file that is being created has another place than both
      elsewhere : (k : ℕ) (p : PendingVersion) → pending_at c.pending k ≡ Some p → (q : Place)
          → claims c.pending q ≡ false → (w.written k).place ≢ q
      elsewhere k p here q none same = unclaimed c.pending k p q none here (sym (state.versions k p here).place ∙ same)

      not_old : (k : ℕ) (p : PendingVersion) → pending_at c.pending k ≡ Some p → (w.written k).place ≢ old
      not_old k p here = elsewhere k p here old free

      not_new : (k : ℕ) (p : PendingVersion) → pending_at c.pending k ≡ Some p → (w.written k).place ≢ new
      not_new k p here same = ⊎_elim
          (λ (back : new ≡ old). not_old k p here (same ∙ back))
          (λ apart. elsewhere k p here new (vacant apart) same)
          (same_or_another new old)

      pub moved_state : machine_states.IsSound (state_of files' under_moved (slice_set jobs n (Some job')))
          → IsState d' c' (slice_set jobs n (Some job')) (state_of files' under_moved (slice_set jobs n (Some job')))
      moved_state sound = record {
        files = subst (RestsAt d') (sym (shown_moved s.files old new protection x at)) rests;
        serials = distinct_moved s.files old new protection x at home housed absent state.serials;
        under = under_moved;
        versions = λ k p here.
            let was = still_there k p here in
            let written = state.versions k p was in
            writing_stays d d' p (w.written k) written (writers k p was);
        absent = λ k p here creates.
            let was = still_there k p here in
            moved_elsewhere s.files old new protection x at home housed (w.written k).place (not_old k p was)
            (not_new k p was) ∙ state.absent k p was creates;
        keyed = moved_keyed state.keyed;
        read = reads_left d' b c' files' under_moved.read leaves
            (reads_moved d d' c b s.files w.read state.read whole ppn name to_ppn to protection is x at home housed
            absent readers);
        reading = moved_reading state.reading;
        jobs_are = refl;
        sound = sound;
      }
