-- The state that the monitor stands for after a file is deleted.
use Rattle.std.proofs.Common.{◌≡◌, ℕ, false, List, Option, Some, refl, sym, ap, subst, ◌∙◌, ⊎_elim, slice_set}
use Rattle.std.proofs.lemmas.Bool.{cases_eq}
use Rattle.std.specs.Prelude.{is_none, slice_get}
use Rattle.std.specs.Ordering.{nat_cmp}
use Rattle.words36.specs.declared.names.FileName.{FileName}
use Rattle.blockdisk.specs.Common.{DiskState}
use Rattle.spec_image.specs.declared.put.Put.{Put}
use Rattle.spec_image.specs.Common.{SpecMasterEntry, Files, Place, name_cmp, remove, get, from_entries, SpecVersion}
use Rattle.spec_image.specs.Common.{without_serials, file_at, without_file, place_of}
use Rattle.spec_machine.specs.Common.{State, slot}
use Rattle.spec_image.proofs.Common.{some_same, get-remove_other, get-from_entries, name_total, name_exact}
use Rattle.directory.specs.Common.{StandsAt}
use Rattle.volume.specs.Common.{is_absent, claims, CurrentDirectory, MemoryMap, pending_at, IsWholeMemory, IsPlaced}
use Rattle.volume.specs.Common.{files_removed, RemovesFile, RestsAt, KeepsRead, KeepsEachWritten}
use Rattle.volume.specs.declared.live.LiveVersion.{LiveVersion}
use Rattle.volume.specs.declared.pending.PendingVersion.{PendingVersion}
use Rattle.monitor.specs.Common.{OnlyDrops, AreKeyed, ArePlaced, AreReading, IsState, UnderKeys, state_of}
use Rattle.monitor.specs.declared.job.Job.{Job}
use Rattle.monitor.proofs.RenameFile.DeletedFiles.{files_left, left_elsewhere, distinct_left}
use Rattle.monitor.proofs.common.PlacedVersions.{unclaimed}
use Rattle.monitor.proofs.CloseChannel.PublishedStates.{kept_keyed}
use Rattle.monitor.proofs.CloseChannel.Publications.{IsBehind}
use Rattle.monitor.proofs.common.ReadsDeleted.{reads_deleted}
use Rattle.monitor.proofs.common.JobReaders.{keeps_reading, reads_left}
use Rattle.monitor.proofs.common.WrittenStays.{writing_stays}
use Rattle.volume.proofs.common.Lists.{set_there}
use Rattle.volume.proofs.RenameAcross.Places.{set_elsewhere}
use Rattle.spec_machine.specs.Sound as machine_states

-- another name is in a directory where it was
still_absent : (d d' : CurrentDirectory) (name other : FileName) → from_entries {R = name_cmp} d'.chain.entries
    ≡ remove (from_entries d.chain.entries) name → (other ≡ name → ⊥) → is_absent other d' ≡ is_absent other d
still_absent d d' name other names apart =
    ap is_none (sym (get-from_entries name_total d'.chain.entries other) ∙ ap (λ m. get m other) names
    ∙ get-remove_other name_total name_exact (from_entries d.chain.entries) name other apart
    ∙ get-from_entries name_total d.chain.entries other)

module _ (size : ℕ) (c c' : MemoryMap) (ppn : ℕ) (name : FileName) (key : ℕ) (v : LiveVersion) (puts : List Put)
    (is : RemovesFile size c c' ppn name key v puts) where
  -- A version of another place may be published as before.
  other_placed : (q : PendingVersion) → (q.prime.ppn ≡ ppn → q.prime.file ≡ name → ⊥) → IsPlaced c q → IsPlaced c' q
  other_placed q apart placed =
      let removed = is.removed in
      let there = placed.there in
      let stands = subst (λ (es : List SpecMasterEntry). StandsAt nat_cmp es q.prime.ppn there.1 there.0)
      (ap (λ m. m.entries) (sym removed.master)) there.2 in
      ⊎_elim
      (λ (same : there.0 ≡ removed.place).
      let directory : removed.directory ≡ placed.directory = some_same (sym removed.directory_at
      ∙ ap (slice_get c.known.directories) (sym same) ∙ there.3) in
      let owner : q.prime.ppn ≡ ppn = ap (λ (e : ℕ × (ℕ × ℕ)). e.0)
      (some_same (sym there.2.is ∙ ap (slice_get c.known.master.entries) same ∙ removed.there.is)) in
      record {
        named = placed.named;
        directory = removed.directory';
        there = (
          there.0,
          there.1,
          stands,
          ap (λ ds. slice_get ds there.0) removed.directories
              ∙ ap (slice_get (slice_set c.known.directories removed.place removed.directory')) same
              ∙ set_there c.known.directories removed.place removed.directory removed.directory' removed.directory_at,
        );
        is_new = placed.is_new ∙ ap (is_absent q.prime.file) (sym directory)
            ∙ sym (still_absent removed.directory removed.directory' name q.prime.file removed.entry.names
            (apart owner));
      })
      (λ other. record {
        named = placed.named;
        directory = placed.directory;
        there = (
          there.0,
          there.1,
          stands,
          ap (λ ds. slice_get ds there.0) removed.directories
              ∙ set_elsewhere c.known.directories removed.place there.0 removed.directory' other ∙ there.3,
        );
        is_new = placed.is_new;
      })
      (cases_eq there.0 removed.place)

  pub placed_deleted : claims c.pending (place_of ppn name) ≡ false → ArePlaced c → ArePlaced c'
  placed_deleted free placed = record {
    each = λ k p at. other_placed p
        (λ owner file. unclaimed c.pending k p (place_of ppn name) free (was k p at)
        (λ i. place_of (owner i) (file i)))
        (placed.each k p (was k p at));
    single = λ k l p q at here. placed.single k l p q (was k p at) (was l q here);
  }
    where
      was : (k : ℕ) (p : PendingVersion) → pending_at c'.pending k ≡ Some p → pending_at c.pending k ≡ Some p
      was k p at = ap (λ ps. pending_at ps k) (sym is.pending) ∙ at

-- The file is gone, and what the caller's channel read of it, or of another version, is unpinned after it.
module _ (d d' : DiskState) (c b c' : MemoryMap) (jobs : List (Option Job)) (n : ℕ) (job job' : Job)
    (there : slot jobs n ≡ Some job) (ppn : ℕ) (name : FileName) (key : ℕ) (v : LiveVersion) (puts : List Put)
    (is : RemovesFile d.size c b ppn name key v puts) (behind : IsBehind c b c' job job') where
  abbrev place : Place
  place = place_of ppn name

  -- a version that is being written was there
  still_there : (k : ℕ) (p : PendingVersion) → pending_at c'.pending k ≡ Some p → pending_at c.pending k ≡ Some p
  still_there k p at = ap (λ ps. pending_at ps k) (sym is.pending ∙ sym behind.pending) ∙ at

  pub deleted_keyed : AreKeyed c.pending jobs → AreKeyed c'.pending (slice_set jobs n (Some job'))
  deleted_keyed keyed = kept_keyed c.pending c'.pending jobs n job job' there behind.keeps still_there keyed

  pub deleted_reading : AreReading c.live jobs → AreReading c'.live (slice_set jobs n (Some job'))
  deleted_reading reading = keeps_reading c.live c'.live jobs n job job' reading there behind.reads

  module _ (s : State) (state : IsState d c jobs s) (whole : IsWholeMemory d.size c) (x : SpecVersion)
      (at : file_at s.files place ≡ Some x) (free : claims c.pending place ≡ false)
      (rests : RestsAt d' (files_removed (without_serials s.files) ppn name))
      (readers : KeepsRead d.contents d'.contents c) (writers : KeepsEachWritten d.contents d'.contents c)
      (leaves : OnlyDrops b c') where
    abbrev w : UnderKeys
    w = state.under

    abbrev files' : Files SpecVersion
    files' = without_file s.files place

    -- a version that is being written has another place
    elsewhere : (k : ℕ) (p : PendingVersion) → pending_at c.pending k ≡ Some p → (w.written k).place ≡ place → ⊥
    elsewhere k p here same = unclaimed c.pending k p place free here (sym (state.versions k p here).place ∙ same)

    pub deleted_state : machine_states.IsSound (state_of files' w (slice_set jobs n (Some job')))
        → IsState d' c' (slice_set jobs n (Some job')) (state_of files' w (slice_set jobs n (Some job')))
    deleted_state sound = record {
      files = subst (RestsAt d') (sym (files_left s.files place)) rests;
      serials = distinct_left s.files place x at state.serials;
      under = w;
      versions = λ k p here.
          let was = still_there k p here in
          let written = state.versions k p was in
          writing_stays d d' p (w.written k) written (writers k p was);
      absent = λ k p here new.
          let was = still_there k p here in
          left_elsewhere s.files place (w.written k).place (elsewhere k p was) ∙ state.absent k p was new;
      keyed = deleted_keyed state.keyed;
      read = reads_left d' b c' files' w.read leaves
          (reads_deleted d d' c b s.files w.read ppn name key v puts x state.read whole is at state.serials readers);
      reading = deleted_reading state.reading;
      jobs_are = refl;
      sound = sound;
    }
