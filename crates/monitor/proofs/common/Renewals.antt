-- An input side pins another version of its file.
use Rattle.std.proofs.Common.{◌≡◌, ◌<◌, ℕ, ◌+◌, true, List, [], ◌∷◌, Option, Some, Ok, sym, ap, subst, ◌∙◌, ⊎_elim}
use Rattle.std.proofs.Common.{slice_set, arith}
use Rattle.std.specs.Prelude.{option_to_list}
use Rattle.std.proofs.lemmas.Bool.{cases_lt}
use Rattle.words36.specs.declared.names.FileName.{FileName}
use Rattle.blockdisk.specs.Common.{DiskState}
use Rattle.spec_image.specs.Common.{Files, get, times, SpecVersion, without_serials, file_at, place_of}
use Rattle.spec_machine.specs.Common.{slot, HaveDistinctSerials}
use Rattle.spec_image.proofs.Common.{some_same, some_none}
use Rattle.volume.specs.Common.{as_known, MemoryMap, IsWholeMemory, slot as version_at, IsVersionOf, IsPinAnswer}
use Rattle.volume.specs.Common.{prime_at}
use Rattle.volume.specs.declared.live.LiveVersion.{LiveVersion}
use Rattle.monitor.specs.Common.{named_in, readers_of, ArePinned, AreRead, Renews, KeepsReading, IsReader, UnderKeys}
use Rattle.monitor.specs.Common.{reader_of, readers, pins_of, jobs_of}
use Rattle.monitor.specs.declared.channel.OpenChannel.{OpenChannel}
use Rattle.monitor.specs.declared.input.Input.{Input}
use Rattle.monitor.specs.declared.job.Job.{Job}
use Rattle.monitor.proofs.common.Dropped.{same_or_not}
use Rattle.monitor.proofs.common.Growths.{shown_at}
use Rattle.monitor.proofs.LookupFile.LookupAnswers.{held_version}
use Rattle.monitor.proofs.LookupFile.Calls.{with_version, again_same, unread_same}
use Rattle.monitor.proofs.LookupFile.Lookups.{one_more}
use Rattle.monitor.proofs.common.Copies.{versions_in}
use Rattle.monitor.proofs.common.ReaderLists.{held, held-channel}
use Rattle.monitor.proofs.common.JobReaders.{slot_set, length-slice_set, reads_left}
use Rattle.monitor.proofs.common.ReadsPinned.{with_read, read_again, reads_pinned}
use Rattle.monitor.proofs.common.Dates.{shown_file}

-- the same, with the protection by another name
abbrev pub renews_with : (c c' : MemoryMap) (input renewed : Input) (ppn : ℕ) (file : FileName) (p q : ℕ) → p ≡ q
    → Renews c c' input renewed ppn file p → Renews c c' input renewed ppn file q
renews_with c c' input renewed ppn file p q same is = record {
  held = is.held;
  at = is.at;
  between = is.between;
  holds = is.holds;
  closed = is.closed;
  pending = is.pending;
  renewed_is = is.renewed_is ∙ ap (λ (n : ℕ). record input { pin = is.held.pin; protection = n }) same;
}

module _ (c c' : MemoryMap) (input renewed : Input) (ppn : ℕ) (file : FileName) (protection : ℕ)
    (is : Renews c c' input renewed ppn file protection) where
  -- Memory has what is written, and what it knew of the disk, except for the table.

  pub renewed_pending : c'.pending ≡ c.pending
  renewed_pending = is.pending ∙ ap (λ (x : MemoryMap). x.pending) is.holds.map

  pub renewed_known : c'.known ≡ record c.known { table = c'.known.table }
  renewed_known = is.closed.leaves.known ∙ ap (λ (x : MemoryMap). record x.known { table = c'.known.table })
      is.holds.map

  -- the side's key is that of what is pinned
  key_is : renewed.pin.key ≡ is.held.pin.key
  key_is = ap (λ (i : Input). i.pin.key) is.renewed_is

  -- One reader comes, and one goes.
  pub renewed_once : (k : ℕ) → readers_of (version_at c'.live k) + times k (input.pin.key ∷ [])
      ≡ readers_of (version_at c.live k) + times k (renewed.pin.key ∷ [])
  renewed_once k = is.closed.released k ∙ one_more c is.between is.held is.holds k
      ∙ ap (λ key. readers_of (version_at c.live k) + times k (key ∷ [])) (sym key_is)

  pub renewed_reading : (job : Job) (number : ℕ) (x old : OpenChannel) (core : List ℕ)
      → slot job.channels number ≡ Some old
      → old.input ≡ Some input → x.input ≡ Some renewed
      → KeepsReading c.live c'.live job
      (record job { core = core; channels = slice_set job.channels number (Some x) })
  renewed_reading job number x old core there was now = record {
    once = λ k.
        let once = renewed_once k in
        let moved = held-channel k job.channels number (Some x) (λ none. absurd (some_none (sym there ∙ none))) in
        let before = ap (λ o. held k (option_to_list (reader_of o))) there
        ∙ ap (λ o. held k (option_to_list o)) was in
        let after = ap (λ o. held k (option_to_list o)) now in
        omega arith;
    each = λ readers. record {
      each = λ n y at. same_or_not n number
          (λ same. subst IsReader ((slot_set job.channels number n x y at).0 same)
          (λ i reads. subst (λ (n : ℕ). 0 < n) (ap (λ (z : Input). z.next) (sym is.renewed_is)
          ∙ ap (λ (z : Input). z.next) (some_same (sym now ∙ reads)))
          (readers.each number old there input was)))
          (λ apart. readers.each n y ((slot_set job.channels number n x y at).1 apart));
      sixteen = length-slice_set job.channels number (Some x) ∙ readers.sixteen;
    };
  }

  -- What the machine has under the new key is the version that the file of the place has.

  module _ (d : DiskState) (files : Files SpecVersion) (read : ℕ → SpecVersion) (reads : AreRead d c files read)
      (whole : IsWholeMemory d.size c) (x : SpecVersion) (there : file_at files (place_of ppn file) ≡ Some x) where
    -- memory has it for the place
    at : (v : LiveVersion) × (version_at c.live is.held.pin.key ≡ Some v) × (v.is_current ≡ true)
        × (prime_at c ppn file ≡ Some v.at)
    at = let was = is.holds.at in let owner = sym is.at.0 in let name = sym is.at.1 in
        let place : prime_at c ppn file ≡ prime_at c is.held.ppn is.held.file = λ i. prime_at c (owner i) (name i) in (
          was.0,
          was.1,
          was.2,
          place ∙ was.3,
        )

    pub renewed_jobs : (w : UnderKeys) (jobs : List (Option Job)) → w.read ≡ read
        → ArePinned c.live (pins_of (readers jobs)) → jobs_of (with_version w renewed.pin.key x) jobs ≡ jobs_of w jobs
    renewed_jobs w jobs same pinned = subst (λ key. jobs_of (with_version w key x) jobs ≡ jobs_of w jobs) (sym key_is)
        (⊎_elim
        (λ (some : 0 < at.0.readers). again_same w is.held.pin.key x jobs (ap (λ f. f is.held.pin.key) same
        ∙ read_again d c files read reads whole (place_of ppn file) x there is.held.pin.key at.0 at.1 some at.2 at.3))
        (λ none. unread_same w is.held.pin.key x jobs (let once = pinned is.held.pin.key in
        let here = ap readers_of at.1 in omega arith))
        (cases_lt 0 at.0.readers))

    pub renewed_reads : HaveDistinctSerials (versions_in files)
        → IsPinAnswer d.contents is.between.live file (Ok renewed.pin) (get (without_serials files) ppn)
        → AreRead d c' files (with_read read renewed.pin.key x)
    renewed_reads distinct answer = subst (λ key. AreRead d c' files (with_read read key x)) (sym key_is)
        (reads_left d is.between c' files (with_read read is.held.pin.key x) is.closed.leaves
        (reads_pinned d c files read reads whole (place_of ppn file) x there is.between is.held.pin.key distinct
        is.holds.pinned is.holds.others is.holds.map at value))
      where
        value : (v : LiveVersion) × (version_at is.between.live is.held.pin.key ≡ Some v)
            × IsVersionOf d.contents (as_known v) x.file
        value =
            let found = held_version d.contents is.between.live file renewed.pin (get (without_serials files) ppn)
            x.file answer (ap (λ o. named_in o file) (shown_at files ppn) ∙ shown_file (get files ppn) file x there) in
            (found.0, ap (version_at is.between.live) (sym key_is) ∙ found.1, found.2)
