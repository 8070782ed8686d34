-- What readers have pinned, if a file moves: the version that has moved is still read, as the file of its new place
-- with its new protection; and jobs have what they had, since an input side keeps the protection that it found.
use Rattle.std.proofs.Common.{◌≡◌, ◌≢◌, ℕ, ◌<◌, List, map, Option, Some, None, refl, sym, ap, subst, ◌∙◌, ⊎_elim}
use Rattle.std.specs.Prelude.{option_map}
use Rattle.std.proofs.lemmas.Bool.{cases_eq, both_ways}
use Rattle.words36.specs.declared.names.FileName.{FileName}
use Rattle.blockdisk.specs.Common.{DiskState}
use Rattle.spec_image.specs.Common.{Files, Directory, Place, get, SpecVersion, file_at, with_protection, place_of}
use Rattle.spec_image.proofs.Common.{some_same, some_none}
use Rattle.retrieval.specs.Common.{mode_number}
use Rattle.volume.specs.Common.{as_known, MemoryMap, slot, IsWholeMemory, prime_at, KeepsRead}
use Rattle.volume.specs.declared.live.LiveVersion.{LiveVersion}
use Rattle.volume.proofs.common.OnePlace.{one_key, one_place}
use Rattle.monitor.specs.Common.{IsVersionRead, AreRead, UnderKeys, input_of, output_of, jobs_of}
use Rattle.monitor.specs.declared.channel.OpenChannel.{OpenChannel}
use Rattle.monitor.specs.declared.input.Input.{Input}
use Rattle.monitor.specs.declared.job.Job.{Job}
use Rattle.monitor.proofs.LookupFile.Calls.{with_version}
use Rattle.monitor.proofs.RenameFile.MovedCore.{MovesFile}
use Rattle.monitor.proofs.RenameFile.MovedFiles.{moved, moved_here, moved_elsewhere, none_moved}
use Rattle.monitor.proofs.common.ReadsPinned.{words_kept, with_read, with_read_same, with_read_other}
use Rattle.spec_machine.specs.Jobs as machine

-- the version under a key with another protection
abbrev pub protected_under : (ℕ → SpecVersion) → ℕ → ℕ → ℕ → SpecVersion
protected_under read key protection = with_read read key (with_protection (read key) protection)

module _ (read : ℕ → SpecVersion) (key protection : ℕ) where
  under_same : (k : ℕ) → k ≡ key → protected_under read key protection k ≡ with_protection (read k) protection
  under_same k same = with_read_same read key (with_protection (read key) protection) k same
      ∙ ap (λ n. with_protection (read n) protection) (sym same)

  under_other : (k : ℕ) → k ≢ key → protected_under read key protection k ≡ read k
  under_other k apart = with_read_other read key (with_protection (read key) protection) k apart

  -- it has the serial that it had
  serial_kept : (k : ℕ) → (protected_under read key protection k).serial ≡ (read k).serial
  serial_kept k = ⊎_elim
      (λ (same : k ≡ key). ap (λ (v : SpecVersion). v.serial) (under_same k same))
      (λ apart. ap (λ (v : SpecVersion). v.serial) (under_other k apart)) (cases_eq k key)

-- Jobs.

module _ (w : UnderKeys) (key protection : ℕ) where
  abbrev pub with_protected : UnderKeys
  with_protected = with_version w key (with_protection (w.read key) protection)

  -- a side that reads it has the protection that it found
  sides_same : (i : Input) → input_of with_protected i ≡ input_of w i
  sides_same i = ⊎_elim
      (λ (same : i.pin.key ≡ key). ap input_at (under_same w.read key protection i.pin.key same))
      (λ apart. ap input_at (under_other w.read key protection i.pin.key apart)) (cases_eq i.pin.key key)
    where
      input_at : SpecVersion → machine.SpecInput
      input_at v = record {
        place = place_of i.ppn i.file;
        version = with_protection v i.protection;
        next = i.next;
      }

  pub protected_jobs : (jobs : List (Option Job)) → jobs_of with_protected jobs ≡ jobs_of w jobs
  protected_jobs jobs = ap (λ f. map (option_map (job_with f)) jobs) (λ i x. sides_same x i)
    where
      channel_with : (Input → machine.SpecInput) → OpenChannel → machine.Channel
      channel_with f c = record {
        mode = mode_number c.mode;
        input_header = c.input_header;
        output_header = c.output_header;
        status = c.status;
        input = option_map f c.input;
        output = option_map (output_of w) c.output;
      }

      job_with : (Input → machine.SpecInput) → Job → machine.SpecJob
      job_with f job = record {
        ppn = job.ppn;
        core = job.core;
        channels = map (option_map (channel_with f)) job.channels;
      }

-- Versions that are read.

module _ (d d' : DiskState) (c c' : MemoryMap) (files : Files SpecVersion) (read : ℕ → SpecVersion)
    (reads : AreRead d c files read) (whole : IsWholeMemory d.size c) (ppn : ℕ) (name : FileName) (to_ppn : ℕ)
    (to : FileName) (protection : ℕ) (is : MovesFile c c' ppn name to_ppn to protection) (x : SpecVersion)
    (at : file_at files (place_of ppn name) ≡ Some x) (home : Directory SpecVersion)
    (housed : get files to_ppn ≡ Some home)
    (free : place_of to_ppn to ≢ place_of ppn name → file_at files (place_of to_ppn to) ≡ None)
    (keeps : KeepsRead d.contents d'.contents c) where
  abbrev old : Place
  old = place_of ppn name

  abbrev new : Place
  new = place_of to_ppn to

  abbrev key : ℕ
  key = is.key

  abbrev pub files' : Files SpecVersion
  files' = moved files old new protection x at home housed

  abbrev pub read' : ℕ → SpecVersion
  read' = protected_under read key protection

  -- what was under a key
  was_other : (k : ℕ) (v : LiveVersion) → slot c'.live k ≡ Some v → k ≢ key → slot c.live k ≡ Some v
  was_other k v now apart = sym (is.others k apart) ∙ now

  moved_to : (k : ℕ) (v : LiveVersion) → slot c'.live k ≡ Some v → k ≡ key → record is.version { prime = is.prime } ≡ v
  moved_to k v now same = some_same (sym is.here ∙ ap (slot c'.live) (sym same) ∙ now)

  was_read : (k : ℕ) (v : LiveVersion) → slot c'.live k ≡ Some v → (u : LiveVersion) × (slot c.live k ≡ Some u)
      × (u.readers ≡ v.readers) × (u.is_current ≡ v.is_current)
  was_read k v now = ⊎_elim
      (λ (same : k ≡ key). (
        is.version,
        ap (slot c.live) same ∙ is.there,
        ap (λ (z : LiveVersion). z.readers) (moved_to k v now same),
        ap (λ (z : LiveVersion). z.is_current) (moved_to k v now same),
      ))
      (λ apart. (v, was_other k v now apart, refl, refl)) (cases_eq k key)

  -- If the version that moves is read, it is the one of the old place.
  it_is : 0 < is.version.readers → read key ≡ x
  it_is held =
      let was = (reads.each key is.version is.there held).current is.current in
      let same = one_place d.size c whole was.0.ppn ppn was.0.name name is.version.at was.1 is.before in
      some_same (sym was.2 ∙ ap (file_at files) (λ i. record { ppn = same.0 i; name = same.1 i }) ∙ at)

  moved_read : 0 < is.version.readers
      → IsVersionRead d' c' files' (record is.version { prime = is.prime }) (with_protection (read key) protection)
  moved_read held =
      let was = (reads.each key is.version is.there held).version in
      let kept = words_kept d.contents d'.contents (as_known is.version) (read key).file
      (keeps key is.version is.there held) was in
      record {
        version = record {
          protection = is.prime_is.protected;
          mode = ap mode_number is.prime_is.mode ∙ kept.mode;
          time = ap (λ m. m.minute) is.prime_is.moment ∙ kept.time;
          date = ap (λ m. m.date) is.prime_is.moment ∙ kept.date;
          words = kept.words;
          body = kept.body;
        };
        current = λ current. (
          new,
          is.after,
          moved_here files old new protection x at home housed
              ∙ ap (λ v. Some (with_protection v protection)) (sym (it_is held)),
        );
        past = λ ended. absurd (both_ways is.version.is_current ended is.current);
      }

  -- Another version is of another place, or of none.
  other_read : (k : ℕ) (v : LiveVersion) → slot c.live k ≡ Some v → k ≢ key → 0 < v.readers
      → IsVersionRead d' c' files' v (read k)
  other_read k v there apart held =
      let was = reads.each k v there held in
      record {
        version = words_kept d.contents d'.contents (as_known v) (read k).file (keeps k v there held) was.version;
        current = λ current.
            let place = was.current current in
            let not_old : place.0 ≢ old = λ same. apart (one_key d.size c whole k key v is.version there is.there
            current is.current
            (some_same (sym place.1 ∙ ap (λ (q : Place). prime_at c q.ppn q.name) same ∙ is.before))) in
            let not_new : place.0 ≢ new = λ same. some_none (sym place.2 ∙ ap (file_at files) same
            ∙ free (λ back. not_old (same ∙ back))) in (
              place.0,
              is.elsewhere place.0.ppn place.0.name
                  (λ both. not_old (λ i. record { ppn = both.0 i; name = both.1 i }))
                  (λ both. not_new (λ i. record { ppn = both.0 i; name = both.1 i })) ∙ place.1,
              moved_elsewhere files old new protection x at home housed place.0 not_old not_new ∙ place.2,
            );
        past = λ ended. none_moved files old new protection x at home housed free (read k).serial (was.past ended);
      }

  pub reads_moved : AreRead d' c' files' read'
  reads_moved = record {
    each = λ k v now held. ⊎_elim
        (λ (same : k ≡ key).
        let version = moved_to k v now same in
        subst (λ y. IsVersionRead d' c' files' v y) (sym (under_same read key protection k same
        ∙ ap (λ n. with_protection (read n) protection) same))
        (subst (λ z. IsVersionRead d' c' files' z (with_protection (read key) protection)) version
        (moved_read (subst (λ (n : ℕ). 0 < n) (sym (ap (λ (z : LiveVersion). z.readers) version)) held))))
        (λ apart. subst (λ y. IsVersionRead d' c' files' v y) (sym (under_other read key protection k apart))
        (other_read k v (was_other k v now apart) apart held))
        (cases_eq k key);
    unread = λ k v now ended.
        let was = was_read k v now in
        subst (λ (n : ℕ). 0 < n) was.2 (reads.unread k was.0 was.1 (was.3 ∙ ended));
    apart = λ k l u v now now' held held' same.
        let one = was_read k u now in
        let two = was_read l v now' in
        reads.apart k l one.0 two.0 one.1 two.1 (subst (λ (n : ℕ). 0 < n) (sym one.2) held)
        (subst (λ (n : ℕ). 0 < n) (sym two.2) held')
        (sym (serial_kept read key protection k) ∙ same ∙ serial_kept read key protection l);
  }
