-- LOOKUP is served as the machine serves it.
use Rattle.std.proofs.Common.{◌≡◌, ◌<◌, ◌≤◌, ℕ, ◌+◌, Bool, false, List, [], ◌∷◌, length, Option, None, Some, refl}
use Rattle.std.proofs.Common.{sym, ap, subst, ◌∙◌, ⊎_elim, arith, slice_set}
use Rattle.std.specs.Prelude.{option_map, option_to_list, filter_map, map}
use Rattle.std.proofs.lemmas.Bool.{cases_lt}
use Rattle.words36.specs.declared.moment.Moment.{Moment}
use Rattle.blockdisk.specs.Common.{DiskState}
use Rattle.spec_machine.specs.Common.{after_writes, State, slot, channel_at, with_channel, with_job, place_at}
use Rattle.spec_machine.specs.Common.{with_attributes, size_word, lookup, lookup_answer, lookup_done, looked_up}
use Rattle.spec_machine.specs.Common.{settled, clean, refused_at, Service, Serving, Answers, step, on_channel, of_job}
use Rattle.spec_machine.specs.Common.{last_date}
use Rattle.spec_image.specs.Common.{Place, times, SpecVersion, file_at, with_protection, place_of, pack_of}
use Rattle.spec_machine.specs.declared.call.Call.TheVariants.{Lookup}
use Rattle.spec_machine.specs.declared.call.Event.TheVariants.{Call as Calls}
use Rattle.spec_machine.specs.declared.call.Reply.{Reply}
use Rattle.spec_machine.specs.declared.call.Reply.TheVariants.{Done}
use Rattle.spec_image.proofs.Common.{times_head}
use Rattle.spec_machine.proofs.Common.{filter_map-set}
use Rattle.volume.specs.Common.{MemoryMap, pending_at, IsSoundMemory}
use Rattle.monitor.specs.Common.{IsKnown, looking, IsLookingUp, IsLookedUp, IsLookupRow, readers_of, AreRead}
use Rattle.monitor.specs.Common.{KeepsReading, AreKeyed, AreReading, IsState, Serves, IsTimely, UnderKeys, side_of}
use Rattle.monitor.specs.Common.{sides_in, reader_of, readers_in, readers, input_of, channel_of, job_of, jobs_of}
use Rattle.monitor.specs.Common.{state_of}
use Rattle.monitor.specs.declared.channel.OpenChannel.{OpenChannel}
use Rattle.monitor.specs.declared.input.Input.{Input}
use Rattle.monitor.specs.declared.job.Job.{Job}
use Rattle.monitor.proofs.common.EventAnswers.{state_is, slot_of, job_set, called, goes_on, same_files, settled_with}
use Rattle.monitor.proofs.common.EventAnswers.{in_state, is_done}
use Rattle.monitor.proofs.common.CallRows.{channel_is, channel_set, job_same}
use Rattle.monitor.proofs.common.Dropped.{same_or_not, leaves_none, job_keyed}
use Rattle.monitor.proofs.common.ReaderLists.{held, held-append, held-cons_option}
use Rattle.monitor.proofs.common.JobReaders.{keeps_reading, reads_left}
use Rattle.monitor.proofs.common.Dates.{attributes_in, version_dated}
use Rattle.monitor.proofs.common.ReadsPinned.{with_read, with_read_same, with_read_other, read_again, reads_pinned}
use Rattle.spec_machine.specs.Jobs as machine

-- Another version is read under one key.

abbrev pub with_version : UnderKeys → ℕ → SpecVersion → UnderKeys
with_version w key x = record w { read = with_read w.read key x }

module _ (w : UnderKeys) (key : ℕ) (x : SpecVersion) where
  -- jobs that don't read under it are the same,
  input_same : (i : Input) → held key (i ∷ []) ≡ 0 → input_of (with_version w key x) i ≡ input_of w i
  input_same i none =
      ap (λ (v : SpecVersion). input_at v)
      (with_read_other w.read key x i.pin.key (λ same. let head = times_head key [] in
      let at = subst (λ (k : ℕ). times key (k ∷ []) ≡ 0) same none in absurd (omega arith)))
    where
      input_at : SpecVersion → machine.SpecInput
      input_at v = record {
        place = place_of i.ppn i.file;
        version = with_protection v i.protection;
        next = i.next;
      }

  side_same : (o : Option Input) → held key (option_to_list o) ≡ 0 → option_map (input_of (with_version w key x)) o
      ≡ option_map (input_of w) o
  side_same None none = refl
  side_same (Some i) none = ap Some (input_same i none)

  channels_same : (cs : List (Option OpenChannel)) → held key (filter_map reader_of cs) ≡ 0
      → map (option_map (channel_of (with_version w key x))) cs ≡ map (option_map (channel_of w)) cs
  channels_same [] none = refl
  channels_same (None ∷ cs) none = ap (λ ds. None ∷ ds) (channels_same cs none)
  channels_same (Some c ∷ cs) none =
      let parts = held-cons_option key c.input (filter_map reader_of cs) in
      let here = side_same c.input (omega arith) in
      let rest = channels_same cs (omega arith) in
      λ i. Some (record (channel_of w c) { input = here i }) ∷ rest i

  job_unread : (o : Option Job) → held key (readers_in o) ≡ 0 → option_map (job_of (with_version w key x)) o
      ≡ option_map (job_of w) o
  job_unread None none = refl
  job_unread (Some job) none = let cs = channels_same job.channels none in
      λ i. Some (record (job_of w job) { channels = cs i })

  pub unread_same : (jobs : List (Option Job)) → held key (readers jobs) ≡ 0
      → jobs_of (with_version w key x) jobs ≡ jobs_of w jobs
  unread_same [] none = refl
  unread_same (j ∷ jobs) none =
      let parts = held-append key (readers_in j) (readers jobs) in
      let here = job_unread j (omega arith) in
      let rest = unread_same jobs (omega arith) in
      λ i. here i ∷ rest i

  -- and all are if it was this very version
  pub again_same : (jobs : List (Option Job)) → w.read key ≡ x → jobs_of (with_version w key x) jobs ≡ jobs_of w jobs
  again_same jobs was = ap (λ u. jobs_of u jobs) (λ i. record w { read = λ k. at_key k i })
    where
      at_key : (k : ℕ) → with_read w.read key x k ≡ w.read k
      at_key k = same_or_not k key (λ same. with_read_same w.read key x k same ∙ sym was
          ∙ ap w.read (sym same)) (λ apart. with_read_other w.read key x k apart)

-- An input side is opened.

module _ (d : DiskState) (map between map' : MemoryMap) (jobs jobs' : List (Option Job)) (n : ℕ) (job job' : Job)
    (ch e : ℕ) (moment : Moment) (c : OpenChannel) (input : Input)
    (there : slot jobs n ≡ Some job) (set : jobs' ≡ slice_set jobs n (Some job'))
    (looks : IsLookingUp map between map' job job' ch e c input) (keyed : AreKeyed map'.pending jobs')
    (reading : AreReading map'.live jobs') where
  module _ (sound : IsSoundMemory d map false) (timely : moment.date ≤ last_date (pack_of d).layout) (s : State)
      (state : IsState d map jobs s)
      (known : IsKnown d map s) (found : IsLookedUp d.contents between.live s job job' e input)
      (row : (s : State) → IsKnown d map s → (w : UnderKeys)
      → IsLookupRow s (job_of w job) (job_of w job') (channel_at (job_of w job) ch) e Done) where
    abbrev key : ℕ
    key = input.pin.key

    abbrev w : UnderKeys
    w = with_version state.under key found.version

    abbrev place : Place
    place = place_of input.ppn input.file

    -- the jobs are the same: it was read as this version, or not at all
    jobs_same : jobs_of w jobs ≡ jobs_of state.under jobs
    jobs_same =
        let at = looks.holds.at in
        ⊎_elim
        (λ (some : 0 < at.0.readers). again_same state.under key found.version jobs
        (read_again d map s.files state.under.read state.read sound.whole place found.version found.there
        key at.0 at.1 some at.2 at.3))
        (λ none. unread_same state.under key found.version jobs (let pinned = state.reading.pinned key in
        let here = ap readers_of at.1 in omega arith))
        (cases_lt 0 at.0.readers)

    -- the same state
    abbrev t : State
    t = state_of s.files w jobs

    t_is : s ≡ t
    t_is = state_is s w jobs (state.jobs_are ∙ sym jobs_same)

    answer : lookup_answer t (job_of w job) (channel_of w c) e (place_at (job_of w job) e) ≡ Done
    answer = (subst (λ o. IsLookupRow t (job_of w job) (job_of w job') o e Done)
        (channel_is w job ch (Some c) looks.there) (row t (subst (IsKnown d map) t_is known) w)).0

    -- the new side
    input_is : record { place = place_at (job_of w job) e; version = found.version; next = 1 } ≡ input_of w input
    input_is =
        let p = sym (looks.place w) in
        let v = sym (with_read_same state.under.read key found.version key refl) in
        let q = sym found.protection in
        let x = sym looks.next in
        λ i. record { place = p i; version = with_protection (v i) (q i); next = x i }

    abbrev words : List ℕ
    words = after_writes (with_attributes 2 job.core e found.version.file)
        ((e + 3, size_word (length found.version.file.body)) ∷ [])

    -- the row
    row_is : (serial : ℕ) → step (pack_of d) serial t (Calls n (Lookup ch e) moment) ≡ (Done, state_of s.files w jobs')
    row_is serial =
        called (pack_of d) jobs n (Lookup ch e) moment serial s.files w timely job there
        ∙ ap (λ o. on_channel t o (λ y. of_job t n (lookup (pack_of d) t (job_of w job) ch y e)))
        (channel_is w job ch (Some c) looks.there)
        ∙ ap (of_job t n)
        (ap (λ r. settled r (lookup_done (pack_of d) t (job_of w job) ch (channel_of w c) e (place_at
        (job_of w job) e))
        (refused_at (job_of w job) e)) answer
        ∙ ap (λ o. (Done, looked_up (pack_of d) (job_of w job) ch (channel_of w c) e (place_at (job_of w job) e) o))
        (ap (file_at s.files) (sym (looks.place w)) ∙ found.there)
        ∙ ap (λ core. (
          Done,
          with_channel (record (job_of w job) {
            core = after_writes core ((e + 3, size_word (length found.version.file.body)) ∷ []);
          }) ch (Some (record (clean (channel_of w c)) {
            input = Some (record { place = place_at (job_of w job) e; version = found.version; next = 1 });
          })),
        )) (sym (attributes_in (pack_of d).layout job.core e found.version.file
        (version_dated d s.files state.files place found.version found.there)))
        ∙ ap (λ (y : machine.SpecInput). (
          Done,
          with_channel (record (job_of w job) { core = words }) ch
              (Some (record (clean (channel_of w c)) { input = Some y })),
        )) input_is
        ∙ ap (λ j. (Done, j))
        (channel_set w (record job { core = words }) ch (Some (looking c input))
        ∙ ap (λ core. job_of w (record job {
          core = core;
          channels = slice_set job.channels ch (Some (looking c input));
        })) (sym found.core) ∙ ap (job_of w) (sym looks.job_is)))
        ∙ ap (λ y. (Done, y)) (job_set s.files w jobs n job' ∙ ap (state_of s.files w) (sym set))

    -- what is read after it
    reads : AreRead d map' s.files w.read
    reads =
        reads_left d between map' s.files w.read looks.closed.leaves
        (reads_pinned d map s.files state.under.read state.read sound.whole place found.version found.there
        between key state.serials looks.holds.pinned looks.holds.others looks.holds.map looks.holds.at found.held)

    pub looked_leads : (failed : Bool) → failed ≡ false → map'.pending ≡ map.pending → (new : Service)
        × Serves d map' failed jobs' new × Answers (pack_of d) (Serving s) (Calls n (Lookup ch e) moment) Done new
    looked_leads failed serves pending =
        goes_on d map' failed jobs' (pack_of d) (Calls n (Lookup ch e) moment) Done s
        (state_of s.files w jobs') serves state.sound
        (λ serial. subst (λ y. step (pack_of d) serial y (Calls n (Lookup ch e) moment)
        ≡ (Done, state_of s.files w jobs')) (sym t_is) (row_is serial))
        (λ still. record {
          files = state.files;
          serials = state.serials;
          under = w;
          versions = λ k p at. state.versions k p (sym (ap (λ ps. pending_at ps k) pending) ∙ at);
          absent = λ k p at is_new. state.absent k p (sym (ap (λ ps. pending_at ps k) pending) ∙ at) is_new;
          keyed = keyed;
          read = reads;
          reading = reading;
          jobs_are = refl;
          sound = still;
        })

-- No input side is opened.

module _ (d : DiskState) (map : MemoryMap) (jobs jobs' : List (Option Job)) (n : ℕ) (job job' : Job)
    (ch e : ℕ) (moment : Moment) (reply : Reply)
    (there : slot jobs n ≡ Some job) (set : jobs' ≡ slice_set jobs n (Some job')) (not_done : reply ≡ Done
    → ⊥) (keyed : AreKeyed map.pending jobs') (reading : AreReading map.live jobs') where
  module _ (timely : moment.date ≤ last_date (pack_of d).layout) (s : State) (state : IsState d map jobs s)
      (known : IsKnown d map s)
      (row : (s : State) → IsKnown d map s → (w : UnderKeys)
      → IsLookupRow s (job_of w job) (job_of w job') (channel_at (job_of w job) ch) e reply) where
    abbrev before : State
    before = state_of s.files state.under jobs

    before_is : s ≡ before
    before_is = state_is s state.under jobs state.jobs_are

    -- on the channel
    abbrev row_for : Option machine.Channel → Reply × State
    row_for o = on_channel before o (λ y. of_job before n (lookup (pack_of d) before (job_of state.under job) ch y e))

    by_channel : (o : Option machine.Channel)
        → IsLookupRow before (job_of state.under job) (job_of state.under job') o e reply
        → row_for o ≡ (reply, with_job before n (job_of state.under job'))
    by_channel None is = ap (λ r. (r, before)) (sym is.0)
        ∙ ap (λ y. (reply, y)) (job_same before n (job_of state.under job) (slot_of state.under jobs n (Some job) there)
        ∙ ap (with_job before n) (sym is.1))
    by_channel (Some x) is =
        ap (of_job before n) (ap (λ r. settled r (lookup_done (pack_of d) before (job_of state.under job) ch x e
        (place_at (job_of state.under job) e)) (refused_at (job_of state.under job) e)) is.0
        ∙ settled_with reply _ (refused_at (job_of state.under job) e) not_done
        ∙ ap (λ j. (reply, j)) (sym (is.1 not_done)))

    pub other_leads : (failed : Bool) → failed ≡ false → (new : Service) × Serves d map failed jobs' new
        × Answers (pack_of d) (Serving s) (Calls n (Lookup ch e) moment) reply new
    other_leads failed serves =
        goes_on d map failed jobs' (pack_of d) (Calls n (Lookup ch e) moment) reply s
        (state_of s.files state.under jobs') serves state.sound
        (λ serial. subst (λ y. step (pack_of d) serial y (Calls n (Lookup ch e) moment)
        ≡ (reply, state_of s.files state.under jobs')) (sym before_is)
        (called (pack_of d) jobs n (Lookup ch e) moment serial s.files state.under timely job there
        ∙ by_channel (channel_at (job_of state.under job) ch)
        (row before (subst (IsKnown d map) before_is known) state.under)
        ∙ ap (λ y. (reply, y)) (job_set s.files state.under jobs n job' ∙ ap (state_of s.files state.under) (sym set))))
        (same_files d map map failed jobs jobs' keyed reading (leaves_none map) s state)

-- LOOKUP by the job of a number, whatever it is answered with.

module _ (d d' : DiskState) (map map' : MemoryMap) (jobs jobs' : List (Option Job)) (n : ℕ) (job job' : Job)
    (ch e : ℕ) (moment : Moment) (reply : Reply)
    (there : slot jobs n ≡ Some job) (set : jobs' ≡ slice_set jobs n (Some job')) (keyed : AreKeyed map.pending jobs)
    (reading : AreReading map.live jobs) (pending : map'.pending ≡ map.pending)
    (keeps : KeepsReading map.live map'.live job job')
    (looked : reply ≡ Done → (c : OpenChannel) × (input : Input) × (between : MemoryMap)
    × IsLookingUp map between map' job job' ch e c input × (d'.honest → (s : State) → IsKnown d map s
    → IsLookedUp d.contents between.live s job job' e input))
    (kept : (reply ≡ Done → ⊥) → (map' ≡ map) × (job' ≡ record job { core = job'.core })) where
  -- what is written stays with its output sides
  sides_same : sides_in (Some job') ≡ sides_in (Some job)
  sides_same = ⊎_elim
      (λ is. let l = looked is in ap (λ j. sides_in (Some j)) l.3.job_is
      ∙ filter_map-set side_of job.channels ch (looking l.0 l.1) l.0 l.3.there refl)
      (λ not. ap (λ j. sides_in (Some j)) (kept not).1)
      (is_done reply)

  pub lookup_keyed : AreKeyed map'.pending jobs'
  lookup_keyed = subst (λ ps. AreKeyed ps jobs') (sym pending) (subst (AreKeyed map.pending) (sym set)
      (job_keyed map.pending jobs n (Some job') keyed (sides_same ∙ ap sides_in (sym there))))

  pub lookup_reading : AreReading map'.live jobs'
  lookup_reading = subst (AreReading map'.live) (sym set)
      (keeps_reading map.live map'.live jobs n job job' reading there keeps)

  pub lookup_answered : (failed : Bool) → failed ≡ false → IsSoundMemory d map false → d.honest → d'.honest
      → IsTimely d moment
      → ((s : State) → IsState d map jobs s → IsKnown d map s)
      → ((s : State) → IsKnown d map s → (w : UnderKeys)
      → IsLookupRow s (job_of w job) (job_of w job') (channel_at (job_of w job) ch) e reply)
      → (old : Service) → Serves d map failed jobs old → (new : Service) × Serves d map' failed jobs' new
      × Answers (pack_of d) old (Calls n (Lookup ch e) moment) reply new
  lookup_answered failed serves sound was honest timely known row =
      in_state d map failed jobs (λ old. (new : Service) × Serves d map' failed jobs' new
      × Answers (pack_of d) old (Calls n (Lookup ch e) moment) reply new) serves (λ s state. ⊎_elim
      (λ is. let l = looked is in
      subst (λ r. (new : Service) × Serves d map' failed jobs' new
      × Answers (pack_of d) (Serving s) (Calls n (Lookup ch e) moment) r new) (sym is)
      (looked_leads d map l.2 map' jobs jobs' n job job' ch e moment l.0 l.1 there set l.3 lookup_keyed
      lookup_reading sound (timely was) s state (known s state) (l.4 honest s (known s state))
      (λ x at w. subst (IsLookupRow x (job_of w job) (job_of w job') (channel_at (job_of w job) ch) e) is (row x at w))
      failed serves pending))
      (λ not. let k = kept not in
      subst (λ m. (new : Service) × Serves d m failed jobs' new
      × Answers (pack_of d) (Serving s) (Calls n (Lookup ch e) moment) reply new) (sym k.0)
      (other_leads d map jobs jobs' n job job' ch e moment reply there set not
      (subst (λ m. AreKeyed m.pending jobs') k.0 lookup_keyed) (subst (λ m. AreReading m.live jobs') k.0 lookup_reading)
      (timely was) s state (known s state) row failed serves))
      (is_done reply))
