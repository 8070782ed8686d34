-- What a CLOSE or RELEAS that publishes answers, over services.
use Rattle.std.proofs.Common.{◌≡◌, ℕ, Bool, true, false, List, length, Option, Some, refl, sym, ap, subst, ◌∙◌, ◌⊎◌}
use Rattle.std.proofs.Common.{inl, inr, ⊎_elim, slice_set}
use Rattle.std.specs.List.{AllByRecursion}
use Rattle.std.specs.Prelude.{◌+◌, not, IsSome, option_to_list}
use Rattle.words36.specs.declared.moment.Moment.{Moment}
use Rattle.blockdisk.specs.Common.{DiskState, LeavesOnly, SameDisk, leaves_weaker}
use Rattle.spec_image.specs.Common.{Files, pack_of, StandsOn, SpecVersion, without_serials, with_file, length_after}
use Rattle.spec_machine.specs.Common.{State, slot, cleared, block_too_large, finds_no_place, booked, Service, Serving}
use Rattle.spec_machine.specs.Common.{Broken, Answers, IsFresh, HaveDistinctSerials, is_plain, is_light, IsSound}
use Rattle.spec_machine.specs.Common.{step}
use Rattle.spec_machine.specs.declared.call.Call.{Call}
use Rattle.spec_machine.specs.declared.call.Event.TheVariants.{Call as Calls}
use Rattle.spec_machine.specs.declared.call.Reply.{Reply}
use Rattle.spec_machine.specs.declared.call.Reply.TheVariants.{Done, Value, Refused, Stopped, NoChannel, AddressCheck}
use Rattle.spec_machine.specs.declared.call.Reply.TheVariants.{NoJob, NoMemory, Device, Failed, DateRange}
use Rattle.spec_image.proofs.Common.{some_is}
use Rattle.spec_machine.proofs.Common.{set-slot, sound_step}
use Rattle.volume.specs.Common.{MemoryMap, pending_at, RestsAt, StandsForOneOf}
use Rattle.volume.specs.declared.live.LiveVersion.{LiveVersion}
use Rattle.volume.specs.declared.pending.PendingVersion.{PendingVersion}
use Rattle.monitor.specs.Common.{left_open, IsIdle, last_at, MayPublish, HasPublished, IsPublishing, PublishesBy}
use Rattle.monitor.specs.Common.{FindsNone, AreRead, KeepsSides, KeepsReading, IsSide, AreKeyed, ArePlaced}
use Rattle.monitor.specs.Common.{AreReading, IsState, Serves, UnderKeys, side_of, reader_of, output_of, state_of}
use Rattle.monitor.specs.declared.channel.OpenChannel.{OpenChannel}
use Rattle.monitor.specs.declared.job.Job.{Job}
use Rattle.monitor.specs.declared.output.Output.{Output}
use Rattle.monitor.proofs.common.EventAnswers.{next_serial, is_fresh, state_is, contrary, goes_on, steps_on, same_files}
use Rattle.monitor.proofs.common.CallRows.{keeps_same, keeps_channel, reads_same, reads_channel}
use Rattle.monitor.proofs.common.Dropped.{leaves_none, keeps_keyed}
use Rattle.monitor.proofs.common.KnownState.{known}
use Rattle.monitor.proofs.LookupFile.Lookups.{placed_still}
use Rattle.monitor.proofs.common.Limits.{LimitsAre, limits_are}
use Rattle.monitor.proofs.WriteOut.Serves.{none_found, place_found}
use Rattle.monitor.proofs.common.PlacedVersions.{placed_published}
use Rattle.monitor.proofs.CloseChannel.Publications.{IsBehind}
use Rattle.monitor.proofs.common.Copies.{versions_in}
use Rattle.monitor.proofs.CloseChannel.PublishedRows.{version_with, PublishRows, undecided}
use Rattle.monitor.proofs.CloseChannel.PublishedStates.{published_state, published_are, keyed_published, rests}
use Rattle.monitor.proofs.CloseChannel.PublishedStates.{distinct, reads_between}
use Rattle.monitor.proofs.common.ReaderLists.{held}
use Rattle.monitor.proofs.common.JobReaders.{keeps_reading}
use Rattle.monitor.proofs.common.SideLists.{count, each-side}
use Rattle.volume.specs.Rest as rest

-- a disk and a memory that are what they were
pub same_state : {D : Type 0} (state : D → DiskState) (old new : D) (c c' : MemoryMap) (jobs : List (Option Job))
    (s : State) → (new ≡ old) × (c' ≡ c) → IsState (state old) c jobs s → IsState (state new) c' jobs s
same_state state old new c c' jobs s same was = subst (λ disk. IsState (state disk) c' jobs s) (sym same.0)
    (subst (λ x. IsState (state old) x jobs s) (sym same.1) was)

-- What was published stays so if the disk is left alone after it.
pub publishes_by : {D : Type 0} (state : D → DiskState) (old published new : D) (c b : MemoryMap)
    (failed after failed' : Bool) (channel : OpenChannel) (o : Output) (last : Option (List ℕ)) (reply : Reply)
    → (new ≡ published) × (failed' ≡ after)
    → ((words : List ℕ) → last ≡ Some words → MayPublish (state old) (state published) c b o words)
    → IsPublishing (state old) (state published) c b failed after channel o last reply
    → SameDisk (state old) (state published)
    → PublishesBy (state old) (state new) c b failed failed' channel o last reply
publishes_by state old published new c b failed after failed' channel o last reply same whatever answered same_disk =
    record {
      whatever = λ words found. subst (λ disk. MayPublish (state old) (state disk) c b o words) (sym same.0)
          (whatever words found);
      answered = subst (λ disk. IsPublishing (state old) (state disk) c b failed failed' channel o last reply)
          (sym same.0)
          (subst (λ f. IsPublishing (state old) (state published) c b failed f channel o last reply) (sym same.1)
          answered);
      same = subst (λ disk. SameDisk (state old) (state disk)) (sym same.0) same_disk;
    }

-- A channel that stays open writes and reads what it did.

module _ (job : Job) (number : ℕ) (c : OpenChannel) (is_open : slot job.channels number ≡ Some c) where
  pub left_keeps : (pending : List (Option PendingVersion)) (reply : Reply)
      → KeepsSides pending pending job (left_open job number c reply)
  left_keeps pending (Stopped status) =
      keeps_channel pending job number (Some (record c { status = status }))
      (λ key. ap (λ o. count key (option_to_list (side_of o))) (sym is_open))
      (λ all. subst (λ o. AllByRecursion (IsSide pending) (option_to_list (side_of o))) is_open
      (each-side (IsSide pending) job.channels number all))
  left_keeps pending Done = keeps_same pending job
  left_keeps pending (Value word) = keeps_same pending job
  left_keeps pending (Refused code) = keeps_same pending job
  left_keeps pending NoChannel = keeps_same pending job
  left_keeps pending AddressCheck = keeps_same pending job
  left_keeps pending NoJob = keeps_same pending job
  left_keeps pending NoMemory = keeps_same pending job
  left_keeps pending Device = keeps_same pending job
  left_keeps pending Failed = keeps_same pending job
  left_keeps pending DateRange = keeps_same pending job

  pub left_reads : (live : List (Option LiveVersion)) (reply : Reply)
      → KeepsReading live live job (left_open job number c reply)
  left_reads live (Stopped status) =
      reads_channel live job number (record c { status = status })
      (λ key. ap (λ o. held key (option_to_list (reader_of o))) (sym is_open))
      (λ has i at. has.each number c is_open i at)
  left_reads live Done = reads_same live job
  left_reads live (Value word) = reads_same live job
  left_reads live (Refused code) = reads_same live job
  left_reads live NoChannel = reads_same live job
  left_reads live AddressCheck = reads_same live job
  left_reads live NoJob = reads_same live job
  left_reads live NoMemory = reads_same live job
  left_reads live Device = reads_same live job
  left_reads live Failed = reads_same live job
  left_reads live DateRange = reads_same live job

module _ {d d' : DiskState} {c b : MemoryMap} {failed failed' : Bool} {reply : Reply} (call : Call) (moment : Moment)
    (jobs : List (Option Job)) (n : ℕ) (job : Job) (number : ℕ) (channel : OpenChannel) (o : Output)
    (there : slot jobs n ≡ Some job) (is_open : slot job.channels number ≡ Some channel)
    (rows : PublishRows d call jobs n moment job number channel o)
    (by : PublishesBy d d' c b failed failed' channel o (last_at job.core channel) reply)
    (live : IsSome (pending_at c.pending o.pending.key)) (sound : rest.IsSoundMemory d c failed)
    (alive : failed ≡ false)
    (honest : d'.honest) (s : State) (state : IsState d c jobs s) where
  abbrev key : ℕ
  key = o.pending.key

  abbrev w : UnderKeys
  w = state.under

  -- the state, by what the jobs stand for
  abbrev before : State
  before = state_of s.files w jobs

  -- the files with the version
  abbrev files' : List ℕ → ℕ → Files SpecVersion
  files' last serial = with_file s.files (w.written key).place (version_with (w.written key) o.next last serial)

  abbrev same : s ≡ state_of s.files state.under jobs
  same = state_is s state.under jobs state.jobs_are

  -- Whether the last words find a place.

  books : booked before ≡ c.known.table.booked
  books = subst (λ t. booked t ≡ c.known.table.booked) same
      (known d c jobs s state (subst (rest.IsSoundMemory d c) alive sound) (by.same.was_honest honest)).booked_is

  limits : LimitsAre c before
  limits =
      let sound' = subst (rest.IsSoundMemory d c) alive sound in
      let honest' = by.same.was_honest honest in
      subst (LimitsAre c) same (limits_are d c s (known d c jobs s state sound' honest') sound' honest')

  pub has_place : (last : List ℕ) → ((p : PendingVersion) → pending_at c.pending key ≡ Some p
      → FindsNone d.size c p o (length last) → ⊥)
      → finds_no_place (pack_of d) before (output_of w o) (length last) ≡ false
  has_place last fits = let p = some_is (pending_at c.pending key) live in
      place_found d c before w o p.0 (state.versions key p.0 p.1) books limits (length last) (fits p.0 p.1)

  has_none : (last : List ℕ) → ((p : PendingVersion) → pending_at c.pending key ≡ Some p
      → FindsNone d.size c p o (length last))
      → finds_no_place (pack_of d) before (output_of w o) (length last) ≡ true
  has_none last lacks = let p = some_is (pending_at c.pending key) live in
      none_found d c before w o p.0 (state.versions key p.0 p.1) books limits (length last) (lacks p.0 p.1)

  -- A crash leaves the files from before, or those of the machine's row.

  abbrev Crashes : Type 0
  Crashes = LeavesOnly d d' (λ contents. StandsOn (pack_of d) contents (without_serials s.files)
      ⊎ ((serial : ℕ)
      × StandsOn (pack_of d) contents (without_serials ((step (pack_of d) serial s (Calls n call moment)).1.files))))

  crash_put : (last : List ℕ) → last_at job.core channel ≡ Some last
      → finds_no_place (pack_of d) before (output_of w o) (length last) ≡ false → Crashes
  crash_put last found place =
      let p = some_is (pending_at c.pending key) live in
      let is = state.versions key p.0 p.1 in
      let stepped : (step (pack_of d) 0 s (Calls n call moment)).1.files ≡ files' last 0 =
      subst (λ t. (step (pack_of d) 0 t (Calls n call moment)).1.files ≡ files' last 0) (sym same)
      ((rows.done s.files w 0 last found place).1) in
      leaves_weaker d d' (StandsForOneOf (pack_of d) (without_serials s.files) _) _
      ((by.whatever last found).crash honest (without_serials s.files) state.files p.0 p.1 (w.written key).file.body
      is.words is.body)
      (λ contents. ⊎_elim (λ was. inl was)
      (λ new. inr (
        0,
        subst (StandsOn (pack_of d) contents) (published_are d c jobs s state key o.next last 0 p.0 is
            ∙ ap without_serials (sym stepped)) new,
      )))

  module _ (idle : IsIdle reply → LeavesOnly d d' (λ contents. StandsOn (pack_of d) contents
      (without_serials s.files))) where
    crash_idle : (r : Reply) → reply ≡ r → IsIdle r → Crashes
    crash_idle r is idles = leaves_weaker d d' (λ contents. StandsOn (pack_of d) contents (without_serials s.files)) _
        (idle (subst IsIdle (sym is) idles)) (λ contents was. inl was)

    crash_by : (r : Reply) → reply ≡ r
        → IsPublishing d d' c b failed failed' channel o (last_at job.core channel) r → Crashes
    crash_by Done is answer = crash_put answer.0 answer.1 (has_place answer.0 answer.2.fits)
    crash_by (Stopped status) is answer = crash_idle (Stopped status) is tt
    crash_by AddressCheck is answer = crash_idle AddressCheck is tt
    crash_by NoMemory is answer = crash_idle NoMemory is tt
    crash_by Device is answer = crash_put answer.0 answer.1 (has_place answer.0 answer.2)
    crash_by Failed is answer = absurd (⊎_elim (λ broken. contrary alive broken) (λ never. never honest) answer.0)
    crash_by (Value word) is answer = absurd answer
    crash_by (Refused code) is answer = absurd answer
    crash_by NoChannel is answer = absurd answer
    crash_by NoJob is answer = absurd answer
    crash_by DateRange is answer = absurd answer

    pub crashes_as : Crashes
    crashes_as = crash_by reply refl by.answered

  -- What a call that is done leaves: the machine continues in this state, with whichever serial.
  abbrev pub GoesOn : MemoryMap → Job → List ℕ → ℕ → Type 0
  GoesOn c' job' last serial = (read : ℕ → SpecVersion) × AreRead d' c' (files' last serial) read
      × (step (pack_of d) serial s (Calls n call moment)
      ≡ (Done, state_of (files' last serial) (record w { read = read }) (slice_set jobs n (Some job'))))

  module _ (c' : MemoryMap) (job' : Job) (placed : ArePlaced c)
      (kept : (reply ≡ Done → ⊥) → job' ≡ left_open job number channel reply)
      (behind : reply ≡ Done → IsBehind c b c' job job')
      (goes : reply ≡ Done → (last : List ℕ) → last_at job.core channel ≡ Some last
      → finds_no_place (pack_of d) before (output_of w o) (length last) ≡ false → HasPublished d d' c b o last
      → (serial : ℕ) → IsFresh s serial
      → RestsAt d' (without_serials (files' last serial)) → HaveDistinctSerials (versions_in (files' last serial))
      → AreRead d' b (files' last serial) w.read → GoesOn c' job' last serial)
      (unchanged : IsIdle reply → (js : List (Option Job)) (t : State) → IsState d c js t → IsState d' c' js t) where
    abbrev jobs' : List (Option Job)
    jobs' = slice_set jobs n (Some job')

    plainly : (last : List ℕ) → last_at job.core channel ≡ Some last
        → is_plain ((step (pack_of d) 0 s (Calls n call moment)).0) ≡ false
    plainly last found = ap (λ t. is_plain ((step (pack_of d) 0 t (Calls n call moment)).0)) same
        ∙ undecided rows s.files w last found

    weighs : not (is_light s n call) ≡ true
    weighs = ap (λ t. not (is_light t n call)) same ∙ ap not (rows.heavy s.files w)

    abbrev Leads : Type 0
    Leads = (new : Service) × Serves d' c' failed' jobs' new
        × Answers (pack_of d) (Serving s) (Calls n call moment) reply new

    -- It is done.
    leads_done : reply ≡ Done → (last : List ℕ) → last_at job.core channel ≡ Some last → HasPublished d d' c b o last
        → failed' ≡ false → Leads
    leads_done is last found has serves =
        let serial = next_serial s in
        let fresh = is_fresh s in
        let whatever = by.whatever last found in
        let left = goes is last found (has_place last has.fits) has serial fresh
        (rests d d' c b c' jobs n job job' o last there whatever has (behind is) live honest s state placed serial
        fresh)
        (distinct d d' c b c' jobs n job job' o last there whatever has (behind is) live honest s state placed serial
        fresh)
        (reads_between d d' c b c' jobs n job job' o last there whatever has (behind is) live honest s state placed
        serial fresh sound.whole) in
        let after : State = state_of (files' last serial) (record w { read = left.0 }) jobs' in
        let still = subst (λ (r : Reply × State). IsSound r.1) left.2
        (sound_step (pack_of d) serial s (Calls n call moment) fresh state.sound) in
        let published = published_state d d' c b c' jobs n job job' o last there whatever has (behind is) live
        honest s state placed serial fresh left.0 left.1 still in
        (Serving after, (serves, published), inl (serial, fresh, left.2 ∙ ap (λ (r : Reply). (r, after)) (sym is)))

    -- The last words find no place, and the channel reports it.
    leads_stopped : (status : ℕ) → reply ≡ Stopped status → (last : List ℕ) → last_at job.core channel ≡ Some last
        → status ≡ cleared channel.status + block_too_large → ((p : PendingVersion) → pending_at c.pending key ≡ Some p
        → FindsNone d.size c p o (length last)) → failed' ≡ false → Leads
    leads_stopped status is last found status_is lacks serves =
        let stopped : reply ≡ Stopped (cleared channel.status + block_too_large) = is ∙ ap Stopped status_is in
        let left : job' ≡ left_open job number channel reply = kept (λ e. let wrong = sym is ∙ e in cc) in
        let job_is : job' ≡ left_open job number channel (Stopped (cleared channel.status + block_too_large)) =
        left ∙ ap (left_open job number channel) stopped in
        let after : State = state_of s.files w jobs' in
        goes_on d' c' failed' jobs' (pack_of d) (Calls n call moment) reply s after serves state.sound
        (λ serial. subst (λ t. step (pack_of d) serial t (Calls n call moment) ≡ (reply, after)) (sym same)
        (rows.crowded s.files w serial last found (has_none last lacks)
        ∙ (λ i. (sym stopped i, state_of s.files w (slice_set jobs n (Some (sym job_is i)))))))
        (λ still. unchanged (subst IsIdle (sym is) tt) jobs' after
        (same_files d c c failed jobs jobs'
        (keeps_keyed c.pending c.pending jobs n job job' state.keyed there
        (subst (KeepsSides c.pending c.pending job) (sym left) (left_keeps job number channel is_open c.pending reply)))
        (keeps_reading c.live c.live jobs n job job' state.reading there
        (subst (KeepsReading c.live c.live job) (sym left) (left_reads job number channel is_open c.live reply)))
        (leaves_none c) s state still))

    -- All is as it was.
    stays : (r : Reply) → reply ≡ r → IsIdle r → (r ≡ Done → ⊥) → left_open job number channel r ≡ job
        → IsState d' c' jobs' s
    stays r is idle other left =
        let same_job : job' ≡ job = kept (λ e. other (sym is ∙ e)) ∙ ap (left_open job number channel) is ∙ left in
        let back = ap (λ j. slice_set jobs n (Some j)) same_job ∙ set-slot jobs n job there in
        subst (λ js. IsState d' c' js s) (sym back) (unchanged (subst IsIdle (sym is) idle) jobs s state)

    by_reply : (r : Reply) → reply ≡ r
        → IsPublishing d d' c b failed failed' channel o (last_at job.core channel) r → Leads
    by_reply Done is answer = leads_done is answer.0 answer.1 answer.2 answer.4
    by_reply (Stopped status) is answer = leads_stopped status is answer.0 answer.1 answer.2 answer.3 answer.5
    by_reply AddressCheck is answer = (
      Serving s,
      (answer.2, stays AddressCheck is tt (λ e. cc e) refl),
      inl (steps_on (pack_of d) s (Calls n call moment) reply s
          (λ serial. subst (λ t. step (pack_of d) serial t (Calls n call moment) ≡ (reply, t)) (sym same)
          (rows.unread s.files w serial answer.0 ∙ ap (λ (r : Reply). (r, before)) (sym is)))),
    )
    by_reply NoMemory is answer = (
      Serving s,
      (answer.3, stays NoMemory is tt (λ e. cc e) refl),
      inr (is, refl, plainly answer.0 answer.1, weighs),
    )
    by_reply Device is answer = (Broken, answer.4, (is, plainly answer.0 answer.1, weighs))
    by_reply Failed is answer = absurd (⊎_elim (λ broken. contrary alive broken) (λ never. never honest) answer.0)
    by_reply (Value word) is answer = absurd answer
    by_reply (Refused code) is answer = absurd answer
    by_reply NoChannel is answer = absurd answer
    by_reply NoJob is answer = absurd answer
    by_reply DateRange is answer = absurd answer

    pub published_answered : Leads
    published_answered = by_reply reply refl by.answered

-- If the volume hasn't failed, the sides are those of the versions that are being written and read, and each that is
-- written may be published.
module _ {d d' : DiskState} {c b : MemoryMap} {failed failed' : Bool} {reply : Reply} (c' : MemoryMap)
    (jobs : List (Option Job)) (n : ℕ) (job job' : Job) (number : ℕ) (channel : OpenChannel) (o : Output)
    (there : slot jobs n ≡ Some job) (is_open : slot job.channels number ≡ Some channel) (last : Option (List ℕ))
    (by : PublishesBy d d' c b failed failed' channel o last reply)
    (live : IsSome (pending_at c.pending o.pending.key))
    (kept : (reply ≡ Done → ⊥) → job' ≡ left_open job number channel reply)
    (behind : reply ≡ Done → IsBehind c b c' job job') (unchanged : IsIdle reply → c' ≡ c)
    (keyed : AreKeyed c.pending jobs) (placed : ArePlaced c) (reading : AreReading c.live jobs)
    (serves : failed' ≡ false) where
  abbrev Stand : Type 0
  Stand = AreKeyed c'.pending (slice_set jobs n (Some job')) × ArePlaced c'
      × AreReading c'.live (slice_set jobs n (Some job'))

  -- the channel stays open
  stand_idle : (r : Reply) → reply ≡ r → IsIdle r → (r ≡ Done → ⊥) → Stand
  stand_idle r is idle other =
      let left : job' ≡ left_open job number channel reply = kept (λ e. other (sym is ∙ e)) in
      let same = sym (unchanged (subst IsIdle (sym is) idle)) in (
        subst (λ (x : MemoryMap). AreKeyed x.pending (slice_set jobs n (Some job'))) same
            (keeps_keyed c.pending c.pending jobs n job job' keyed there
            (subst (KeepsSides c.pending c.pending job) (sym left)
            (left_keeps job number channel is_open c.pending reply))),
        subst ArePlaced same placed,
        subst (λ (x : MemoryMap). AreReading x.live (slice_set jobs n (Some job'))) same
            (keeps_reading c.live c.live jobs n job job' reading there
            (subst (KeepsReading c.live c.live job) (sym left) (left_reads job number channel is_open c.live reply))),
      )

  stand_by : (r : Reply) → reply ≡ r → IsPublishing d d' c b failed failed' channel o last r → Stand
  stand_by Done is answer =
      let p = some_is (pending_at c.pending o.pending.key) live in
      let is_behind = behind is in
      let whatever = by.whatever answer.0 answer.1 in (
        keyed_published d d' c b c' jobs n job job' o answer.0 there whatever answer.2 is_behind live keyed,
        placed_still b c' is_behind.pending is_behind.known
            (placed_published d.size c b o.pending.key p.0
            (length_after p.0.version.words o.next (length answer.0)) (answer.2.map p.0 p.1) p.1 answer.2.gone
            whatever.others placed),
        keeps_reading c.live c'.live jobs n job job' reading there is_behind.reads,
      )
  stand_by (Stopped status) is answer = stand_idle (Stopped status) is tt (λ e. cc e)
  stand_by AddressCheck is answer = stand_idle AddressCheck is tt (λ e. cc e)
  stand_by NoMemory is answer = stand_idle NoMemory is tt (λ e. cc e)
  stand_by Device is answer = absurd (contrary serves answer.4)
  stand_by Failed is answer = absurd (contrary serves answer.1)
  stand_by (Value word) is answer = absurd answer
  stand_by (Refused code) is answer = absurd answer
  stand_by NoChannel is answer = absurd answer
  stand_by NoJob is answer = absurd answer
  stand_by DateRange is answer = absurd answer

  pub still_stand : Stand
  still_stand = stand_by reply refl by.answered
