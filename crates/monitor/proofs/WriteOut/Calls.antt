-- OUT by the job of a number is served as the machine serves it.
use Rattle.std.proofs.Common.{◌≡◌, ◌<◌, ◌≤◌, ◌+◌, ℕ, Bool, true, false, if◌then◌else◌, List, length, Option, None}
use Rattle.std.proofs.Common.{Some, refl, sym, ap, subst, ◌∙◌, ◌⊎◌, inl, inr, slice_set}
use Rattle.std.specs.Prelude.{option_map}
use Rattle.words36.specs.declared.moment.Moment.{Moment}
use Rattle.blockdisk.specs.Common.{DiskState}
use Rattle.spec_image.specs.Common.{File, Files, times, SpecVersion, without_serials, file_at, Pack, length_after}
use Rattle.spec_image.specs.Common.{pack_of}
use Rattle.spec_machine.specs.Common.{lacks_header, State, slot, with_channel, with_job, cleared, block_too_large}
use Rattle.spec_machine.specs.Common.{settled, clean, stopped_in, puts, put_answer, found_answer, put_done}
use Rattle.spec_machine.specs.Common.{finds_no_place, Outgoing, put_on, booked, Service, Serving, Answers, is_plain}
use Rattle.spec_machine.specs.Common.{step, on_channel, of_job, last_date}
use Rattle.spec_machine.specs.declared.call.Call.TheVariants.{Out}
use Rattle.spec_machine.specs.declared.call.Event.TheVariants.{Call as Calls}
use Rattle.spec_machine.specs.declared.call.Reply.{Reply}
use Rattle.spec_machine.specs.declared.call.Reply.TheVariants.{Done, Refused, Stopped, NoChannel, AddressCheck}
use Rattle.spec_image.proofs.Common.{some_same, length-splice}
use Rattle.spec_machine.proofs.Common.{none_some}
use Rattle.retrieval.specs.Common.{mode_number}
use Rattle.volume.specs.Common.{MemoryMap, pending_at, is_creation, prime_at, IsSoundMemory, RestsAt, KeepsRead}
use Rattle.volume.specs.declared.pending.PendingVersion.{PendingVersion}
use Rattle.monitor.specs.Common.{Puts, outgoing_at, moved, FindsNone, IsAtOutput, IsRow, AreKeyed, AreReading}
use Rattle.monitor.specs.Common.{IsWriting, IsState, Serves, IsTimely, Writing, UnderKeys, output_of, channel_of}
use Rattle.monitor.specs.Common.{job_of, state_of}
use Rattle.monitor.specs.declared.channel.OpenChannel.{OpenChannel}
use Rattle.monitor.specs.declared.output.Output.{Output}
use Rattle.monitor.specs.declared.job.Job.{Job}
use Rattle.monitor.proofs.common.EventAnswers.{state_is, job_set, called, goes_on, same_files}
use Rattle.monitor.proofs.common.Dropped.{same_or_not, leaves_none}
use Rattle.monitor.proofs.EnterFile.Serves.{with_same, with_other}
use Rattle.monitor.proofs.common.KnownState.{known}
use Rattle.monitor.proofs.common.Limits.{LimitsAre, limits_are}
use Rattle.monitor.proofs.WriteOut.Serves.{none_found, place_found, put_writing, writing_put, state_put}
use Rattle.monitor.proofs.common.ReadStays.{reads_kept}
use Rattle.monitor.proofs.common.CallRows.{channel_is, channel_set, on_row, on_none}
use Rattle.monitor.proofs.common.WrittenStays.{writing_stays}
use Rattle.spec_machine.specs.Jobs as machine
use Rattle.monitor.specs.WriteOut as putting

-- The rows that need neither memory nor the disk.
module _ (job : Job) (ch a : ℕ) where
  pub out_none : slot job.channels ch ≡ None → IsRow job job (Out ch a) NoChannel
  out_none none pack serial s n w moment at = on_none s n w job ch (λ c. of_job s n (puts pack s (job_of w job) ch c a))
      none at

  -- the row of an open channel, by its side and by what it finds
  abbrev by_side : OpenChannel → Pack → State → UnderKeys → Option machine.SpecOutput → Option Outgoing → Reply
      × machine.SpecJob
  by_side c pack s w o found = settled (put_answer pack s (channel_of w c) o found)
      (put_done (job_of w job) ch (channel_of w c) found) (stopped_in (job_of w job) ch (channel_of w c))

  -- of one with an output side, by whether it lacks a ring's header
  abbrev by_header : OpenChannel → Pack → State → UnderKeys → Output → Bool → Option Outgoing → Reply × machine.SpecJob
  by_header c pack s w o lacks found =
      settled (if lacks then Refused 5 else found_answer pack s (channel_of w c) (output_of w o) found)
      (put_done (job_of w job) ch (channel_of w c) found) (stopped_in (job_of w job) ch (channel_of w c))

  pub out_refused : (c : OpenChannel) → slot job.channels ch ≡ Some c
      → (c.output ≡ None) ⊎ (lacks_header (mode_number c.mode) c.output_header ≡ true)
      → IsRow job job (Out ch a) (Refused 5)
  out_refused c there why pack serial s n w moment at =
      on_row s n w job job ch c (Refused 5) (λ x. puts pack s (job_of w job) ch x a) there (by c.output refl why)
    where
      by : (o : Option Output) → c.output ≡ o
          → (c.output ≡ None) ⊎ (lacks_header (mode_number c.mode) c.output_header ≡ true)
          → by_side c pack s w (option_map (output_of w) c.output) (outgoing_at job.core c a)
          ≡ (Refused 5, job_of w job)
      by None is why = ap (λ x. by_side c pack s w (option_map (output_of w) x) (outgoing_at job.core c a)) is
      by (Some o) is (inl none) = absurd (none_some (sym none ∙ is))
      by (Some o) is (inr lacks) =
          ap (λ x. by_side c pack s w (option_map (output_of w) x) (outgoing_at job.core c a)) is
          ∙ ap (λ b. by_header c pack s w o b (outgoing_at job.core c a)) lacks

  module _ (at : IsAtOutput job ch) where
    -- its row by what it finds
    pub row_found : (pack : Pack) (s : State) (w : UnderKeys)
        → puts pack s (job_of w job) ch (channel_of w at.channel) a
        ≡ by_header at.channel pack s w at.output false (outgoing_at job.core at.channel a)
    row_found pack s w =
        ap (λ x. by_side at.channel pack s w (option_map (output_of w) x) (outgoing_at job.core at.channel a)) at.side
        ∙ ap (λ b. by_header at.channel pack s w at.output b (outgoing_at job.core at.channel a)) at.has

    pub out_unlisted : outgoing_at job.core at.channel a ≡ None → IsRow job job (Out ch a) AddressCheck
    out_unlisted none pack serial s n w moment there =
        on_row s n w job job ch at.channel AddressCheck (λ x. puts pack s (job_of w job) ch x a) at.there
        (row_found pack s w ∙ ap (by_header at.channel pack s w at.output false) none)

-- An output side, and words for it.
module _ (d : DiskState) (map : MemoryMap) (jobs : List (Option Job)) (n : ℕ) (job : Job) (there : slot jobs n
    ≡ Some job) (ch a : ℕ) (moment : Moment)
    (timely : moment.date ≤ last_date (pack_of d).layout) (serial : ℕ) (files : Files SpecVersion)
    (w : UnderKeys) (at : IsAtOutput job ch) where
  abbrev t : State
  t = state_of files w jobs

  abbrev row_with : Option Outgoing → Reply × State
  row_with found = of_job t n (by_header job ch a at.channel (pack_of d) t w at.output false found)

  finds : step (pack_of d) serial t (Calls n (Out ch a) moment) ≡ row_with (outgoing_at job.core at.channel a)
  finds =
      called (pack_of d) jobs n (Out ch a) moment serial files w timely job there
      ∙ ap (λ x. on_channel t x (λ y. of_job t n (puts (pack_of d) t (job_of w job) ch y a)))
      (channel_is w job ch (Some at.channel) at.there)
      ∙ ap (of_job t n) (row_found job ch a at (pack_of d) t w)

  abbrev by_place : Outgoing → Bool → Reply × State
  by_place found none = of_job t n (settled (if none then Stopped (cleared at.channel.status + block_too_large)
      else Done) (put_done (job_of w job) ch (channel_of w at.channel) (Some found))
      (stopped_in (job_of w job) ch (channel_of w at.channel)))

  pub row_by_place : (found : Outgoing) → outgoing_at job.core at.channel a ≡ Some found → (none : Bool)
      → finds_no_place (pack_of d) t (output_of w at.output) (length found.words) ≡ none
      → step (pack_of d) serial t (Calls n (Out ch a) moment) ≡ by_place found none
  row_by_place found is none full = finds ∙ ap row_with is ∙ ap (by_place found) full

  -- it isn't decided before memory and the disk are needed
  pub undecided : (outgoing_at job.core at.channel a ≡ None → ⊥)
      → is_plain ((step (pack_of d) serial t (Calls n (Out ch a) moment)).0) ≡ false
  undecided there = ap (λ r. is_plain r.0) finds ∙ by (outgoing_at job.core at.channel a) there
    where
      stops : (none : Bool) (found : Outgoing) → is_plain ((by_place found none).0) ≡ false
      stops true found = refl
      stops false found = refl

      by : (was : Option Outgoing) → (was ≡ None → ⊥) → is_plain ((row_with was).0) ≡ false
      by None some = absurd (some refl)
      by (Some found) some =
          stops (finds_no_place (pack_of d) t (output_of w at.output) (length found.words)) found

-- The words are put.
module _ (d d' : DiskState) (map map' : MemoryMap) (jobs jobs' : List (Option Job)) (n : ℕ) (job : Job)
    (there : slot jobs n ≡ Some job) (ch a : ℕ) (moment : Moment)
    (timely : IsTimely d moment) (out : putting.OutgoingSide job ch a)
    (set : jobs' ≡ slice_set jobs n (Some
    (record job {
      core = out.core;
      channels = slice_set job.channels ch (Some (moved out.at.channel out.at.output (length out.words)));
    })))
    (keyed : AreKeyed map.pending jobs) (keyed' : AreKeyed map'.pending jobs') (sound : IsSoundMemory d map false)
    (honest : d.honest) (later : d'.honest)
    (p : PendingVersion) (at : pending_at map.pending out.at.output.pending.key ≡ Some p)
    (put : Puts d d' map map' out.at.output out.words p)
    (others : (k : ℕ) → (k ≡ out.at.output.pending.key → ⊥) → pending_at map'.pending k ≡ pending_at map.pending k)
    (writers : (k : ℕ) (q : PendingVersion) → (k ≡ out.at.output.pending.key → ⊥) → pending_at map.pending k ≡ Some q
    → (m : ℕ) → 0 < times m q.version.blocks → d'.contents m ≡ d.contents m)
    (rests : (f : Files File) → RestsAt d f → RestsAt d' f) (live : map'.live ≡ map.live) (knows : map'.known
    ≡ record map.known { table = map'.known.table }) (readers : KeepsRead d.contents d'.contents map)
    (reading' : AreReading map'.live jobs') (s : State) (state : IsState d map jobs s) where
  abbrev key : ℕ
  key = out.at.output.pending.key

  abbrev x : Writing
  x = put_writing map.pending jobs n job there ch out.at.channel out.at.there out.at.output out.at.side keyed
      state.under out.words out.core

  abbrev w : UnderKeys
  w = writing_put map.pending jobs n job there ch out.at.channel out.at.there out.at.output out.at.side keyed
      state.under out.words out.core

  s_is : s ≡ state_of s.files state.under jobs
  s_is = state_is s state.under jobs state.jobs_are

  at_key : (k : ℕ) (q : PendingVersion) → pending_at map'.pending k ≡ Some q → k ≡ key
      → q ≡ record p { version = put.version }
  at_key k q is same = some_same (sym is ∙ ap (pending_at map'.pending) same ∙ put.here)

  -- the version that is written, and the others
  this_version : (k : ℕ) (q : PendingVersion) → pending_at map'.pending k ≡ Some q → k ≡ key
      → IsWriting d' q (w.written k)
  this_version k q is same =
      let was = state.versions key p at in
      subst (λ v. IsWriting d' v (w.written k)) (sym (at_key k q is same))
      (subst (IsWriting d' (record p { version = put.version })) (sym (ap w.written same ∙ with_same state.under key x))
      (record {
        place = was.place;
        protection = was.protection;
        mode = was.mode;
        time = was.time;
        date = was.date;
        words = length-splice (state.under.written key).file.body out.at.output.next out.words
            ∙ ap (λ m. length_after m out.at.output.next (length out.words)) was.words ∙ sym put.length_is;
        body = put.body later (state.under.written key).file.body was.words was.body;
      }))

  other_version : (k : ℕ) (q : PendingVersion) → pending_at map'.pending k ≡ Some q → (k ≡ key → ⊥)
      → IsWriting d' q (w.written k)
  other_version k q is apart =
      let before = sym (others k apart) ∙ is in
      let was = state.versions k q before in
      subst (IsWriting d' q) (sym (with_other state.under key x k apart))
      (writing_stays d d' q (state.under.written k) was (writers k q apart before))

  absent_is : (k : ℕ) (q : PendingVersion) → pending_at map'.pending k ≡ Some q → is_creation q ≡ true
      → file_at s.files (w.written k).place ≡ None
  absent_is k q is is_new = same_or_not k key
      (λ same. ap (λ (y : Writing). file_at s.files y.place) (ap w.written same ∙ with_same state.under key x)
      ∙ state.absent key p at (sym (ap is_creation (at_key k q is same)) ∙ is_new))
      (λ apart. ap (λ (y : Writing). file_at s.files y.place) (with_other state.under key x k apart)
      ∙ state.absent k q (sym (others k apart) ∙ is) is_new)

  row_put : (serial : ℕ) → step (pack_of d) serial (state_of s.files state.under jobs) (Calls n (Out ch a) moment)
      ≡ (Done, state_of s.files w jobs')
  row_put serial =
      row_by_place d map jobs n job there ch a moment (timely honest) serial s.files state.under out.at
      (record { words = out.words; core = out.core }) out.found false
      (place_found d map (state_of s.files state.under jobs) state.under out.at.output p (state.versions key p at)
      (subst (λ y. booked y ≡ map.known.table.booked) s_is (known d map jobs s state sound honest).booked_is)
      (subst (LimitsAre map) s_is (limits_are d map s (known d map jobs s state sound honest) sound honest))
      (length out.words) put.fits)
      ∙ ap (λ y. (
        Done,
        with_job (state_of s.files state.under jobs) n
            (with_channel (record (job_of state.under job) { core = out.core }) ch
            (Some (record (clean (channel_of state.under out.at.channel)) {
              output = put_on
                  (option_map (output_of state.under) y) out.words;
            }))),
      )) out.at.side
      ∙ ap (λ y. (Done, y)) (state_put map.pending jobs n job there ch out.at.channel out.at.there out.at.output
      out.at.side keyed state.under out.words out.core s.files jobs' set)

  pub put_leads : (failed' : Bool) → failed' ≡ false → (new : Service) × Serves d' map' failed' jobs' new
      × Answers (pack_of d) (Serving s) (Calls n (Out ch a) moment) Done new
  put_leads failed' serves =
      goes_on d' map' failed' jobs' (pack_of d) (Calls n (Out ch a) moment) Done s
      (state_of s.files w jobs') serves state.sound
      (λ serial. subst (λ y. step (pack_of d) serial y (Calls n (Out ch a) moment) ≡ (Done, state_of s.files w jobs'))
      (sym s_is) (row_put serial))
      (λ still. record {
        files = rests (without_serials s.files) state.files;
        serials = state.serials;
        under = w;
        versions = λ k q is. same_or_not k key (this_version k q is) (other_version k q is);
        absent = absent_is;
        keyed = keyed';
        read = reads_kept d d' map map' state.under.read live readers s.files
            (λ ppn name. ap (λ k. prime_at (record map { known = k }) ppn name) knows) state.read;
        reading = reading';
        jobs_are = refl;
        sound = still;
      })

-- They find no place.
module _ (d : DiskState) (map : MemoryMap) (failed : Bool) (jobs jobs' : List (Option Job)) (n : ℕ) (job : Job)
    (there : slot jobs n ≡ Some job) (ch a : ℕ) (moment : Moment) (timely : IsTimely d moment)
    (out : putting.OutgoingSide job ch a) (status : ℕ) (is : status ≡ cleared out.at.channel.status + block_too_large)
    (set : jobs' ≡ slice_set jobs n
    (Some (record job { channels = slice_set job.channels ch (Some (record out.at.channel { status = status })) })))
    (keyed' : AreKeyed map.pending jobs') (reading' : AreReading map.live jobs') (sound : IsSoundMemory d map false)
    (honest : d.honest)
    (p : PendingVersion) (at : pending_at map.pending out.at.output.pending.key ≡ Some p)
    (none : FindsNone d.size map p out.at.output (length out.words)) (s : State) (state : IsState d map jobs s) where
  before_is : s ≡ state_of s.files state.under jobs
  before_is = state_is s state.under jobs state.jobs_are

  row_stopped : (serial : ℕ) → step (pack_of d) serial (state_of s.files state.under jobs) (Calls n (Out ch a) moment)
      ≡ (Stopped status, state_of s.files state.under jobs')
  row_stopped serial =
      row_by_place d map jobs n job there ch a moment (timely honest) serial s.files state.under out.at
      (record { words = out.words; core = out.core }) out.found true
      (none_found d map (state_of s.files state.under jobs) state.under out.at.output p
      (state.versions out.at.output.pending.key p at) (subst (λ y. booked y ≡ map.known.table.booked) before_is
      (known d map jobs s state sound honest).booked_is)
      (subst (LimitsAre map) before_is (limits_are d map s (known d map jobs s state sound honest) sound honest))
      (length out.words) none)
      ∙ ap (λ m. (
        Stopped m,
        with_job (state_of s.files state.under jobs) n
            (with_channel (job_of state.under job) ch
            (Some (record (channel_of state.under out.at.channel) { status = m }))),
      )) (sym is)
      ∙ ap (λ j. (Stopped status, with_job (state_of s.files state.under jobs) n j))
      (channel_set state.under job ch (Some (record out.at.channel { status = status })))
      ∙ ap (λ y. (Stopped status, y)) (job_set s.files state.under jobs n
      (record job { channels = slice_set job.channels ch (Some (record out.at.channel { status = status })) })
      ∙ ap (state_of s.files state.under) (sym set))

  pub stopped_leads : failed ≡ false → (new : Service) × Serves d map failed jobs' new
      × Answers (pack_of d) (Serving s) (Calls n (Out ch a) moment) (Stopped status) new
  stopped_leads serves =
      goes_on d map failed jobs' (pack_of d) (Calls n (Out ch a) moment) (Stopped status) s
      (state_of s.files state.under jobs') serves state.sound
      (λ serial. subst (λ y. step (pack_of d) serial y (Calls n (Out ch a) moment)
      ≡ (Stopped status, state_of s.files state.under jobs')) (sym before_is) (row_stopped serial))
      (same_files d map map failed jobs jobs' keyed' reading' (leaves_none map) s state)
