-- IN by the job of a number, whatever it is answered with.
use Rattle.std.proofs.Common.{◌≡◌, ℕ, Bool, false, List, Option, None, Some, refl, sym, ap, subst, ◌∙◌, ◌⊎◌, inl, inr}
use Rattle.std.proofs.Common.{slice_set}
use Rattle.std.specs.Prelude.{◌↔◌, IsTrue, length, option_map}
use Rattle.words36.specs.declared.moment.Moment.{Moment}
use Rattle.blockdisk.specs.Common.{Contents, DiskState, MayLeave, LeavesOnly, same_contents, leaves_still}
use Rattle.changeset.specs.Common.{OnlyReads, rest_settles}
use Rattle.spec_image.specs.Common.{File, Files, pack_of, SettledStandsOn, StandsOn, without_serials, HasBody}
use Rattle.spec_machine.specs.Common.{body_read, State, slot, Service, Serving, Broken, Answers, is_plain, step}
use Rattle.spec_machine.specs.declared.call.Call.TheVariants.{In}
use Rattle.spec_machine.specs.declared.call.Event.TheVariants.{Call as Calls}
use Rattle.spec_machine.specs.declared.call.Reply.{Reply}
use Rattle.spec_machine.specs.declared.call.Reply.TheVariants.{Done, Value, Refused, Stopped, NoChannel, AddressCheck}
use Rattle.spec_machine.specs.declared.call.Reply.TheVariants.{NoJob, NoMemory, Device, Failed, DateRange}
use Rattle.spec_machine.proofs.Common.{set-slot}
use Rattle.volume.specs.Common.{as_known, MemoryMap, IsVersionOf, version_under, RestsAt}
use Rattle.retrieval.specs.Common.{VersionState}
use Rattle.monitor.specs.Common.{handle_read, IsIn, IsAtInput, Ingoing, IsRow, IsState, Serves, AreKeyed, AreReading}
use Rattle.monitor.specs.Common.{IsTimely, input_of, output_of, job_of, state_of}
use Rattle.monitor.specs.declared.job.Job.{Job}
use Rattle.monitor.specs.declared.output.Output.{Output}
use Rattle.monitor.proofs.common.EventAnswers.{in_state, state_is, row, goes_on, same_files, contrary}
use Rattle.monitor.proofs.common.Dropped.{leaves_none, job_live, keeps_keyed}
use Rattle.monitor.proofs.WriteOut.Outs.{version_there}
use Rattle.monitor.proofs.ReadIn.Calls.{in_none, in_refused, in_unlisted, row_read, row_ended, row_goes, undecided}
use Rattle.monitor.proofs.common.JobReaders.{job_held, keeps_reading}
use Rattle.monitor.proofs.common.ServedCalls.{row_is}
use Rattle.monitor.proofs.ReadIn.Words.{version_held, in_reads, in_keeps}
use Rattle.monitor.proofs.common.Refusals.{alive_after}

-- A disk that was only read stands for what it stood for.
module _ (d d' : DiskState) (reads : OnlyReads d d') (rests : (f : Files File) → RestsAt d f → RestsAt d' f) where
  contents_are : d'.contents ≡ d.contents
  contents_are = same_contents d.contents d'.contents reads.still.contents

  pub state_read : (map : MemoryMap) (jobs : List (Option Job)) (s : State) → IsState d map jobs s
      → IsState d' map jobs s
  state_read map jobs s state = record {
    files = rests (without_serials s.files) state.files;
    serials = state.serials;
    under = state.under;
    versions = λ key p at. let was = state.versions key p at in record {
      place = was.place;
      protection = was.protection;
      mode = was.mode;
      time = was.time;
      date = was.date;
      words = was.words;
      body = subst (λ c. HasBody c p.version.blocks (state.under.written key).file.body) (sym contents_are) was.body;
    };
    absent = state.absent;
    keyed = state.keyed;
    read = record {
      each = λ key v at some. let was = state.read.each key v at some in record {
        version = subst (λ c. IsVersionOf c (as_known v) (state.under.read key).file) (sym contents_are) was.version;
        current = was.current;
        past = was.past;
      };
      unread = state.read.unread;
      apart = state.read.apart;
    };
    reading = state.reading;
    jobs_are = state.jobs_are;
    sound = state.sound;
  }

  -- a crash leaves what it could have left before
  pub quiet_read : ((c : Contents) → d.left_since d.clock c → MayLeave d c) → (f : Files File) → RestsAt d f
      → LeavesOnly d d' (λ c. StandsOn (pack_of d) c f)
  quiet_read only_now f at = leaves_still d d' (λ c. StandsOn (pack_of d) c f) only_now reads.still
      (λ c left. rest_settles d (λ x. SettledStandsOn (pack_of d) x f) at c left)

module _ (d d' : DiskState) (map : MemoryMap) (failed : Bool) (jobs : List (Option Job)) (n ch a : ℕ)
    (moment : Moment) (serves : failed ≡ false) (timely : IsTimely d moment) (keyed : AreKeyed map.pending jobs)
    (reading : AreReading map.live jobs) where
  module _ (job job' : Job) (there : slot jobs n ≡ Some job) (jobs' : List (Option Job)) (set : jobs'
      ≡ slice_set jobs n (Some job')) where
    module _ (reply : Reply) (is : IsIn d d' map job job' ch a reply) where
      pub in_keyed : AreKeyed map.pending jobs'
      in_keyed = subst (AreKeyed map.pending) (sym set) (keeps_keyed map.pending map.pending jobs n job job' keyed there
          (in_keeps d d' map job job' ch a reply is map.pending))

      pub in_reading : AreReading map.live jobs'
      in_reading = subst (AreReading map.live) (sym set) (keeps_reading map.live map.live jobs n job job' reading there
          (in_reads d d' map job job' ch a reply is map.live))

    -- from the disk and the jobs as they were before to the jobs as they are after
    abbrev Leads : Reply → Type 0
    Leads reply = (old : Service) → Serves d map failed jobs old → (new : Service) × Serves d map failed jobs' new
        × Answers (pack_of d) old (Calls n (In ch a) moment) reply new

    -- a row that needs neither memory nor the disk
    plain : d.honest → (reply : Reply) → IsIn d d' map job job' ch a reply → job' ≡ job → IsRow job job (In ch a) reply
        → Leads reply
    plain before reply is same here =
        row d map map failed jobs jobs' (in_keyed reply is) (in_reading reply is) (leaves_none map) (pack_of d)
        (Calls n (In ch a) moment) reply
        (row_is d map failed jobs n (In ch a) moment serves timely before jobs' job job reply there (set
        ∙ ap (λ j. slice_set jobs n (Some j)) same) here) serves

    module _ (honest : d'.honest) (before : d.honest) where
      -- What a channel reads is on the disk, as the version that it writes or as the one that is pinned for it.
      module _ (at : IsAtInput job ch) (s : State) (state : IsState d map jobs s) where
        abbrev body_of : Option Output → List ℕ
        body_of o = body_read (input_of state.under at.input) (option_map (output_of state.under) o)

        abbrev HasWords : Option Output → Type 0
        HasWords o = (v : VersionState) × (version_under map (handle_read o at.input) ≡ Some v)
            × (length (body_of o) ≡ v.words) × HasBody d.contents v.blocks (body_of o)

        has_words : HasWords at.channel.output
        has_words = by at.channel.output refl
          where
            by : (o : Option Output) → at.channel.output ≡ o → HasWords o
            by None none =
                let held = version_held map.live job ch at.channel at.there at.input at.side
                (job_held map.live jobs n job reading there) in
                let read = state.read.each at.input.pin.key held.0 held.1 held.2 in
                (held.0.version, ap (option_map (λ x. x.version)) held.1, sym read.version.words, read.version.body)
            by (Some o) writes =
                let found = version_there map.pending job ch at.channel at.there o writes
                (job_live map jobs n job keyed there) in
                let written = state.versions o.pending.key found.0 found.1 in
                (found.0.version, ap (option_map (λ x. x.version)) found.1, written.words, written.body)

      -- a call after which the machine continues, with the same files
      goes : (reply : Reply) (is : IsIn d d' map job job' ch a reply) (s : State) (state : IsState d map jobs s)
          → ((serial : ℕ) → step (pack_of d) serial (state_of s.files state.under jobs) (Calls n (In ch a) moment)
          ≡ (reply, state_of s.files state.under jobs'))
          → (new : Service) × Serves d map failed jobs' new
          × Answers (pack_of d) (Serving s) (Calls n (In ch a) moment) reply new
      goes reply is s state steps =
          goes_on d map failed jobs' (pack_of d) (Calls n (In ch a) moment) reply s
          (state_of s.files state.under jobs') serves state.sound
          (λ serial. subst (λ y. step (pack_of d) serial y (Calls n (In ch a) moment)
          ≡ (reply, state_of s.files state.under jobs')) (sym (state_is s state.under jobs state.jobs_are))
          (steps serial))
          (same_files d map map failed jobs jobs' (in_keyed reply is) (in_reading reply is) (leaves_none map) s state)

      pub undecided_in : Ingoing job ch a → (s : State) → IsState d map jobs s
          → is_plain ((step (pack_of d) 0 s (Calls n (In ch a) moment)).0) ≡ false
      undecided_in read s state =
          ap (λ y. is_plain ((step (pack_of d) 0 y (Calls n (In ch a) moment)).0))
          (state_is s state.under jobs state.jobs_are)
          ∙ undecided job ch a read.at.channel read.at.there read.at.input read.at.side read.at.has
          read.asked read.found state.under d jobs n there moment (timely before) 0 s.files

      -- what leaves the service serving
      in_leads : (reply : Reply) → IsIn d d' map job job' ch a reply → (reply ≡ Device → ⊥) → (reply ≡ Failed → ⊥)
          → Leads reply
      in_leads Done is device lies = in_state d map failed jobs (λ old. (new : Service) × Serves d map failed jobs' new
          × Answers (pack_of d) old (Calls n (In ch a) moment) Done new) serves (λ s state.
          let read = is.0 in
          let moves = is.4 in
          let at = read.at in
          let body = body_of at s state at.channel.output in
          let has = has_words at s state in
          goes Done is s state (λ serial.
          row_goes job ch a at.channel at.there at.input at.side at.has read.asked read.found state.under
          d jobs n there moment (timely before) serial s.files job' Done jobs' set
          (row_read job ch a at.channel at.there at.input at.side at.has read.asked read.found state.under
          is.1 is.2 moves.some (moves.many has.0 has.1 body has.2) (moves.words honest has.0 has.1 body has.2 has.3)
          ∙ ap (λ j. (Done, job_of state.under j)) (sym is.3))))
      in_leads (Stopped status) is device lies = in_state d map failed jobs (λ old. (new : Service)
          × Serves d map failed jobs' new × Answers (pack_of d) old (Calls n (In ch a) moment) (Stopped status) new)
          serves (λ s state.
          let read = is.0 in
          let at = read.at in
          let body = body_of at s state at.channel.output in
          let has = has_words at s state in
          let ends = is.3 has.0 has.1 body has.2 in
          goes (Stopped status) is s state (λ serial.
          row_goes job ch a at.channel at.there at.input at.side at.has read.asked read.found state.under
          d jobs n there moment (timely before) serial s.files job' (Stopped status) jobs' set
          (row_ended job ch a at.channel at.there at.input at.side at.has read.asked read.found state.under
          ends.0 ends.1 status is.1
          ∙ ap (λ j. (Stopped status, job_of state.under j)) (sym is.2))))
      in_leads (Refused code) is device lies =
          plain before (Refused code) is is.0 (subst (λ k. IsRow job job (In ch a) (Refused k)) (sym is.1)
          (in_refused job ch a is.2 is.3 is.4))
      in_leads NoChannel is device lies = plain before NoChannel is is.0 (in_none job ch a is.1)
      in_leads AddressCheck is device lies = plain before AddressCheck is is.0
          (in_unlisted job ch a is.1.channel is.1.there is.1.input is.1.side is.1.has is.2)
      in_leads NoMemory is device lies = in_state d map failed jobs (λ old. (new : Service)
          × Serves d map failed jobs' new × Answers (pack_of d) old (Calls n (In ch a) moment) NoMemory new) serves
          (λ s state. (
            Serving s,
            (
              serves,
              subst (λ js. IsState d map js s) (sym (set ∙ ap (λ j. slice_set jobs n (Some j)) is.0
                  ∙ set-slot jobs n job there)) state,
            ),
            inr (refl, refl, undecided_in is.1 s state, refl),
          ))
      in_leads Device is device lies = absurd (device refl)
      in_leads Failed is device lies = absurd (lies refl)
      in_leads (Value word) is device lies = absurd is
      in_leads NoJob is device lies = absurd is
      in_leads DateRange is device lies = absurd is

      -- the disk was only read meanwhile
      module _ (map' : MemoryMap) (failed' : Bool) (core : map' ≡ map) (reads : OnlyReads d d')
          (rests : (f : Files File) → RestsAt d f → RestsAt d' f) where
        abbrev Answered : Reply → Service → Type 0
        Answered reply old = (new : Service) × Serves d' map' failed' jobs' new
            × Answers (pack_of d) old (Calls n (In ch a) moment) reply new

        serves_on : failed' ≡ false → (new : Service) → Serves d map failed jobs' new → Serves d' map' failed' jobs' new
        serves_on alive Broken broken = absurd (contrary serves broken)
        serves_on alive (Serving s) state =
            (alive, subst (λ m. IsState d' m jobs' s) (sym core) (state_read d d' reads rests map jobs' s state.1))

        served : (reply : Reply) → IsIn d d' map job job' ch a reply → IsTrue failed'
            ↔ ((reply ≡ Device) ⊎ (reply ≡ Failed)) → (reply ≡ Device → ⊥) → (reply ≡ Failed → ⊥) → (old : Service)
            → Serves d map failed jobs old → Answered reply old
        served reply is fails device lies old state =
            let led = in_leads reply is device lies old state in
            (led.0, serves_on (alive_after failed' reply fails device lies) led.0 led.1, led.2)

        pub in_answered : (reply : Reply) → IsIn d d' map job job' ch a reply → IsTrue failed'
            ↔ ((reply ≡ Device) ⊎ (reply ≡ Failed)) → (old : Service) → Serves d map failed jobs old
            → Answered reply old
        in_answered Done is fails = served Done is fails (λ e. cc e) (λ e. cc e)
        in_answered (Stopped status) is fails = served (Stopped status) is fails (λ e. cc e) (λ e. cc e)
        in_answered (Refused code) is fails = served (Refused code) is fails (λ e. cc e) (λ e. cc e)
        in_answered NoChannel is fails = served NoChannel is fails (λ e. cc e) (λ e. cc e)
        in_answered AddressCheck is fails = served AddressCheck is fails (λ e. cc e) (λ e. cc e)
        in_answered NoMemory is fails = served NoMemory is fails (λ e. cc e) (λ e. cc e)
        in_answered Device is fails =
            in_state d map failed jobs (Answered Device) serves
            (λ s state. (Broken, fails.1 (inl refl), (refl, undecided_in is.1 s state, refl)))
        in_answered Failed is fails = absurd (is.1 honest)
        in_answered (Value word) is fails = absurd is
        in_answered NoJob is fails = absurd is
        in_answered DateRange is fails = absurd is
