-- The machine's CLOSE and RELEAS of a channel that publish.
use Rattle.std.proofs.Common.{◌≡◌, ◌≤◌, ℕ, Bool, true, false, List, length, Option, None, Some, refl, sym, ap, ◌∙◌}
use Rattle.std.proofs.Common.{slice_set}
use Rattle.std.specs.Prelude.{◌&&◌, ◌+◌, not, if◌then◌else◌, is_some, option_map}
use Rattle.words36.specs.declared.moment.Moment.{Moment}
use Rattle.blockdisk.specs.Common.{DiskState}
use Rattle.spec_machine.specs.Common.{keeps_output, keeps_input, discards, publishes, close_answer, close_done}
use Rattle.spec_machine.specs.Common.{closes, releases, last_answer, words_or_none, files_closed, files_with}
use Rattle.spec_machine.specs.Common.{output_put, input_closed, channel_closed, core_closed, holding, published}
use Rattle.spec_machine.specs.Common.{State, slot, with_channel, cleared, block_too_large, settled, reports}
use Rattle.spec_machine.specs.Common.{stopped_in, put_on, finds_no_place, is_light, is_plain, publishes_on, step}
use Rattle.spec_machine.specs.Common.{on_channel, of_files, last_date}
use Rattle.spec_image.specs.Common.{Files, Place, SpecVersion, with_file, with_protection, Pack, splice, place_of}
use Rattle.spec_image.specs.Common.{pack_of}
use Rattle.spec_machine.specs.Runs.{channel_of as channel_at_job}
use Rattle.spec_machine.specs.declared.call.Call.{Call}
use Rattle.spec_machine.specs.declared.call.Call.TheVariants.{Close, Releas}
use Rattle.spec_machine.specs.declared.call.Event.TheVariants.{Call as Calls}
use Rattle.spec_machine.specs.declared.call.Reply.{Reply}
use Rattle.spec_machine.specs.declared.call.Reply.TheVariants.{Done, Stopped, AddressCheck}
use Rattle.spec_image.proofs.Common.{some_none}
use Rattle.spec_machine.proofs.Common.{set-slot}
use Rattle.monitor.specs.Common.{both_closed, output_closed, rings_closed, closed_in, left_open, last_at, Writing}
use Rattle.monitor.specs.Common.{UnderKeys, input_of, output_of, channel_of, job_of, jobs_of, state_of}
use Rattle.monitor.specs.declared.channel.OpenChannel.{OpenChannel}
use Rattle.monitor.specs.declared.input.Input.{Input}
use Rattle.monitor.specs.declared.output.Output.{Output}
use Rattle.monitor.specs.declared.job.Job.{Job}
use Rattle.monitor.proofs.common.EventAnswers.{called, slot_of, job_set}
use Rattle.monitor.proofs.common.CallRows.{channel_is, channel_set}
use Rattle.spec_machine.specs.Jobs as machine

-- the version that is published, with these last words at a block and with its serial
abbrev pub version_with : Writing → ℕ → List ℕ → ℕ → SpecVersion
version_with w next last serial =
    record { file = record w.file { body = splice w.file.body next last }; serial = serial }

-- A channel that is closed has no input side, or one that pins what is published.

no_input : (w : UnderKeys) (k p : Bool) (found : Option SpecVersion) (x : Option Input) → (if k then x else None) ≡ None
    → (if not k then None else if p then holding (option_map (input_of w) x) found else option_map (input_of w) x)
    ≡ None
no_input w false p found x none = refl
no_input w true true found None none = refl
no_input w true false found None none = refl
no_input w true p found (Some i) none = absurd (some_none none)

module _ (w : UnderKeys) (c : OpenChannel) (o : Output) (bits : ℕ) (side : c.output ≡ Some o)
    (drops : keeps_output bits ≡ false) (publishes_it : discards bits ≡ false) where
  pub machine_publishes : publishes (channel_of w c) bits ≡ true
  machine_publishes = λ i. is_some (option_map (output_of w) (side i)) && not (drops i) && not (publishes_it i)

  abbrev place : Place
  place = (w.written o.pending.key).place

  module _ (serial : ℕ) (job : Job) where
    pub channel_both : (if keeps_input bits then c.input else None) ≡ None
        → channel_closed serial (job_of w job) (channel_of w c) bits ≡ channel_of w (both_closed c)
    channel_both none = λ i. record (channel_of w (both_closed c)) {
      input = no_input w (keeps_input bits) (publishes (channel_of w c) bits)
          (option_map (published serial) (output_put (job_of w job) (channel_of w c))) c.input none i;
      output = if drops i then option_map (output_of w) c.output else None;
    }

    -- by the words of the last buffer
    answer_by_last : (pack : Pack) (s : State) (last : Option (List ℕ)) → last_at job.core c ≡ last
        → close_answer pack s (job_of w job) (channel_of w c) bits
        ≡ last_answer pack s (channel_of w c) (Some (output_of w o)) last
    answer_by_last pack s last is = λ i. if machine_publishes i
        then last_answer pack s (channel_of w c) (option_map (output_of w) (side i)) (is i) else Done

    module _ (last : List ℕ) (found : last_at job.core c ≡ Some last) where
      abbrev version : SpecVersion
      version = version_with (w.written o.pending.key) o.next last serial

      -- the version that is published
      put_is : option_map (published serial) (output_put (job_of w job) (channel_of w c)) ≡ Some version
      put_is = λ i. option_map (published serial) (put_on (option_map (output_of w) (side i)) (words_or_none (found i)))

      pub files_put : (files : Files SpecVersion) → files_closed serial files (job_of w job) (channel_of w c) bits
          ≡ with_file files place version
      files_put files = λ i. if machine_publishes i
          then files_with files serial (put_on (option_map (output_of w) (side i)) (words_or_none (found i))) else files

      module _ (input renewed : Input) (reads : c.input ≡ Some input) (keeps : keeps_input bits ≡ true)
          (same : renewed ≡ record input { pin = renewed.pin; protection = renewed.protection })
          (protected : renewed.protection ≡ version.file.protection)
          (holds : w.read renewed.pin.key ≡ version) where
        -- the machine's input side is that of the new key
        input_same : record (input_of w input) { version = version } ≡ input_of w renewed
        input_same = λ i. record {
          place = place_of (sym same i).ppn (sym same i).file;
          version = with_protection (sym holds i) (sym protected i);
          next = (sym same i).next;
        }

        held_input : input_closed serial (job_of w job) (channel_of w c) bits ≡ Some (input_of w renewed)
        held_input =
            (λ i. if not (keeps i) then None
            else if machine_publishes i then holding (option_map (input_of w) (reads i)) (put_is i)
            else option_map (input_of w) c.input)
            ∙ ap Some input_same

        pub channel_renewed : channel_closed serial (job_of w job) (channel_of w c) bits
            ≡ channel_of w (output_closed c renewed)
        channel_renewed = λ i. record (channel_of w (output_closed c renewed)) {
          input = held_input i;
          output = if drops i then option_map (output_of w) c.output else None;
        }

-- What a channel that is stopped leaves of its job is what the machine leaves.
pub stopped_is : (w : UnderKeys) (job : Job) (number : ℕ) (c : OpenChannel) (status : ℕ)
    → stopped_in (job_of w job) number (channel_of w c) (Stopped status)
    ≡ job_of w (left_open job number c (Stopped status))
stopped_is w job number c status = channel_set w job number (Some (record c { status = status }))

-- What is known of a call that publishes the side of a channel: its rows, from any state of these jobs.
pub record PublishRows (d : DiskState) (call : Call) (jobs : List (Option Job)) (n : ℕ) (moment : Moment) (job : Job)
    (number : ℕ) (c : OpenChannel) (o : Output) : Type 0 where
  -- the call takes memory, and touches the disk
  pub heavy : (files : Files SpecVersion) (w : UnderKeys) → is_light (state_of files w jobs) n call ≡ false
  -- the last buffer isn't valid
  pub unread : (files : Files SpecVersion) (w : UnderKeys) (serial : ℕ) → last_at job.core c ≡ None
      → step (pack_of d) serial (state_of files w jobs) (Calls n call moment) ≡ (AddressCheck, state_of files w jobs)
  -- its words find no place
  pub crowded : (files : Files SpecVersion) (w : UnderKeys) (serial : ℕ) (last : List ℕ)
      → last_at job.core c ≡ Some last
      → finds_no_place (pack_of d) (state_of files w jobs) (output_of w o) (length last) ≡ true
      → step (pack_of d) serial (state_of files w jobs) (Calls n call moment)
      ≡ (
        Stopped (cleared c.status + block_too_large),
        state_of files w (slice_set jobs n
            (Some (left_open job number c (Stopped (cleared c.status + block_too_large))))),
      )
  -- they find one
  pub done : (files : Files SpecVersion) (w : UnderKeys) (serial : ℕ) (last : List ℕ) → last_at job.core c ≡ Some last
      → finds_no_place (pack_of d) (state_of files w jobs) (output_of w o) (length last) ≡ false
      → ((step (pack_of d) serial (state_of files w jobs) (Calls n call moment)).0 ≡ Done)
      × ((step (pack_of d) serial (state_of files w jobs) (Calls n call moment)).1.files
      ≡ with_file files (w.written o.pending.key).place (version_with (w.written o.pending.key) o.next last serial))

-- it isn't decided before memory and the disk are needed
pub undecided : {d : DiskState} {call : Call} {jobs : List (Option Job)} {n : ℕ} {moment : Moment} {job : Job}
    {number : ℕ} {c : OpenChannel} {o : Output} → PublishRows d call jobs n moment job number c o
    → (files : Files SpecVersion)
    (w : UnderKeys) (last : List ℕ) → last_at job.core c ≡ Some last
    → is_plain ((step (pack_of d) 0 (state_of files w jobs) (Calls n call moment)).0) ≡ false
undecided {d} {call} {jobs} {n} {moment} {job} {number} {c} {o} rows files w last found =
    by (finds_no_place (pack_of d) (state_of files w jobs) (output_of w o) (length last)) refl
  where
    by : (none : Bool) → finds_no_place (pack_of d) (state_of files w jobs) (output_of w o) (length last) ≡ none
        → is_plain ((step (pack_of d) 0 (state_of files w jobs) (Calls n call moment)).0) ≡ false
    by true is = ap (λ (r : Reply × State). is_plain r.0) (rows.crowded files w 0 last found is)
    by false is = ap is_plain ((rows.done files w 0 last found is).0)

-- The events.

module _ (d : DiskState) (jobs : List (Option Job)) (n : ℕ) (moment : Moment)
    (timely : moment.date ≤ last_date (pack_of d).layout)
    (job : Job) (there : slot jobs n ≡ Some job) (number : ℕ) (c : OpenChannel)
    (is_open : slot job.channels number ≡ Some c) (o : Output) (side : c.output ≡ Some o) where
  -- the row of a call that leaves this job if it is done, by its answer
  abbrev row_by : Files SpecVersion → UnderKeys → ℕ → ℕ → machine.SpecJob → Reply → Reply × State
  row_by files w serial bits after answer = of_files (state_of files w jobs) n (settled answer (
    after,
    files_closed serial files (job_of w job) (channel_of w c) bits,
  ) (λ reply. (stopped_in (job_of w job) number (channel_of w c) reply, files)))

  module _ (call : Call) (bits : ℕ) (drops : keeps_output bits ≡ false) (publishes_it : discards bits ≡ false)
      (after : UnderKeys → ℕ → machine.SpecJob)
      (heavy : (files : Files SpecVersion) (w : UnderKeys) → is_light (state_of files w jobs) n call ≡ false)
      (rows : (files : Files SpecVersion) (w : UnderKeys) (serial : ℕ)
      → step (pack_of d) serial (state_of files w jobs) (Calls n call moment)
      ≡ row_by files w serial bits (after w serial)
      (close_answer (pack_of d) (state_of files w jobs) (job_of w job) (channel_of w c) bits)) where
    -- the row, by what the last buffer has
    row_by_last : (files : Files SpecVersion) (w : UnderKeys) (serial : ℕ) (last : Option (List ℕ))
        → last_at job.core c ≡ last → step (pack_of d) serial (state_of files w jobs) (Calls n call moment)
        ≡ row_by files w serial bits (after w serial)
        (last_answer (pack_of d) (state_of files w jobs) (channel_of w c) (Some (output_of w o)) last)
    row_by_last files w serial last is = rows files w serial
        ∙ ap (row_by files w serial bits (after w serial))
        (answer_by_last w c o bits side drops publishes_it serial job (pack_of d) (state_of files w jobs) last is)

    -- and by whether its words find a place
    row_by_place : (files : Files SpecVersion) (w : UnderKeys) (serial : ℕ) (last : List ℕ)
        → last_at job.core c ≡ Some last → (none : Bool)
        → finds_no_place (pack_of d) (state_of files w jobs) (output_of w o) (length last) ≡ none
        → step (pack_of d) serial (state_of files w jobs) (Calls n call moment)
        ≡ row_by files w serial bits (after w serial)
        (if none then reports (channel_of w c) block_too_large else Done)
    row_by_place files w serial last found none is = row_by_last files w serial (Some last) found
        ∙ ap (λ b. row_by files w serial bits (after w serial)
        (if b then reports (channel_of w c) block_too_large else Done)) is

    pub publish_rows : PublishRows d call jobs n moment job number c o
    publish_rows = record {
      heavy = heavy;
      unread = λ files w serial none. row_by_last files w serial None none
          ∙ ap (λ js. (AddressCheck, record { files = files; jobs = js }))
          (set-slot (jobs_of w jobs) n (job_of w job) (slot_of w jobs n (Some job) there));
      crowded = λ files w serial last found none. row_by_place files w serial last found true none
          ∙ ap (λ j. (
            Stopped (cleared c.status + block_too_large),
            machine.with_job (state_of files w jobs) n j,
          )) (stopped_is w job number c (cleared c.status + block_too_large))
          ∙ ap (λ t. (Stopped (cleared c.status + block_too_large), t))
          (job_set files w jobs n (left_open job number c (Stopped (cleared c.status + block_too_large))));
      done = λ files w serial last found place.
          let is = row_by_place files w serial last found false place in (
            ap (λ (r : Reply × State). r.0) is,
            ap (λ (r : Reply × State). r.1.files) is
                ∙ files_put w c o bits side drops publishes_it serial job last found files,
          );
    }

    -- what is done leaves this job
    module _ (files : Files SpecVersion) (w : UnderKeys) (serial : ℕ) (last : List ℕ)
        (found : last_at job.core c ≡ Some last)
        (place : finds_no_place (pack_of d) (state_of files w jobs) (output_of w o) (length last) ≡ false) where
      abbrev files' : Files SpecVersion
      files' = with_file files (w.written o.pending.key).place
          (version_with (w.written o.pending.key) o.next last serial)

      pub row_done : (job' x : Job) → after w serial ≡ job_of w x → job' ≡ x
          → step (pack_of d) serial (state_of files w jobs) (Calls n call moment)
          ≡ (Done, state_of files' w (slice_set jobs n (Some job')))
      row_done job' x is set =
          row_by_place files w serial last found false place
          ∙ (λ i. of_files (state_of files w jobs) n (
            Done,
            (is i, files_put w c o bits side drops publishes_it serial job last found files i),
          ))
          ∙ job_after
        where
          job_after : of_files (state_of files w jobs) n (Done, (job_of w x, files'))
              ≡ (Done, state_of files' w (slice_set jobs n (Some job')))
          job_after = ap (λ t. (Done, record t { files = files' })) (job_set files w jobs n x)
              ∙ ap (λ j. (Done, state_of files' w (slice_set jobs n (Some j)))) (sym set)

  weighs : (files : Files SpecVersion) (w : UnderKeys) (bits : ℕ)
      → not (publishes_on (channel_at_job (slot (jobs_of w jobs) n) number) bits)
      ≡ not (publishes (channel_of w c) bits)
  weighs files w bits =
      ap (λ j. not (publishes_on (channel_at_job j number) bits)) (slot_of w jobs n (Some job) there)
      ∙ ap (λ x. not (publishes_on x bits)) (channel_is w job number (Some c) is_open)

  -- CLOSE

  module _ (bits : ℕ) (drops : keeps_output bits ≡ false) (publishes_it : discards bits ≡ false) where
    abbrev close_after : UnderKeys → ℕ → machine.SpecJob
    close_after w serial = close_done serial (job_of w job) number (channel_of w c) bits

    close_heavy : (files : Files SpecVersion) (w : UnderKeys)
        → is_light (state_of files w jobs) n (Close number bits) ≡ false
    close_heavy files w = weighs files w bits ∙ ap not (machine_publishes w c o bits side drops publishes_it)

    close_row_is : (files : Files SpecVersion) (w : UnderKeys) (serial : ℕ)
        → step (pack_of d) serial (state_of files w jobs) (Calls n (Close number bits) moment)
        ≡ row_by files w serial bits (close_after w serial)
        (close_answer (pack_of d) (state_of files w jobs) (job_of w job) (channel_of w c) bits)
    close_row_is files w serial =
        called (pack_of d) jobs n (Close number bits) moment serial files w timely job there
        ∙ ap (λ x. on_channel (state_of files w jobs) x (λ x. of_files (state_of files w jobs) n
        (closes (pack_of d) serial (state_of files w jobs) (job_of w job) number x bits)))
        (channel_is w job number (Some c) is_open)

    pub close_rows : PublishRows d (Close number bits) jobs n moment job number c o
    close_rows = publish_rows (Close number bits) bits drops publishes_it close_after close_heavy close_row_is

    -- if the channel has become this one
    pub close_step : (files : Files SpecVersion) (w : UnderKeys) (serial : ℕ) (last : List ℕ)
        → last_at job.core c ≡ Some last
        → finds_no_place (pack_of d) (state_of files w jobs) (output_of w o) (length last) ≡ false
        → (x : OpenChannel) (closes_output closes_input : Bool)
        → channel_closed serial (job_of w job) (channel_of w c) bits ≡ channel_of w x
        → core_closed job.core (channel_of w c) bits ≡ rings_closed job.core c closes_output closes_input
        → (job' : Job) → job' ≡ closed_in job number c closes_output closes_input (Some x)
        → step (pack_of d) serial (state_of files w jobs) (Calls n (Close number bits) moment)
        ≡ (
          Done,
          state_of (with_file files (w.written o.pending.key).place
              (version_with (w.written o.pending.key) o.next last serial)) w (slice_set jobs n (Some job')),
        )
    close_step files w serial last found place x closes_output closes_input same marks job' set =
        row_done (Close number bits) bits drops publishes_it close_after close_heavy close_row_is files w serial last
        found place job'
        (closed_in job number c closes_output closes_input (Some x))
        ((λ i. with_channel (record (job_of w job) { core = marks i }) number (Some (same i)))
        ∙ channel_set w (record job { core = rings_closed job.core c closes_output closes_input }) number (Some x)) set

  -- RELEAS

  abbrev release_after : UnderKeys → ℕ → machine.SpecJob
  release_after w serial =
      with_channel (record (job_of w job) { core = core_closed job.core (channel_of w c) 0 }) number None

  release_heavy : (files : Files SpecVersion) (w : UnderKeys)
      → is_light (state_of files w jobs) n (Releas number) ≡ false
  release_heavy files w = weighs files w 0 ∙ ap not (machine_publishes w c o 0 side refl refl)

  release_row_is : (files : Files SpecVersion) (w : UnderKeys) (serial : ℕ)
      → step (pack_of d) serial (state_of files w jobs) (Calls n (Releas number) moment)
      ≡ row_by files w serial 0 (release_after w serial)
      (close_answer (pack_of d) (state_of files w jobs) (job_of w job) (channel_of w c) 0)
  release_row_is files w serial =
      called (pack_of d) jobs n (Releas number) moment serial files w timely job there
      ∙ ap (λ x. on_channel (state_of files w jobs) x (λ x. of_files (state_of files w jobs) n
      (releases (pack_of d) serial (state_of files w jobs) (job_of w job) number x)))
      (channel_is w job number (Some c) is_open)

  pub release_rows : PublishRows d (Releas number) jobs n moment job number c o
  release_rows = publish_rows (Releas number) 0 refl refl release_after release_heavy release_row_is

  pub release_step : (files : Files SpecVersion) (w : UnderKeys) (serial : ℕ) (last : List ℕ)
      → last_at job.core c ≡ Some last
      → finds_no_place (pack_of d) (state_of files w jobs) (output_of w o) (length last) ≡ false
      → (closes_output closes_input : Bool)
      → core_closed job.core (channel_of w c) 0 ≡ rings_closed job.core c closes_output closes_input
      → (job' : Job) → job' ≡ closed_in job number c closes_output closes_input None
      → step (pack_of d) serial (state_of files w jobs) (Calls n (Releas number) moment)
      ≡ (
        Done,
        state_of (with_file files (w.written o.pending.key).place
            (version_with (w.written o.pending.key) o.next last serial)) w (slice_set jobs n (Some job')),
      )
  release_step files w serial last found place closes_output closes_input marks job' set =
      row_done (Releas number) 0 refl refl release_after release_heavy release_row_is files w serial last found place
      job' (closed_in job number c closes_output closes_input None)
      ((λ i. with_channel (record (job_of w job) { core = marks i }) number None)
      ∙ channel_set w (record job { core = rings_closed job.core c closes_output closes_input }) number None) set
