-- A job keeps its owner, the length of its core and its sixteen channels through whatever it asks.
use Rattle.std.proofs.Common.{◌≡◌, ⊎_elim, ℕ, ◌+◌, ◌*◌, Bool, true, false, ◌||◌, if◌then◌else◌, List, [], ◌∷◌, ◌++◌}
use Rattle.std.proofs.Common.{length, Option, Some, None, refl, sym, subst, ◌∙◌}
use Rattle.std.specs.Prelude.{nat_lt, nat_le, ◌==◌, ◌&&◌, not, is_some, take, option_map, slice_index, slice_set}
use Rattle.std.proofs.Math.ListN.{length-set}
use Rattle.std.proofs.lemmas.Bool.{eqb-true, eq-eqb}
use Rattle.words36.specs.Common.{left, join}
use Rattle.words36.specs.declared.moment.Moment.{Moment}
use Rattle.spec_image.specs.Common.{insert, remove, Files, Place, SpecVersion, file_at, blocks_of, Pack, files_limited}
use Rattle.spec_machine.specs.Common.{after_writes, with_right, first_free, rings_begin, lies_outside, dealt, joined}
use Rattle.spec_machine.specs.Common.{Channel, SpecJob, State, job_at, channel_at, with_job, with_channel, cleared}
use Rattle.spec_machine.specs.Common.{settled, clean, stopped_in, refused_at, opens, open_answer, open_done}
use Rattle.spec_machine.specs.Common.{core_opened, channel_opened, header_opened, mode_at, output_header_at}
use Rattle.spec_machine.specs.Common.{input_header_at, ring_answer, ring_made, core_or, lookup_answer, lookup_done}
use Rattle.spec_machine.specs.Common.{looked_up, place_at, digit_at, with_attributes, size_word, enter_answer}
use Rattle.spec_machine.specs.Common.{enter_done, output_opened, input_updating, in_answer, in_done, core_filled}
use Rattle.spec_machine.specs.Common.{buffer_filled, words_ahead, words_moved, moved_on, ring_in, areas_at}
use Rattle.spec_machine.specs.Common.{useti_answer, useti_done, Outgoing, out_answer, outgoing, put_on, put_done}
use Rattle.spec_machine.specs.Common.{out_done, useto_answer, useto_done, ring_out, dump_list, close_answer}
use Rattle.spec_machine.specs.Common.{close_done, files_closed, core_closed, channel_closed, discards, header_closed}
use Rattle.spec_machine.specs.Common.{keeps_output, keeps_input, rename_answer, rename_done, files_renamed}
use Rattle.spec_machine.specs.Common.{make_answer, remove_answer, owner_at, directory_made, limit_answer, quota_at}
use Rattle.spec_machine.specs.Common.{setup, setup_writes, is_buffered, with_ring, kept_if, in_ready, in_is_good}
use Rattle.spec_machine.specs.Common.{out_ready, out_is_good, byte_size, buffers_of, base, buffer_words, current}
use Rattle.spec_machine.specs.Common.{in_writes, out_writes, data_words, deposit_answer, deposit_done, examine_answer}
use Rattle.spec_machine.specs.Common.{resets, step, last_date, on_job, on_channel, of_job, of_files, call_of, deposit}
use Rattle.spec_machine.specs.Common.{job_of, Answers, Serving}
use Rattle.spec_language.specs.Transcripts.{core_words}
use Rattle.spec_machine.specs.declared.area.Area.{Area}
use Rattle.spec_language.specs.Copies.{IsJobReady, asks_for_login}
use Rattle.spec_machine.specs.declared.call.Call.{Call}
use Rattle.spec_machine.specs.declared.call.Call.TheVariants.{Open, Inbuf, Outbuf, Lookup, Enter, Rename, In, Out}
use Rattle.spec_machine.specs.declared.call.Call.TheVariants.{Useti, Useto, Close, Releas, Getsts, Reset, MakeDir}
use Rattle.spec_machine.specs.declared.call.Call.TheVariants.{DeleteDir, Quota}
use Rattle.spec_machine.specs.declared.call.Event.{Event}
use Rattle.spec_machine.specs.declared.call.Event.TheVariants.{Login, Deposit, Examine, Call as Calls}
use Rattle.spec_machine.specs.declared.call.Reply.{Reply}
use Rattle.spec_machine.specs.declared.call.Reply.TheVariants.{Done, Value, Refused, Stopped, NoChannel, AddressCheck}
use Rattle.spec_machine.specs.declared.call.Reply.TheVariants.{NoJob, NoMemory, Device, Failed, DateRange}
use Rattle.spec_machine.proofs.Common.{settled_by, stopped_by, slot-set_same, spares_step, writes_length}
use Rattle.spec_language.proofs.OpenRuns.{attributing}

-- How long a core is that writes, a ring or a call leave.

abbrev Long : ℕ → Option (List ℕ) → Type 0
Long n None = Unit {0}
Long n (Some core) = length core ≡ n

setup_long : (core : List ℕ) (header size n : ℕ) → Long (length core) (setup core header size n)
unfolding setup
setup_long core header size n = by (lies_outside core (base core) (n * buffer_words) || lies_outside core header 3)
  where
    by : (b : Bool)
        → Long (length core) (if b then None else Some (after_writes core (setup_writes core header size n)))
    by true = tt
    by false = writes_length core (setup_writes core header size n)

ring_long : (core : List ℕ) (header size : ℕ) → Long (length core) (with_ring core header size)
ring_long core header size = by (current core header == 0) (lies_outside core header 3)
  where
    by : (b c : Bool) → Long (length core) (if b then setup core header size 2 else if c then None else Some core)
    by true c = setup_long core header size 2
    by false true = tt
    by false false = refl

kept_long : (n : ℕ) (test : List ℕ → Bool) (o : Option (List ℕ)) → Long n o → Long n (kept_if test o)
kept_long n test None h = tt
kept_long n test (Some core) h = by (test core)
  where
    by : (b : Bool) → Long n (if b then Some core else None)
    by true = h
    by false = tt

in_long : (core : List ℕ) (header size : ℕ) → Long (length core) (in_ready core header size)
unfolding in_ready
in_long core header size = kept_long (length core) (in_is_good header) (with_ring core header size)
    (ring_long core header size)

out_long : (core : List ℕ) (header size : ℕ) → Long (length core) (out_ready core header size)
unfolding out_ready
out_long core header size = kept_long (length core) (out_is_good header) (with_ring core header size)
    (ring_long core header size)

core_or_long : (core : List ℕ) (o : Option (List ℕ)) → Long (length core) o → length (core_or core o) ≡ length core
core_or_long core None h = refl
core_or_long core (Some after) h = h

-- Jobs that are alike.
pub record Alike (job j : SpecJob) : Type 0 where
  pub owner : j.ppn ≡ job.ppn
  pub core : length j.core ≡ length job.core
  pub channels : length job.channels ≡ 16 → length j.channels ≡ 16

itself : (job : SpecJob) → Alike job job
itself job = record { owner = refl; core = refl; channels = λ e. e }

alike_with : (job : SpecJob) (core : List ℕ) (ch : ℕ) (c : Option Channel) → length core ≡ length job.core
    → Alike job (with_channel (record job { core = core }) ch c)
alike_with job core ch c e = record {
  owner = refl;
  core = e;
  channels = λ all. length-set job.channels ch c ∙ all;
}

alike_core : (job : SpecJob) (core : List ℕ) → length core ≡ length job.core → Alike job (record job { core = core })
alike_core job core e = record { owner = refl; core = e; channels = λ all. all }

refused_job : (job : SpecJob) (e : ℕ) (r : Reply) → Alike job (refused_at job e r)
refused_job job e Done = itself job
refused_job job e (Value w) = itself job
refused_job job e (Refused code) = alike_core job (with_right job.core (e + 1) code) (length-set job.core (e + 1) _)
refused_job job e (Stopped w) = itself job
refused_job job e NoChannel = itself job
refused_job job e AddressCheck = itself job
refused_job job e NoJob = itself job
refused_job job e NoMemory = itself job
refused_job job e Device = itself job
refused_job job e Failed = itself job
refused_job job e DateRange = itself job

module _ (pack : Pack) (serial : ℕ) (s : State) (n : ℕ) (job : SpecJob) (there : job_at s n ≡ Some job) where
  abbrev Keeps : State → Type 0
  Keeps t = (j : SpecJob) × (job_at t n ≡ Some j) × Alike job j

  stays : Keeps s
  stays = (job, there, itself job)

  by_record : (files : Files SpecVersion) (j : SpecJob) → Alike job j
      → Keeps (record s { files = files; jobs = slice_set s.jobs n (Some j) })
  by_record files j alike = (j, slot-set_same s.jobs n j job there, alike)

  by_row : (reply : Reply) (done : SpecJob) (other : Reply → SpecJob) → Alike job done
      → ((r : Reply) → Alike job (other r))
      → Keeps (of_job s n (settled reply done other)).1
  by_row reply done other d o = settled_by (λ r. Keeps (of_job s n r).1) reply done other
      (λ is. by_record s.files done d) (λ differs. by_record s.files (other reply) (o reply))

  by_files : (reply : Reply) (done : SpecJob) (files : Files SpecVersion) (other : Reply → SpecJob) → Alike job done
      → ((r : Reply) → Alike job (other r))
      → Keeps (of_files s n (settled reply (done, files) (λ r. (other r, s.files)))).1
  by_files reply done files other d o =
      settled_by {A = SpecJob × Files SpecVersion} (λ r. Keeps (of_files s n r).1) reply (done, files)
      (λ r. (other r, s.files))
      (λ is. by_record files done d) (λ differs. by_record s.files (other reply) (o reply))

  stopped_alike : (ch : ℕ) (c : Channel) (r : Reply) → Alike job (stopped_in job ch c r)
  stopped_alike ch c r = stopped_by (Alike job) job ch c r (itself job)
      (λ status. alike_with job job.core ch (Some (record c { status = status })) refl)

  refused_alike : (e : ℕ) (r : Reply) → Alike job (refused_at job e r)
  refused_alike = refused_job job

  found_alike : (ch e : ℕ) (c : Channel) (place : Place) (found : Option SpecVersion)
      → Alike job (looked_up pack job ch c e place found)
  found_alike ch e c place None = itself job
  found_alike ch e c place (Some v) = alike_with job
      (after_writes (with_attributes pack.layout job.core e v.file) ((e + 3, size_word (length v.file.body)) ∷ [])) ch
      (Some (record (clean c) { input = Some (record { place = place; version = v; next = 1 }) }))
      (writes_length (with_attributes pack.layout job.core e v.file) ((e + 3, size_word (length v.file.body)) ∷ [])
      ∙ writes_length job.core (attributing pack job.core e v.file))

  entered_alike : (ch : ℕ) (c : Channel) (e : ℕ) (moment : Moment)
      → Alike job (enter_done pack s job ch c e moment (place_at job e))
  entered_alike ch c e moment =
      let place = place_at job e in
      let o = output_opened job c e moment place (digit_at s job place) c.input (file_at s.files place) in
      alike_with job (with_attributes pack.layout job.core e o.pending) ch
      (Some (record (clean c) { input = input_updating c.input (file_at s.files place); output = Some o }))
      (writes_length job.core (attributing pack job.core e o.pending))

  buffer_long : (c : Channel) (words : List ℕ) (o : Option (List ℕ)) → Long (length job.core) o
      → length (buffer_filled job.core c o words) ≡ length job.core
  buffer_long c words None h = refl
  buffer_long c words (Some ready) h = writes_length ready (in_writes ready c.input_header (byte_size c.mode)
      (cleared c.status) (take data_words words)) ∙ h

  filled_long : (c : Channel) (a : ℕ) (words : List ℕ) → length (core_filled job c a words) ≡ length job.core
  filled_long c a words = by (is_buffered c.mode)
    where
      by : (b : Bool) → length (if b then buffer_filled job.core c (ring_in job c) words
          else after_writes job.core (dealt (areas_at job a) words)) ≡ length job.core
      by true = buffer_long c words (ring_in job c) (in_long job.core c.input_header (byte_size c.mode))
      by false = writes_length job.core (dealt (areas_at job a) words)

  out_alike : (ch a : ℕ) (c : Channel) → Alike job (out_done job ch c a)
  out_alike ch a c = put (outgoing job c a) (sent (is_buffered c.mode))
    where
      LongOut : Option Outgoing → Type 0
      LongOut None = Unit {0}
      LongOut (Some f) = length f.core ≡ length job.core

      ring_sent : (o : Option (List ℕ)) → Long (length job.core) o → LongOut (option_map (ring_out c) o)
      ring_sent None h = tt
      ring_sent (Some ready) h = writes_length ready (out_writes ready c.output_header (byte_size c.mode)) ∙ h

      list_sent : (o : Option (List Area))
          → LongOut (option_map (λ areas. record { words = joined job.core areas; core = job.core }) o)
      list_sent None = tt
      list_sent (Some areas) = refl

      sent : (b : Bool) → LongOut (if b
          then option_map (ring_out c) (out_ready job.core c.output_header (byte_size c.mode))
          else option_map (λ areas. record { words = joined job.core areas; core = job.core }) (dump_list job.core a))
      sent true = ring_sent (out_ready job.core c.output_header (byte_size c.mode))
          (out_long job.core c.output_header (byte_size c.mode))
      sent false = list_sent (dump_list job.core a)

      put : (found : Option Outgoing) → LongOut found → Alike job (put_done job ch c found)
      put None h = itself job
      put (Some f) h = alike_with job f.core ch (Some (record (clean c) { output = put_on c.output f.words })) h

  closed_long : (c : Channel) (bits : ℕ) → length (core_closed job.core c bits) ≡ length job.core
  closed_long c bits = by (not (is_buffered c.mode) || discards bits)
    where
      ws : List (ℕ × ℕ)
      ws = header_closed job.core c.output_header (is_some c.output && not (keeps_output bits))
          ++ header_closed job.core c.input_header (is_some c.input && not (keeps_input bits))

      by : (b : Bool) → length (if b then job.core else after_writes job.core ws) ≡ length job.core
      by true = refl
      by false = writes_length job.core ws

  open_keeps : (ch a : ℕ) (b : Bool) → Keeps (if b then of_job s n (opens job ch a) else (NoChannel, s)).1
  open_keeps ch a true = by_row (open_answer job ch a) (open_done job ch a) (λ r. job)
      (alike_with job (core_opened job.core a) ch (Some (channel_opened job.core a)) (opened (is_buffered
      (mode_at job.core a)))) (λ r. itself job)
    where
      ws : List (ℕ × ℕ)
      ws = header_opened (mode_at job.core a) (output_header_at job.core a)
          ++ header_opened (mode_at job.core a) (input_header_at job.core a)

      opened : (b : Bool) → length (if b then after_writes job.core ws else job.core) ≡ length job.core
      opened true = writes_length job.core ws
      opened false = refl
  open_keeps ch a false = stays

  ring_keeps : (ch k header : ℕ) (c : Channel) → Keeps (of_job s n (settled (ring_answer job c header k)
      (with_channel (record job { core = core_or job.core (ring_made job c header k) }) ch (Some (clean c)))
      (λ r. job))).1
  ring_keeps ch k header c = by_row (ring_answer job c header k)
      (with_channel (record job { core = core_or job.core (ring_made job c header k) }) ch (Some (clean c))) (λ r. job)
      (alike_with job (core_or job.core (ring_made job c header k)) ch (Some (clean c))
      (core_or_long job.core (ring_made job c header k) (setup_long job.core header (byte_size c.mode) (buffers_of k))))
      (λ r. itself job)

  on_channel_keeps : (row : Channel → Reply × State) (o : Option Channel) → ((c : Channel) → Keeps (row c).1)
      → Keeps (on_channel s o row).1
  on_channel_keeps row None h = stays
  on_channel_keeps row (Some c) h = h c

  call_keeps : (call : Call) (moment : Moment) → Keeps (call_of pack serial s n job call moment).1
  call_keeps (Open ch a) moment = open_keeps ch a (nat_le ch 15)
  call_keeps (Inbuf ch k) moment = on_channel_keeps _ (channel_at job ch) (λ c. ring_keeps ch k c.input_header c)
  call_keeps (Outbuf ch k) moment = on_channel_keeps _ (channel_at job ch) (λ c. ring_keeps ch k c.output_header c)
  call_keeps (Lookup ch e) moment = on_channel_keeps _ (channel_at job ch) (λ c.
      by_row (lookup_answer s job c e (place_at job e)) (lookup_done pack s job ch c e (place_at job e))
      (refused_at job e)
      (found_alike ch e c (place_at job e) (file_at s.files (place_at job e))) (refused_alike e))
  call_keeps (Enter ch e) moment = on_channel_keeps _ (channel_at job ch) (λ c.
      by_row (enter_answer pack s job c e (place_at job e)) (enter_done pack s job ch c e moment (place_at job e))
      (refused_at job e) (entered_alike ch c e moment) (refused_alike e))
  call_keeps (Rename ch e) moment = on_channel_keeps _ (channel_at job ch) (λ c.
      by_files (rename_answer pack s job c e) (rename_done job ch c) (files_renamed s.files job e c.input)
      (refused_at job e) (alike_with job job.core ch (Some (record (clean c) { input = None })) refl) (refused_alike e))
  call_keeps (In ch a) moment = on_channel_keeps _ (channel_at job ch) (λ c.
      by_row (in_answer job c a) (in_done job ch c a) (stopped_in job ch c)
      (alike_with job (core_filled job c a (words_ahead c.input c.output)) ch
      (Some (record (clean c) { input = moved_on c.input (blocks_of (words_moved job c a)) }))
      (filled_long c a (words_ahead c.input c.output))) (stopped_alike ch c))
  call_keeps (Out ch a) moment = on_channel_keeps _ (channel_at job ch) (λ c.
      by_row (out_answer pack s job c a) (out_done job ch c a) (stopped_in job ch c) (out_alike ch a c)
      (stopped_alike ch c))
  call_keeps (Useti ch k) moment = on_channel_keeps _ (channel_at job ch) (λ c.
      by_row (useti_answer c k) (with_channel job ch (Some (useti_done c k))) (stopped_in job ch c)
      (alike_with job job.core ch (Some (useti_done c k)) refl) (stopped_alike ch c))
  call_keeps (Useto ch k) moment = on_channel_keeps _ (channel_at job ch) (λ c.
      by_row (useto_answer c k) (with_channel job ch (Some (useto_done c k))) (stopped_in job ch c)
      (alike_with job job.core ch (Some (useto_done c k)) refl) (stopped_alike ch c))
  call_keeps (Close ch bits) moment = on_channel_keeps _ (channel_at job ch) (λ c.
      by_files (close_answer pack s job c bits) (close_done serial job ch c bits)
      (files_closed serial s.files job c bits)
      (stopped_in job ch c)
      (alike_with job (core_closed job.core c bits) ch (Some (channel_closed serial job c bits)) (closed_long c bits))
      (stopped_alike ch c))
  call_keeps (Releas ch) moment = on_channel_keeps _ (channel_at job ch) (λ c.
      by_files (close_answer pack s job c 0) (with_channel (record job { core = core_closed job.core c 0 }) ch None)
      (files_closed serial s.files job c 0) (stopped_in job ch c)
      (alike_with job (core_closed job.core c 0) ch None (closed_long c 0)) (stopped_alike ch c))
  call_keeps (Getsts ch) moment = on_channel_keeps _ (channel_at job ch) (λ c. stays)
  call_keeps Reset moment = by_record s.files (resets job).1 (record {
    owner = refl;
    core = length-set job.core first_free (join (left (slice_index job.core first_free)) rings_begin);
    channels = λ all. refl;
  })
  call_keeps (MakeDir e) moment =
      by_files (make_answer pack s job e (owner_at job e)) job (insert s.files (owner_at job e) (directory_made job e))
      (refused_at job e) (itself job) (refused_alike e)
  call_keeps (DeleteDir e) moment =
      by_files (remove_answer s job e (owner_at job e)) job (remove s.files (owner_at job e)) (refused_at job e)
      (itself job) (refused_alike e)
  call_keeps (Quota e) moment =
      by_files (limit_answer pack s job e (owner_at job e)) job
      (files_limited s.files (owner_at job e) (quota_at job e)) (refused_at job e) (itself job) (refused_alike e)

-- Job 1 stays ready.

keeps_ready : (me : ℕ) (t : State) (job j : SpecJob) → job.ppn ≡ me → length job.core ≡ core_words
    → length job.channels ≡ 16 → job_at t 1 ≡ Some j → Alike job j → IsJobReady t me
keeps_ready me t job j owner core channels at alike = record {
  job = j;
  logged_in = at;
  owner = alike.owner ∙ owner;
  core = alike.core ∙ core;
  channels = alike.channels channels;
}

module _ (pack : Pack) (serial : ℕ) (s : State) (me : ℕ) (ready : IsJobReady s me) where
  own_if : (late : Bool) (r : Reply × State) → IsJobReady r.1 me → IsJobReady (if late then (DateRange, s) else r).1 me
  own_if true r h = ready
  own_if false r h = h

  own_job : (row : SpecJob → Reply × State) → IsJobReady (row ready.job).1 me
      → IsJobReady (on_job s (job_at s 1) row).1 me
  own_job row h = subst (λ o. IsJobReady (on_job s o row).1 me) (sym ready.logged_in) h

  own_event : (event : Event) → asks_for_login event ≡ false → job_of event ≡ 1
      → IsJobReady (step pack serial s event).1 me
  own_event (Login n ppn words) other one = let wrong : true ≡ false = other in cc
  own_event (Deposit n address word) other one = subst
      (λ k. IsJobReady (step pack serial s (Deposit k address word)).1 me)
      (sym one) (own_job (λ job. deposit s 1 job address word)
      (settled_by (λ r. IsJobReady r.1 me) (deposit_answer ready.job address)
      (with_job s 1 (deposit_done ready.job address word)) (λ r. s)
      (λ is. keeps_ready me (with_job s 1 (deposit_done ready.job address word)) ready.job
      (deposit_done ready.job address word) ready.owner ready.core ready.channels
      (slot-set_same s.jobs 1 (deposit_done ready.job address word) ready.job ready.logged_in)
      (alike_core ready.job (slice_set ready.job.core address word) (length-set ready.job.core address word)))
      (λ differs. ready)))
  own_event (Examine n address) other one = subst (λ k. IsJobReady (step pack serial s (Examine k address)).1 me)
      (sym one)
      (own_job (λ job. (examine_answer job address, s)) ready)
  own_event (Calls n call moment) other one =
      subst (λ k. IsJobReady (step pack serial s (Calls k call moment)).1 me) (sym one)
      (own_if (nat_lt (last_date pack.layout) moment.date) _ (own_job (λ job. call_of pack serial s 1 job call moment)
      (kept (call_keeps pack serial s 1 ready.job ready.logged_in call moment))))
    where
      kept : (j : SpecJob) × (job_at (call_of pack serial s 1 ready.job call moment).1 1 ≡ Some j) × Alike ready.job j
          → IsJobReady (call_of pack serial s 1 ready.job call moment).1 me
      kept (j, at, alike) = keeps_ready me (call_of pack serial s 1 ready.job call moment).1 ready.job j ready.owner
          ready.core ready.channels at alike

  ready_step : (event : Event) → asks_for_login event ≡ false → IsJobReady (step pack serial s event).1 me
  ready_step event other = by (job_of event == 1) refl
    where
      by : (b : Bool) → (job_of event == 1) ≡ b → IsJobReady (step pack serial s event).1 me
      by true e = own_event event other (eqb-true (job_of event) 1 e)
      by false e = record {
        job = ready.job;
        logged_in = spares_step pack serial s 1 event (λ same. let wrong = sym e ∙ eq-eqb (job_of event) 1 (sym same)
            in cc) ∙ ready.logged_in;
        owner = ready.owner;
        core = ready.core;
        channels = ready.channels;
      }

pub ready_stays : (pack : Pack) (s t : State) (event : Event) (reply : Reply) (me : ℕ) → asks_for_login event ≡ false
    → IsJobReady s me → Answers pack (Serving s) event reply (Serving t) → IsJobReady t me
ready_stays pack s t event reply me other ready a = ⊎_elim
    (λ steps. subst (λ (r : Reply × State). IsJobReady r.1 me) steps.2 (ready_step pack steps.0 s me ready event other))
    (λ none. subst (λ u. IsJobReady u me) (sym none.1) ready) a
