-- COPY: what it prints, and the files that it leaves.
use Rattle.std.proofs.Common.{◌≡◌, ◌⊎◌, inl, inr, ⊎_elim, ℕ, zero, suc, ◌+◌, ◌-◌, ◌*◌, ◌/◌, ◌%◌, ◌<◌, ◌≤◌, Bool, true}
use Rattle.std.proofs.Common.{false, if◌then◌else◌, List, [], ◌∷◌, ◌++◌, length, take, Some, refl, sym, ap, subst}
use Rattle.std.proofs.Common.{◌∙◌, arith}
use Rattle.std.specs.Prelude.{slice_index, is_none, nat_lt}
use Rattle.std.specs.List.{AllByRecursion}
use Rattle.std.proofs.lemmas.List.{take_all}
use Rattle.words36.specs.declared.moment.Moment.{Moment}
use Rattle.spec_image.specs.Common.{get, Files, File, Place, SpecVersion, file_at, with_file, blocks_of, Pack}
use Rattle.spec_machine.specs.Common.{after_writes, placed, Channel, SpecJob, State, SpecOutput, Kind, job_at}
use Rattle.spec_machine.specs.Common.{channel_at}
use Rattle.spec_machine.specs.Common.{in_answer, in_done, reads, close_answer, close_done, files_closed, files_with}
use Rattle.spec_machine.specs.Common.{last_buffer, words_or_none, size_word, settled, stopped_in, disk, dump_mode}
use Rattle.spec_machine.specs.Common.{longest, put_on, Service, Serving, Broken, Answers, Steps, last_date, on_job}
use Rattle.spec_machine.specs.Common.{on_channel, of_job, call_of}
use Rattle.spec_language.specs.Texts.{Spoken}
use Rattle.spec_language.specs.Plans.{Plan, each, call_event, lookup_events, enter_events, list_events, in_event}
use Rattle.spec_language.specs.Plans.{out_event, useti_event, copy_runs_plan}
use Rattle.spec_language.specs.Plans.{copy_blocks_plan, copy_last_plan, copy_body_plan, copy_plan, until_end, if_end}
use Rattle.spec_language.specs.Plans.{is_end}
use Rattle.spec_language.specs.Plans.{fails, ends, ok, blocks_at_once, list_words, file_words, open_words, examines}
use Rattle.spec_language.specs.Plans.{blocks_said}
use Rattle.spec_language.specs.Copies.{Comes, IsJobReady, HasHalfwordExtension, AreShort, IsLineRefused, IsOneChange}
use Rattle.spec_language.specs.Copies.{IsCopied, place_of, made}
use Rattle.spec_language.specs.declared.command.Spec.{Spec}
use Rattle.spec_machine.specs.declared.call.Call.TheVariants.{In, Close}
use Rattle.spec_machine.specs.declared.call.Event.{Event}
use Rattle.spec_machine.specs.declared.call.Reply.{Reply}
use Rattle.spec_machine.specs.declared.call.Reply.TheVariants.{Done, Value, Refused, Stopped, NoChannel, AddressCheck}
use Rattle.spec_machine.specs.declared.call.Reply.TheVariants.{NoJob, NoMemory, Device, Failed, DateRange}
use Rattle.spec_machine.proofs.Common.{put_here, settled_by, set-slot, IsQuiet, quiet_files, writes_length, spared}
use Rattle.spec_machine.proofs.Common.{is_there}
use Rattle.spec_image.proofs.Common.{all_append}
use Rattle.spec_language.proofs.PlanRuns.{AllDone, asked, failed, goes_on, one_done, each_done, split_done}
use Rattle.spec_language.proofs.PlanRuns.{answered_files}
use Rattle.spec_language.proofs.CallRuns.{at, at_again, IsJob, with_core, job_there, call_done, on_open, settled_done}
use Rattle.spec_language.proofs.CallRuns.{deposits_done}
use Rattle.spec_language.proofs.OpenRuns.{open_channel, opening, reading, writing, with_open, at_own, at_other}
use Rattle.spec_language.proofs.OpenRuns.{job_core, job_open, Found, finds_done}
use Rattle.spec_language.proofs.EnterRuns.{side, outputs, Lists, list_pair, listing, writes_done}
use Rattle.spec_language.proofs.BlockRuns.{goes_done}
use Rattle.spec_language.proofs.CopyRuns.{Copying, with_body, both_done, one_block, whole_blocks, next_blocks}
use Rattle.spec_language.proofs.CopyRuns.{by_runs, runs_of}
use Rattle.spec_language.proofs.SizeRuns.{said_blocks, sizes_done, quiet_deposits, told}

-- Job 1 with the whole body in the file that it writes.
abbrev pub Copied : ℕ → Place → SpecVersion → Place → Kind → File → SpecJob → Type 0
Copied me from v to kind file j = IsJob me j × ((next : ℕ) × (channel_at j 1 ≡ Some (reading from v next)))
    × ((next : ℕ) × (channel_at j 2 ≡ Some (writing (side to kind (with_body file v.file.body) next))))

abbrev last_events : Moment → ℕ → ℕ → List Event
last_events moment count n = list_events count ++ useti_event moment n ∷ in_event moment ∷ out_event moment ∷ []

-- An IN after the last block has to report the end.
end_or_fails : (moment : Moment) (next : Plan) (reply : Reply)
    → ((status : ℕ) × (reply ≡ Stopped status) × (if_end moment next reply ≡ next))
    ⊎ (if_end moment next reply ≡ fails moment reply)
end_or_fails moment next Done = inr refl
end_or_fails moment next (Value w) = inr refl
end_or_fails moment next (Refused w) = inr refl
end_or_fails moment next (Stopped w) = by (is_end w) refl
  where
    by : (b : Bool) → is_end w ≡ b
        → ((status : ℕ) × (Stopped w ≡ Stopped status)
        × ((if is_end w then next else fails moment (Stopped w)) ≡ next))
        ⊎ ((if is_end w then next else fails moment (Stopped w)) ≡ fails moment (Stopped w))
    by true e = inl (w, refl, ap (λ b. if b then next else fails moment (Stopped w)) e)
    by false e = inr (ap (λ b. if b then next else fails moment (Stopped w)) e)
end_or_fails moment next NoChannel = inr refl
end_or_fails moment next AddressCheck = inr refl
end_or_fails moment next NoJob = inr refl
end_or_fails moment next NoMemory = inr refl
end_or_fails moment next Device = inr refl
end_or_fails moment next Failed = inr refl
end_or_fails moment next DateRange = inr refl

not_late : (late : Bool) (s t : State) (r : Reply × State) (status : ℕ)
    → (if late then (DateRange, s) else r) ≡ (Stopped status, t) → r ≡ (Stopped status, t)
not_late true s t r status e = let wrong = ap (λ x. x.0) e in cc
not_late false s t r status e = e

settled_other : {A : Type 0} (reply : Reply) (done : A) (other : Reply → A) (status : ℕ)
    → (settled reply done other).0 ≡ Stopped status → (settled reply done other).1 ≡ other (Stopped status)
settled_other reply done other status = settled_by (λ r. r.0 ≡ Stopped status → r.1 ≡ other (Stopped status)) reply done
    other (λ is e. let wrong : Done ≡ Stopped status = e in cc) (λ differs e. ap other e)

module _ (pack : Pack) (s : State) (j0 : SpecJob) (there : job_at s 1 ≡ Some j0) (moment : Moment) where
  -- One more run of blocks.
  run_copied : (me : ℕ) (from : Place) (v : SpecVersion) (to : Place) (kind : Kind) (file : File) (b count : ℕ) → 0 < b
      → b ≤ blocks_at_once → count ≡ b * 128 → (k : ℕ) (j : SpecJob) → Copying me from v to kind file k j
      → Lists count j.core → (k + b) * 128 ≤ length v.file.body
      → (t : State) → AllDone pack (at s j) (in_event moment ∷ out_event moment ∷ []) t
      → (j' : SpecJob) × (t ≡ at s j') × Copying me from v to kind file (k + b) j' × Lists count j'.core
  run_copied me from v to kind file b count some few size k j is named fits t all =
      let d = both_done pack s j0 there moment me j from v to kind file k b count t is (omega arith) (omega arith)
      (whole_blocks b count size) named (omega arith) all in
      let words : k * 128 + count ≡ (k + b) * 128 = omega arith in
      let is' : Copying me from v to kind file (k + b) d.0 = record {
        whole = d.2;
        first = d.3;
        second = d.4 ∙ ap (λ n. Some (writing (side to kind (with_body file (take n v.file.body)) (k + b + 1)))) words;
      } in
      (d.0, d.1, is', d.5)

  -- Runs, one after the other.
  runs_copied : (me : ℕ) (from : Place) (v : SpecVersion) (to : Place) (kind : Kind) (file : File) (said : Spoken)
      (new : Service) (b count : ℕ) → 0 < b → b ≤ blocks_at_once → count ≡ b * 128 → (more k : ℕ) (next : Plan)
      (j : SpecJob) → Copying me from v to kind file k j → Lists count j.core
      → (k + more * b) * 128 ≤ length v.file.body
      → Comes pack (Serving (at s j)) (copy_runs_plan moment more next) said new
      → IsLineRefused s.files said new
      ⊎ ((j' : SpecJob) × Copying me from v to kind file (k + more * b) j' × Lists count j'.core
      × Comes pack (Serving (at s j')) next said new)
  unfolding copy_runs_plan
  runs_copied me from v to kind file said new b count some few size zero k next j is named fits c =
      let e : k ≡ k + zero * b = omega arith in
      inr (j, subst (λ n. Copying me from v to kind file n j) e is, named, c)
  runs_copied me from v to kind file said new b count some few size (suc more) k next j is named fits c = ⊎_elim inl
      (λ (t, all, same, rest).
      let left : (k + b + more * b) * 128 ≤ length v.file.body = omega (arith, next_blocks b more k) in
      let d = run_copied me from v to kind file b count some few size k j is named (omega arith) t all in
      subst (λ n. IsLineRefused s.files said new
      ⊎ ((j' : SpecJob) × Copying me from v to kind file n j' × Lists count j'.core
      × Comes pack (Serving (at s j')) next said new)) (next_blocks b more k)
      (runs_copied me from v to kind file said new b count some few size more (k + b) next d.0 d.2 d.3 left
      (subst (λ u. Comes pack (Serving u) (copy_runs_plan moment more next) said new) d.1 rest)))
      (each_done pack (at s j) moment (in_event moment ∷ out_event moment ∷ []) (copy_runs_plan moment more next) said
      new
      (tt, (tt, tt)) c)

  -- The command list names another number of words.
  pub listed_anew : (me count : ℕ) (next : Plan) (said : Spoken) (new : Service) (j : SpecJob) → IsJob me j
      → Comes pack (Serving (at s j)) (each moment (list_events count) next) said new
      → IsLineRefused s.files said new
      ⊎ ((core : List ℕ) × IsJob me (with_core j core) × Lists count core
      × Comes pack (Serving (at s (with_core j core))) next said new)
  listed_anew me count next said new j is come = ⊎_elim inl
      (λ (t, all, same, rest). inr (
        after_writes j.core (placed list_words (list_pair count)),
        job_core me j (after_writes j.core (placed list_words (list_pair count))) is
            (writes_length j.core (placed list_words (list_pair count))),
        listing j.core count is.core,
        subst (λ u. Comes pack (Serving u) next said new)
            (deposits_done pack s j0 there (list_pair count) j list_words t all) rest,
      ))
      (each_done pack (at s j) moment (list_events count) next said new (quiet_deposits (list_pair count) list_words)
      come)

  relisted : (me : ℕ) (from : Place) (v : SpecVersion) (to : Place) (kind : Kind) (file : File) (k : ℕ) (j : SpecJob)
      (core : List ℕ) → Copying me from v to kind file k j → IsJob me (with_core j core)
      → Copying me from v to kind file k (with_core j core)
  relisted me from v to kind file k j core is whole =
      record { whole = whole; first = is.first; second = is.second }

  -- Whole blocks.
  blocks_copied : (me : ℕ) (from : Place) (v : SpecVersion) (to : Place) (kind : Kind) (file : File) (next : Plan)
      (said : Spoken) (new : Service) (blocks : ℕ) (j : SpecJob) → Copying me from v to kind file 0 j
      → blocks * 128 ≤ length v.file.body
      → Comes pack (Serving (at s j)) (copy_blocks_plan moment blocks next) said new
      → IsLineRefused s.files said new
      ⊎ ((j' : SpecJob) × Copying me from v to kind file blocks j' × Lists 128 j'.core
      × Comes pack (Serving (at s j')) next said new)
  blocks_copied me from v to kind file next said new blocks j is fits come = ⊎_elim inl
      (λ (core1, is1, named1, come1). ⊎_elim inl
      (λ (j2, is2, named2, come2). ⊎_elim inl
      (λ (core3, is3, named3, come3). subst (λ n. IsLineRefused s.files said new
      ⊎ ((j' : SpecJob) × Copying me from v to kind file n j' × Lists 128 j'.core
      × Comes pack (Serving (at s j')) next said new)) (by_runs blocks)
      (runs_copied me from v to kind file said new 1 128 (omega arith) (omega arith) (omega arith)
      (blocks % blocks_at_once) runs next (with_core j2 core3) (relisted me from v to kind file runs j2 core3 is2 is3)
      named3 (omega (arith, by_runs blocks)) come3))
      (listed_anew me 128 singles said new j2 is2.whole come2))
      (runs_copied me from v to kind file said new blocks_at_once (blocks_at_once * 128) (omega arith) (omega arith)
      (omega arith) (blocks / blocks_at_once) 0 (each moment (list_events 128) singles) (with_core j core1)
      (relisted me from v to kind file 0 j core1 is is1) named1 (omega (arith, runs_of blocks)) come1))
      (listed_anew me (blocks_at_once * 128)
      (copy_runs_plan moment (blocks / blocks_at_once) (each moment (list_events 128) singles)) said new j is.whole
      come)
    where
      runs : ℕ
      runs = 0 + blocks / blocks_at_once * blocks_at_once

      singles : Plan
      singles = copy_runs_plan moment (blocks % blocks_at_once) next

  pub last_copied : (me : ℕ) (from : Place) (v : SpecVersion) (to : Place) (kind : Kind) (file : File) (more : ℕ)
      (next : Plan)
      (said : Spoken) (new : Service) (j : SpecJob) → Copying me from v to kind file more j → Lists 128 j.core
      → length v.file.body ≤ longest → more * 128 < length v.file.body → length v.file.body ≤ (more + 1) * 128
      → Comes pack (Serving (at s j)) (copy_last_plan moment (more + 1) (size_word (length v.file.body)) next) said new
      → IsLineRefused s.files said new
      ⊎ ((j' : SpecJob) × Copied me from v to kind file j' × Comes pack (Serving (at s j')) next said new)
  last_copied me from v to kind file more next said new j is named fits low high c =
      ⊎_elim inl (λ (j1, (is1, (k1, first1), second1, lists1), c1). ⊎_elim inl
      (λ (t, all, same, rest). inr (behind j1 is1 k1 first1 second1 t all rest))
      (each_done pack (at s j1) moment (last_events moment count (more + 1)) next said new
      (all_append IsQuiet (list_events count) (useti_event moment (more + 1) ∷ in_event moment ∷ out_event moment ∷ [])
      (quiet_deposits (list_pair count) list_words) (tt, (tt, (tt, tt)))) c1))
      (sizes_done pack s j0 there moment me from v more
      (λ count. each moment (last_events moment count (more + 1)) next) said new j is.whole
      (more + 1) is.first named fits low
      high c)
    where
      count : ℕ
      count = length v.file.body - more * 128

      behind : (j1 : SpecJob) → IsJob me j1 → (k : ℕ) → channel_at j1 1 ≡ Some (reading from v k)
          → channel_at j1 2 ≡ channel_at j 2
          → (t : State) → AllDone pack (at s j1) (last_events moment count (more + 1)) t
          → Comes pack (Serving t) next said new
          → (j' : SpecJob) × Copied me from v to kind file j' × Comes pack (Serving (at s j')) next said new
      behind j1 is1 k first1 second1 t all rest =
          let parts = split_done pack (at s j1) (list_events count)
          (useti_event moment (more + 1) ∷ in_event moment ∷ out_event moment
          ∷ []) t all in
          let core = after_writes j1.core (placed list_words (list_pair count)) in
          let j2 = with_core j1 core in
          let is2 : IsJob me j2 =
          job_core me j1 core is1 (writes_length j1.core (placed list_words (list_pair count))) in
          let to2 = deposits_done pack s j0 there (list_pair count) j1 list_words parts.0 parts.1 in
          let j3 = with_open j2 1 (reading from v (more + 1)) in
          let to3 : parts.2.0 ≡ at s j3 = goes_done pack s j0 there moment j2 from v (more + 1) k parts.2.0 first1
          (subst (λ u. Steps pack u (useti_event moment (more + 1)) Done parts.2.0) to2 parts.2.1) in
          let is3 : Copying me from v to kind file more j3 = record {
            whole = job_open me j2 1 (reading from v (more + 1)) is2;
            first = at_own j2 me 1 (reading from v (more + 1)) is2 (omega arith);
            second = at_other j2 1 2 (reading from v (more + 1)) (λ e. cc) ∙ second1 ∙ is.second;
          } in
          let d = both_done pack s j0 there moment me j3 from v to kind file more 1 count t is3 (omega arith)
          (omega arith) (one_block count (omega arith) (omega arith)) (listing j1.core count is1.core) (omega arith)
          (subst (λ u. AllDone pack u (in_event moment ∷ out_event moment ∷ []) t) to3 parts.2.2) in
          let all_words : take (more * 128 + count) v.file.body ≡ v.file.body =
          take_all (more * 128 + count) v.file.body
          (omega arith) in (
            d.0,
            (
              d.2,
              (more + 1 + 1, d.3),
              (more + 1 + 1, d.4 ∙ ap (λ b. Some (writing (side to kind (with_body file b) (more + 1 + 1)))) all_words),
            ),
            subst (λ u. Comes pack (Serving u) next said new) d.1 rest,
          )

  -- The end is reported, and leaves what is written.
  pub until_done : (me : ℕ) (c : Channel) (next : Plan) (said : Spoken) (new : Service) (j : SpecJob) → IsJob me j
      → channel_at j 1 ≡ Some c → Comes pack (Serving (at s j)) (until_end moment next) said new
      → IsLineRefused s.files said new
      ⊎ ((j' : SpecJob) × (channel_at j' 2 ≡ channel_at j 2) × Comes pack (Serving (at s j')) next said new)
  until_done me c next said new j is first come =
      by (asked pack (Serving (at s j)) (in_event moment) (if_end moment next) said new come)
    where
      left : (status : ℕ) (t : State) → Steps pack (at s j) (in_event moment) (Stopped status) t
          → t ≡ at s (with_open j 1 (record c { status = status }))
      left status t (serial, fresh, e) =
          let row : of_job (at s j) 1 (reads j 1 c list_words) ≡ (Stopped status, t) =
          subst (λ o. on_channel (at s j) o (λ c. of_job (at s j) 1 (reads j 1 c list_words)) ≡ (Stopped status, t))
          first (subst (λ o. on_job (at s j) o
          (λ job. call_of pack serial (at s j) 1 job (In 1 list_words) moment) ≡ (Stopped status, t))
          (job_there pack s j0 there j)
          (not_late (nat_lt (last_date pack.layout) moment.date) (at s j) t _ status e)) in
          sym (ap (λ x. x.1) row) ∙ at_again s j (reads j 1 c list_words).1
          ∙ ap (at s) (settled_other (in_answer j c list_words) (in_done j 1 c list_words) (stopped_in j 1 c) status
          (ap (λ x. x.0) row))

      stopped : (status : ℕ) (mid : Service) → Answers pack (Serving (at s j)) (in_event moment) (Stopped status) mid
          → Comes pack mid next said new
          → (j' : SpecJob) × (channel_at j' 2 ≡ channel_at j 2) × Comes pack (Serving (at s j')) next said new
      stopped status Broken (device, undecided, touches) more = let wrong : Stopped status ≡ Device = device in cc
      stopped status (Serving t) (inl steps) more = (
        with_open j 1 (record c { status = status }),
        at_other j 1 2 (record c { status = status }) (λ e. cc),
        subst (λ u. Comes pack (Serving u) next said new) (left status t steps) more,
      )
      stopped status (Serving t) (inr (none, same, undecided, wants)) more =
          let wrong : Stopped status ≡ NoMemory = none in cc

      by : ((reply : Reply) × (mid : Service) × Answers pack (Serving (at s j)) (in_event moment) reply mid
          × Comes pack mid (if_end moment next reply) said new)
          → IsLineRefused s.files said new
          ⊎ ((j' : SpecJob) × (channel_at j' 2 ≡ channel_at j 2) × Comes pack (Serving (at s j')) next said new)
      by (reply, mid, answers, more) = ⊎_elim
          (λ (status, is, same). inr (stopped status mid
          (subst (λ r. Answers pack (Serving (at s j)) (in_event moment) r mid) is answers)
          (subst (λ p. Comes pack mid p said new) same more)))
          (λ same. inl (failed pack s.files mid moment reply said new
          (answered_files pack (at s j) (in_event moment) reply mid
          (λ t. quiet_files pack (at s j) (in_event moment) reply t tt) answers)
          (subst (λ p. Comes pack mid p said new) same more)))
          (end_or_fails moment next reply)

  -- A CLOSE makes it the file of its name, if there is no last buffer.
  closed : (j : SpecJob) (c : Channel) (o : SpecOutput) (t : State) → channel_at j 2 ≡ Some (outputs c o)
      → last_buffer j (outputs c o) ≡ Some [] → Steps pack (at s j) (call_event moment (Close 2 0)) Done t
      → (serial : ℕ) × (t.files ≡ with_file s.files o.place (record { file = o.pending; serial = serial }))
  closed j c o t second none steps =
      let call = call_done pack s j0 there j (Close 2 0) moment t steps in
      let side = outputs c o in
      let row = on_open pack s j0 there j 2 side _ t second call.1 in
      let d = settled_done {A = SpecJob × Files SpecVersion} (close_answer pack (at s j) j side 0)
      (close_done call.0 j 2 side 0, files_closed call.0 s.files j side 0)
      (λ reply. (stopped_in j 2 side reply, s.files)) (ap (λ x. x.0) row) in (
        call.0,
        sym (ap (λ x. x.1.files) row) ∙ ap (λ x. x.1) d.1
            ∙ ap (λ l. files_with s.files call.0 (put_on (Some o) (words_or_none l))) none,
      )

  -- It is published, and OK is printed.
  pub closes_done : (c : Channel) (o : SpecOutput) (said : Spoken) (new : Service) (j : SpecJob)
      → channel_at j 2 ≡ Some (outputs c o) → last_buffer j (outputs c o) ≡ Some []
      → is_none (get s.files o.place.ppn) ≡ false
      → Comes pack (Serving (at s j)) (each moment (call_event moment (Close 2 0) ∷ []) (ends moment ok)) said new
      → ((said ≡ ok) × IsOneChange s.files o.place o.pending new) ⊎ IsLineRefused s.files said new
  unfolding each
  closes_done c o said new j second none directory come = ⊎_elim inr
      (λ (t, steps, rest). inl (make t (closed j c o t second none steps) rest))
      (one_done pack (at s j) moment (call_event moment (Close 2 0)) (ends moment ok) said new come)
    where
      make : (t : State)
          → (serial : ℕ) × (t.files ≡ with_file s.files o.place (record { file = o.pending; serial = serial }))
          → Comes pack (Serving t) (ends moment ok) said new → (said ≡ ok) × IsOneChange s.files o.place o.pending new
      make t (serial, files) rest =
          let e = goes_on pack t moment ok said new rest in
          let v : SpecVersion = record { file = o.pending; serial = serial } in
          let d = is_there (get s.files o.place.ppn) directory in (
            e.0,
            record {
              serial = serial;
              after = e.1.0;
              serves = e.1.1;
              files_after = e.1.2 ∙ files;
              there = ap (λ fs. file_at fs o.place) (e.1.2 ∙ files) ∙ put_here s.files o.place d.0 d.1 v;
            },
          )

  -- What was written is published, and the line prints OK.
  published : (me : ℕ) (c : Channel) (o : SpecOutput) (said : Spoken) (new : Service) (j : SpecJob) → IsJob me j
      → channel_at j 1 ≡ Some c → channel_at j 2 ≡ Some (writing o) → is_none (get s.files o.place.ppn) ≡ false
      → Comes pack (Serving (at s j))
      (until_end moment (each moment (call_event moment (Close 2 0) ∷ []) (ends moment ok))) said new
      → ((said ≡ ok) × IsOneChange s.files o.place o.pending new) ⊎ IsLineRefused s.files said new
  published me c o said new j is first second directory come = ⊎_elim inr
      (λ (j', same, more). closes_done open_channel o said new j' (same ∙ second) refl directory more)
      (until_done me c (each moment (call_event moment (Close 2 0) ∷ []) (ends moment ok)) said new j is first come)

  -- The body is copied, whole blocks and the last.
  body_copied : (me : ℕ) (from : Place) (v : SpecVersion) (to : Place) (kind : Kind) (file : File) (next : Plan)
      (said : Spoken) (new : Service) (j : SpecJob) → IsJob me j → channel_at j 1 ≡ Some (reading from v 1)
      → channel_at j 2 ≡ Some (writing (side to kind (with_body file []) 1)) → Lists 128 j.core
      → length v.file.body ≤ longest → (blocks : ℕ) → blocks ≡ blocks_of (length v.file.body)
      → Comes pack (Serving (at s j)) (copy_body_plan moment blocks (size_word (length v.file.body)) next) said new
      → IsLineRefused s.files said new
      ⊎ ((j' : SpecJob) × Copied me from v to kind file j' × Comes pack (Serving (at s j')) next said new)
  body_copied me from v to kind file next said new j is first second named fits zero count come =
      let none : v.file.body ≡ [] = empty v.file.body (no_words (length v.file.body) count) in
      inr (
        j,
        (is, (1, first), (1, second ∙ ap (λ b. Some (writing (side to kind (with_body file b) 1))) (sym none))),
        come,
      )
    where
      no_words : (len : ℕ) → 0 ≡ blocks_of len → len ≡ 0
      no_words len e = grind arith

      empty : (xs : List ℕ) → length xs ≡ 0 → xs ≡ []
      empty [] e = refl
      empty (x ∷ xs) e = absurd (omega arith)
  body_copied me from v to kind file next said new j is first second named fits (suc more) count come = ⊎_elim inl
      (λ (j1, is1, named1, rest). last_copied me from v to kind file more next said new j1 is1 named1 fits
      (omega (arith, bounds)) (omega (arith, bounds))
      (subst (λ n. Comes pack (Serving (at s j1)) (copy_last_plan moment n (size_word (length v.file.body)) next) said
      new)
      one_more rest))
      (blocks_copied me from v to kind file (copy_last_plan moment (suc more) (size_word (length v.file.body)) next)
      said
      new more j (record { whole = is; first = first; second = second }) (omega (arith, bounds)) come)
    where
      one_more : suc more ≡ more + 1
      one_more = omega arith

      bounds : (more * 128 < length v.file.body) × (length v.file.body ≤ (more + 1) * 128)
      bounds = bound more (length v.file.body) count
        where
          bound : (more len : ℕ) → suc more ≡ blocks_of len → (more * 128 < len) × (len ≤ (more + 1) * 128)
          bound more len e = (grind arith, grind arith)

-- COPY as a whole.

pub quiet_finds : (moment : Moment) (spec : Spec) → AllByRecursion IsQuiet (lookup_events moment spec)
quiet_finds moment spec = (tt, (tt, (tt, (tt, (tt, (tt, (tt, (tt, (tt, tt)))))))))

pub quiet_writes : (moment : Moment) (spec : Spec) → AllByRecursion IsQuiet (enter_events moment spec)
quiet_writes moment spec = (tt, (tt, (tt, (tt, (tt, (tt, (tt, (tt, (tt, tt)))))))))

pub at_home : (s : State) (j : SpecJob) → job_at s 1 ≡ Some j → s ≡ at s j
at_home s j there = sym (ap (λ js. record s { jobs = js }) (set-slot s.jobs 1 j there))

pub copies_are_exact : (pack : Pack) (moment : Moment) (me : ℕ) (s : State) (to from : Spec) (said : Spoken)
    (new : Service) → IsJobReady s me → HasHalfwordExtension to → HasHalfwordExtension from → AreShort s.files
    → Comes pack (Serving s) (copy_plan moment to from) said new
    → IsCopied moment me s to from said new ⊎ IsLineRefused s.files said new
copies_are_exact pack moment me s to from said new ready to_is from_is short come = ⊎_elim inr
    (λ (t, all, same, rest). begun t all rest)
    (each_done pack s moment (lookup_events moment from ++ enter_events moment to ++ list_events 128) rests said new
    (all_append IsQuiet (lookup_events moment from ++ enter_events moment to) (list_events 128)
    (all_append IsQuiet (lookup_events moment from) (enter_events moment to) (quiet_finds moment from)
    (quiet_writes moment to))
    (quiet_deposits (list_pair 128) list_words)) come)
  where
    closing : Plan
    closing = until_end moment (each moment (call_event moment (Close 2 0) ∷ []) (ends moment ok))

    rests : Plan
    rests = examines moment (file_words + 3) (λ size. copy_body_plan moment (blocks_said size) size closing)

    j0 : SpecJob
    j0 = ready.job

    whole : IsJob me j0
    whole = record { owner = ready.owner; core = ready.core; channels = ready.channels }

    -- the body was copied: it is published
    finished : (v : SpecVersion) → file_at s.files (place_of me from) ≡ Some v → (kind : Kind)
        → is_none (get s.files (place_of me to).ppn) ≡ false
        → (j : SpecJob) → Copied me (place_of me from) v (place_of me to) kind
        (made s.files (place_of me to) dump_mode moment []) j
        → Comes pack (Serving (at s j)) closing said new
        → IsCopied moment me s to from said new ⊎ IsLineRefused s.files said new
    finished v found kind directory j (is, (k, first), (n, second)) more = ⊎_elim
        (λ (e, done). inl (e, (v, found, done))) inr
        (published pack s j0 ready.logged_in moment me (reading (place_of me from) v k)
        (side (place_of me to) kind (made s.files (place_of me to) dump_mode moment v.file.body) n) said new j is first
        second directory more)

    begun : (t : State) → AllDone pack s (lookup_events moment from ++ enter_events moment to ++ list_events 128) t
        → Comes pack (Serving t) rests said new
        → IsCopied moment me s to from said new ⊎ IsLineRefused s.files said new
    begun t all rest =
        let there = ready.logged_in in
        let last = split_done pack (at s j0) (lookup_events moment from ++ enter_events moment to) (list_events 128) t
        (subst (λ u. AllDone pack u (lookup_events moment from ++ enter_events moment to ++ list_events 128) t)
        (at_home s j0 there) all) in
        let both = split_done pack (at s j0) (lookup_events moment from) (enter_events moment to) last.0 last.1 in
        let f : Found s me from j0 both.0 = finds_done pack s j0 there moment me j0 from both.0 whole from_is both.1 in
        let e = writes_done pack s j0 there moment me f.job to last.0 f.whole to_is
        (subst (λ u. AllDone pack u (enter_events moment to) last.0) f.is both.2) in
        let core = after_writes e.job.core (placed list_words (list_pair 128)) in
        let j = with_core e.job core in
        let is : IsJob me j = job_core me e.job core e.whole
        (writes_length e.job.core (placed list_words (list_pair 128))) in
        let to_j : t ≡ at s j = deposits_done pack s j0 there (list_pair 128) e.job list_words t
        (subst (λ u. AllDone pack u (list_events 128) t) e.is last.2) in
        let v = f.version in
        let size : slice_index core (file_words + 3) ≡ size_word (length v.file.body) =
        spared e.job.core list_words (list_pair 128) (file_words + 3) (inl (omega arith))
        ∙ e.kept (file_words + 3) (inl (omega arith))
        ∙ spared f.job.core open_words (dump_mode ∷ disk ∷ 0 ∷ []) (file_words + 3) (inr (omega arith)) ∙ f.size in
        let fits : length v.file.body ≤ longest = short (place_of me from) v f.there in
        let examined = told pack s j0 there moment j (file_words + 3)
        (λ size. copy_body_plan moment (blocks_said size) size closing) said new (let l = is.core in omega arith)
        (subst (λ u. Comes pack (Serving u) rests said new) to_j rest) in
        let sized =
        subst (λ n. Comes pack (Serving (at s j)) (copy_body_plan moment (blocks_said n) n closing) said new) size
        examined in
        ⊎_elim inr (λ (j', done, more). finished v f.there e.kind e.directory j' done more)
        (body_copied pack s j0 there moment me (place_of me from) v (place_of me to) e.kind
        (made s.files (place_of me to) dump_mode moment []) closing said new j is
        (e.first ∙ at_other (with_core f.job (opening f.job)) 2 1 open_channel (λ e. cc) ∙ f.first) e.second
        (listing e.job.core 128 e.whole.core) fits (blocks_said (size_word (length v.file.body)))
        (said_blocks (length v.file.body) fits) sized)
