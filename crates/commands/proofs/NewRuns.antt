-- A file that job 1 puts if there is none of its name: the name is looked up, and the file is put from the job that
-- this leaves.
use Rattle.std.proofs.Common.{◌≡◌, ◌≢◌, ◌⊎◌, inl, inr, ⊎_elim, ℕ, ◌+◌, ◌*◌, ◌^◌, ◌<◌, ◌||◌, Bool, true, false}
use Rattle.std.proofs.Common.{if◌then◌else◌, List, [], ◌∷◌, length, Option, Some, None, refl, sym, ap, subst, ◌∙◌}
use Rattle.std.proofs.Common.{arith, zero, suc, nat_eq}
use Rattle.std.specs.Prelude.{slice_index, unwrap_or, is_none, is_some, not, ◌==◌, nat_lt}
use Rattle.std.specs.List.{AllByRecursion}
use Rattle.std.proofs.Math.ListN.{length-set}
use Rattle.std.proofs.lemmas.Bool.Decides.{nat_tests}
use Rattle.std.proofs.lemmas.List.{get_or-set_other}
use Rattle.words36.specs.Common.{join}
use Rattle.words36.specs.declared.moment.Moment.{Moment}
use Rattle.spec_language.specs.Common.{Comes, HasHalfwordExtension, IsLineRefused, IsPut, made, place_of, put_mode}
use Rattle.spec_language.specs.Common.{create_events, fill_all_plan, parts_of, Plan, Ask, open_events, call_event, each}
use Rattle.spec_language.specs.Common.{ends, fails}
use Rattle.spec_language.specs.Common.{file_words, name_events, ok, open_words, Spoken, core_words}
use Rattle.spec_machine.specs.Common.{after_writes, first_free, lies_outside, placed, rings_begin, with_right}
use Rattle.spec_machine.specs.Common.{Channel, SpecJob, State, channel_at, job_at, with_job, digit_at}
use Rattle.spec_machine.specs.Common.{directory_digit_at}
use Rattle.spec_machine.specs.Common.{has_no_directory, is_absent, lookup, lookup_answer, lookup_done, place_at, disk}
use Rattle.spec_machine.specs.Common.{dump_mode, refused_at, settled, may_look, may_read, Answers, Broken, Service}
use Rattle.spec_machine.specs.Common.{Serving, Steps, new_job, call_of, last_date, of_job, on_channel, on_job}
use Rattle.spec_image.specs.Common.{File, Place, SpecVersion, file_at, Pack}
use Rattle.spec_machine.specs.declared.call.Call.TheVariants.{Close, Lookup}
use Rattle.spec_machine.specs.declared.call.Event.{Event}
use Rattle.spec_machine.specs.declared.call.Event.TheVariants.{Login}
use Rattle.spec_machine.specs.declared.call.Reply.{Reply}
use Rattle.spec_machine.specs.declared.call.Reply.TheVariants.{AddressCheck, DateRange, Device, Done, Failed}
use Rattle.spec_machine.specs.declared.call.Reply.TheVariants.{NoChannel, NoJob, NoMemory, Refused, Stopped, Value}
use Rattle.spec_language.specs.declared.command.Spec.{Spec}
use Rattle.spec_language.specs.declared.encoding.Encoding.{Encoding}
use Rattle.spec_language.specs.declared.encoding.Encoding.TheVariants.{Characters, Octets, Words}
use Rattle.spec_language.proofs.Common.{IsJob, at, at_again, deposits_done, job_there, slot_set, with_core, at_home}
use Rattle.spec_language.proofs.Common.{closes_done, with_body, side, PutsWords, parts_done, words_done, at_own}
use Rattle.spec_language.proofs.Common.{job_core, job_open, naming, open_channel, opening, opens_done, place_named}
use Rattle.spec_language.proofs.Common.{with_open, AllDone, answered_files, asked, each_done, failed, one_done}
use Rattle.spec_language.proofs.Common.{split_done, PutsCharacters, characters_begun, characters_done, ring_channel}
use Rattle.spec_language.proofs.Common.{words_begun, is_job, ring_base, login_done, quiet_creates}
use Rattle.spec_machine.proofs.Common.{spared, writes_length, settled_by, IsQuiet, quiet_files, no_last}
use Rattle.commands.specs.Common.{absent, if_absent, put_plan_new, looks_for, IsFree}

-- Job 1 logs in.

abbrev logged : State → ℕ → State
logged s me = with_job s 1 (new_job me core_words)

-- The events before the LOOKUP.

quiet_looks : (moment : Moment) (spec : Spec) → AllByRecursion IsQuiet (looks_for moment spec)
quiet_looks moment spec = (tt, (tt, (tt, (tt, (tt, (tt, (tt, (tt, tt))))))))

-- the job that will look a file up
abbrev seeking : SpecJob → Spec → SpecJob
seeking j spec = naming (with_open (with_core j (opening j)) 1 open_channel) file_words spec

abbrev named_words : Spec → List ℕ
named_words spec = spec.name.name ∷ join spec.name.ext 0 ∷ 0 * 2 ^ 27 ∷ unwrap_or spec.owner 0 ∷ []

abbrev dump_words : List ℕ
dump_words = dump_mode ∷ disk ∷ 0 ∷ []

opened_job : (me : ℕ) (j : SpecJob) → IsJob me j → IsJob me (with_core j (opening j))
opened_job me j is = job_core me j (opening j) is (writes_length j.core (placed open_words dump_words))

seeking_job : (me : ℕ) (j : SpecJob) (spec : Spec) → IsJob me j → IsJob me (seeking j spec)
seeking_job me j spec is =
    let j1 = with_open (with_core j (opening j)) 1 open_channel in
    job_core me j1 (after_writes j1.core (placed file_words (named_words spec)))
    (job_open me (with_core j (opening j)) 1 open_channel (opened_job me j is))
    (writes_length j1.core (placed file_words (named_words spec)))

seeking_free : (j : SpecJob) (spec : Spec) → slice_index (seeking j spec).core first_free ≡ slice_index j.core
    first_free
seeking_free j spec = spared (opening j) file_words (named_words spec) first_free (inr (omega arith))
    ∙ spared j.core open_words dump_words first_free (inr (omega arith))

-- A LOOKUP that is refused because there is no file.

not_late : (late : Bool) (s t : State) (r : Reply × State) → (if late then (DateRange, s) else r) ≡ (Refused 0, t)
    → r ≡ (Refused 0, t)
not_late true s t r e = let wrong = ap (λ x. x.0) e in cc
not_late false s t r e = e

settled_refused : {A : Type 0} (reply : Reply) (done : A) (other : Reply → A) (t : A)
    → settled reply done other ≡ (Refused 0, t) → (reply ≡ Refused 0) × (t ≡ other (Refused 0))
settled_refused reply done other t = settled_by
    (λ r. r ≡ (Refused 0, t) → (reply ≡ Refused 0) × (t ≡ other (Refused 0))) reply done other
    (λ is e. let wrong = ap (λ x. x.0) e in cc)
    (λ differs e. let same : reply ≡ Refused 0 = ap (λ x. x.0) e in
    (same, sym (ap (λ x. x.1) e) ∙ ap other same))

passed : (b : Bool) (answer rest : Reply) → answer ≢ Refused 0 → (if b then answer else rest) ≡ Refused 0
    → rest ≡ Refused 0
passed true answer rest differs e = absurd (differs e)
passed false answer rest differs e = e

stopped_at : (b : Bool) (rest : Reply) → rest ≢ Refused 0 → (if b then Refused 0 else rest) ≡ Refused 0 → b ≡ true
stopped_at true rest differs e = refl
stopped_at false rest differs e = absurd (differs e)

last_answer : (b : Bool) → (if b then Refused 2 else Done) ≢ Refused 0
last_answer true e = cc
last_answer false e = cc

free_name : (name : ℕ) (found : Option SpecVersion) → (name == 0 || is_none found) ≡ true → (name ≡ 0) ⊎ (found ≡ None)
free_name zero found e = inl refl
free_name (suc name) None e = inr refl
free_name (suc name) (Some v) e =
    let other : nat_eq (suc name) 0 ≡ false = grind (arith, nat_tests) in
    let wrong : false ≡ true = sym (ap (λ (b : Bool). b || false) other) ∙ e in cc

missing : (s : State) (j : SpecJob) (c : Channel) (e : ℕ) (place : Place) → lookup_answer s j c e place ≡ Refused 0
    → (place.name.name == 0 || is_absent s place) ≡ true
missing s j c e place is =
    let a = passed (lies_outside j.core e 4) AddressCheck _ (λ w. cc) is in
    let b = passed (is_some c.output) (Refused 5) _ (λ w. cc) a in
    let d = passed (has_no_directory s place) (Refused 1) _ (λ w. cc) b in
    let f = passed (not (may_look (directory_digit_at s j place))) (Refused 2) _ (λ w. cc) d in
    stopped_at (place.name.name == 0 || is_absent s place) _ (last_answer (not (may_read (digit_at s j place)))) f

module _ (pack : Pack) (s : State) (j0 : SpecJob) (there : job_at s 1 ≡ Some j0) (moment : Moment) (me : ℕ) where
  seeks_done : (j : SpecJob) (spec : Spec) (t : State) → IsJob me j → AllDone pack (at s j) (looks_for moment spec) t
      → t ≡ at s (seeking j spec)
  seeks_done j spec t is all =
      let both = split_done pack (at s j) (open_events moment 1) (name_events file_words spec 0) t all in
      let j1 = with_open (with_core j (opening j)) 1 open_channel in
      let first = opens_done pack s j0 there moment me j 1 both.0 is both.1 in
      deposits_done pack s j0 there (named_words spec) j1 file_words t
      (subst (λ u. AllDone pack u (name_events file_words spec 0) t) first both.2)

  -- the state of the job: the refusal's code is in its core
  abbrev missed : SpecJob → Spec → SpecJob
  missed j spec = refused_at (seeking j spec) file_words (Refused 0)

  misses : (j : SpecJob) (spec : Spec) (t : State) → IsJob me j → HasHalfwordExtension spec
      → Steps pack (at s (seeking j spec)) (call_event moment (Lookup 1 file_words)) (Refused 0) t
      → (t ≡ at s (missed j spec)) × IsFree me s spec
  misses j spec t is few (serial, fresh, e) =
      let j1 = with_open (with_core j (opening j)) 1 open_channel in
      let j2 = seeking j spec in
      let row = subst (λ o. on_job (at s j2) o (λ job. call_of pack serial (at s j2) 1 job (Lookup 1 file_words) moment)
      ≡ (Refused 0, t)) (job_there pack s j0 there j2)
      (not_late (nat_lt (last_date pack.layout) moment.date) (at s j2) t _ e) in
      let open1 : channel_at j2 1 ≡ Some open_channel =
      at_own (with_core j (opening j)) me 1 open_channel (opened_job me j is) (omega arith) in
      let own = subst (λ o. on_channel (at s j2) o (λ c. of_job (at s j2) 1 (lookup pack (at s j2) j2 1 c file_words))
      ≡ (Refused 0, t)) open1 row in
      by j2 t own (place_named me j1 file_words spec
      (job_open me (with_core j (opening j)) 1 open_channel (opened_job me j is)) few (omega arith))
    where
      by : (j2 : SpecJob) (t : State)
          → of_job (at s j2) 1 (settled (lookup_answer (at s j2) j2 open_channel file_words (place_at j2 file_words))
          (lookup_done pack (at s j2) j2 1 open_channel file_words (place_at j2 file_words)) (refused_at j2 file_words))
          ≡ (Refused 0, t) → place_at j2 file_words ≡ place_of me spec
          → (t ≡ at s (refused_at j2 file_words (Refused 0))) × IsFree me s spec
      by j2 t e place =
          let r = settled (lookup_answer (at s j2) j2 open_channel file_words (place_at j2 file_words))
          (lookup_done pack (at s j2) j2 1 open_channel file_words (place_at j2 file_words)) (refused_at j2 file_words)
          in
          let d = settled_refused (lookup_answer (at s j2) j2 open_channel file_words (place_at j2 file_words))
          (lookup_done pack (at s j2) j2 1 open_channel file_words (place_at j2 file_words)) (refused_at j2 file_words)
          r.1 (λ i. (ap (λ x. x.0) e i, r.1)) in (
            sym (ap (λ x. x.1) e) ∙ at_again s j2 r.1 ∙ ap (at s) d.1,
            free_name spec.name.name (file_at s.files (place_of me spec))
                (missing (at s j2) j2 open_channel file_words (place_of me spec)
                (subst (λ p. lookup_answer (at s j2) j2 open_channel file_words p ≡ Refused 0) place d.0)),
          )

  missed_job : (j : SpecJob) (spec : Spec) → IsJob me j → IsJob me (missed j spec)
  missed_job j spec is =
      let j2 = seeking j spec in
      job_core me j2 (with_right j2.core (file_words + 1) 0) (seeking_job me j spec is)
      (length-set j2.core (file_words + 1) _)

  missed_free : (j : SpecJob) (spec : Spec) → slice_index (missed j spec).core first_free ≡ slice_index j.core
      first_free
  missed_free j spec = get_or-set_other (seeking j spec).core (file_words + 1) first_free _ 0 (λ e. cc)
      ∙ seeking_free j spec

-- The file is put from the job that missed it.

abbrev put_then : Moment → Encoding → Spec → List ℕ → Plan
put_then moment encoding spec words = each moment (create_events moment encoding spec)
    (fill_all_plan moment encoding words (each moment (call_event moment (Close 2 0) ∷ []) (ends moment ok)))

module _ (pack : Pack) (s : State) (j0 : SpecJob) (there : job_at s 1 ≡ Some j0) (moment : Moment) (me : ℕ)
    (spec : Spec) (few : HasHalfwordExtension spec) (words : List ℕ) (said : Spoken) (new : Service) where
  abbrev here : Encoding → File
  here encoding = made s.files (place_of me spec) (put_mode encoding) moment []

  abbrev closing : Plan
  closing = each moment (call_event moment (Close 2 0) ∷ []) (ends moment ok)

  abbrev fills : Encoding → Plan
  fills encoding = fill_all_plan moment encoding words closing

  put_by : (encoding : Encoding) (j : SpecJob) (t : State) → IsJob me j → slice_index j.core first_free ≡ rings_begin
      → AllDone pack (at s j) (create_events moment encoding spec) t
      → Comes pack (Serving t) (fills encoding) said new
      → IsPut moment me s encoding spec words said new ⊎ IsLineRefused s.files said new
  put_by Words j t is free all rest =
      let b = words_begun pack s j0 there moment me j spec t is few all in
      ⊎_elim inr (λ (n, j', is, more). closes_done pack s j0 there moment open_channel
      (side (place_of me spec) b.1 (with_body (here Words) words) (n + 1)) said new j' is.second refl b.4 more)
      (parts_done pack s moment Words (PutsWords me (place_of me spec) b.1 (here Words))
      (words_done pack s j0 there moment me (place_of me spec) b.1 (here Words)) (parts_of Words (length words)) 0
      [] words closing said new b.0 refl b.3 (λ some. refl)
      (subst (λ u. Comes pack (Serving u) (fills Words) said new) b.2 rest))
  put_by Octets j t is free all rest =
      let b = words_begun pack s j0 there moment me j spec t is few all in
      ⊎_elim inr (λ (n, j', is, more). closes_done pack s j0 there moment open_channel
      (side (place_of me spec) b.1 (with_body (here Octets) words) (n + 1)) said new j' is.second refl b.4 more)
      (parts_done pack s moment Octets (PutsWords me (place_of me spec) b.1 (here Octets))
      (words_done pack s j0 there moment me (place_of me spec) b.1 (here Octets)) (parts_of Octets (length words))
      0 [] words closing said new b.0 refl b.3 (λ some. refl)
      (subst (λ u. Comes pack (Serving u) (fills Octets) said new) b.2 rest))
  put_by Characters j t is free all rest =
      let b = characters_begun pack s j0 there moment me j spec t is few free all in
      ⊎_elim inr (λ (n, j', is, more). closes_done pack s j0 there moment ring_channel
      (side (place_of me spec) b.1 (with_body (here Characters) words) (n + 1)) said new j' is.second
      (no_last j'.core is.whole.core is.ring) b.4 more)
      (parts_done pack s moment Characters (PutsCharacters me (place_of me spec) b.1 (here Characters))
      (characters_done pack s j0 there moment me (place_of me spec) b.1 (here Characters))
      (parts_of Characters (length words)) 0 [] words closing said new b.0 refl b.3 (λ some. refl)
      (subst (λ u. Comes pack (Serving u) (fills Characters) said new) b.2 rest))

  put_from : (encoding : Encoding) (j : SpecJob) → IsJob me j → slice_index j.core first_free ≡ rings_begin
      → Comes pack (Serving (at s j)) (put_then moment encoding spec words) said new
      → IsPut moment me s encoding spec words said new ⊎ IsLineRefused s.files said new
  put_from encoding j is free come = ⊎_elim inr
      (λ (t, all, same, rest). put_by encoding j t is free all rest)
      (each_done pack (at s j) moment (create_events moment encoding spec) (fills encoding) said new
      (quiet_creates moment encoding spec) come)

  -- the reply to the LOOKUP says that there is no such file, or the line is refused
  reply_says : (next : Plan) (reply : Reply)
      → (reply ≡ Refused 0) ⊎ ((refused : Reply) × (if_absent moment next reply ≡ fails moment refused))
  reply_says next Done = inr (Refused 4, refl)
  reply_says next (Value word) = inr (Value word, refl)
  reply_says next (Refused zero) = inl refl
  reply_says next (Refused (suc code)) =
      let other : nat_eq (suc code) 0 ≡ false = grind (arith, nat_tests) in
      inr (Refused (suc code), ap (λ (b : Bool). if b then next else fails moment (Refused (suc code))) other)
  reply_says next (Stopped status) = inr (Stopped status, refl)
  reply_says next NoChannel = inr (NoChannel, refl)
  reply_says next AddressCheck = inr (AddressCheck, refl)
  reply_says next NoJob = inr (NoJob, refl)
  reply_says next NoMemory = inr (NoMemory, refl)
  reply_says next Device = inr (Device, refl)
  reply_says next Failed = inr (Failed, refl)
  reply_says next DateRange = inr (DateRange, refl)

  refused_steps : (u : State) (event : Event) (mid : Service) → Answers pack (Serving u) event (Refused 0) mid
      → (t : State) × (mid ≡ Serving t) × Steps pack u event (Refused 0) t
  refused_steps u event Broken (device, undecided, touches) = let wrong = device in cc
  refused_steps u event (Serving t) (inl steps) = (t, refl, steps)
  refused_steps u event (Serving t) (inr none) = let wrong = none.0 in cc

  sought : (encoding : Encoding) (j : SpecJob) → IsJob me j → slice_index j.core first_free ≡ rings_begin
      → Comes pack (Serving (at s (seeking j spec))) (Ask (call_event moment (Lookup 1 file_words))
      (if_absent moment (put_then moment encoding spec words))) said new
      → (IsPut moment me s encoding spec words said new × IsFree me s spec) ⊎ IsLineRefused s.files said new
  sought encoding j is free come =
      by (asked pack (Serving (at s (seeking j spec))) (call_event moment (Lookup 1 file_words)) (if_absent moment next)
      said
      new come)
    where
      next : Plan
      next = put_then moment encoding spec words

      by : ((reply : Reply) × (mid : Service)
          × Answers pack (Serving (at s (seeking j spec))) (call_event moment (Lookup 1 file_words)) reply mid
          × Comes pack mid (if_absent moment next reply) said new)
          → (IsPut moment me s encoding spec words said new × IsFree me s spec) ⊎ IsLineRefused s.files said new
      by (reply, mid, answers, more) = ⊎_elim
          (λ none.
          let st = refused_steps (at s (seeking j spec)) (call_event moment (Lookup 1 file_words)) mid
          (subst (λ r. Answers pack (Serving (at s (seeking j spec))) (call_event moment (Lookup 1 file_words)) r mid)
          none
          answers) in
          let m = misses pack s j0 there moment me j spec st.0 is few st.2 in
          let rest = subst (λ (p : Plan). Comes pack (Serving st.0) p said new) (ap (if_absent moment next) none)
          (subst (λ (x : Service). Comes pack x (if_absent moment next reply) said new) st.1 more) in
          ⊎_elim (λ put. inl (put, m.1)) inr
          (put_from encoding (missed pack s j0 there moment me j spec) (missed_job pack s j0 there moment me j spec is)
          (missed_free pack s j0 there moment me j spec ∙ free)
          (subst (λ (u : State). Comes pack (Serving u) next said new) m.0 rest)))
          (λ (other, is). inr (failed pack s.files mid moment other said new
          (answered_files pack (at s (seeking j spec)) (call_event moment (Lookup 1 file_words)) reply mid
          (λ t steps. quiet_files pack (at s (seeking j spec)) (call_event moment (Lookup 1 file_words)) reply t tt
          steps)
          answers)
          (subst (λ (p : Plan). Comes pack mid p said new) is more)))
          (reply_says next reply)

  looked_for : (encoding : Encoding) (j : SpecJob) → IsJob me j → slice_index j.core first_free ≡ rings_begin
      → Comes pack (Serving (at s j)) (absent moment spec (put_then moment encoding spec words)) said new
      → (IsPut moment me s encoding spec words said new × IsFree me s spec) ⊎ IsLineRefused s.files said new
  looked_for encoding j is free come = ⊎_elim inr
      (λ (t, all, same, rest). sought encoding j is free (subst (λ (u : State). Comes pack (Serving u)
      (Ask (call_event moment (Lookup 1 file_words)) (if_absent moment (put_then moment encoding spec words))) said new)
      (seeks_done pack s j0 there moment me j spec t is all) rest))
      (each_done pack (at s j) moment (looks_for moment spec)
      (Ask (call_event moment (Lookup 1 file_words)) (if_absent moment (put_then moment encoding spec words))) said new
      (quiet_looks moment spec) come)

pub new_puts_are_exact : (pack : Pack) (moment : Moment) (me : ℕ) (s : State) (encoding : Encoding) (spec : Spec)
    (words : List ℕ) (said : Spoken) (new : Service) → 1 < length s.jobs → HasHalfwordExtension spec
    → Comes pack (Serving s) (put_plan_new moment me encoding spec (Some words)) said new
    → (IsPut moment me s encoding spec words said new × IsFree me s spec) ⊎ IsLineRefused s.files said new
unfolding each
new_puts_are_exact pack moment me s encoding spec words said new there few come = ⊎_elim inr
    (λ (t, steps, rest). looked_for pack base j0 there0 moment me spec few words said new encoding j0 (is_job me)
    (ring_base me) (subst (λ (u : State). Comes pack (Serving u) next said new)
    (login_done pack s me t steps ∙ at_home base j0 there0) rest))
    (one_done pack s moment (Login 1 me core_words) next said new come)
  where
    base : State
    base = logged s me

    j0 : SpecJob
    j0 = new_job me core_words

    there0 : job_at base 1 ≡ Some j0
    there0 = slot_set s.jobs 1 (Some j0) there

    next : Plan
    next = absent moment spec (put_then moment encoding spec words)
