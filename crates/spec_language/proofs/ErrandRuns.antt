-- Errands of job 1, which logs in for them: a file that is put has the words that were read, and one that is got is
-- printed whole.
use Rattle.std.proofs.Common.{◌≡◌, ◌⊎◌, inl, inr, ⊎_elim, ℕ, ◌+◌, ◌<◌, List, [], ◌∷◌, ◌++◌, length, replicate, Some}
use Rattle.std.proofs.Common.{refl, sym, ap, subst, ◌∙◌, arith}
use Rattle.std.specs.Prelude.{slice_index}
use Rattle.std.specs.List.{AllByRecursion}
use Rattle.std.proofs.Math.ListN.{length-set}
use Rattle.std.proofs.lemmas.List.{get_or-set_same, length-replicate}
use Rattle.words36.specs.declared.moment.Moment.{Moment}
use Rattle.spec_image.specs.Common.{File, Pack}
use Rattle.spec_machine.specs.Common.{first_free, rings_begin, SpecJob, State, job_at, with_job, login_answer, new_job}
use Rattle.spec_machine.specs.Common.{Service, Serving, Steps}
use Rattle.spec_language.specs.Texts.{Spoken}
use Rattle.spec_language.specs.Transcripts.{core_words}
use Rattle.spec_language.specs.Plans.{Plan, each, call_event, ends, ok, name_events, out_event, read_plan, new_words}
use Rattle.spec_language.specs.Plans.{deposit_events}
use Rattle.spec_language.specs.Plans.{open_words}
use Rattle.spec_language.specs.Errands.{login_events, create_events, parts_of, fill_all_plan, put_plan, get_plan}
use Rattle.spec_language.specs.Copies.{Comes, IsJobReady, IsLineRefused, HasHalfwordExtension, AreShort, IsPrinted}
use Rattle.spec_language.specs.Copies.{IsPut, place_of, made, put_mode}
use Rattle.spec_language.specs.declared.command.Spec.{Spec}
use Rattle.spec_language.specs.declared.encoding.Encoding.{Encoding}
use Rattle.spec_language.specs.declared.encoding.Encoding.TheVariants.{Characters, Words, Octets}
use Rattle.spec_machine.specs.declared.call.Event.{Event}
use Rattle.spec_machine.specs.declared.call.Event.TheVariants.{Login}
use Rattle.spec_machine.specs.declared.call.Call.TheVariants.{Open, Enter, Outbuf, Close}
use Rattle.spec_machine.specs.declared.call.Reply.TheVariants.{Done}
use Rattle.spec_image.proofs.Common.{all_append}
use Rattle.spec_language.proofs.PlanRuns.{AllDone, one_done, each_done}
use Rattle.spec_machine.proofs.Common.{IsQuiet, no_last}
use Rattle.spec_language.proofs.CallRuns.{at, IsJob, slot_set, settled_done}
use Rattle.spec_language.proofs.EnterRuns.{side}
use Rattle.spec_language.proofs.OpenRuns.{open_channel}
use Rattle.spec_language.proofs.CopyRuns.{with_body}
use Rattle.spec_language.proofs.CopyLaws.{closes_done, at_home, quiet_writes}
use Rattle.spec_language.proofs.FillLaws.{PutsWords, parts_done, words_done}
use Rattle.spec_language.proofs.SizeRuns.{quiet_deposits}
use Rattle.spec_language.proofs.PutRuns.{PutsCharacters, ring_channel, opening_words, characters_done, words_begun}
use Rattle.spec_language.proofs.PutRuns.{characters_begun}
use Rattle.spec_language.proofs.ReadLaws.{reads_are_exact}

-- Job 1 logs in.

abbrev logged : State → ℕ → State
logged s me = with_job s 1 (new_job me core_words)

logged_in : (s : State) (me : ℕ) → 1 < length s.jobs → job_at (logged s me) 1 ≡ Some (new_job me core_words)
logged_in s me there = slot_set s.jobs 1 (Some (new_job me core_words)) there

core_is : length (new_job 0 core_words).core ≡ core_words
core_is = length-set (replicate core_words 0) first_free rings_begin ∙ length-replicate {A = ℕ} core_words 0

pub is_job : (me : ℕ) → IsJob me (new_job me core_words)
is_job me = record { owner = refl; core = core_is; channels = refl }

is_ready : (s : State) (me : ℕ) → 1 < length s.jobs → IsJobReady (logged s me) me
is_ready s me there = record {
  job = new_job me core_words;
  logged_in = logged_in s me there;
  owner = refl;
  core = core_is;
  channels = refl;
}

pub ring_base : (me : ℕ) → slice_index (new_job me core_words).core first_free ≡ rings_begin
ring_base me = get_or-set_same (replicate core_words 0) first_free rings_begin 0
    (omega (arith, length-replicate {A = ℕ} core_words 0))

pub login_done : (pack : Pack) (s : State) (me : ℕ) (t : State) → Steps pack s (Login 1 me core_words) Done t
    → t ≡ logged s me
login_done pack s me t (serial, fresh, e) =
    sym (ap (λ x. x.1) e)
    ∙ (settled_done {A = State} (login_answer 1 core_words) (logged s me) (λ r. s) (ap (λ x. x.0) e)).1

pub logins_make_ready : (pack : Pack) (s t : State) (me : ℕ) → 1 < length s.jobs
    → Steps pack s (Login 1 me core_words) Done t → IsJobReady t me
logins_make_ready pack s t me there steps = subst (λ u. IsJobReady u me) (sym (login_done pack s me t steps))
    (is_ready s me there)

module _ (pack : Pack) (moment : Moment) (me : ℕ) (s : State) (said : Spoken) (new : Service) where
  enters_done : (next : Plan) → Comes pack (Serving s) (each moment (login_events me) next) said new
      → IsLineRefused s.files said new ⊎ Comes pack (Serving (logged s me)) next said new
  unfolding each
  enters_done next come = ⊎_elim inl
      (λ (t, steps, rest). inr (subst (λ u. Comes pack (Serving u) next said new) (login_done pack s me t steps) rest))
      (one_done pack s moment (Login 1 me core_words) next said new come)

pub gets_are_exact : (pack : Pack) (moment : Moment) (me : ℕ) (s : State) (encoding : Encoding) (spec : Spec)
    (said : Spoken) (new : Service) → 1 < length s.jobs → HasHalfwordExtension spec → AreShort s.files
    → Comes pack (Serving s) (get_plan moment me encoding spec) said new
    → IsPrinted me s encoding spec said new ⊎ IsLineRefused s.files said new
gets_are_exact pack moment me s encoding spec said new there few short come = ⊎_elim inr
    (λ more. reads_are_exact pack moment me (logged s me) encoding spec said new (is_ready s me there) few short more)
    (enters_done pack moment me s said new (read_plan moment encoding spec) come)

pub quiet_creates : (moment : Moment) (encoding : Encoding) (spec : Spec)
    → AllByRecursion IsQuiet (create_events moment encoding spec)
quiet_creates moment Characters spec =
    let rest : List Event = call_event moment (Open 2 open_words) ∷ (name_events new_words spec 0
    ++ call_event moment (Enter 2 new_words) ∷ call_event moment (Outbuf 2 1) ∷ out_event moment ∷ []) in
    let quiet : AllByRecursion IsQuiet rest = (tt, (tt, (tt, (tt, (tt, (tt, (tt, (tt, tt)))))))) in
    all_append IsQuiet (deposit_events open_words opening_words) rest (quiet_deposits opening_words open_words) quiet
quiet_creates moment Words spec = quiet_writes moment spec
quiet_creates moment Octets spec = quiet_writes moment spec

pub puts_are_exact : (pack : Pack) (moment : Moment) (me : ℕ) (s : State) (encoding : Encoding) (spec : Spec)
    (words : List ℕ) (said : Spoken) (new : Service) → 1 < length s.jobs → HasHalfwordExtension spec
    → Comes pack (Serving s) (put_plan moment me encoding spec (Some words)) said new
    → IsPut moment me s encoding spec words said new ⊎ IsLineRefused s.files said new
puts_are_exact pack moment me s encoding spec words said new there few come = ⊎_elim inr
    (λ more. ⊎_elim inr (λ (t, all, same, rest). by encoding t all rest)
    (each_done pack base moment (create_events moment encoding spec) (filling encoding) said new
    (quiet_creates moment encoding spec) more))
    (enters_done pack moment me s said new (each moment (create_events moment encoding spec) (filling encoding)) come)
  where
    base : State
    base = logged s me

    j0 : SpecJob
    j0 = new_job me core_words

    there0 : job_at base 1 ≡ Some j0
    there0 = logged_in s me there

    closing : Plan
    closing = each moment (call_event moment (Close 2 0) ∷ []) (ends moment ok)

    filling : Encoding → Plan
    filling encoding = fill_all_plan moment encoding words closing

    here : (encoding : Encoding) → File
    here encoding = made s.files (place_of me spec) (put_mode encoding) moment []

    home : (encoding : Encoding) (t : State) → AllDone pack base (create_events moment encoding spec) t
        → AllDone pack (at base j0) (create_events moment encoding spec) t
    home encoding t all = subst (λ u. AllDone pack u (create_events moment encoding spec) t) (at_home base j0 there0)
        all

    by : (encoding : Encoding) (t : State) → AllDone pack base (create_events moment encoding spec) t
        → Comes pack (Serving t) (filling encoding) said new
        → IsPut moment me s encoding spec words said new ⊎ IsLineRefused s.files said new
    by Words t all rest =
        let b = words_begun pack base j0 there0 moment me j0 spec t (is_job me) few (home Words t all) in
        ⊎_elim inr (λ (n, j', is, more). closes_done pack base j0 there0 moment open_channel
        (side (place_of me spec) b.1 (with_body (here Words) words) (n + 1)) said new j' is.second refl b.4 more)
        (parts_done pack base moment Words (PutsWords me (place_of me spec) b.1 (here Words))
        (words_done pack base j0 there0 moment me (place_of me spec) b.1 (here Words)) (parts_of Words (length words)) 0
        [] words closing said new b.0 refl b.3 (λ some. refl)
        (subst (λ u. Comes pack (Serving u) (filling Words) said new) b.2 rest))
    by Octets t all rest =
        let b = words_begun pack base j0 there0 moment me j0 spec t (is_job me) few (home Octets t all) in
        ⊎_elim inr (λ (n, j', is, more). closes_done pack base j0 there0 moment open_channel
        (side (place_of me spec) b.1 (with_body (here Octets) words) (n + 1)) said new j' is.second refl b.4 more)
        (parts_done pack base moment Octets (PutsWords me (place_of me spec) b.1 (here Octets))
        (words_done pack base j0 there0 moment me (place_of me spec) b.1 (here Octets)) (parts_of Octets (length words))
        0 [] words closing said new b.0 refl b.3 (λ some. refl)
        (subst (λ u. Comes pack (Serving u) (filling Octets) said new) b.2 rest))
    by Characters t all rest =
        let b = characters_begun pack base j0 there0 moment me j0 spec t (is_job me) few (ring_base me)
        (home Characters t all) in
        ⊎_elim inr (λ (n, j', is, more). closes_done pack base j0 there0 moment ring_channel
        (side (place_of me spec) b.1 (with_body (here Characters) words) (n + 1)) said new j' is.second
        (no_last j'.core is.whole.core is.ring) b.4 more)
        (parts_done pack base moment Characters (PutsCharacters me (place_of me spec) b.1 (here Characters))
        (characters_done pack base j0 there0 moment me (place_of me spec) b.1 (here Characters))
        (parts_of Characters (length words)) 0 [] words closing said new b.0 refl b.3 (λ some. refl)
        (subst (λ u. Comes pack (Serving u) (filling Characters) said new) b.2 rest))
