-- Plans that are led by the answers of a service.
use Rattle.std.proofs.Common.{◌≡◌, ◌≢◌, ℕ, ◌+◌, ◌<◌, ◌≤◌, List, [], ◌∷◌, ◌++◌, length, take, drop, get_or, refl, sym}
use Rattle.std.proofs.Common.{◌∙◌, ap, subst, append_assoc, append-nil, arith}
use Rattle.std.proofs.lemmas.List.{take_more, take_all, take-append-drop}
use Rattle.words36.specs.declared.moment.Moment.{Moment}
use Rattle.spec_language.specs.Common.{Act, Asks, Looks, Plan, Ask, Show, Say, Leads, each, if_done, if_told}
use Rattle.spec_language.specs.Common.{examines, fails, ends, Spoken}
use Rattle.spec_machine.specs.declared.call.Reply.{Reply}
use Rattle.spec_machine.specs.declared.call.Reply.TheVariants.{Done, Value, Refused, Stopped, NoChannel, AddressCheck}
use Rattle.spec_machine.specs.declared.call.Reply.TheVariants.{NoJob, NoMemory, Device, Failed, DateRange}
use Rattle.spec_machine.specs.declared.call.Call.TheVariants.{Reset}
use Rattle.spec_machine.specs.declared.call.Event.{Event}
use Rattle.spec_machine.specs.declared.call.Event.TheVariants.{Examine, Call as Calls}
use Rattle.commands.specs.Common.{FollowsPlan, HasDone, Machine, AlwaysStands, IsAnswered, GoesBy}
use Rattle.commands.proofs.ActLaws.{goes_nowhere, goes_on, goes_answered}

pub leads_on : (plan mid rest : Plan) (acts more : List Act) → Leads plan acts mid → Leads mid more rest
    → Leads plan (acts ++ more) rest
leads_on plan mid rest [] more p q = subst (λ (x : Plan). Leads x more rest) p q
leads_on (Ask event next) mid rest (Asks asked reply ∷ acts) more p q =
    (p.0, leads_on (next reply) mid rest acts more p.1 q)
leads_on (Ask event next) mid rest (Looks owner answer ∷ acts) more p q = absurd p
leads_on (Show owner next) mid rest (Asks asked reply ∷ acts) more p q = absurd p
leads_on (Show owner next) mid rest (Looks shown answer ∷ acts) more p q =
    (p.0, leads_on (next answer) mid rest acts more p.1 q)
leads_on (Say said) mid rest (act ∷ acts) more p q = absurd p

pub each_append : (moment : Moment) (events more : List Event) (next : Plan)
    → each moment (events ++ more) next ≡ each moment events (each moment more next)
unfolding each
each_append moment [] more next = refl
each_append moment (event ∷ events) more next = ap (λ (p : Plan). Ask event (if_done moment p))
    (each_append moment events more next)

-- the rest after a reply that is not Done, and after one that is no word
pub if_other : (moment : Moment) (next : Plan) (reply : Reply) → reply ≢ Done
    → if_done moment next reply ≡ fails moment reply
if_other moment next Done h = absurd (h refl)
if_other moment next (Value word) h = refl
if_other moment next (Refused code) h = refl
if_other moment next (Stopped status) h = refl
if_other moment next NoChannel h = refl
if_other moment next AddressCheck h = refl
if_other moment next NoJob h = refl
if_other moment next NoMemory h = refl
if_other moment next Device h = refl
if_other moment next Failed h = refl
if_other moment next DateRange h = refl

if_untold : (moment : Moment) (next : ℕ → Plan) (reply : Reply) → ((word : ℕ) → reply ≡ Value word → ⊥)
    → if_told moment next reply ≡ fails moment reply
if_untold moment next Done h = refl
if_untold moment next (Value word) h = absurd (h word refl)
if_untold moment next (Refused code) h = refl
if_untold moment next (Stopped status) h = refl
if_untold moment next NoChannel h = refl
if_untold moment next AddressCheck h = refl
if_untold moment next NoJob h = refl
if_untold moment next NoMemory h = refl
if_untold moment next Device h = refl
if_untold moment next Failed h = refl
if_untold moment next DateRange h = refl

events_more : (events : List Event) (i : ℕ) (event : Event) → i < length events → event ≡ get_or events i event
    → take (i + 1) events ≡ take i events ++ event ∷ []
events_more events i event h is = take_more events i event h ∙ ap (λ e. take i events ++ e ∷ []) (sym is)

events_split : (events : List Event) (i : ℕ) (event : Event) → i < length events → event ≡ get_or events i event
    → take i events ++ event ∷ drop (i + 1) events ≡ events
events_split events i event h is =
    sym (append_assoc (take i events) (event ∷ []) (drop (i + 1) events))
    ∙ ap (λ l. l ++ drop (i + 1) events) (sym (events_more events i event h is)) ∙ take-append-drop (i + 1) events

-- one event of a list, done, and not done
one_done : (moment : Moment) (event : Event) (rest : List Event) (next : Plan) (reply : Reply) → reply ≡ Done
    → Leads (each moment (event ∷ rest) next) (Asks event reply ∷ []) (each moment rest next)
unfolding each
one_done moment event rest next reply is = (refl, sym (ap (if_done moment (each moment rest next)) is))

one_other : (moment : Moment) (event : Event) (rest : List Event) (next : Plan) (reply : Reply) → reply ≢ Done
    → Leads (each moment (event ∷ rest) next) (Asks event reply ∷ []) (fails moment reply)
unfolding each
one_other moment event rest next reply h = (refl, sym (if_other moment (each moment rest next) reply h))

none_left : (moment : Moment) (events : List Event) (acts : List Act) (next : Plan)
    → Leads (each moment events next) acts (each moment [] next) → Leads (each moment events next) acts next
unfolding each
none_left moment events acts next p = p

module _ {S : Type 0} (machine : S → Machine) where
  pub led_on : (a b c : S) (plan mid rest : Plan) → FollowsPlan machine a b plan mid → FollowsPlan machine b c mid rest
      → FollowsPlan machine a c plan rest
  led_on a b c plan mid rest p q = record {
    acts = p.acts ++ q.acts;
    goes = goes_on machine a b c p.acts q.acts p.goes q.goes;
    leads = leads_on plan mid rest p.acts q.acts p.leads q.leads;
  }

  module _ (stands : AlwaysStands machine) where
    pub led_still : (a : S) (plan : Plan) → FollowsPlan machine a a plan plan
    led_still a plan = record { acts = []; goes = goes_nowhere machine stands a; leads = refl }

    pub led_asked : (a b : S) (event : Event) (reply : Reply) (next : Reply → Plan)
        → IsAnswered (machine a) (machine b) event reply → FollowsPlan machine a b (Ask event next) (next reply)
    led_asked a b event reply next answered =
        record {
          acts = Asks event reply ∷ [];
          goes = goes_answered machine stands a b event reply answered;
          leads = (refl, refl);
        }

    pub done_none : (a : S) → HasDone machine a a []
    done_none a = record {
      acts = [];
      goes = goes_nowhere machine stands a;
      leads = λ moment rest next. refl;
    }

    module _ (a b c : S) (events : List Event) (i : ℕ) (item : Event) (reply : Reply) (h : i < length events)
        (is_item : item ≡ get_or events i item) (p : HasDone machine a b (take i events))
        (answered : IsAnswered (machine b) (machine c) item reply) where
      abbrev behind : List Event
      behind = drop (i + 1) events

      goes : GoesBy machine a c (p.acts ++ Asks item reply ∷ [])
      goes = goes_on machine a b c p.acts (Asks item reply ∷ []) p.goes
          (goes_answered machine stands b c item reply answered)

      pub done_more : reply ≡ Done → HasDone machine a c (take (i + 1) events)
      done_more is = record {
        acts = p.acts ++ Asks item reply ∷ [];
        goes = goes;
        leads = λ moment rest next.
            let spelled : take (i + 1) events ++ rest ≡ take i events ++ item ∷ rest
            = ap (λ (l : List Event). l ++ rest) (events_more events i item h is_item)
            ∙ append_assoc (take i events) (item ∷ []) rest in
            let first = p.leads moment (item ∷ rest) next in
            let whole = leads_on (each moment (take i events ++ item ∷ rest) next) (each moment (item ∷ rest) next)
            (each moment rest next) p.acts (Asks item reply ∷ []) first
            (one_done moment item rest next reply is) in
            subst (λ (l : List Event). Leads (each moment l next) (p.acts ++ Asks item reply ∷ [])
            (each moment rest next)) (sym spelled) whole;
      }

      pub asked_until : reply ≢ Done → (moment : Moment) (next : Plan)
          → FollowsPlan machine a c (each moment events next) (fails moment reply)
      asked_until other moment next = record {
        acts = p.acts ++ Asks item reply ∷ [];
        goes = goes;
        leads =
            let spelled : take i events ++ item ∷ behind ≡ events = events_split events i item h is_item in
            let first = p.leads moment (item ∷ behind) next in
            subst (λ (l : List Event). Leads (each moment l next) (p.acts ++ Asks item reply ∷ []) (fails moment reply))
            spelled
            (leads_on (each moment (take i events ++ item ∷ behind) next) (each moment (item ∷ behind) next)
            (fails moment reply) p.acts (Asks item reply ∷ []) first
            (one_other moment item behind next reply other));
      }

    pub asked_all : (a b : S) (events : List Event) (i : ℕ) → length events ≤ i → HasDone machine a b (take i events)
        → (moment : Moment) (next : Plan) → FollowsPlan machine a b (each moment events next) next
    asked_all a b events i h p moment next =
        let q = subst (λ l. HasDone machine a b l) (take_all i events h) p in
        record {
          acts = q.acts;
          goes = q.goes;
          leads = subst (λ (l : List Event). Leads (each moment l next) q.acts next) (append-nil events)
              (none_left moment (events ++ []) q.acts next (q.leads moment [] next));
        }

    -- events that were all done
    pub led_done : (a b : S) (events : List Event) → HasDone machine a b events → (moment : Moment) (next : Plan)
        → FollowsPlan machine a b (each moment events next) next
    led_done a b events p = asked_all a b events (length events) (omega arith)
        (subst (HasDone machine a b) (sym (take_all (length events) events (omega arith))) p)

    -- a word that is returned, and another reply
    pub led_told : (a b : S) (address : ℕ) (reply : Reply) (word : ℕ) (moment : Moment) (next : ℕ → Plan)
        → reply ≡ Value word → IsAnswered (machine a) (machine b) (Examine 1 address) reply
        → FollowsPlan machine a b (examines moment address next) (next word)
    led_told a b address reply word moment next is answered =
        subst (λ (p : Plan). FollowsPlan machine a b (examines moment address next) p) (ap (if_told moment next) is)
        (led_asked a b (Examine 1 address) reply (if_told moment next) answered)

    pub led_untold : (a b : S) (address : ℕ) (reply : Reply) (moment : Moment) (next : ℕ → Plan)
        → ((word : ℕ) → reply ≡ Value word → ⊥) → IsAnswered (machine a) (machine b) (Examine 1 address) reply
        → FollowsPlan machine a b (examines moment address next) (fails moment reply)
    led_untold a b address reply moment next other answered =
        subst (λ (p : Plan). FollowsPlan machine a b (examines moment address next) p)
        (if_untold moment next reply other)
        (led_asked a b (Examine 1 address) reply (if_told moment next) answered)

    -- all channels are closed
    pub led_reset : (a b : S) (moment : Moment) (answer : Reply) (said : Spoken)
        → IsAnswered (machine a) (machine b) (Calls 1 Reset moment) answer
        → FollowsPlan machine a b (ends moment said) (Say said)
    led_reset a b moment answer said answered = led_asked a b (Calls 1 Reset moment) answer (λ reply. Say said)
        answered
