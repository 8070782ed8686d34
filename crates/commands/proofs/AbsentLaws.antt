-- Files that must not exist, and the events before a file is entered.
use Rattle.std.proofs.Common.{◌≡◌, ℕ, List, Some, None, Result, refl, sym, subst}
use Rattle.words36.specs.declared.moment.Moment.{Moment}
use Rattle.spec_language.specs.Common.{create_events, login_events, unfit, Plan, Ask, Say, call_event, each, ends}
use Rattle.spec_language.specs.Common.{file_words, ok, complains}
use Rattle.spec_machine.specs.declared.call.Call.TheVariants.{Lookup}
use Rattle.spec_machine.specs.declared.call.Event.{Event}
use Rattle.spec_machine.specs.declared.call.Reply.{Reply}
use Rattle.spec_language.specs.declared.command.Spec.{Spec}
use Rattle.spec_language.specs.declared.encoding.Encoding.{Encoding}
use Rattle.commands.specs.Common.{FollowsPlan, followed, absent, if_absent, put_plan_as, looks_for, makes_way}
use Rattle.commands.specs.Common.{AlwaysStands}
use Rattle.commands.specs.Common.{IsAnswered, Machine}
use Rattle.commands.specs.declared.existing.Existing.{Existing}
use Rattle.commands.specs.declared.existing.Existing.TheVariants.{Replace, Refuse}
use Rattle.commands.proofs.LedLaws.{led_asked, led_on}
use Rattle.commands.proofs.PutLaws.{filled_then}

module _ {S : Type 0} (machine : S → Machine) (stands : AlwaysStands machine) (a b c : S) (moment : Moment)
    (spec : Spec) where
  module _ (names : List Event) (is : names ≡ looks_for moment spec) (lookup : Event)
      (is_lookup : lookup ≡ call_event moment (Lookup 1 file_words)) (reply : Reply)
      (named : (m : Moment) (next : Plan) → FollowsPlan machine a b (each m names next) next)
      (answered : IsAnswered (machine b) (machine c) lookup reply) where
    pub looked_up : (result : Result (Unit {0}) Reply)
        → ((next : Plan) → followed moment result (λ unit. next) ≡ if_absent moment next reply) → (next : Plan)
        → FollowsPlan machine a c (absent moment spec next) (followed moment result (λ unit. next))
    looked_up result says next =
        let behind : Plan = Ask (call_event moment (Lookup 1 file_words)) (if_absent moment next) in
        subst (λ (l : Plan). FollowsPlan machine a c (absent moment spec next) l) (sym (says next))
        (led_on machine a b c (absent moment spec next) behind (if_absent moment next reply)
        (subst (λ (l : List Event). FollowsPlan machine a b (each moment l behind) behind) is (named moment behind))
        (led_asked machine stands b c (call_event moment (Lookup 1 file_words)) reply (if_absent moment next)
        (subst (λ (e : Event). IsAnswered (machine b) (machine c) e reply) is_lookup answered)))

-- The plan of a put, by what happens to a file that has its name.

pub keeps_some : (existing : Existing) (moment : Moment) (owner : ℕ) (encoding : Encoding) (spec : Spec)
    (words : List ℕ) → put_plan_as existing moment owner encoding spec (Some words)
    ≡ each moment (login_events owner) (makes_way existing moment spec (each moment (create_events moment encoding spec)
    (filled_then moment encoding words (ends moment ok))))
keeps_some Replace moment owner encoding spec words = refl
keeps_some Refuse moment owner encoding spec words = refl

pub keeps_none : (existing : Existing) (moment : Moment) (owner : ℕ) (encoding : Encoding) (spec : Spec)
    → put_plan_as existing moment owner encoding spec None ≡ Say (complains (unfit encoding))
keeps_none Replace moment owner encoding spec = refl
keeps_none Refuse moment owner encoding spec = refl
