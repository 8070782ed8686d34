-- The answer to a line.
use Rattle.std.proofs.Common.{◌≡◌, ◌≢◌, ℕ, ◌||◌, Bool, true, false, List, [], ◌∷◌, refl, sym, ◌∙◌, ap, subst, Option}
use Rattle.std.proofs.Common.{Some, None, Result, Ok, Err, IfOk, unwrap_or}
use Rattle.std.specs.Prelude.{codes}
use Rattle.words36.specs.declared.moment.Moment.{Moment}
use Rattle.spec_language.specs.Common.{Spoken, complains, refuses, prints, refusal, is_broken, greeting, line}
use Rattle.spec_language.specs.Common.{list_text, list_said, Act, Asks, Looks, Plan, Show, Say, RunsPlan, line_plan}
use Rattle.spec_language.specs.Common.{fails, ends, ok, Speaks, core_words}
use Rattle.spec_image.specs.declared.entry.Entry.{Entry}
use Rattle.spec_language.specs.declared.style.Style.{Style}
use Rattle.spec_language.specs.declared.style.Style.TheVariants.{Columns}
use Rattle.spec_language.specs.declared.command.Command.{Command}
use Rattle.spec_language.specs.declared.command.Command.TheVariants.{Login as LoginLine, Directory as DirectoryLine}
use Rattle.spec_language.specs.declared.command.Command.TheVariants.{Copy, Rename, Delete, TypeOut, Protect, MakeDir}
use Rattle.spec_language.specs.declared.command.Command.TheVariants.{Quota}
use Rattle.spec_machine.specs.declared.call.Event.TheVariants.{Login, Login as LogsIn}
use Rattle.spec_machine.specs.declared.call.Reply.{Reply}
use Rattle.spec_machine.specs.declared.call.Reply.TheVariants.{Done, Value, Refused, Stopped, NoChannel, AddressCheck}
use Rattle.spec_machine.specs.declared.call.Reply.TheVariants.{NoJob, NoMemory, Device, Failed, DateRange}
use Rattle.commands.specs.Common.{Machine, AlwaysStands, IsAnswered, IsListed, GoesBy, FollowsPlan, FinishesPlan}
use Rattle.commands.specs.Common.{HasShown}
use Rattle.commands.specs.Common.{CommandDone}
use Rattle.commands.specs.declared.answer.Tally.{Tally}
use Rattle.commands.proofs.ActLaws.{goes_nowhere, goes_answered, goes_listed}
use Rattle.commands.proofs.LedLaws.{led_on}
use Rattle.commands.proofs.TranscriptLaws.{or-false}

pub or-true : (b : Bool) → true ≡ b || true
or-true true = refl
or-true false = refl

module _ {V E S : Type 0} (machine : S → Machine) (stands : AlwaysStands machine) (bytes : V
    → List ℕ) (result : Result V E) (moment : Moment) (tally counted : Tally) where
  -- Refusals: without a call, and after one.

  pub spoke_complaint : (m : S) (user : Option ℕ) (meant : Option Command) (words : List ℕ)
      → Speaks moment user meant [] (complains words) user
      → counted.refused ≡ true → counted.broke ≡ tally.broke || false → IfOk result (λ v. bytes v ≡ line words)
      → CommandDone bytes result machine m m moment user user tally counted meant
  spoke_complaint m user meant words speaks refused broke text =
      record {
        acts = [];
        said = complains words;
        speaks = speaks;
        goes = goes_nowhere machine stands m;
        refused = refused ∙ or-true tally.refused;
        broke = broke;
        text = text;
      }

  spoke_refusal : (old new : S) (user : Option ℕ) (meant : Option Command) (acts : List Act) (reply : Reply)
      (words : List ℕ) (broken : Bool) → Speaks moment user meant acts (refuses reply) user
      → GoesBy machine old new acts
      → words ≡ refusal reply → broken ≡ is_broken reply → counted.refused ≡ true
      → counted.broke ≡ tally.broke || broken → IfOk result (λ v. bytes v ≡ line words)
      → CommandDone bytes result machine old new moment user user tally counted meant
  spoke_refusal old new user meant acts reply words broken speaks goes same_words same_broken refused broke text =
      record {
        acts = acts;
        said = refuses reply;
        speaks = speaks;
        goes = goes;
        refused = refused ∙ or-true tally.refused;
        broke = broke ∙ ap (λ b. tally.broke || b) same_broken;
        text = subst (λ (l : List ℕ). IfOk result (λ v. bytes v ≡ line l)) same_words text;
      }

  pub spoke_unknown : (m : S) (user : Option ℕ) (meant : Option Command) → meant ≡ None → counted.refused ≡ true
      → counted.broke ≡ tally.broke || false → IfOk result (λ v. bytes v ≡ line (codes "?Command error"))
      → CommandDone bytes result machine m m moment user user tally counted meant
  spoke_unknown m user meant e refused broke text =
      subst (λ (o : Option Command). CommandDone bytes result machine m m moment user user tally counted o) (sym e)
      (spoke_complaint m user None (codes "?Command error") (refl, refl, refl) refused broke text)

  -- a line that needs a job, and its text without one
  needs_job : (command : Command) → ((owner : ℕ) → command ≡ LoginLine owner → ⊥)
      → Speaks moment None (Some command) [] (complains (codes "?Not logged in")) None
  needs_job (LoginLine owner) other = absurd (other owner refl)
  needs_job (DirectoryLine place) other = (refl, refl, refl)
  needs_job (Copy to from) other = (refl, refl, refl)
  needs_job (Rename to from) other = (refl, refl, refl)
  needs_job (Delete spec) other = (refl, refl, refl)
  needs_job (TypeOut spec) other = (refl, refl, refl)
  needs_job (Protect spec protection) other = (refl, refl, refl)
  needs_job (MakeDir owner protection) other = (refl, refl, refl)
  needs_job (Quota owner blocks) other = (refl, refl, refl)

  pub spoke_stranger : (m : S) (user : Option ℕ) (command : Command)
      → ((owner : ℕ) → command ≡ LoginLine owner → ⊥) → user ≡ None
      → counted.refused ≡ true → counted.broke ≡ tally.broke || false
      → IfOk result (λ v. bytes v ≡ line (codes "?Not logged in"))
      → CommandDone bytes result machine m m moment user user tally counted (Some command)
  spoke_stranger m user command other e refused broke text =
      subst (λ (o : Option ℕ). CommandDone bytes result machine m m moment o o tally counted (Some command))
      (sym e)
      (spoke_complaint m None (Some command) (codes "?Not logged in") (needs_job command other) refused broke text)

  -- LOGIN.

  login_refused : (user : Option ℕ) (owner : ℕ) (reply : Reply) → reply ≢ Done
      → Speaks moment user (Some (LoginLine owner)) (Asks (Login 1 owner core_words) reply ∷ []) (refuses reply) user
  login_refused user owner Done h = absurd (h refl)
  login_refused user owner (Value word) h = (Value word, refl, refl, refl)
  login_refused user owner (Refused code) h = (Refused code, refl, refl, refl)
  login_refused user owner (Stopped status) h = (Stopped status, refl, refl, refl)
  login_refused user owner NoChannel h = (NoChannel, refl, refl, refl)
  login_refused user owner AddressCheck h = (AddressCheck, refl, refl, refl)
  login_refused user owner NoJob h = (NoJob, refl, refl, refl)
  login_refused user owner NoMemory h = (NoMemory, refl, refl, refl)
  login_refused user owner Device h = (Device, refl, refl, refl)
  login_refused user owner Failed h = (Failed, refl, refl, refl)
  login_refused user owner DateRange h = (DateRange, refl, refl, refl)

  pub spoke_login_refused : (old new : S) (user : Option ℕ) (owner : ℕ) (reply : Reply) (words : List ℕ) (broken : Bool)
      → reply ≢ Done → IsAnswered (machine old) (machine new) (LogsIn 1 owner core_words) reply
      → words ≡ refusal reply → broken ≡ is_broken reply → counted.refused ≡ true
      → counted.broke ≡ tally.broke || broken → IfOk result (λ v. bytes v ≡ line words)
      → CommandDone bytes result machine old new moment user user tally counted (Some (LoginLine owner))
  spoke_login_refused old new user owner reply words broken h answered same_words same_broken refused broke text =
      spoke_refusal old new user (Some (LoginLine owner)) (Asks (Login 1 owner core_words) reply ∷ []) reply words
      broken
      (login_refused user owner reply h) (goes_answered machine stands old new (LogsIn 1 owner core_words) reply
      answered)
      same_words same_broken refused broke text

  -- The rest of a line if a call was not done.
  pub concludes_refusal : (old new : S) (reply : Reply) (words : List ℕ) (broken : Bool)
      → FollowsPlan machine old new (fails moment reply) (Say (refuses reply))
      → words ≡ refusal reply → broken ≡ is_broken reply → counted.refused ≡ true
      → counted.broke ≡ tally.broke || broken → counted.reason ≡ tally.reason
      → IfOk result (λ v. bytes v ≡ line words)
      → FinishesPlan bytes result machine old new (fails moment reply) tally counted
  concludes_refusal old new reply words broken led same_words same_broken refused broke reason text =
      record {
        said = refuses reply;
        led = led;
        refused = refused ∙ or-true tally.refused;
        broke = broke ∙ ap (λ b. tally.broke || b) same_broken;
        reason = reason;
        text = subst (λ (l : List ℕ). IfOk result (λ v. bytes v ≡ line l)) same_words text;
      }

  -- A line that needs a job, led to its end.
  pub spoke_concluded : (old mid new : S) (me : ℕ) (command : Command) (rest : Plan)
      → ((acts : List Act) (said : Spoken) → RunsPlan (line_plan moment me command) acts said
      → Speaks moment (Some me) (Some command) acts said (Some me))
      → FollowsPlan machine old mid (line_plan moment me command) rest
      → FinishesPlan bytes result machine mid new rest tally counted
      → CommandDone bytes result machine old new moment (Some me) (Some me) tally counted (Some command)
  spoke_concluded old mid new me command rest speaks led p =
      let whole = led_on machine old mid new (line_plan moment me command) rest (Say p.said) led p.led in
      record {
        acts = whole.acts;
        said = p.said;
        speaks = speaks whole.acts p.said whole.leads;
        goes = whole.goes;
        refused = p.refused;
        broke = p.broke;
        text = p.text;
      }

-- The same if it was done: nothing is counted.
module _ {V E S : Type 0} (machine : S → Machine) (stands : AlwaysStands machine) (bytes : V
    → List ℕ) (result : Result V E) (moment : Moment) (tally : Tally) where
  pub spoke_login : (old new : S) (user : Option ℕ) (owner : ℕ) (reply : Reply) → reply ≡ Done
      → IsAnswered (machine old) (machine new) (LogsIn 1 owner core_words) reply
      → IfOk result (λ v. bytes v ≡ greeting owner)
      → CommandDone bytes result machine old new moment user (Some owner) tally tally (Some (LoginLine owner))
  spoke_login old new user owner reply e answered text =
      record {
        acts = Asks (Login 1 owner core_words) Done ∷ [];
        said = prints (greeting owner);
        speaks = (Done, refl, refl, refl);
        goes = goes_answered machine stands old new (LogsIn 1 owner core_words) Done
            (subst (IsAnswered (machine old) (machine new) (LogsIn 1 owner core_words)) e answered);
        refused = or-false tally.refused;
        broke = or-false tally.broke;
        text = text;
      }

  -- The rest of a line that prints OK, all calls of which were done.
  pub concludes_ok : (old new : S) → FollowsPlan machine old new (ends moment ok) (Say ok)
      → IfOk result (λ v. bytes v ≡ line (codes "OK"))
      → FinishesPlan bytes result machine old new (ends moment ok) tally tally
  concludes_ok old new led text = record {
    said = ok;
    led = led;
    refused = or-false tally.refused;
    broke = or-false tally.broke;
    reason = refl;
    text = text;
  }

-- The list of a directory: there is one, or it is refused.
module _ {V E S : Type 0} (machine : S → Machine) (stands : AlwaysStands machine) (bytes : V → List ℕ)
    (result : Result V E) (tally : Tally) where
  led_shown : (old new : S) (owner : ℕ) (answer : Result (List Entry) Reply)
      → IsListed (machine old) (machine new) 1 owner answer → (next : Result (List Entry) Reply → Plan)
      → FollowsPlan machine old new (Show owner next) (next answer)
  led_shown old new owner answer listed next = record {
    acts = Looks owner answer ∷ [];
    goes = goes_listed machine stands old new owner answer listed;
    leads = (refl, refl);
  }

  pub shown_list : (old new : S) (style : Style) (owner : ℕ) (entries shown : List Entry)
      → IsListed (machine old) (machine new) 1 owner (Ok entries) → shown ≡ entries
      → IfOk result (λ v. bytes v ≡ list_text style owner shown)
      → HasShown bytes result machine old new style owner tally tally
  shown_list old new style owner entries shown listed same text = record {
    answer = Ok entries;
    led = led_shown old new owner (Ok entries) listed;
    refused = or-false tally.refused;
    broke = or-false tally.broke;
    reason = refl;
    text = subst (λ (l : List Entry). IfOk result (λ v. bytes v ≡ list_text style owner l)) same text;
  }

  pub shown_refused : (counted : Tally) (old new : S) (style : Style) (owner : ℕ) (reply : Reply) (words : List ℕ)
      (broken : Bool)
      → IsListed (machine old) (machine new) 1 owner (Err reply)
      → words ≡ refusal reply → broken ≡ is_broken reply → counted.refused ≡ true
      → counted.broke ≡ tally.broke || broken → counted.reason ≡ tally.reason
      → IfOk result (λ v. bytes v ≡ line words)
      → HasShown bytes result machine old new style owner tally counted
  shown_refused counted old new style owner reply words broken listed same_words same_broken refused broke reason
      text = record {
        answer = Err reply;
        led = led_shown old new owner (Err reply) listed;
        refused = refused ∙ or-true tally.refused;
        broke = broke ∙ ap (λ b. tally.broke || b) same_broken;
        reason = reason;
        text = subst (λ (l : List ℕ). IfOk result (λ v. bytes v ≡ line l)) same_words text;
      }

-- DIRECTORY.
module _ {V E S : Type 0} (machine : S → Machine) (bytes : V → List ℕ) (result : Result V E) (moment : Moment)
    (tally counted : Tally) where
  pub spoke_shown : (old new : S) (me : ℕ) (place : Option ℕ) (owner : ℕ) → owner ≡ unwrap_or place me
      → HasShown bytes result machine old new Columns owner tally counted
      → CommandDone bytes result machine old new moment (Some me) (Some me) tally counted (Some (DirectoryLine place))
  spoke_shown old new me place owner e p =
      let q = subst (λ (o : ℕ). HasShown bytes result machine old new Columns o tally counted) e p in
      let led = q.led (λ answer. Say (list_said Columns (unwrap_or place me) answer)) in
      record {
        acts = led.acts;
        said = list_said Columns (unwrap_or place me) q.answer;
        speaks = (led.leads, refl);
        goes = led.goes;
        refused = q.refused;
        broke = q.broke;
        text = q.text;
      }
