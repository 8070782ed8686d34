-- The state of a service and of a writer after a job logs in for one errand.
use Rattle.std.proofs.Common.{◌≡◌, ◌⊎◌, ℕ, ◌||◌, Bool, true, false, List, [], Option, None, Some, Result, Ok, Err}
use Rattle.std.proofs.Common.{refl, sym, ◌∙◌, ap, subst, inl, inr, IfOk, ℤ, ◌≤◌, length, arith}
use Rattle.std.specs.Prelude.{IsErrOf}
use Rattle.std.specs.Io.KnownBytes.{Appends, Consumes, IsAtEnd}
use Rattle.std.proofs.KnownBytes.{Appends-nil}
use Rattle.words36.specs.declared.moment.Moment.{Moment}
use Rattle.spec_language.specs.Common.{AreWords, list_plan, volume_line, Act, Plan, Say, Spoken, complains, refuses}
use Rattle.spec_language.specs.Common.{refusal, is_broken, line}
use Rattle.spec_machine.specs.Common.{State, room as room_in, Serving}
use Rattle.spec_language.specs.declared.style.Style.{Style}
use Rattle.spec_machine.specs.declared.call.Reply.{Reply}
use Rattle.spec_machine.specs.declared.call.Reply.TheVariants.{NoMemory as NoMemoryReply, Failed}
use Rattle.spec_language.specs.declared.encoding.Encoding.{Encoding}
use Rattle.commands.specs.Common.{FollowsPlan, FinishesPlan, fresh, Carries, Performs, Errand, IsUnread, Delivery}
use Rattle.commands.specs.Common.{Checked}
use Rattle.commands.specs.Common.{TellsMisfit, no_room, Machine, AlwaysStands, HasWords, IsInputReason, words_said}
use Rattle.commands.specs.Common.{most_bytes, IsTooLong, BeginsNoFile, WritesText, spoken}
use Rattle.commands.specs.declared.answer.Tally.{Tally}
use Rattle.commands.specs.declared.error.SessionError.{SessionError}
use Rattle.commands.specs.declared.reason.Misfit.{Misfit}
use Rattle.commands.specs.declared.error.SessionError.TheVariants.{Read, NoMemory}
use Rattle.commands.specs.declared.reason.Misfit.TheVariants.{Excess}
use Rattle.commands.specs.declared.reason.Reason.TheVariants.{Input}
use Rattle.commands.proofs.ActLaws.{goes_nowhere}
use Rattle.commands.proofs.LedLaws.{led_on, led_still}
use Rattle.commands.proofs.AnswerLaws.{or-true}

-- the outcome if nothing was counted before
said_spoken : (said : Spoken) (bytes : List ℕ) (tally counted : Tally) → tally ≡ fresh
    → counted.refused ≡ tally.refused || said.refused → counted.broke ≡ tally.broke || said.broke → bytes ≡ said.text
    → said ≡ spoken bytes counted
said_spoken said bytes tally counted none refused broke text =
    let r : counted.refused ≡ said.refused = refused ∙ ap (λ (t : Tally). t.refused || said.refused) none in
    let b : counted.broke ≡ said.broke = broke ∙ ap (λ (t : Tally). t.broke || said.broke) none in
    λ i. record { text = sym text i; refused = sym r i; broke = sym b i }

-- how the writing of a text ended
abbrev told : Result (Unit {0}) SessionError → Result (Unit {0}) SessionError
told result = result

not_told : (unit : Unit {0}) → told (Ok unit) ≡ told (Err NoMemory) → ⊥
not_told unit e = cc

told_error : (error : SessionError) → told (Err error) ≡ told (Err NoMemory) → error ≡ NoMemory
told_error error e = cc

module _ {V E S : Type 0} (machine : S → Machine) (bytes : V → List ℕ) where
  -- the acts before an end
  pub concluded_behind : (result : Result V E) (a b c : S) (plan rest : Plan) (tally counted : Tally)
      → FollowsPlan machine a b plan rest → FinishesPlan bytes result machine b c rest tally counted
      → FinishesPlan bytes result machine a c plan tally counted
  concluded_behind result a b c plan rest tally counted led p = record {
    said = p.said;
    led = led_on machine a b c plan rest (Say p.said) led p.led;
    refused = p.refused;
    broke = p.broke;
    reason = p.reason;
    text = p.text;
  }

  pub carried : (result : Result V E) (a b : S) (plan : Plan) (tally counted : Tally) → tally ≡ fresh
      → FinishesPlan bytes result machine a b plan tally counted → Carries bytes result machine a b plan counted
  carried (Ok v) a b plan tally counted none p = (
    subst (λ (said : Spoken). FollowsPlan machine a b plan (Say said))
        (said_spoken p.said (bytes v) tally counted none p.refused p.broke p.text) p.led,
    p.reason ∙ ap (λ (t : Tally). t.reason) none,
  )
  carried (Err error) a b plan tally counted none p = (Say p.said, p.led)

  pub carried_behind : (result : Result V E) (a b c : S) (plan rest : Plan) (counted : Tally)
      → FollowsPlan machine a b plan rest → Carries bytes result machine b c rest counted
      → Carries bytes result machine a c plan counted
  carried_behind (Ok v) a b c plan rest counted led p =
      (led_on machine a b c plan rest (Say (spoken (bytes v) counted)) led p.0, p.1)
  carried_behind (Err error) a b c plan rest counted led p = (p.0, led_on machine a b c plan rest p.0 led p.1)

  -- The text was written, or not all of it.

  pub errand_done : (text : Result V E) (sink full : Option (List ℕ)) (a b : S) (plan : Plan) (counted : Tally)
      (unit : Unit {0}) → Carries bytes text machine a b plan counted → WritesText bytes (Ok unit) sink full text
      → Errand sink full machine a b plan (Ok counted)
  errand_done (Ok v) sink full a b plan counted unit p put = record {
    written = bytes v;
    acts = p.0.acts;
    appended = put.0;
    goes = p.0.goes;
    performs = p.0.leads;
    reason = p.1;
  }
  errand_done (Err error) sink full a b plan counted unit p put = absurd (not_told unit put.0)

  pub errand_cut : (text : Result V E) (sink full : Option (List ℕ)) (a b : S) (plan : Plan) (counted : Tally)
      (error : SessionError) → Carries bytes text machine a b plan counted → WritesText bytes (Err error) sink full text
      → Errand sink full machine a b plan (Err error)
  errand_cut (Ok v) sink full a b plan counted error p put =
      let cut = put.1.1 in
      subst (λ (e : SessionError). Errand sink full machine a b plan (Err e)) (sym put.1.0) (record {
        written = cut.0;
        acts = p.0.acts;
        appended = cut.2;
        goes = p.0.goes;
        performs = (spoken (bytes v) counted, p.0.leads, cut.1, cut.3, cut.4);
        reason = tt;
      })
  errand_cut (Err wanted) sink full a b plan counted error p put =
      subst (λ (e : SessionError). Errand sink full machine a b plan (Err e)) (sym (told_error error put.0)) (record {
        written = [];
        acts = p.1.acts;
        appended = subst (λ (l : Option (List ℕ)). Appends sink l []) (sym put.1) (Appends-nil sink);
        goes = p.1.goes;
        performs = (p.0, p.1.leads, refl);
        reason = tt;
      })

-- A refusal without a call.
module _ {V E S : Type 0} (machine : S → Machine) (stands : AlwaysStands machine) (bytes : V → List ℕ)
    (result : Result V E) (m : S) (tally counted : Tally) where
  pub refused_reply : (reply : Reply) (words : List ℕ) (broken : Bool) → words ≡ refusal reply
      → broken ≡ is_broken reply → counted.refused ≡ true → counted.broke ≡ tally.broke || broken
      → counted.reason ≡ tally.reason → IfOk result (λ v. bytes v ≡ line words)
      → FinishesPlan bytes result machine m m (Say (refuses reply)) tally counted
  refused_reply reply words broken same_words same_broken refused broke reason text = record {
    said = refuses reply;
    led = led_still machine stands m (Say (refuses reply));
    refused = refused ∙ or-true tally.refused;
    broke = broke ∙ ap (λ b. tally.broke || b) same_broken;
    reason = reason;
    text = subst (λ (l : List ℕ). IfOk result (λ v. bytes v ≡ line l)) same_words text;
  }

  pub refused_words : (words : List ℕ) (said : List ℕ) → words ≡ said → counted.refused ≡ true
      → counted.broke ≡ tally.broke || false → counted.reason ≡ tally.reason
      → IfOk result (λ v. bytes v ≡ line words)
      → FinishesPlan bytes result machine m m (Say (complains said)) tally counted
  refused_words words said same refused broke reason text = record {
    said = complains said;
    led = led_still machine stands m (Say (complains said));
    refused = refused ∙ or-true tally.refused;
    broke = broke;
    reason = reason;
    text = subst (λ (l : List ℕ). IfOk result (λ v. bytes v ≡ line l)) same text;
  }

-- Inputs.
module _ {S : Type 0} (machine : S → Machine) (source left sink full : Option (List ℕ)) (a b : S) (encoding : Encoding)
    (plan : Option (List ℕ) → Plan) where
  pub delivered : (result : Result Tally SessionError) (read : List ℕ) (words : Option (List ℕ))
      → Consumes source left read → IsAtEnd left ⊎ BeginsNoFile encoding read → length read ≤ most_bytes encoding
      → AreWords encoding read words
      → Errand sink full machine a b (plan words) result → (told : Result Tally SessionError)
      → ((acts : List Act) (written : List ℕ) → Performs (plan words) acts written result
      → Performs (plan words) acts written told) → TellsMisfit encoding read told
      → Delivery source left sink full machine a b encoding plan told
  delivered result read words consumed ended few are p told same tells = record {
    read = read;
    written = p.written;
    acts = p.acts;
    consumed = consumed;
    appended = p.appended;
    goes = p.goes;
    delivers = inl (ended, few, words, are, same p.acts p.written p.performs);
    tells = tells;
  }

  pub excessive : (result : Result Tally SessionError) (read : List ℕ) → Consumes source left read
      → IsTooLong encoding read → Errand sink full machine a b no_room result → (told : Result Tally SessionError)
      → ((acts : List Act) (written : List ℕ) → Performs no_room acts written result
      → Performs no_room acts written told) → TellsMisfit encoding read told
      → Delivery source left sink full machine a b encoding plan told
  excessive result read consumed long p told same tells = record {
    read = read;
    written = p.written;
    acts = p.acts;
    consumed = consumed;
    appended = p.appended;
    goes = p.goes;
    delivers = inr (inl (long, same p.acts p.written p.performs));
    tells = tells;
  }

-- the reason of an input that isn't too long
pub tells_fitting : (encoding : Encoding) (read : List ℕ) (tally : Tally) → length read ≤ most_bytes encoding
    → IsInputReason encoding read tally.reason → TellsMisfit encoding read (Ok tally)
tells_fitting encoding read tally few reason = (reason, λ long. let wrong : ⊥ = omega (arith, long) in absurd wrong)

-- and of one that is
pub tells_excess : (encoding : Encoding) (read : List ℕ) (most : ℕ) → most ≡ most_bytes encoding
    → IsTooLong encoding read → IsInputReason encoding read (Some (Input (Excess most)))
    × (IsTooLong encoding read → Some (Input (Excess most)) ≡ Some (Input (Excess (most_bytes encoding))))
tells_excess encoding read most same long = ((same, long), λ _. ap (λ (n : ℕ). Some (Input (Excess n))) same)

-- the words of an input, if it spells any
pub words_are : {V : Type 0} (items : V → List ℕ) (encoding : Encoding) (bytes : List ℕ) (words : Result V Misfit)
    → HasWords items encoding bytes words → AreWords encoding bytes (words_said items words)
words_are items encoding bytes (Ok words) has = has
words_are items encoding bytes (Err misfit) has = has.0

tells_nothing : (encoding : Encoding) (read : List ℕ) (result : Result Tally SessionError) → IsUnread result
    → TellsMisfit encoding read result
tells_nothing encoding read (Ok tally) unread = absurd unread
tells_nothing encoding read (Err error) unread = tt

pub undelivered : {S : Type 0} (machine : S → Machine) (stands : AlwaysStands machine)
    (source left sink : Option (List ℕ)) (a : S) (encoding : Encoding) (plan : Option (List ℕ) → Plan)
    (result : Result Tally SessionError) (read : List ℕ) → Consumes source left read → IsUnread result
    → Delivery source left sink sink machine a a encoding plan result
undelivered machine stands source left sink a encoding plan result read consumed unread = record {
  read = read;
  written = [];
  acts = [];
  consumed = consumed;
  appended = Appends-nil sink;
  goes = goes_nowhere machine stands a;
  delivers = inr (inr (unread, refl, refl));
  tells = tells_nothing encoding read result unread;
}

pub unread_by : (error : SessionError) → (error ≡ Read) ⊎ (error ≡ NoMemory) → IsUnread (Err error)
unread_by error (inl read) = subst (λ (e : SessionError). IsUnread (Err e)) (sym read) tt
unread_by error (inr memory) = subst (λ (e : SessionError). IsUnread (Err e)) (sym memory) tt

pub memory_unread : IsUnread (Err NoMemory)
memory_unread = tt

-- Directories that were requested.

pub none_there : (place : Option ℕ) → ((owner : ℕ) → place ≡ Some owner → ⊥) → place ≡ None
none_there None other = refl
none_there (Some owner) other = absurd (other owner refl)

-- a service that has not failed finds no memory for them
pub not_asked : {V : Type 0} (reply : Reply) (failed : Bool) → (reply ≡ NoMemoryReply) ⊎ (reply ≡ Failed)
    → (IsErrOf {T = V} {E = Reply} (Err reply) Failed → failed ≡ true)
    → (reply ≡ NoMemoryReply) ⊎ ((reply ≡ Failed) × (failed ≡ true))
not_asked reply failed (inl none) fails = inl none
not_asked {V = V} reply failed (inr is) fails =
    inr (is, fails (subst (λ r. IsErrOf {T = V} {E = Reply} (Err r) Failed) (sym is) refl))

pub surveyed : {S : Type 0} (machine : S → Machine) (moment : Moment) (style : Style) (sink full : Option (List ℕ))
    (a b : S)
    (shown owners : List ℕ) (result : Result Tally SessionError) → shown ≡ owners
    → Errand sink full machine a b (list_plan moment style shown) result
    → Errand sink full machine a b (list_plan moment style owners) result
surveyed machine moment style sink full a b shown owners result same p =
    subst (λ (l : List ℕ). Errand sink full machine a b (list_plan moment style l) result) same p

-- The line about a volume.
module _ {V E : Type 0} (machine : Machine) (bytes : V → List ℕ) where
  pub checked_cut : (text : Result V E) (sink full : Option (List ℕ)) (room : ℤ) (error : SessionError)
      → (machine.honest → (s : State) → machine.serves (Serving s) → room ≡ room_in machine.pack s)
      → IfOk text (λ v. bytes v ≡ volume_line machine.pack.blocks room) → WritesText bytes (Err error) sink full text
      → Checked sink full machine (Err error)
  checked_cut (Ok v) sink full room error left said put =
      let cut = put.1.1 in
      subst (λ (e : SessionError). Checked sink full machine (Err e)) (sym put.1.0) (record {
        written = cut.0;
        unwritten = cut.1;
        appended = cut.2;
        says = λ h s serves. ap (volume_line machine.pack.blocks) (sym (left h s serves)) ∙ sym said ∙ cut.3;
        whole = tt;
        cut = cut.4;
      })
  checked_cut (Err wanted) sink full room error left said put =
      subst (λ (e : SessionError). Checked sink full machine (Err e)) (sym (told_error error put.0)) (record {
        written = [];
        unwritten = volume_line machine.pack.blocks room;
        appended = subst (λ (l : Option (List ℕ)). Appends sink l []) (sym put.1) (Appends-nil sink);
        says = λ h s serves. ap (volume_line machine.pack.blocks) (sym (left h s serves));
        whole = tt;
        cut = refl;
      })
