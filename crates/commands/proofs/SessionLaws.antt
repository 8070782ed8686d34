-- A session or a call script, from its first byte to its end.
use Rattle.std.proofs.Common.{◌≡◌, ◌<◌, ℕ, List, [], ◌∷◌, ◌++◌, length, take, refl, sym, ◌∙◌, ap, subst, append-nil}
use Rattle.std.proofs.Common.{inl, inr, Option, None, Result, Ok, Err, IfOk, IfErr}
use Rattle.std.specs.Io.KnownBytes.{Appends, Consumes, Keeps, IsAtEnd}
use Rattle.std.proofs.KnownBytes.{Appends-nil, Appends-trans, Consumes-trans, Consumes-nil, Consumes-kept}
use Rattle.words36.specs.declared.moment.Moment.{Moment}
use Rattle.spec_language.specs.Common.{lines, Act, Asks, call_event, Went}
use Rattle.spec_image.specs.Common.{Pack}
use Rattle.spec_machine.specs.Common.{Service, Answers}
use Rattle.spec_machine.specs.declared.call.Call.TheVariants.{Reset}
use Rattle.commands.specs.Common.{IsPartialLine, fresh, Machine, AlwaysStands, GoesBy, IsServedTranscript}
use Rattle.commands.specs.Common.{IsServedSession, IsServedScript, spoken, Finished, SoFar, StepsOn, IsBreak}
use Rattle.commands.specs.Common.{BreaksOff, EndsWell, Ends, LinesServed, Session, Script}
use Rattle.commands.specs.declared.error.SessionError.{SessionError}
use Rattle.commands.specs.declared.error.SessionError.TheVariants.{Read, Write, NoMemory}
use Rattle.commands.specs.declared.answer.Tally.{Tally}
use Rattle.commands.specs.declared.language.Language.{Language}
use Rattle.commands.specs.declared.language.Language.TheVariants.{Commands, Events}
use Rattle.commands.specs.declared.run.SessionState.{SessionState}
use Rattle.commands.proofs.ActLaws.{goes_nowhere, goes_on, went_apart, acts_went}
use Rattle.commands.proofs.TranscriptLaws.{events_who}

-- the progress of a session, with its reader, its writer and its service, between two reads
pub record Streams {S : Type 0} (language : Language) (source left sink full : Option (List ℕ)) (machine : S
    → Machine) (old now : S) (moment : Moment) (session : SessionState) : Type 0 where
  pub read : List ℕ
  pub written : List ℕ
  pub acts : List Act
  pub consumed : Consumes source left read
  pub appended : Appends sink full written
  pub goes : GoesBy machine old now acts
  pub so : SoFar language moment session read written acts
  pub waits : session.waiting.items ≡ []

pub stream_starts : {S : Type 0} (language : Language) (machine : S
    → Machine) (stands : AlwaysStands machine) (source sink : Option (List ℕ)) (m : S) (moment : Moment)
    (session : SessionState)
    → IsPartialLine session.held [] → session.line ≡ 1 → session.user ≡ None → session.tally ≡ fresh
    → session.waiting.items ≡ []
    → Streams language source source sink sink machine m m moment session
stream_starts language machine stands source sink m moment session held line user tally waits = record {
  read = [];
  written = [];
  acts = [];
  consumed = Consumes-nil source;
  appended = Appends-nil sink;
  goes = goes_nowhere machine stands m;
  so = record {
    front = [];
    seen = [];
    parted = refl;
    ended = inl refl;
    unended = tt;
    held = held;
    line = line;
    transcript = (refl, λ i. spoken (waits i) (tally i), user);
    refused = [];
    refuses = (refl, λ i. spoken (waits i) (tally i), user, refl);
    reason = ap (λ (t : Tally). t.reason) tally;
  };
  waits = waits;
}

pub stream_more : {S : Type 0} (language : Language) (machine : S
    → Machine) (source left rest sink full over : Option (List ℕ)) (old now new : S) (moment : Moment)
    (session after : SessionState) (bytes : List ℕ) → Streams language source left sink full machine old now moment
    session
    → Consumes left rest bytes → StepsOn language machine now new full over moment session after bytes
    → after.waiting.items ≡ [] → Streams language source rest sink over machine old new moment after
stream_more language machine source left rest sink full over old now new moment session after bytes s c t waits =
    record {
      read = s.read ++ bytes;
      written = s.written ++ t.written;
      acts = s.acts ++ t.acts;
      consumed = Consumes-trans source left rest s.read bytes s.consumed c;
      appended = Appends-trans sink full over s.written t.written s.appended t.appended;
      goes = goes_on machine old now new s.acts t.acts s.goes t.goes;
      so = t.steps s.read s.written s.acts s.so;
      waits = waits;
    }

-- the reader failed
pub stream_stops : {S : Type 0} (language : Language) (machine : S
    → Machine) (source left rest sink full : Option (List ℕ)) (old now : S) (moment : Moment) (session : SessionState)
    → Streams language source left sink full machine old now moment session → Keeps left rest
    → LinesServed language source rest sink full machine old now moment (Err Read)
stream_stops language machine source left rest sink full old now moment session s k = record {
  read = s.read;
  written = s.written;
  acts = s.acts;
  consumed = Consumes-kept source left rest s.read s.consumed k;
  appended = s.appended;
  goes = s.goes;
  ends = record {
    front = s.so.front;
    seen = s.so.seen;
    parted = s.so.parted;
    ended = s.so.ended;
    unended = s.so.unended;
    said = spoken (s.written ++ session.waiting.items) session.tally;
    user = session.user;
    transcript = s.so.transcript;
    whole = sym (ap (λ (l : List ℕ). s.written ++ l) s.waits ∙ append-nil s.written);
  };
}

ends_broken : (language : Language) (a b : Type 0) (moment : Moment) (error : SessionError) (read written : List ℕ)
    (acts : List Act) → (a → b) → IsBreak language a moment read written acts error
    → Ends language b moment read written acts (Err error)
ends_broken language a b moment Read read written acts f u = absurd u
ends_broken language a b moment Write read written acts f u = record {
  front = u.front;
  behind = u.behind;
  parted = u.parted;
  ended = elim u.ended [ inl whole ↦ inl whole | inr end ↦ inr (end.0, f end.1) ];
  said = u.said;
  user = u.user;
  transcript = u.transcript;
  unwritten = u.unwritten;
  parts = u.parts;
  some = u.some;
}
ends_broken language a b moment NoMemory read written acts f u = record {
  front = u.front;
  behind = u.behind;
  parted = u.parted;
  ended = elim u.ended [ inl whole ↦ inl whole | inr end ↦ inr (end.0, f end.1) ];
  before = u.before;
  line = u.line;
  answered = u.answered;
  first = u.first;
  earlier = u.earlier;
  mid = u.mid;
  transcript = u.transcript;
  more = u.more;
  here = u.here;
  user = u.user;
  says = u.says;
  acts_are = u.acts_are;
  written_is = u.written_is;
}

-- it broke off in the bytes that were read last
pub stream_breaks : {S : Type 0} (language : Language) (machine : S
    → Machine) (at_end : Type 0) (source left rest sink full over : Option (List ℕ)) (old now new : S)
    (moment : Moment) (session : SessionState) (error : SessionError) (bytes : List ℕ) → (at_end → IsAtEnd rest)
    → Streams language source left sink full machine old now moment session → Consumes left rest bytes
    → BreaksOff language at_end machine now new full over moment session error bytes
    → LinesServed language source rest sink over machine old new moment (Err error)
stream_breaks language machine at_end source left rest sink full over old now new moment session error bytes end s c t =
    record {
      read = s.read ++ bytes;
      written = s.written ++ t.written;
      acts = s.acts ++ t.acts;
      consumed = Consumes-trans source left rest s.read bytes s.consumed c;
      appended = Appends-trans sink full over s.written t.written s.appended t.appended;
      goes = goes_on machine old now new s.acts t.acts s.goes t.goes;
      ends = ends_broken language at_end (IsAtEnd rest) moment error (s.read ++ bytes) (s.written ++ t.written)
          (s.acts ++ t.acts) end (t.breaks s.read s.written s.acts s.so);
    }

pub stream_ends : {S : Type 0} (language : Language) (machine : S
    → Machine) (source left rest sink full over : Option (List ℕ)) (old now new : S) (moment : Moment)
    (session : SessionState)
    (result : Result Tally SessionError) → Streams language source left sink full machine old now moment session
    → Consumes left rest [] → IsAtEnd rest
    → IfOk result (λ tally. EndsWell language machine now new full over moment session tally)
    → IfErr result (λ error. BreaksOff language (Unit {0}) machine now new full over moment session error [])
    → LinesServed language source rest sink over machine old new moment result
stream_ends language machine source left rest sink full over old now new moment session (Ok tally) s c end t broke =
    record {
      read = s.read;
      written = s.written ++ t.written;
      acts = s.acts ++ t.acts;
      consumed = subst (λ (l : List ℕ). Consumes source rest l) (append-nil s.read)
          (Consumes-trans source left rest s.read [] s.consumed c);
      appended = Appends-trans sink full over s.written t.written s.appended t.appended;
      goes = goes_on machine old now new s.acts t.acts s.goes t.goes;
      ends = (end, t.ends s.read s.written s.acts s.so);
    }
stream_ends language machine source left rest sink full over old now new moment session
    (Err error) s c end ok t = stream_breaks language machine (Unit {0}) source left rest sink full over
    old now new moment session error [] (λ u. end) s c t

-- If it finished, it was a session.

served_session : (pack : Pack) (moment : Moment) (read written : List ℕ) (acts : List Act) (tally : Tally)
    (first last : Service) → Finished Commands moment read written acts tally → Went pack first acts last
    → IsServedSession pack moment read first last (spoken written tally)
served_session pack moment read written acts tally first last f w =
    let all : acts ≡ f.talked ++ Asks (call_event moment Reset) f.closes.0 ∷ [] = f.acts_are
    ∙ ap (λ (l : List Act). f.talked ++ l) f.closes.1 in
    let parts = went_apart pack first f.talked (Asks (call_event moment Reset) f.closes.0 ∷ []) last
    (subst (λ (l : List Act). Went pack first l last) all w) in
    record {
      acts = f.talked;
      mid = parts.0;
      user = f.user;
      transcript = f.transcript;
      went = parts.1;
      answer = f.closes.0;
      reset = subst (λ (s : Service). Answers pack parts.0 (call_event moment Reset) f.closes.0 s) (sym parts.2.2)
          parts.2.1;
    }

-- or a call script
served_script : (pack : Pack) (moment : Moment) (read written : List ℕ) (acts : List Act) (tally : Tally)
    (first last : Service) → Finished Events moment read written acts tally → Went pack first acts last
    → IsServedScript pack moment read first last (spoken written tally)
served_script pack moment read written acts tally first last f w =
    let all : acts ≡ f.talked = f.acts_are ∙ ap (λ (l : List Act). f.talked ++ l) f.closes ∙ append-nil f.talked in
    record {
      acts = f.talked;
      ordered = subst (λ (o : Option ℕ). IsServedTranscript Events moment None (lines read) f.talked
          (spoken written tally) o)
          (events_who moment None (lines read) f.talked (spoken written tally) f.user f.transcript) f.transcript;
      went = subst (λ (l : List Act). Went pack first l last) all w;
    }

module _ {S : Type 0} (machine : S → Machine) (source left sink full : Option (List ℕ)) (old new : S)
    (moment : Moment) where
  was_session : (result : Result Tally SessionError)
      (t : LinesServed Commands source left sink full machine old new moment result) (first last : Service)
      → Went (machine old).pack first t.acts last → (machine new).serves last
      → IfOk result (λ tally. (last : Service) × (machine new).serves last
      × IsServedSession (machine old).pack moment t.read first last (spoken t.written tally))
  was_session (Ok tally) t first last w at =
      (last, at, served_session (machine old).pack moment t.read t.written t.acts tally first last t.ends.1 w)
  was_session (Err error) t first last w at = tt

  was_script : (result : Result Tally SessionError)
      (t : LinesServed Events source left sink full machine old new moment result) (first last : Service)
      → Went (machine old).pack first t.acts last → (machine new).serves last
      → IfOk result (λ tally. (last : Service) × (machine new).serves last
      × IsServedScript (machine old).pack moment t.read first last (spoken t.written tally))
  was_script (Ok tally) t first last w at =
      (last, at, served_script (machine old).pack moment t.read t.written t.acts tally first last t.ends.1 w)
  was_script (Err error) t first last w at = tt

  pub as_session : (result : Result Tally SessionError)
      → LinesServed Commands source left sink full machine old new moment result
      → Session source left sink full machine old new moment result
  as_session result t = record {
    read = t.read;
    written = t.written;
    acts = t.acts;
    consumed = t.consumed;
    appended = t.appended;
    goes = t.goes;
    ends = t.ends;
    served = λ h first at.
        let w = t.goes.went h first at in
        was_session result t first w.0 (acts_went machine (machine old).pack old first t.acts new w.0 w.2) w.1;
  }

  pub as_script : (result : Result Tally SessionError)
      → LinesServed Events source left sink full machine old new moment result
      → Script source left sink full machine old new moment result
  as_script result t = record {
    read = t.read;
    written = t.written;
    acts = t.acts;
    consumed = t.consumed;
    appended = t.appended;
    goes = t.goes;
    ends = t.ends;
    served = λ h first at.
        let w = t.goes.went h first at in
        was_script result t first w.0 (acts_went machine (machine old).pack old first t.acts new w.0 w.2) w.1;
  }

-- a read that returned nothing
pub reads_none : (left rest : Option (List ℕ)) (n : ℕ) (buffer : List ℕ) → n ≡ 0 → 0 < length buffer
    → Consumes left rest (take n buffer) × (n ≡ 0 → 0 < length buffer → IsAtEnd rest) → Consumes left rest []
    × IsAtEnd rest
reads_none left rest n buffer e room p = (subst (λ (m : ℕ). Consumes left rest (take m buffer)) e p.0, p.1 e room)
