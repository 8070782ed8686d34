-- The steps of a session: a byte, a piece, the end.
use Rattle.std.proofs.Common.{◌≡◌, ◌≢◌, ℕ, ◌+◌, ◌-◌, ◌^◌, ◌<◌, ◌≤◌, ◌||◌, min, List, [], ◌∷◌, ◌++◌, length, take}
use Rattle.std.proofs.Common.{drop, get_or, refl, sym, ◌∙◌, ap, subst, append_assoc, append-nil, inl, inr, Option}
use Rattle.std.proofs.Common.{None, ◌⊎◌, Result, Ok, Err, IfErr, IfOk, OnOk, Bool}
use Rattle.std.proofs.lemmas.List.{take-append-drop, take_more, take_all}
use Rattle.std.proofs.KnownBytes.{Appends-nil, Appends-trans}
use Rattle.words36.specs.declared.moment.Moment.{Moment}
use Rattle.spec_language.specs.Common.{Line, without_return, fitting, lines, Spoken, silent, Act, Asks, call_event}
use Rattle.spec_language.specs.declared.command.Command.{Command}
use Rattle.spec_machine.specs.declared.call.Reply.{Reply}
use Rattle.commands.specs.Common.{IsPartialLine, is_other_than, Machine, AlwaysStands, IsAnswered, fresh, capped}
use Rattle.commands.specs.Common.{counts, feeds, mark, numbered, IsServedTranscript, IsNumberedTranscript, spoken}
use Rattle.commands.specs.Common.{AreWholeLines, IsParsedLine, LineActs, LineDone, AddsText, IsFlushed, IsBreak}
use Rattle.commands.specs.Common.{ReplyWritten, Closed}
use Rattle.commands.specs.Common.{SoFar, StepsOn, BreaksOff, EndsWell, CommandDone}
use Rattle.spec_machine.specs.declared.call.Call.TheVariants.{Reset}
use Rattle.spec_machine.specs.declared.call.Event.{Event}
use Rattle.spec_machine.specs.declared.call.Event.TheVariants.{Call as Calls}
use Rattle.commands.specs.declared.error.SessionError.{SessionError}
use Rattle.commands.specs.declared.error.SessionError.TheVariants.{Read, Write, NoMemory}
use Rattle.commands.specs.declared.answer.Tally.{Tally}
use Rattle.commands.specs.declared.input.PartialLine.{PartialLine}
use Rattle.commands.specs.declared.language.Language.{Language}
use Rattle.commands.specs.declared.language.Language.TheVariants.{Commands, Events}
use Rattle.commands.specs.declared.run.ParsedLine.{ParsedLine}
use Rattle.commands.specs.declared.run.ParsedLine.TheVariants.{NoLine, CommandLine, EventLine}
use Rattle.commands.specs.declared.run.SessionState.{SessionState}
use Rattle.spec_language.proofs.Common.{are_append}
use Rattle.commands.proofs.FieldLaws.{is_other}
use Rattle.commands.proofs.ActLaws.{goes_nowhere, goes_on, goes_answered}
use Rattle.commands.proofs.RefusalLaws.{with_number, numbered_fed, numbered_ended, feeds_fed, refusals_on}
use Rattle.commands.proofs.RefusalLaws.{refusals_parsed, capped_more, reason_more}
use Rattle.commands.proofs.SplitLaws.{lines_fed, lines_ended}
use Rattle.commands.proofs.TranscriptLaws.{transcript_on, transcript_parsed, parsed_line, spoken_more, or-false}
use Rattle.commands.proofs.OutputLaws.{adds_flushed, adds_unwritten, said_on, waits_on}
use Rattle.spec_machine.specs.declared.call.Call.TheVariants as played

-- Steps one after another.

pub steps_none : {S : Type 0} (language : Language) (machine : S
    → Machine) (stands : AlwaysStands machine) (m : S) (sink : Option (List ℕ)) (moment : Moment)
    (session : SessionState)
    → StepsOn language machine m m sink sink moment session session []
steps_none language machine stands m sink moment session = record {
  acts = [];
  goes = goes_nowhere machine stands m;
  written = [];
  appended = Appends-nil sink;
  steps = λ read past done so. subst (λ (l : List Act). SoFar language moment session (read ++ []) (past ++ []) l)
      (sym (append-nil done))
      (subst (λ (l : List ℕ). SoFar language moment session l (past ++ []) done) (sym (append-nil read))
      (subst (λ (l : List ℕ). SoFar language moment session read l done) (sym (append-nil past)) so));
}

steps_more : {S : Type 0} (language : Language) (machine : S
    → Machine) (a b c : S) (p q r : Option (List ℕ)) (moment : Moment) (x y z : SessionState) (bytes more : List ℕ)
    → StepsOn language machine a b p q moment x y bytes → StepsOn language machine b c q r moment y z more
    → StepsOn language machine a c p r moment x z (bytes ++ more)
steps_more language machine a b c p q r moment x y z bytes more s t = record {
  acts = s.acts ++ t.acts;
  goes = goes_on machine a b c s.acts t.acts s.goes t.goes;
  written = s.written ++ t.written;
  appended = Appends-trans p q r s.written t.written s.appended t.appended;
  steps = λ read past done so.
      let last = t.steps (read ++ bytes) (past ++ s.written) (done ++ s.acts) (s.steps read past done so) in
      subst (λ (l : List Act). SoFar language moment z (read ++ (bytes ++ more)) (past ++ (s.written ++ t.written)) l)
      (append_assoc done s.acts t.acts)
      (subst (λ (l : List ℕ). SoFar language moment z l (past ++ (s.written ++ t.written)) ((done ++ s.acts) ++ t.acts))
      (append_assoc read bytes more)
      (subst (λ (l : List ℕ). SoFar language moment z ((read ++ bytes) ++ more) l ((done ++ s.acts) ++ t.acts))
      (append_assoc past s.written t.written) last));
}

break_behind : (language : Language) (error : SessionError) (moment : Moment) (read written more : List ℕ)
    (acts : List Act) → IsBreak language ⊥ moment read written acts error
    → IsBreak language ⊥ moment (read ++ more) written acts error
break_behind language Read moment read written more acts u = absurd u
break_behind language Write moment read written more acts u = record {
  front = u.front;
  behind = u.behind ++ more;
  parted = ap (λ (l : List ℕ). l ++ more) u.parted ∙ append_assoc u.front u.behind more;
  ended = elim u.ended [ inl whole ↦ inl whole | inr end ↦ absurd end.1 ];
  said = u.said;
  user = u.user;
  transcript = u.transcript;
  unwritten = u.unwritten;
  parts = u.parts;
  some = u.some;
}
break_behind language NoMemory moment read written more acts u = record {
  front = u.front;
  behind = u.behind ++ more;
  parted = ap (λ (l : List ℕ). l ++ more) u.parted ∙ append_assoc u.front u.behind more;
  ended = elim u.ended [ inl whole ↦ inl whole | inr end ↦ absurd end.1 ];
  before = u.before;
  line = u.line;
  answered = u.answered;
  first = u.first;
  earlier = u.earlier;
  mid = u.mid;
  transcript = u.transcript;
  more = u.more;
  here = u.here;
  user = u.user;
  says = u.says;
  acts_are = u.acts_are;
  written_is = u.written_is;
}

breaks_more : {S : Type 0} (language : Language) (machine : S
    → Machine) (a b c : S) (p q r : Option (List ℕ)) (moment : Moment) (x y : SessionState) (error : SessionError)
    (bytes more rest : List ℕ) → StepsOn language machine a b p q moment x y bytes
    → BreaksOff language ⊥ machine b c q r moment y error more
    → BreaksOff language ⊥ machine a c p r moment x error ((bytes ++ more) ++ rest)
breaks_more language machine a b c p q r moment x y error bytes more rest s t = record {
  acts = s.acts ++ t.acts;
  goes = goes_on machine a b c s.acts t.acts s.goes t.goes;
  written = s.written ++ t.written;
  appended = Appends-trans p q r s.written t.written s.appended t.appended;
  breaks = λ read past done so.
      let last = break_behind language error moment ((read ++ bytes) ++ more) ((past ++ s.written)
      ++ t.written) rest ((done ++ s.acts) ++ t.acts)
      (t.breaks (read ++ bytes) (past ++ s.written) (done ++ s.acts) (s.steps read past done so)) in
      let same : ((read ++ bytes) ++ more) ++ rest ≡ read ++ ((bytes ++ more) ++ rest) = simp append_assoc in
      subst (λ (l : List Act). IsBreak language ⊥ moment (read ++ ((bytes ++ more) ++ rest))
      (past ++ (s.written ++ t.written)) l error) (append_assoc done s.acts t.acts)
      (subst (λ (l : List ℕ). IsBreak language ⊥ moment l (past ++ (s.written ++ t.written))
      ((done ++ s.acts) ++ t.acts) error) same
      (subst (λ (l : List ℕ). IsBreak language ⊥ moment (((read ++ bytes) ++ more) ++ rest) l
      ((done ++ s.acts) ++ t.acts) error) (append_assoc past s.written t.written) last));
}

-- over the bytes of a piece
pub steps_at : {S : Type 0} (language : Language) (machine : S
    → Machine) (a b c : S) (p q r : Option (List ℕ)) (moment : Moment) (x y z : SessionState) (piece : List ℕ) (i : ℕ)
    → i < length piece → StepsOn language machine a b p q moment x y (take i piece)
    → StepsOn language machine b c q r moment y z (get_or piece i 0 ∷ [])
    → StepsOn language machine a c p r moment x z (take (i + 1) piece)
steps_at language machine a b c p q r moment x y z piece i h s t =
    subst (λ (l : List ℕ). StepsOn language machine a c p r moment x z l) (sym (take_more piece i 0 h))
    (steps_more language machine a b c p q r moment x y z (take i piece) (get_or piece i 0 ∷ []) s t)

pub breaks_at : {S : Type 0} (language : Language) (machine : S
    → Machine) (a b c : S) (p q r : Option (List ℕ)) (moment : Moment) (x y : SessionState) (error : SessionError)
    (piece : List ℕ) (i : ℕ) → i < length piece → StepsOn language machine a b p q moment x y (take i piece)
    → BreaksOff language ⊥ machine b c q r moment y error (get_or piece i 0 ∷ [])
    → BreaksOff language ⊥ machine a c p r moment x error piece
breaks_at language machine a b c p q r moment x y error piece i h s t =
    subst (λ (l : List ℕ). BreaksOff language ⊥ machine a c p r moment x error l)
    (ap (λ (l : List ℕ). l ++ drop (i + 1) piece) (sym (take_more piece i 0 h)) ∙ take-append-drop (i + 1) piece)
    (breaks_more language machine a b c p q r moment x y error (take i piece) (get_or piece i 0 ∷ [])
    (drop (i + 1) piece) s t)

pub steps_all : {S : Type 0} (language : Language) (machine : S
    → Machine) (a c : S) (p r : Option (List ℕ)) (moment : Moment) (x z : SessionState) (piece : List ℕ) (i : ℕ)
    → length piece ≤ i → StepsOn language machine a c p r moment x z (take i piece)
    → StepsOn language machine a c p r moment x z piece
steps_all language machine a c p r moment x z piece i h s = subst
    (λ (l : List ℕ). StepsOn language machine a c p r moment x z l) (take_all i piece h) s

-- A byte that is no line feed.
pub step_byte : {S : Type 0} (language : Language) (machine : S
    → Machine) (stands : AlwaysStands machine) (m : S) (sink : Option (List ℕ)) (moment : Moment)
    (session : SessionState)
    (held : PartialLine) (b : ℕ) → b ≢ 10
    → ((seen : List ℕ) → IsPartialLine session.held seen → IsPartialLine held (seen ++ b ∷ []))
    → StepsOn language machine m m sink sink moment session (record session { held = held }) (b ∷ [])
step_byte language machine stands m sink moment session held b other keeps = record {
  acts = [];
  goes = goes_nowhere machine stands m;
  written = [];
  appended = Appends-nil sink;
  steps = λ read past done so. record {
    front = so.front;
    seen = so.seen ++ b ∷ [];
    parted = ap (λ (l : List ℕ). l ++ b ∷ []) so.parted ∙ append_assoc so.front so.seen (b ∷ []);
    ended = so.ended;
    unended = are_append (is_other_than 10) so.seen (b ∷ []) so.unended (is_other b 10 other, tt);
    held = keeps so.seen so.held;
    line = so.line;
    transcript = subst (λ (l : List Act). IsServedTranscript language moment None (lines so.front) l
        (spoken ((past ++ []) ++ session.waiting.items) session.tally) session.user) (sym (append-nil done))
        (subst (λ (l : List ℕ). IsServedTranscript language moment None (lines so.front) done
        (spoken (l ++ session.waiting.items) session.tally) session.user) (sym (append-nil past)) so.transcript);
    refused = so.refused;
    refuses = subst (λ (l : List Act). IsNumberedTranscript language moment None (numbered so.front) l
        (spoken ((past ++ []) ++ session.waiting.items) session.tally) session.user so.refused) (sym (append-nil done))
        (subst (λ (l : List ℕ). IsNumberedTranscript language moment None (numbered so.front) done
        (spoken (l ++ session.waiting.items) session.tally) session.user so.refused) (sym (append-nil past))
        so.refuses);
    reason = so.reason;
  };
}

-- The lines so far with those of the bytes after them.

transcript_more : (language : Language) (moment : Moment) (session : SessionState) (user : Option ℕ) (counted : Tally)
    (parsed : ParsedLine) (read past : List ℕ) (done : List Act) (so : SoFar language moment session read past done)
    (here : List Line) (acts : List Act) (said : Spoken) (text : List ℕ)
    → (past ++ session.waiting.items) ++ said.text ≡ text → counted.refused ≡ session.tally.refused || said.refused
    → counted.broke ≡ session.tally.broke || said.broke → IsParsedLine language moment here parsed
    → LineActs moment session.user parsed acts said user
    → IsServedTranscript language moment None (lines so.front ++ here) (done ++ acts) (spoken text counted) user
transcript_more language moment session user counted parsed read past done so here acts said text whole refused broke
    line_acts says =
    subst (λ (s : Spoken). IsServedTranscript language moment None (lines so.front ++ here) (done ++ acts) s user)
    (spoken_more (past ++ session.waiting.items) text session.tally counted said whole refused broke)
    (transcript_on language moment None (lines so.front) here done acts
    (spoken (past ++ session.waiting.items) session.tally) said session.user user so.transcript
    (transcript_parsed language moment session.user here parsed acts said user line_acts says))

refusals_more : (language : Language) (moment : Moment) (session : SessionState) (user : Option ℕ) (counted : Tally)
    (parsed : ParsedLine)
    (read past : List ℕ) (done : List Act) (so : SoFar language moment session read past done) (here : List Line)
    (acts : List Act) (said : Spoken) (text : List ℕ) → (past ++ session.waiting.items) ++ said.text ≡ text
    → counted.refused ≡ session.tally.refused || said.refused
    → counted.broke ≡ session.tally.broke || said.broke → IsParsedLine language moment here parsed
    → LineActs moment session.user parsed acts said user
    → IsNumberedTranscript language moment None (numbered so.front ++ with_number (feeds so.front + 1) here)
    (done ++ acts) (spoken text counted) user (so.refused ++ mark said.refused (feeds so.front + 1))
refusals_more language moment session user counted parsed read past done so here acts said text whole refused broke
    line_acts says =
    subst (λ (s : Spoken). IsNumberedTranscript language moment None
    (numbered so.front ++ with_number (feeds so.front + 1) here) (done ++ acts) s user
    (so.refused ++ mark said.refused (feeds so.front + 1)))
    (spoken_more (past ++ session.waiting.items) text session.tally counted said whole refused broke)
    (refusals_on language moment None (numbered so.front) (with_number (feeds so.front + 1) here) done acts
    (spoken (past ++ session.waiting.items) session.tally) said session.user user so.refused
    (mark said.refused (feeds so.front + 1)) so.refuses
    (refusals_parsed language moment session.user (feeds so.front + 1) here parsed acts said user line_acts says))

-- the number of the line after
line_more : (line n : ℕ) → line ≡ capped n → min (line + 1) (2 ^ 64 - 1) ≡ capped (n + 1)
line_more line n e = ap (λ (k : ℕ). min (k + 1) (2 ^ 64 - 1)) e ∙ capped_more n

-- A line feed.
pub step_feed : {S : Type 0} (language : Language) (machine : S
    → Machine) (result : Result (Unit {0}) SessionError) (a b : S) (p q : Option (List ℕ)) (moment : Moment)
    (session after : SessionState) (parsed : ParsedLine) (byte : ℕ) → byte ≡ 10 → IsPartialLine after.held []
    → after.line ≡ min (session.line + 1) (2 ^ 64 - 1)
    → ((seen : List ℕ) → IsPartialLine session.held seen
    → IsParsedLine language moment (fitting seen (without_return seen)) parsed)
    → ReplyWritten result machine a b p q moment session.user after.user session.tally after.tally session.line parsed
    session.waiting.items
    after.waiting.items
    → OnOk result (StepsOn language machine a b p q moment session after (byte ∷ []))
step_feed language machine (Err error) a b p q moment session after parsed byte feed none next line_acts t = tt
step_feed language machine (Ok v) a b p q moment session after parsed byte feed none next line_acts t = record {
  acts = t.acts;
  goes = t.goes;
  written = t.adds.0;
  appended = t.adds.1;
  steps = λ read past done so.
      let text = (past ++ t.adds.0) ++ after.waiting.items in
      let whole = said_on past session.waiting.items t.said.text t.adds.0 after.waiting.items t.adds.2 in
      record {
        front = read ++ byte ∷ [];
        seen = [];
        parted = sym (append-nil (read ++ byte ∷ []));
        ended = inr (read, ap (λ (n : ℕ). read ++ n ∷ []) feed);
        unended = tt;
        held = none;
        line = next ∙ line_more session.line (feeds so.front + 1) so.line
            ∙ ap (λ (n : ℕ). capped (n + 1)) (sym (feeds_fed read so.front so.seen byte feed so.parted so.unended));
        refused = so.refused ++ mark t.said.refused (feeds so.front + 1);
        refuses = subst (λ (l : List (ℕ × Line)). IsNumberedTranscript language moment None l (done ++ t.acts)
            (spoken text after.tally) after.user (so.refused ++ mark t.said.refused (feeds so.front + 1)))
            (sym (numbered_fed read so.front so.seen byte feed so.parted so.ended so.unended))
            (refusals_more language moment session after.user after.tally parsed read past done so
            (fitting so.seen (without_return so.seen)) t.acts t.said text whole t.refused t.broke
            (line_acts so.seen so.held) t.line_acts);
        reason = t.reason ∙ ap (λ (n : ℕ). counts session.tally.reason n t.said.refused) so.line
            ∙ reason_more so.refused (feeds so.front + 1) t.said.refused session.tally.reason so.reason;
        transcript = subst (λ (l : List Line). IsServedTranscript language moment None l (done ++ t.acts)
            (spoken text after.tally) after.user)
            (sym (lines_fed read so.front so.seen byte feed so.parted so.ended so.unended))
            (transcript_more language moment session after.user after.tally parsed read past done so
            (fitting so.seen (without_return so.seen)) t.acts t.said text whole t.refused t.broke
            (line_acts so.seen so.held) t.line_acts);
      };
}

abbrev no_bytes : List ℕ
no_bytes = []

-- The line that was answered last: these bytes end it, or the input ends.
record Last (language : Language) (at_end : Type 0) (moment : Moment) (parsed : ParsedLine)
    (front all : List ℕ) : Type 0 where
  here : List Line
  ended : AreWholeLines all ⊎ ((no_bytes ≡ no_bytes) × at_end)
  same : lines all ≡ lines front ++ here
  line_acts : IsParsedLine language moment here parsed

-- It broke off there.
module _ {S : Type 0} (language : Language) (machine : S → Machine) (at_end : Type 0) (a b : S)
    (p q : Option (List ℕ)) (moment : Moment) (session after : SessionState) (parsed : ParsedLine)
    (waits bytes : List ℕ) where
  breaks_last : (error : SessionError) → ((read past : List ℕ) (done : List Act)
      → (so : SoFar language moment session read past done)
      → Last language at_end moment parsed so.front (read ++ bytes))
      → ReplyWritten (Err error) machine a b p q moment session.user after.user session.tally after.tally session.line
      parsed
      session.waiting.items waits
      → BreaksOff language at_end machine a b p q moment session error bytes
  breaks_last Read ends t = absurd t.adds
  breaks_last Write ends t = record {
    acts = t.acts;
    goes = t.goes;
    written = t.adds.0;
    appended = t.adds.2;
    breaks = λ read past done so.
        let l = ends read past done so in
        let text = (past ++ t.adds.0) ++ t.adds.1 in
        record {
          front = read ++ bytes;
          behind = [];
          parted = sym (append-nil (read ++ bytes));
          ended = l.ended;
          said = spoken text after.tally;
          user = after.user;
          transcript = subst (λ (k : List Line). IsServedTranscript language moment None k (done ++ t.acts)
              (spoken text after.tally) after.user) (sym l.same)
              (transcript_more language moment session after.user after.tally parsed read past done so l.here t.acts
              t.said
              text (said_on past session.waiting.items t.said.text t.adds.0 t.adds.1 t.adds.3) t.refused t.broke
              l.line_acts
              t.line_acts);
          unwritten = t.adds.1;
          parts = refl;
          some = t.adds.4;
        };
  }
  breaks_last NoMemory ends t = record {
    acts = t.acts;
    goes = t.goes;
    written = session.waiting.items;
    appended = t.adds;
    breaks = λ read past done so.
        let l = ends read past done so in
        let k = parsed_line language moment session.user l.here parsed t.acts t.said after.user (t.line refl)
        l.line_acts t.line_acts in
        record {
          front = read ++ bytes;
          behind = [];
          parted = sym (append-nil (read ++ bytes));
          ended = l.ended;
          before = lines so.front;
          line = k.0;
          answered = l.same ∙ ap (λ (m : List Line). lines so.front ++ m) k.2;
          first = done;
          earlier = spoken (past ++ session.waiting.items) session.tally;
          mid = session.user;
          transcript = so.transcript;
          more = t.acts;
          here = t.said;
          user = after.user;
          says = k.1;
          acts_are = refl;
          written_is = refl;
        };
  }

pub break_feed : {S : Type 0} (language : Language) (machine : S
    → Machine) (result : Result (Unit {0}) SessionError) (a b : S) (p q : Option (List ℕ)) (moment : Moment)
    (session after : SessionState) (parsed : ParsedLine) (byte : ℕ) → byte ≡ 10
    → ((seen : List ℕ) → IsPartialLine session.held seen
    → IsParsedLine language moment (fitting seen (without_return seen)) parsed)
    → ReplyWritten result machine a b p q moment session.user after.user session.tally after.tally session.line parsed
    session.waiting.items
    after.waiting.items
    → IfErr result (λ error. BreaksOff language ⊥ machine a b p q moment session error (byte ∷ []))
break_feed language machine (Ok v) a b p q moment session after parsed byte feed line_acts t = tt
break_feed language machine (Err error) a b p q moment session after parsed byte feed line_acts t =
    breaks_last language machine ⊥ a b p q moment session after parsed after.waiting.items (byte ∷ []) error
    (λ read past done so. record {
      here = fitting so.seen (without_return so.seen);
      ended = inl (inr (read, ap (λ (n : ℕ). read ++ n ∷ []) feed));
      same = lines_fed read so.front so.seen byte feed so.parted so.ended so.unended;
      line_acts = line_acts so.seen so.held;
    }) t

-- The waiting text is written, after bytes.

pub steps_flushed : {S : Type 0} (language : Language) (machine : S → Machine) (a b : S) (p q r : Option (List ℕ))
    (moment : Moment) (session mid after : SessionState) (result : Result (Unit {0}) SessionError) (bytes : List ℕ)
    → after.held ≡ mid.held → after.line ≡ mid.line → after.user ≡ mid.user → after.tally ≡ mid.tally
    → StepsOn language machine a b p q moment session mid bytes
    → IsFlushed q r mid.waiting.items after.waiting.items result
    → OnOk result (StepsOn language machine a b p r moment session after bytes)
steps_flushed language machine a b p q r moment session mid after (Err error) bytes held line user tally s f = tt
steps_flushed language machine a b p q r moment session mid after (Ok unit) bytes held line user tally s f = record {
  acts = s.acts;
  goes = s.goes;
  written = s.written ++ f.0;
  appended = Appends-trans p q r s.written f.0 s.appended f.1;
  steps = λ read past done so.
      let last = s.steps read past done so in
      let whole = waits_on past s.written mid.waiting.items f.0 after.waiting.items f.2 in
      let tally' = sym tally in
      let user' = sym user in
      record {
        front = last.front;
        seen = last.seen;
        parted = last.parted;
        ended = last.ended;
        unended = last.unended;
        held = subst (λ (h : PartialLine). IsPartialLine h last.seen) (sym held) last.held;
        line = line ∙ last.line;
        transcript = subst (λ (x : List ℕ × Tally × Option ℕ). IsServedTranscript language moment None
            (lines last.front) (done ++ s.acts) (spoken x.0 x.1) x.2)
            (λ i. (whole i, tally' i, user' i)) last.transcript;
        refused = last.refused;
        refuses = subst (λ (x : List ℕ × Tally × Option ℕ). IsNumberedTranscript language moment None
            (numbered last.front) (done ++ s.acts) (spoken x.0 x.1) x.2 last.refused)
            (λ i. (whole i, tally' i, user' i)) last.refuses;
        reason = ap (λ (t : Tally). t.reason) tally ∙ last.reason;
      };
}

pub steps_unwritten : {S : Type 0} (language : Language) (machine : S → Machine) (a b : S) (p q r : Option (List ℕ))
    (moment : Moment) (session mid : SessionState) (waits : List ℕ) (result : Result (Unit {0}) SessionError)
    (bytes : List ℕ)
    → StepsOn language machine a b p q moment session mid bytes → IsFlushed q r mid.waiting.items waits result
    → IfErr result (λ error. BreaksOff language ⊥ machine a b p r moment session error bytes)
steps_unwritten language machine a b p q r moment session mid waits (Ok unit) bytes s f = tt
steps_unwritten language machine a b p q r moment session mid waits (Err error) bytes s f =
    subst (λ (e : SessionError). BreaksOff language ⊥ machine a b p r moment session e bytes) (sym f.0) (record {
      acts = s.acts;
      goes = s.goes;
      written = s.written ++ f.1;
      appended = Appends-trans p q r s.written f.1 s.appended f.3;
      breaks = λ read past done so.
          let last = s.steps read past done so in
          record {
            front = last.front;
            behind = last.seen;
            parted = last.parted;
            ended = inl last.ended;
            said = spoken ((past ++ s.written) ++ mid.waiting.items) mid.tally;
            user = mid.user;
            transcript = last.transcript;
            unwritten = f.2;
            parts = waits_on past s.written mid.waiting.items f.1 f.2 f.4;
            some = f.5;
          };
    })

-- The waiting text is written, after a line.

module _ {S : Type 0} (machine : S → Machine) (a b : S) (p q r : Option (List ℕ)) (moment : Moment)
    (user then_who : Option ℕ) (tally counted : Tally) (number : ℕ) (parsed : ParsedLine) (waiting mid after : List ℕ)
    (t : ReplyWritten (Ok tt) machine a b p q moment user then_who tally counted number parsed waiting mid) where
  pub told_flushed : IsFlushed q r mid after (Ok tt)
      → ReplyWritten (Ok tt) machine a b p r moment user then_who tally counted number parsed waiting after
  told_flushed f = record {
    acts = t.acts;
    said = t.said;
    line_acts = t.line_acts;
    goes = t.goes;
    refused = t.refused;
    broke = t.broke;
    reason = t.reason;
    adds = adds_flushed p q r waiting mid after t.said.text t.adds f;
    line = tt;
  }

  pub told_unwritten : (error : SessionError) → IsFlushed q r mid after (Err error)
      → ReplyWritten (Err error) machine a b p r moment user then_who tally counted number parsed waiting after
  told_unwritten error f = record {
    acts = t.acts;
    said = t.said;
    line_acts = t.line_acts;
    goes = t.goes;
    refused = t.refused;
    broke = t.broke;
    reason = t.reason;
    adds = adds_unwritten p q r error waiting mid after t.said.text t.adds f;
    line = λ is. absurd (other (sym f.0 ∙ is));
  }
    where
      other : Write ≡ NoMemory → ⊥
      other is = cc

-- The end of the input.
pub break_end : {S : Type 0} (language : Language) (machine : S → Machine) (error : SessionError) (a b : S)
    (p q : Option (List ℕ)) (moment : Moment) (session after : SessionState) (parsed : ParsedLine) (waits : List ℕ)
    → ((seen : List ℕ) → IsPartialLine session.held seen → IsParsedLine language moment (fitting seen seen) parsed)
    → ReplyWritten (Err error) machine a b p q moment session.user after.user session.tally after.tally session.line
    parsed
    session.waiting.items waits
    → BreaksOff language (Unit {0}) machine a b p q moment session error []
break_end language machine error a b p q moment session after parsed waits line_acts t =
    breaks_last language machine (Unit {0}) a b p q moment session after parsed waits [] error
    (λ read past done so. record {
      here = fitting so.seen so.seen;
      ended = inr (refl, tt);
      same = ap lines (append-nil read) ∙ lines_ended read so.front so.seen so.parted so.ended so.unended;
      line_acts = line_acts so.seen so.held;
    }) t

pub end_well : {S : Type 0} (language : Language) (machine : S → Machine) (a b c : S)
    (p q : Option (List ℕ)) (moment : Moment) (session after : SessionState) (parsed : ParsedLine) (waits : List ℕ)
    → ((seen : List ℕ) → IsPartialLine session.held seen → IsParsedLine language moment (fitting seen seen) parsed)
    → ReplyWritten (Ok tt) machine a b p q moment session.user after.user session.tally after.tally session.line parsed
    session.waiting.items
    waits → waits ≡ [] → Closed language machine b c moment
    → EndsWell language machine a c p q moment session after.tally
end_well language machine a b c p q moment session after parsed waits line_acts t none end = record {
  acts = t.acts ++ end.acts;
  goes = goes_on machine a b c t.acts end.acts t.goes end.goes;
  written = t.adds.0;
  appended = t.adds.1;
  ends = λ read past done so.
      let text = past ++ t.adds.0 in
      let whole = said_on past session.waiting.items t.said.text t.adds.0 waits t.adds.2
      ∙ ap (λ (l : List ℕ). text ++ l) none ∙ append-nil text in
      record {
        talked = done ++ t.acts;
        user = after.user;
        transcript = subst (λ (l : List Line). IsServedTranscript language moment None l (done ++ t.acts)
            (spoken text after.tally) after.user)
            (sym (lines_ended read so.front so.seen so.parted so.ended so.unended))
            (transcript_more language moment session after.user after.tally parsed read past done so
            (fitting so.seen so.seen) t.acts t.said text whole t.refused t.broke (line_acts so.seen so.held)
            t.line_acts);
        refused = so.refused ++ mark t.said.refused (feeds so.front + 1);
        refuses = subst (λ (l : List (ℕ × Line)). IsNumberedTranscript language moment None l (done ++ t.acts)
            (spoken text after.tally) after.user (so.refused ++ mark t.said.refused (feeds so.front + 1)))
            (sym (numbered_ended read so.front so.seen so.parted so.ended so.unended))
            (refusals_more language moment session after.user after.tally parsed read past done so
            (fitting so.seen so.seen)
            t.acts t.said text whole t.refused t.broke (line_acts so.seen so.held) t.line_acts);
        reason = t.reason ∙ ap (λ (n : ℕ). counts session.tally.reason n t.said.refused) so.line
            ∙ reason_more so.refused (feeds so.front + 1) t.said.refused session.tally.reason so.reason;
        closing = end.acts;
        closes = end.closes;
        acts_are = sym (append_assoc done t.acts end.acts);
      };
}

-- The acts at the end.

pub closed_reset : {S : Type 0} (machine : S → Machine) (stands : AlwaysStands machine) (language : Language)
    (a b : S) (moment : Moment) (reply : Reply) → language ≡ Commands
    → IsAnswered (machine a) (machine b) (Calls 1 Reset moment) reply → Closed language machine a b moment
closed_reset machine stands language a b moment reply e answered = subst (λ (l : Language). Closed l machine a b moment)
    (sym e) (record {
      acts = Asks (call_event moment played.Reset) reply ∷ [];
      closes = (reply, refl);
      goes = goes_answered machine stands a b (Calls 1 Reset moment) reply answered;
    })

pub closed_still : {S : Type 0} (machine : S → Machine) (stands : AlwaysStands machine) (language : Language)
    (a : S) (moment : Moment) → language ≡ Events → Closed language machine a a moment
closed_still machine stands language a moment e = subst (λ (l : Language). Closed l machine a a moment)
    (sym e) (record { acts = []; closes = refl; goes = goes_nowhere machine stands a })

-- A parsed line is answered.

pub told_nothing : {S : Type 0} (machine : S → Machine) (stands : AlwaysStands machine) (m : S) (sink : Option (List ℕ))
    (moment : Moment) (user : Option ℕ) (tally : Tally) (number : ℕ) (parsed : ParsedLine) (waiting : List ℕ)
    → parsed ≡ NoLine → ReplyWritten (Ok tt) machine m m sink sink moment user user tally tally number parsed waiting
    waiting
told_nothing machine stands m sink moment user tally number parsed waiting e = record {
  acts = [];
  said = silent;
  line_acts = subst (λ (h : ParsedLine). LineActs moment user h [] silent user) (sym e) (refl, refl, refl);
  goes = goes_nowhere machine stands m;
  refused = or-false tally.refused;
  broke = or-false tally.broke;
  reason = refl;
  adds = ([], Appends-nil sink, append-nil waiting);
  line = tt;
}

-- A line that was counted alone is counted with those before it.
pub record IsCounted (tally : Tally) (number : ℕ) (line counted : Tally) : Type 0 where
  pub refused : counted.refused ≡ tally.refused || line.refused
  pub broke : counted.broke ≡ tally.broke || line.broke
  pub reason : counted.reason ≡ counts tally.reason number line.refused

module _ {V E S : Type 0} (machine : S → Machine) (bytes : V → List ℕ) (a b : S) (p q : Option (List ℕ))
    (moment : Moment) (user after : Option ℕ) (tally line counted : Tally) (number : ℕ) (parsed : ParsedLine)
    (waiting waits : List ℕ) (some : parsed ≢ NoLine) (is : IsCounted tally number line counted) where
  told_put : (result : Result (Unit {0}) SessionError) (text : Result V E)
      → LineDone bytes text machine a b moment user after fresh line parsed
      → ((said : List ℕ) → IfOk text (λ v. bytes v ≡ said) → AddsText p q waiting waits said result)
      → ReplyWritten result machine a b p q moment user after tally counted number parsed waiting waits
  told_put result text s put = record {
    acts = s.acts;
    said = s.said;
    line_acts = s.line_acts;
    goes = s.goes;
    refused = is.refused ∙ ap (λ (t : Bool). tally.refused || t) s.refused;
    broke = is.broke ∙ ap (λ (t : Bool). tally.broke || t) s.broke;
    reason = is.reason ∙ ap (counts tally.reason number) s.refused;
    adds = put s.said.text s.text;
    line = some_line result;
  }
    where
      some_line : (result : Result (Unit {0}) SessionError)
          → IfErr result (λ error. error ≡ NoMemory → parsed ≢ NoLine)
      some_line (Ok u) = tt
      some_line (Err error) = λ none. some

is_something : (parsed : ParsedLine) (meant : Option Command) → parsed ≡ CommandLine meant → parsed ≢ NoLine
is_something parsed meant e n = let wrong = sym e ∙ n in cc

is_an_order : (parsed : ParsedLine) (order : Option Event) → parsed ≡ EventLine order → parsed ≢ NoLine
is_an_order parsed order e n = let wrong = sym e ∙ n in cc

module _ {V E S : Type 0} (machine : S → Machine) (bytes : V
    → List ℕ) (result : Result (Unit {0}) SessionError) (text : Result V E) (a b : S) (p q : Option (List ℕ))
    (moment : Moment) (user after : Option ℕ) (tally none line counted : Tally) (number : ℕ) (parsed : ParsedLine)
    (waiting waits : List ℕ) (is : IsCounted tally number line counted) (new : none ≡ fresh) where
  pub told_said : (meant : Option Command) → parsed ≡ CommandLine meant
      → CommandDone bytes text machine a b moment user after none line meant
      → ((said : List ℕ) → IfOk text (λ v. bytes v ≡ said) → AddsText p q waiting waits said result)
      → ReplyWritten result machine a b p q moment user after tally counted number parsed waiting waits
  told_said meant e r put =
      let s = subst (λ (t : Tally). CommandDone bytes text machine a b moment user after t line meant) new r in
      told_put machine bytes a b p q moment user after tally line counted number parsed waiting waits
      (is_something parsed meant e) is result text
      (subst (LineDone bytes text machine a b moment user after fresh line) (sym e) (record {
        acts = s.acts;
        said = s.said;
        line_acts = s.speaks;
        goes = s.goes;
        refused = s.refused;
        broke = s.broke;
        text = s.text;
      })) put

  pub told_ordered : (order : Option Event) → parsed ≡ EventLine order
      → LineDone bytes text machine a b moment user after none line (EventLine order)
      → ((said : List ℕ) → IfOk text (λ v. bytes v ≡ said) → AddsText p q waiting waits said result)
      → ReplyWritten result machine a b p q moment user after tally counted number parsed waiting waits
  told_ordered order e r put =
      let s = subst (λ (t : Tally). LineDone bytes text machine a b moment user after t line (EventLine order)) new r in
      told_put machine bytes a b p q moment user after tally line counted number parsed waiting waits
      (is_an_order parsed order e) is result text
      (subst (LineDone bytes text machine a b moment user after fresh line) (sym e) s) put
