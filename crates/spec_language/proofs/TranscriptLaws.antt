-- The text of an input is one: whatever serials are chosen, the same is printed.
use Rattle.std.proofs.Common.{◌≡◌, ℕ, Bool, true, false, List, [], ◌∷◌, ◌++◌, Option, Some, None, refl, sym, ap}
use Rattle.std.proofs.Common.{subst, ◌∙◌, inl, Result}
use Rattle.words36.specs.declared.moment.Moment.{Moment}
use Rattle.spec_machine.specs.Common.{State, list, Serving, Steps}
use Rattle.spec_image.specs.Common.{Pack}
use Rattle.spec_language.specs.Lines.{Line, Bytes, TooLong}
use Rattle.spec_language.specs.Commands.{Says, Means}
use Rattle.spec_language.specs.Scripts.{SaysEvent, MeansEvent}
use Rattle.spec_language.specs.Texts.{Spoken, both_said}
use Rattle.spec_image.specs.declared.entry.Entry.{Entry}
use Rattle.spec_language.specs.Plans.{Plan, Ask, Show, Say, Act, Asks, Looks, Leads, line_plan}
use Rattle.spec_language.specs.Transcripts.{login_said, login_who, LogsIn, Acts, Speaks, IsTranscript, Orders}
use Rattle.spec_language.specs.Transcripts.{Scripts, reports_reply, core_words, Served, Went}
use Rattle.spec_language.specs.declared.command.Command.{Command}
use Rattle.spec_language.specs.declared.command.Command.TheVariants.{Login as LoginLine, Directory as DirectoryLine}
use Rattle.spec_language.specs.declared.command.Command.TheVariants.{Copy as CopyLine, Rename as RenameLine}
use Rattle.spec_language.specs.declared.command.Command.TheVariants.{Delete as DeleteLine, TypeOut as TypeLine}
use Rattle.spec_language.specs.declared.command.Command.TheVariants.{Protect as ProtectLine, MakeDir as MakeLine}
use Rattle.spec_language.specs.declared.command.Command.TheVariants.{Quota as QuotaLine}
use Rattle.spec_machine.specs.declared.call.Event.{Event}
use Rattle.spec_machine.specs.declared.call.Reply.{Reply}
use Rattle.spec_machine.specs.declared.call.Event.TheVariants.{Login}
use Rattle.spec_language.proofs.CommandLaws.{same_command}
use Rattle.spec_language.proofs.ScriptLaws.{same_event}
use Rattle.spec_machine.proofs.Common.{Related, itself_related, related_step, related_shown}

-- One meaning.

pub same_says : (text : List ℕ) (x y : Option Command) → Says text x → Says text y → x ≡ y
same_says text None None a b = refl
same_says text None (Some c) a b = absurd (a c b)
same_says text (Some c) None a b = absurd (b c a)
same_says text (Some c) (Some d) a b = ap Some (same_command text c d a b)

pub same_means : (line : Line) (x y : Option Command) → Means line x → Means line y → x ≡ y
same_means (Bytes text) x y a b = same_says text x y a b
same_means TooLong x y a b = a ∙ sym b

pub same_says_event : (text : List ℕ) (moment : Moment) (x y : Option Event) → SaysEvent text moment x
    → SaysEvent text moment y → x ≡ y
same_says_event text moment None None a b = refl
same_says_event text moment None (Some c) a b = absurd (a c b)
same_says_event text moment (Some c) None a b = absurd (b c a)
same_says_event text moment (Some c) (Some d) a b = ap Some (same_event text moment c d a b)

same_means_event : (line : Line) (moment : Moment) (x y : Option Event) → MeansEvent line moment x
    → MeansEvent line moment y → x ≡ y
same_means_event (Bytes text) moment x y a b = same_says_event text moment x y a b
same_means_event TooLong moment x y a b = a ∙ sym b

-- Acts that were served come apart.

served_apart : (pack : Pack) (s u : State) (first more : List Act) → Served pack s (first ++ more) u
    → (mid : State) × Served pack s first mid × Served pack mid more u
served_apart pack s u [] more a = (s, refl, a)
served_apart pack s u (Asks event reply ∷ first) more a = let r = served_apart pack a.0 u first more a.2 in
    (r.0, (a.0, a.1, r.1), r.2)
served_apart pack s u (Looks owner answer ∷ first) more a = let r = served_apart pack s u first more a.1 in
    (r.0, (a.0, r.1), r.2)

-- What is left of a line's plan.

abbrev said_of : Plan → Spoken → Spoken
said_of (Say said) other = said
said_of (Show owner next) other = other
said_of (Ask event next) other = other

say_same : (one other : Spoken) → Say one ≡ Say other → one ≡ other
say_same one other e = ap (λ plan. said_of plan one) e

abbrev is_said : Plan → Bool
is_said (Say said) = true
is_said (Show owner next) = false
is_said (Ask event next) = false

say_show : {said : Spoken} {owner : ℕ} {next : Result (List Entry) Reply → Plan} → Say said ≡ Show owner next → ⊥
say_show e = let wrong = ap is_said e in cc

say_ask : {said : Spoken} {event : Event} {next : Reply → Plan} → Say said ≡ Ask event next → ⊥
say_ask e = let wrong = ap is_said e in cc

module _ (pack : Pack) (moment : Moment) where
  same_conduct : (plan : Plan) (s t u w : State) (acts bcts : List Act) (one other : Spoken) → Related s t
      → Leads plan acts (Say one) → Leads plan bcts (Say other)
      → Served pack s acts u → Served pack t bcts w → (one ≡ other) × Related u w
  same_conduct (Say said) s t u w [] [] one other r a b p q = (
    say_same one other (a ∙ sym b),
    subst (λ x. Related x w) (sym p) (subst (Related s) (sym q) r),
  )
  same_conduct (Say said) s t u w [] (act ∷ bcts) one other r a b p q = absurd b
  same_conduct (Say said) s t u w (act ∷ acts) bcts one other r a b p q = absurd a
  same_conduct (Show owner next) s t u w [] bcts one other r a b p q = absurd (say_show a)
  same_conduct (Show owner next) s t u w (Asks event reply ∷ acts) bcts one other r a b p q = absurd a
  same_conduct (Show owner next) s t u w (Looks shown answer ∷ acts) [] one other r a b p q = absurd (say_show b)
  same_conduct (Show owner next) s t u w (Looks shown answer ∷ acts) (Asks event reply ∷ bcts) one other r a b p q =
      absurd b
  same_conduct (Show owner next) s t u w (Looks shown answer ∷ acts) (Looks shown' answer' ∷ bcts) one other r a b p q =
      let o : shown ≡ shown' = a.0 ∙ sym b.0 in
      let l : answer ≡ answer' = p.0 ∙ (related_shown pack s t r).1 1 shown ∙ ap (list t 1) o ∙ sym q.0 in
      same_conduct (next answer) s t u w acts bcts one other r a.1
      (subst (λ x. Leads (next x) bcts (Say other)) (sym l) b.1) p.1 q.1
  same_conduct (Ask event next) s t u w [] bcts one other r a b p q = absurd (say_ask a)
  same_conduct (Ask event next) s t u w (Looks owner answer ∷ acts) bcts one other r a b p q = absurd a
  same_conduct (Ask event next) s t u w (Asks event' reply ∷ acts) [] one other r a b p q = absurd (say_ask b)
  same_conduct (Ask event next) s t u w (Asks event' reply ∷ acts) (Looks owner answer ∷ bcts) one other r a b p q =
      absurd b
  same_conduct (Ask event next) s t u w (Asks event' reply ∷ acts) (Asks event'' reply' ∷ bcts) one other r a b p q =
      let e : event' ≡ event'' = a.0 ∙ sym b.0 in
      let h = related_step pack s t p.0 q.0 event' reply reply' r p.1
      (subst (λ x. Steps pack t x reply' q.0) (sym e) q.1) in
      same_conduct (next reply) p.0 q.0 u w acts bcts one other h.1 a.1
      (subst (λ x. Leads (next x) bcts (Say other)) (sym h.0) b.1) p.2 q.2

  -- Lines of a session.

  same_login : (user : Option ℕ) (owner : ℕ) (s t u w : State) (acts bcts : List Act) (one other : Spoken)
      (x y : Option ℕ) → Related s t → LogsIn user owner acts one x → LogsIn user owner bcts other y
      → Served pack s acts u → Served pack t bcts w → (one ≡ other) × (x ≡ y) × Related u w
  same_login user owner s t u w acts bcts one other x y r a b p q =
      let p' = subst (λ z. Served pack s z u) a.1 p in
      let q' = subst (λ z. Served pack t z w) b.1 q in
      let h = related_step pack s t p'.0 q'.0 (Login 1 owner core_words) a.0 b.0 r p'.1 q'.1 in (
        a.2 ∙ ap (login_said owner) h.0 ∙ sym b.2,
        a.3 ∙ ap (login_who user owner) h.0 ∙ sym b.3,
        subst (λ z. Related z w) (sym p'.2) (subst (Related p'.0) (sym q'.2) h.1),
      )

  same_acts : (user : Option ℕ) (command : Command) (s t u w : State) (acts bcts : List Act) (one other : Spoken)
      (x y : Option ℕ) → Related s t → Acts moment user command acts one x → Acts moment user command bcts other y
      → Served pack s acts u → Served pack t bcts w → (one ≡ other) × (x ≡ y) × Related u w
  same_acts None command s t u w acts bcts one other x y r a b p q = (
    a.1 ∙ sym b.1,
    a.2 ∙ sym b.2,
    subst (λ z. Related z w) (sym (subst (λ z. Served pack s z u) a.0 p))
        (subst (Related s) (sym (subst (λ z. Served pack t z w) b.0 q)) r),
  )
  same_acts (Some me) command s t u w acts bcts one other x y r a b p q =
      let h = same_conduct (line_plan moment me command) s t u w acts bcts one other r a.0 b.0 p q in
      (h.0, a.1 ∙ sym b.1, h.1)

  same_speech : (user : Option ℕ) (meant : Option Command) (s t u w : State) (acts bcts : List Act) (one other : Spoken)
      (x y : Option ℕ) → Related s t → Speaks moment user meant acts one x → Speaks moment user meant bcts other y
      → Served pack s acts u → Served pack t bcts w → (one ≡ other) × (x ≡ y) × Related u w
  same_speech user None s t u w acts bcts one other x y r a b p q = (
    a.1 ∙ sym b.1,
    a.2 ∙ sym b.2,
    subst (λ z. Related z w) (sym (subst (λ z. Served pack s z u) a.0 p))
        (subst (Related s) (sym (subst (λ z. Served pack t z w) b.0 q)) r),
  )
  same_speech user (Some (LoginLine owner)) s t u w acts bcts one other x y r a b p q =
      same_login user owner s t u w acts bcts one other x y r a b p q
  same_speech user (Some (DirectoryLine o)) s t u w acts bcts one other x y r a b p q = same_acts user
      (DirectoryLine o) s t u w acts bcts one other x y r a b p q
  same_speech user (Some (CopyLine k l)) s t u w acts bcts one other x y r a b p q = same_acts user
      (CopyLine k l) s t u w acts bcts one other x y r a b p q
  same_speech user (Some (RenameLine k l)) s t u w acts bcts one other x y r a b p q = same_acts user
      (RenameLine k l) s t u w acts bcts one other x y r a b p q
  same_speech user (Some (DeleteLine k)) s t u w acts bcts one other x y r a b p q = same_acts user
      (DeleteLine k) s t u w acts bcts one other x y r a b p q
  same_speech user (Some (TypeLine k)) s t u w acts bcts one other x y r a b p q = same_acts user
      (TypeLine k) s t u w acts bcts one other x y r a b p q
  same_speech user (Some (ProtectLine k n)) s t u w acts bcts one other x y r a b p q = same_acts user
      (ProtectLine k n) s t u w acts bcts one other x y r a b p q
  same_speech user (Some (MakeLine k n)) s t u w acts bcts one other x y r a b p q = same_acts user
      (MakeLine k n) s t u w acts bcts one other x y r a b p q
  same_speech user (Some (QuotaLine k n)) s t u w acts bcts one other x y r a b p q = same_acts user
      (QuotaLine k n) s t u w acts bcts one other x y r a b p q

  same_transcript : (lines : List Line) (user : Option ℕ) (s t u w : State) (acts bcts : List Act) (one other : Spoken)
      (x y : Option ℕ) → Related s t → IsTranscript moment user lines acts one x
      → IsTranscript moment user lines bcts other y
      → Served pack s acts u → Served pack t bcts w → (one ≡ other) × (x ≡ y) × Related u w
  same_transcript [] user s t u w acts bcts one other x y r a b p q = (
    a.1 ∙ sym b.1,
    a.2 ∙ sym b.2,
    subst (λ z. Related z w) (sym (subst (λ z. Served pack s z u) a.0 p))
        (subst (Related s) (sym (subst (λ z. Served pack t z w) b.0 q)) r),
  )
  same_transcript (line ∷ lines) user s t u w acts bcts one other x y r (
    meant,
    m,
    first,
    more,
    here,
    there,
    mid,
    a,
    rest,
    split,
    text,
  ) (meant', m', first', more', here', there', mid', b, rest', split', text') p q =
      let e = same_means line meant meant' m m' in
      let p' = served_apart pack s u first more (subst (λ z. Served pack s z u) split p) in
      let q' = served_apart pack t w first' more' (subst (λ z. Served pack t z w) split' q) in
      let h = same_speech user meant s t p'.0 q'.0 first first' here here' mid mid' r a
      (subst (λ z. Speaks moment user z first' here' mid') (sym e) b) p'.1 q'.1 in
      let k = same_transcript lines mid p'.0 q'.0 u w more more' there there' x y h.2 rest
      (subst (λ z. IsTranscript moment z lines more' there' y) (sym h.1) rest') p'.2 q'.2 in
      (text ∙ (λ i. both_said (h.0 i) (k.0 i)) ∙ sym text', k.1, k.2)

  -- Lines of a call script.

  same_order : (meant : Option Event) (s t u w : State) (acts bcts : List Act) (one other : Spoken) → Related s t
      → Orders meant acts one → Orders meant bcts other
      → Served pack s acts u → Served pack t bcts w → (one ≡ other) × Related u w
  same_order None s t u w acts bcts one other r a b p q = (
    a.1 ∙ sym b.1,
    subst (λ z. Related z w) (sym (subst (λ z. Served pack s z u) a.0 p))
        (subst (Related s) (sym (subst (λ z. Served pack t z w) b.0 q)) r),
  )
  same_order (Some event) s t u w acts bcts one other r a b p q =
      let p' = subst (λ z. Served pack s z u) a.1 p in
      let q' = subst (λ z. Served pack t z w) b.1 q in
      let h = related_step pack s t p'.0 q'.0 event a.0 b.0 r p'.1 q'.1 in
      (a.2 ∙ ap reports_reply h.0 ∙ sym b.2, subst (λ z. Related z w) (sym p'.2) (subst (Related p'.0) (sym q'.2) h.1))

  same_script : (lines : List Line) (s t u w : State) (acts bcts : List Act) (one other : Spoken) → Related s t
      → Scripts moment lines acts one → Scripts moment lines bcts other
      → Served pack s acts u → Served pack t bcts w → (one ≡ other) × Related u w
  same_script [] s t u w acts bcts one other r a b p q = (
    a.1 ∙ sym b.1,
    subst (λ z. Related z w) (sym (subst (λ z. Served pack s z u) a.0 p))
        (subst (Related s) (sym (subst (λ z. Served pack t z w) b.0 q)) r),
  )
  same_script (line ∷ lines) s t u w acts bcts one other r (meant, m, first, more, here, there, a, rest, split, text)
      (meant', m', first', more', here', there', b, rest', split', text') p q =
      let e = same_means_event line moment meant meant' m m' in
      let p' = served_apart pack s u first more (subst (λ z. Served pack s z u) split p) in
      let q' = served_apart pack t w first' more' (subst (λ z. Served pack t z w) split' q) in
      let h = same_order meant s t p'.0 q'.0 first first' here here' r a
      (subst (λ z. Orders z first' here') (sym e) b) p'.1 q'.1 in
      let k = same_script lines p'.0 q'.0 u w more more' there there' h.1 rest rest' p'.2 q'.2 in
      (text ∙ (λ i. both_said (h.0 i) (k.0 i)) ∙ sym text', k.1)

-- From one state.

pub one_text : (pack : Pack) (moment : Moment) (lines : List Line) (user : Option ℕ) (s u w : State)
    (acts bcts : List Act) (one other : Spoken) (x y : Option ℕ)
    → IsTranscript moment user lines acts one x → Served pack s acts u → IsTranscript moment user lines bcts other y
    → Served pack s bcts w → one ≡ other
one_text pack moment lines user s u w acts bcts one other x y a p b q =
    (same_transcript pack moment lines user s s u w acts bcts one other x y (itself_related s) a b p q).0

pub one_script : (pack : Pack) (moment : Moment) (lines : List Line) (s u w : State) (acts bcts : List Act)
    (one other : Spoken)
    → Scripts moment lines acts one → Served pack s acts u → Scripts moment lines bcts other → Served pack s bcts w
    → one ≡ other
one_script pack moment lines s u w acts bcts one other a p b q =
    (same_script pack moment lines s s u w acts bcts one other (itself_related s) a b p q).0

-- Acts that were served are acts of the service.
pub served_went : (pack : Pack) (s u : State) (acts : List Act) → Served pack s acts u
    → Went pack (Serving s) acts (Serving u)
served_went pack s u [] a = ap Serving a
served_went pack s u (Asks event reply ∷ acts) a = (Serving a.0, inl a.1, served_went pack a.0 u acts a.2)
served_went pack s u (Looks owner answer ∷ acts) a = (Serving s, (refl, inl a.0), served_went pack s u acts a.1)
