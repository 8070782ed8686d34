-- Lines that are answered one after another.
use Rattle.std.proofs.Common.{◌≡◌, ◌≢◌, ℕ, ◌||◌, Bool, true, false, List, [], ◌∷◌, ◌++◌, refl, sym, ◌∙◌, ap, subst}
use Rattle.std.proofs.Common.{append_assoc, append-nil, Option}
use Rattle.words36.specs.declared.moment.Moment.{Moment}
use Rattle.spec_language.specs.Common.{Means, Line, Spoken, both_said, silent, Act, Speaks, Orders, MeansEvent}
use Rattle.spec_language.specs.declared.command.Command.{Command}
use Rattle.spec_machine.specs.declared.call.Event.{Event}
use Rattle.commands.specs.Common.{LineSays, IsServedTranscript, spoken, IsParsedLine, LineActs}
use Rattle.commands.specs.declared.answer.Tally.{Tally}
use Rattle.commands.specs.declared.language.Language.{Language}
use Rattle.commands.specs.declared.language.Language.TheVariants.{Commands, Events}
use Rattle.commands.specs.declared.run.ParsedLine.{ParsedLine}
use Rattle.commands.specs.declared.run.ParsedLine.TheVariants.{NoLine, CommandLine, EventLine}

pub or-false : (b : Bool) → b ≡ b || false
or-false true = refl
or-false false = refl

or_assoc : (a b c : Bool) → (a || b) || c ≡ a || (b || c)
or_assoc true b c = refl
or_assoc false b c = refl

pub joined-silent : (a b : Spoken) → a ≡ silent → b ≡ both_said a b
joined-silent a b e = subst (λ (v : Spoken). b ≡ both_said v b) (sym e) refl

pub joined-end : (a : Spoken) → a ≡ both_said a silent
joined-end a =
    let e : a.text ≡ a.text ++ [] = sym (append-nil a.text) in
    let f = or-false a.refused in
    let h = or-false a.broke in
    λ i. record { text = e i; refused = f i; broke = h i }

pub joined_assoc : (a b c : Spoken) → both_said (both_said a b) c ≡ both_said a (both_said b c)
joined_assoc a b c =
    let e = append_assoc a.text b.text c.text in
    let f = or_assoc a.refused b.refused c.refused in
    let h = or_assoc a.broke b.broke c.broke in
    λ i. record { text = e i; refused = f i; broke = h i }

module _ (language : Language) (moment : Moment) where
  pub transcript_on : (user : Option ℕ) (lines more : List Line) (acts next : List Act) (said here : Spoken)
      (mid after : Option ℕ) → IsServedTranscript language moment user lines acts said mid
      → IsServedTranscript language moment mid more next here after
      → IsServedTranscript language moment user (lines ++ more) (acts ++ next) (both_said said here) after
  transcript_on user [] more acts next said here mid after p q =
      let w : mid ≡ user = p.2 in
      let a : next ≡ acts ++ next = ap (λ (l : List Act). l ++ next) (sym p.0) in
      let s : here ≡ both_said said here = joined-silent said here p.1 in
      subst (λ (v : Option ℕ). IsServedTranscript language moment v more (acts ++ next) (both_said said here) after) w
      (subst (λ (v : Spoken). IsServedTranscript language moment mid more (acts ++ next) v after) s
      (subst (λ (l : List Act). IsServedTranscript language moment mid more l here after) a q))
  transcript_on user (line ∷ lines) more acts next said here mid after p q = (
    p.0,
    p.1 ++ next,
    p.2,
    both_said p.3 here,
    p.4,
    p.5,
    transcript_on p.4 lines more p.1 next p.3 here mid after p.6 q,
    ap (λ (l : List Act). l ++ next) p.7 ∙ append_assoc p.0 p.1 next,
    ap (λ (v : Spoken). both_said v here) p.8 ∙ joined_assoc p.2 p.3 here,
  )

  transcript_one : (user : Option ℕ) (line : Line) (acts : List Act) (said : Spoken) (after : Option ℕ)
      → LineSays language moment user line acts said after
      → IsServedTranscript language moment user (line ∷ []) acts said after
  transcript_one user line acts said after p = (
    acts,
    [],
    said,
    silent,
    after,
    p,
    (refl, refl, refl),
    sym (append-nil acts),
    joined-end said,
  )

  -- The parsed line is what the line means.

  says_said : (user : Option ℕ) (line : Line) (meant : Option Command) (acts : List Act) (said : Spoken)
      (after : Option ℕ) → language ≡ Commands → Means line meant
      → Speaks moment user meant acts said after
      → LineSays language moment user line acts said after
  says_said user line meant acts said after e m p =
      subst (λ (l : Language). LineSays l moment user line acts said after) (sym e)
      (meant, m, p)

  says_ordered : (user : Option ℕ) (line : Line) (order : Option Event) (acts : List Act) (said : Spoken)
      (after : Option ℕ) → language ≡ Events → MeansEvent line moment order → Orders order acts said × (after ≡ user)
      → LineSays language moment user line acts said after
  says_ordered user line order acts said after e m p =
      subst (λ (l : Language). LineSays l moment user line acts said after) (sym e) (order, m, p.0, p.1)

  -- if something was parsed there is a line
  pub parsed_line : (user : Option ℕ) (lines : List Line) (parsed : ParsedLine) (acts : List Act) (said : Spoken)
      (after : Option ℕ) → parsed ≢ NoLine → IsParsedLine language moment lines parsed
      → LineActs moment user parsed acts said after
      → (line : Line) × LineSays language moment user line acts said after × (lines ≡ line ∷ [])
  parsed_line user [] parsed acts said after n h p = absurd (n h)
  parsed_line user (line ∷ lines) NoLine acts said after n h p = absurd h
  parsed_line user (line ∷ lines) (CommandLine meant) acts said after n h p =
      (line, says_said user line meant acts said after h.0 h.1 p, ap (λ (l : List Line). line ∷ l) h.2)
  parsed_line user (line ∷ lines) (EventLine order) acts said after n h p =
      (line, says_ordered user line order acts said after h.0 h.1 p, ap (λ (l : List Line). line ∷ l) h.2)

  -- the parsed lines are what the lines mean
  pub transcript_parsed : (user : Option ℕ) (lines : List Line) (parsed : ParsedLine) (acts : List Act) (said : Spoken)
      (after : Option ℕ) → IsParsedLine language moment lines parsed → LineActs moment user parsed acts said after
      → IsServedTranscript language moment user lines acts said after
  transcript_parsed user [] parsed acts said after h p =
      subst (λ (x : ParsedLine). LineActs moment user x acts said after) h p
  transcript_parsed user (line ∷ lines) NoLine acts said after h p = absurd h
  transcript_parsed user (line ∷ lines) (CommandLine meant) acts said after h p =
      subst (λ (l : List Line). IsServedTranscript language moment user (line ∷ l) acts said after) (sym h.2)
      (transcript_one user line acts said after (says_said user line meant acts said after h.0 h.1 p))
  transcript_parsed user (line ∷ lines) (EventLine order) acts said after h p =
      subst (λ (l : List Line). IsServedTranscript language moment user (line ∷ l) acts said after) (sym h.2)
      (transcript_one user line acts said after (says_ordered user line order acts said after h.0 h.1 p))

-- nobody is logged in for events
pub events_who : (moment : Moment) (user : Option ℕ) (lines : List Line) (acts : List Act) (said : Spoken)
    (after : Option ℕ) → IsServedTranscript Events moment user lines acts said after → after ≡ user
events_who moment user [] acts said after p = p.2
events_who moment user (line ∷ lines) acts said after (first, more, here, there, mid, says, rest, split, text) =
    events_who moment mid lines more there after rest ∙ says.3

-- the outcome if a line is added to those before
pub spoken_more : (past after : List ℕ) (tally counted : Tally) (said : Spoken) → past ++ said.text ≡ after
    → counted.refused ≡ tally.refused || said.refused → counted.broke ≡ tally.broke || said.broke
    → both_said (spoken past tally) said ≡ spoken after counted
spoken_more past after tally counted said t f h =
    let f' = sym f in
    let h' = sym h in
    λ i. record { text = t i; refused = f' i; broke = h' i }
