-- Lines have one text: those without a meaning are treated as lines that are too long.
use Rattle.std.proofs.Common.{◌≡◌, ℕ, List, [], ◌∷◌, Option, Some, None, refl, sym, subst, ◌∙◌}
use Rattle.words36.specs.declared.moment.Moment.{Moment}
use Rattle.spec_language.specs.Common.{Line, Bytes, TooLong, Means, Spoken, Act, IsTranscript, Scripts, Served}
use Rattle.spec_image.specs.Common.{Pack}
use Rattle.spec_machine.specs.Common.{State}
use Rattle.spec_language.specs.declared.command.Command.{Command}
use Rattle.spec_language.proofs.Common.{one_text, one_script, same_means}
use Rattle.commands.specs.Common.{IsServedTranscript}
use Rattle.commands.specs.declared.language.Language.TheVariants.{Commands, Events}

-- a line, or one that is too long in place of one without a meaning
abbrev form : Option Command → Line → Line
form None line = TooLong
form (Some command) line = line

means_form : (line : Line) (meant : Option Command) → Means line meant → Means (form meant line) meant
means_form line None m = refl
means_form (Bytes text) (Some command) m = m
means_form TooLong (Some command) m = m

abbrev Forms : List Line → List Line → Type 0
Forms [] forms = forms ≡ []
Forms (line ∷ lines) forms = (meant : Option Command) × Means line meant × (rest : List Line) × Forms lines rest
    × (forms ≡ form meant line ∷ rest)

same_forms : (lines x y : List Line) → Forms lines x → Forms lines y → x ≡ y
same_forms [] x y a b = a ∙ sym b
same_forms (line ∷ lines) x y a b =
    let m = same_means line a.0 b.0 a.1 b.1 in
    let r = same_forms lines a.2 b.2 a.3 b.3 in
    a.4 ∙ (λ i. form (m i) line ∷ r i) ∙ sym b.4

transcript_forms : (moment : Moment) (user : Option ℕ) (lines : List Line) (acts : List Act) (said : Spoken)
    (after : Option ℕ) → IsServedTranscript Commands moment user lines acts said after
    → (forms : List Line) × Forms lines forms × IsTranscript moment user forms acts said after
transcript_forms moment user [] acts said after p = ([], refl, p)
transcript_forms moment user (line ∷ lines) acts said after (
  first,
  more,
  here,
  there,
  mid,
  (meant, m, speaks),
  rest,
  split,
  text,
) =
    let r = transcript_forms moment mid lines more there after rest in (
      form meant line ∷ r.0,
      (meant, m, r.0, r.1, refl),
      (meant, means_form line meant m, first, more, here, there, mid, speaks, r.2, split, text),
    )

pub one_served_text : (pack : Pack) (moment : Moment) (lines : List Line) (user : Option ℕ) (s t u : State)
    (acts others : List Act) (one other : Spoken) (x y : Option ℕ)
    → IsServedTranscript Commands moment user lines acts one x → Served pack s acts t
    → IsServedTranscript Commands moment user lines others other y → Served pack s others u → one ≡ other
one_served_text pack moment lines user s t u acts others one other x y a p b q =
    let f = transcript_forms moment user lines acts one x a in
    let g = transcript_forms moment user lines others other y b in
    one_text pack moment f.0 user s t u acts others one other x y f.2 p
    (subst (λ (l : List Line). IsTranscript moment user l others other y) (same_forms lines g.0 f.0 g.1 f.1) g.2) q

-- The same for call scripts.

-- a script by its lines alone, since it doesn't matter who is logged in
script_of : (moment : Moment) (user : Option ℕ) (lines : List Line) (acts : List Act) (said : Spoken) (after : Option ℕ)
    → IsServedTranscript Events moment user lines acts said after → Scripts moment lines acts said
script_of moment user [] acts said after p = (p.0, p.1)
script_of moment user (line ∷ lines) acts said after (
  first,
  more,
  here,
  there,
  mid,
  (meant, m, orders, same),
  rest,
  split,
  text,
) =
    (meant, m, first, more, here, there, orders, script_of moment mid lines more there after rest, split, text)

pub one_served_script : (pack : Pack) (moment : Moment) (lines : List Line) (user : Option ℕ) (s t u : State)
    (acts others : List Act) (one other : Spoken) (x y : Option ℕ)
    → IsServedTranscript Events moment user lines acts one x → Served pack s acts t
    → IsServedTranscript Events moment user lines others other y → Served pack s others u → one ≡ other
one_served_script pack moment lines user s t u acts others one other x y a p b q =
    one_script pack moment lines s t u acts others one other (script_of moment user lines acts one x a) p
    (script_of moment user lines others other y b) q
