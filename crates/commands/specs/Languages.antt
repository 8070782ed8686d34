-- The meaning of a line of an input in either language, and what is done at the end of the input.
use Rattle.std.specs.Prelude.{◌≡◌, ℕ, List, [], ◌∷◌, Option}
use Rattle.words36.specs.declared.moment.Moment.{Moment}
use Rattle.spec_language.specs.Common.{Means, Line, MeansEvent, Spoken, Act, Asks, call_event, Speaks, Orders}
use Rattle.spec_language.specs.declared.command.Command.{Command}
use Rattle.spec_machine.specs.declared.call.Call.TheVariants.{Reset}
use Rattle.spec_machine.specs.declared.call.Event.{Event}
use Rattle.spec_machine.specs.declared.call.Reply.{Reply}
use Rattle.commands.specs.declared.language.Language.{Language}
use Rattle.commands.specs.declared.language.Language.TheVariants.{Commands, Events}

-- The acts and the outcome of a line. For an event it doesn't matter who is logged in.
abbrev pub LineSays : Language → Moment → Option ℕ → Line → List Act → Spoken → Option ℕ → Type 0
LineSays Commands moment user line acts said then_who = (meant : Option Command) × Means line meant
    × Speaks moment user meant acts said then_who
LineSays Events moment user line acts said then_who = (meant : Option Event) × MeansEvent line moment meant
    × Orders meant acts said × (then_who ≡ user)

-- At the end of commands job 1 is reset.
abbrev pub ClosesSession : Language → Moment → List Act → Type 0
ClosesSession Commands moment acts = (answer : Reply) × (acts ≡ Asks (call_event moment Reset) answer ∷ [])
ClosesSession Events moment acts = acts ≡ []
