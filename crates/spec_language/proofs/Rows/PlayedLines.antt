-- Lines that are played on the machine, for worked rows.
use Rattle.std.proofs.Common.{ℕ, ◌+◌, Bool, false, List, [], ◌∷◌, ◌++◌, Some, None}
use Rattle.spec_image.specs.Common.{insert, empty, Pack}
use Rattle.spec_machine.specs.Common.{State, no_jobs, list, step}
use Rattle.spec_language.specs.Texts.{Spoken, both_said, silent}
use Rattle.spec_language.specs.Plans.{Plan, Ask, Show, Say, line_plan}
use Rattle.spec_language.specs.Transcripts.{login_said, core_words}
use Rattle.spec_language.specs.declared.command.Spec.{Spec}
use Rattle.spec_language.specs.declared.command.Command.{Command}
use Rattle.spec_language.specs.declared.command.Command.TheVariants.{Login as LoginLine}
use Rattle.spec_machine.specs.declared.call.Event.TheVariants.{Login}
use Rattle.spec_machine.proofs.Common.{ten_twenty, foo, bar, at_start}

-- A line's plan, played.

unfoldable pub conduct : Pack → ℕ → State → Plan → Spoken × State
conduct pack serial s (Say said) = (said, s)
conduct pack serial s (Show owner next) = conduct pack serial s (next (list s 1 owner))
conduct pack serial s (Ask event next) = let r = step pack serial s event in conduct pack (serial + 1) r.1 (next r.0)

abbrev pub speak : Pack → State → Command → Spoken × State
speak pack s (LoginLine owner) = let r = step pack 0 s (Login 1 owner core_words) in (login_said owner r.0, r.1)
speak pack s command = conduct pack 1000 s (line_plan at_start ten_twenty command)

abbrev pub talk : Pack → State → List Command → Spoken × State
talk pack s [] = (silent, s)
talk pack s (command ∷ commands) = let a = speak pack s command in let b = talk pack a.1 commands in
    (both_said a.0 b.0, b.1)

abbrev pub text_of : List (List ℕ) → List ℕ
text_of [] = []
text_of (l ∷ ls) = l ++ 10 ∷ text_of ls

-- A file of two words, HELLO with a return and a feed.
abbrev pub hello : State
hello = record {
  files = insert empty ten_twenty (record {
    protection = 0o775;
    quota = 0;
    files = insert empty (record { name = foo; ext = 0o647064 })
        (record {
          file = record {
            protection = 0o057;
            mode = 0;
            time = 0;
            date = 4095;
            body = 0o442131446236 ∷ 0o064240000000 ∷ [];
          };
          serial = 1;
        });
  });
  jobs = no_jobs;
}

abbrev pub foo_spec : Spec
foo_spec = record { name = record { name = foo; ext = 0o647064 }; owner = None }

abbrev pub bar_spec : Spec
bar_spec = record { name = record { name = bar; ext = 0o647064 }; owner = Some ten_twenty }

abbrev pub two_lines : List (List ℕ) → Bool → Spoken
two_lines texts refused = record { text = text_of texts; refused = refused; broke = false }
