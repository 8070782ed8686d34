use Rattle.commands.proofs.OneText.{one_served_text, one_served_script}
use Rattle.commands.proofs.laws.served_texts_are_functions.Goals as goal

pub returns-clause-session : goal.returns-clause-session
returns-clause-session c = λ pack moment lines user s t u acts others one other x y a p b q.
    one_served_text pack moment lines user s t u acts others one other x y a p b q

pub returns-clause-script : goal.returns-clause-script
returns-clause-script c = λ pack moment lines user s t u acts others one other x y a p b q.
    one_served_script pack moment lines user s t u acts others one other x y a p b q
