use Rattle.spec_language.proofs.TranscriptLaws.{one_text, one_script}
use Rattle.spec_language.proofs.texts.texts_are_functions.Goals as goal

pub returns-clause-session : goal.returns-clause-session
returns-clause-session c = λ pack moment lines user s t u acts others one other x y a p b q.
    one_text pack moment lines user s t u acts others one other x y a p b q

pub returns-clause-script : goal.returns-clause-script
returns-clause-script c = λ pack moment lines s t u acts others one other a p b q.
    one_script pack moment lines s t u acts others one other a p b q
