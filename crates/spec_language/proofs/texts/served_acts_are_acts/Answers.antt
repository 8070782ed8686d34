use Rattle.spec_language.proofs.TranscriptLaws.{served_went}
use Rattle.spec_language.proofs.texts.served_acts_are_acts.Goals as goal

pub returns : goal.returns
returns c = served_went
