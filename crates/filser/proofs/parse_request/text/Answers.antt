use Rattle.clap.specs.Words.{found_of}
use Rattle.filser.proofs.MatchedWords.{text_matched}
use Rattle.filser.proofs.parse_request.text.Goals as goal

-- src/reading.rt:68:1
pub returns : goal.returns
returns c = text_matched (found_of c.args.matches.now) c.args.id.now (λ s. s.now) c.get_str.result c.get_str.ensures
