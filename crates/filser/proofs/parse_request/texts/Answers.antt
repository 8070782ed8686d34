use Rattle.std.proofs.Common.{map}
use Rattle.clap.specs.Words.{found_of}
use Rattle.filser.proofs.MatchedWords.{texts_matched}
use Rattle.filser.proofs.parse_request.texts.Goals as goal

pub returns : goal.returns
returns c =
    texts_matched (found_of c.args.matches.now) c.args.id.now (λ s. map (λ t. t.now) s.now) c.get_strs.result
    c.get_strs.ensures
