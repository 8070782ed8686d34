use Rattle.std.proofs.Common.{arith, ◌<◌, ◌≤◌, length}
use Rattle.std.proofs.lemmas.Grind.{common_steps}
use Rattle.std.proofs.lemmas.List.{take_all, get_or_read}
use Rattle.std.proofs.lemmas.List.Elements.{All-more}
use Rattle.words36.specs.Common.{IsWord}
use Rattle.words36.proofs.AsciiLaws.{packed-unpacked}
use Rattle.words36.proofs.ascii.unpack_ascii.Goals as goal

pub loop-word-preserved : goal.loop-word-preserved
loop-word-preserved c =
    let words = c.args.words.now in
    let at = c.loop-word.word-index in
    let inside : at < length words = omega arith in
    let item = get_or_read words at c.word-item.result inside c.word-item.is 0 in
    record {
      text_is = grind (arith, common_steps);
      words_fit = All-more IsWord words at 0 inside c.loop-word.invariant.words_fit (omega arith);
    }

pub returns-clause-packs_back : goal.returns-clause-packs_back
returns-clause-packs_back c =
    let ended : length c.args.words.now ≤ c.loop-word.word-index = omega arith in
    let all = take_all c.loop-word.word-index c.args.words.now ended in
    let text = rw all at c.loop-word.invariant.text_is in
    rw text (packed-unpacked c.args.words.now (rw all at c.loop-word.invariant.words_fit))
