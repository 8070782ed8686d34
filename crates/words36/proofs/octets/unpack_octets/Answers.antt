use Rattle.std.proofs.Common.{arith, subst}
use Rattle.std.proofs.lemmas.List.{take_all}
use Rattle.words36.specs.Common.{HasRead}
use Rattle.words36.proofs.OctetReaderLaws.{found_are, none_are}
use Rattle.words36.proofs.octets.unpack_octets.Goals as goal

pub returns-clause-bytes : goal.returns-clause-bytes
returns-clause-bytes c =
    let all = take_all c.loop-word.word-index c.args.words.now (omega (arith, c.loop-word-test.false)) in
    found_are (λ bytes. bytes.items) c.args.words.now c.finish.result
    (c.finish.ensures.found c.args.words.now
    (subst (λ words. HasRead c.loop-word.reader words) all c.loop-word.invariant))

pub returns-clause-refused : goal.returns-clause-refused
returns-clause-refused c =
    let all = take_all c.loop-word.word-index c.args.words.now (omega (arith, c.loop-word-test.false)) in
    none_are c.args.words.now c.finish.result
    (c.finish.ensures.none c.args.words.now
    (subst (λ words. HasRead c.loop-word.reader words) all c.loop-word.invariant))
