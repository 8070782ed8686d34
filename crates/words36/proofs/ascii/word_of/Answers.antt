use Rattle.std.proofs.Common.{arith, rules, ◌≡◌, get_or, slice_index}
use Rattle.words36.proofs.Digits.{leading-none, leading-more, leading_5}
use Rattle.words36.proofs.AsciiLaws.{front-lt, character-lt, put_character}
use Rattle.words36.proofs.ascii.word_of.Goals as goal

pub loop-place-init : goal.loop-place-init
loop-place-init c = omega (arith, leading-none (slice_index c.args.group.now) 128)

pub loop-place-preserved : goal.loop-place-preserved
loop-place-preserved c =
    let group = c.args.group.now in
    let place = c.loop-place.place in
    let low = front-lt group place (omega arith) c.requires.ascii in
    let read : c.unwrap_or-character.result ≡ get_or group place 0 = search rules in
    let put = put_character c.loop-place.bits c.unwrap_or-character.result (omega arith)
    (omega (arith, character-lt group place c.requires.ascii)) in
    omega (arith, leading-more (slice_index group) 128 place)

pub from_bits-requires : goal.from_bits-requires
from_bits-requires c = omega (arith, front-lt c.args.group.now c.loop-place.place (omega arith) c.requires.ascii)

pub returns : goal.returns
returns c =
    let ended : c.loop-place.place ≡ 5 = omega arith in
    let all = rw ended at c.loop-place.invariant in
    let low = front-lt c.args.group.now c.loop-place.place (omega arith) c.requires.ascii in
    omega (arith, leading_5 (slice_index c.args.group.now))
