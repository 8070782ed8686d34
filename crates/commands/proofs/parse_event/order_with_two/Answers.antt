use Rattle.commands.proofs.EventTextLaws.{is_it, login_by_word, number_word, deposit_said, call_with_two_said}
use Rattle.commands.proofs.parse_event.order_with_two.Goals as goal

pub returns-then-is_word : goal.returns-then-is_word
returns-then-is_word c = λ field place. login_by_word field c.args.word.now _ _ c.args.moment _
    (is_it _ _ _ c.is_word.ensures c.if-is_word.true) (c.login.ensures field c.args.moment place)

pub from_bits-requires : goal.from_bits-requires
from_bits-requires c = number_word _ c.in_ok-bits.bits c.in_ok-bits.ensures.some

pub returns-then-is_word-2 : goal.returns-then-is_word-2
returns-then-is_word-2 c = λ field place. deposit_said field c.args.word.now _ _ c.args.moment c.args.job
    c.in_ok-first.first c.in_ok-bits.bits _ place c.in_ok-first.ensures.some c.in_ok-bits.ensures.some
    (is_it _ _ _ c.is_word-2.ensures c.if-is_word-2.true) c.from_bits.ensures

pub returns : goal.returns
returns c = λ field place. call_with_two_said field c.args.word.now _ _ c.args.moment c.args.job c.in_ok-first.first
    c.in_ok-second.second c.in_ok-call.call place c.in_ok-first.ensures.some c.in_ok-second.ensures.some
    c.in_ok-call.ensures
