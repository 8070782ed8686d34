use Rattle.std.proofs.Common.{arith, refl}
use Rattle.commands.proofs.EventTextLaws.{no_job, no_number, no_word, no_third, no_fourth, too_many, says_alone}
use Rattle.commands.proofs.EventTextLaws.{says_with_one, says_with_two}
use Rattle.commands.proofs.parse_event.parse_event.Goals as goal

pub returns-in_err-job : goal.returns-in_err-job
returns-in_err-job c = no_job c.args.text.now c.args.moment _ c.from_residual.ensures c.in_err-job.ensures.none

pub returns-in_err-job-2 : goal.returns-in_err-job-2
returns-in_err-job-2 c = no_number c.args.text.now _ _ c.args.moment _ c.from_residual-in_err-job-2.ensures
    c.in_ok-job.ensures.some c.in_err-job-2.ensures.none

pub returns-in_err-word : goal.returns-in_err-word
returns-in_err-word c = no_word c.args.text.now _ _ c.args.moment _ c.from_residual-in_err-word.ensures
    c.in_ok-job.ensures.some c.in_err-word.ensures.none

pub returns-then-is_empty : goal.returns-then-is_empty
returns-then-is_empty c = says_alone c.args.text.now _ _ _ _ c.args.moment c.in_ok-job-2.job _ c.in_ok-job.ensures.some
    c.in_ok-word.ensures.some c.if-is_empty.ensures c.in_ok-job-2.ensures.some c.order_alone.ensures

pub returns-in_err-first : goal.returns-in_err-first
returns-in_err-first c = no_third c.args.text.now _ _ _ _ c.args.moment _ c.from_residual-in_err-first.ensures
    c.in_ok-job.ensures.some c.in_ok-word.ensures.some (grind arith) c.in_err-first.ensures.none

pub returns-then-is_empty-2 : goal.returns-then-is_empty-2
returns-then-is_empty-2 c =
    says_with_one c.args.text.now _ _ _ _ _ _ c.args.moment c.in_ok-job-2.job _ c.in_ok-job.ensures.some
    c.in_ok-word.ensures.some c.in_ok-first.ensures.some c.if-is_empty-2.ensures c.in_ok-job-2.ensures.some
    c.order_with_one.ensures

pub returns-in_err-second : goal.returns-in_err-second
returns-in_err-second c =
    no_fourth c.args.text.now _ _ _ _ _ _ c.args.moment _ c.from_residual-in_err-second.ensures c.in_ok-job.ensures.some
    c.in_ok-word.ensures.some (grind arith) c.in_ok-first.ensures.some (grind arith) c.in_err-second.ensures.none

pub returns-then-is_empty-3 : goal.returns-then-is_empty-3
returns-then-is_empty-3 c =
    says_with_two c.args.text.now _ _ _ _ _ _ _ _ c.args.moment c.in_ok-job-2.job _ c.in_ok-job.ensures.some
    c.in_ok-word.ensures.some c.in_ok-first.ensures.some c.in_ok-second.ensures.some c.if-is_empty-3.ensures
    c.in_ok-job-2.ensures.some
    c.order_with_two.ensures

pub returns : goal.returns
returns c =
    too_many c.args.text.now _ _ _ _ _ _ _ _ c.args.moment _ refl c.in_ok-job.ensures.some c.in_ok-word.ensures.some
    (grind arith) c.in_ok-first.ensures.some (grind arith) c.in_ok-second.ensures.some (grind arith)
