use Rattle.std.proofs.Common.{◌++◌, ◌∙◌, ap, sym}
use Rattle.std.specs.Prelude.{codes}
use Rattle.std.specs.Fmt.{digits_output, styled_digits_output}
use Rattle.spec_language.specs.Common.{octal_in, words_given}
use Rattle.commands.proofs.TextLaws.{octal_output, reply_written}
use Rattle.commands.proofs.text.reply_line.Goals as goal

pub returns-in_ok-text-in-Value : goal.returns-in_ok-text-in-Value
returns-in_ok-text-in-Value c =
    reply_written (λ bytes. bytes.items) c.line-in-Value.result c.args.reply.now (codes "VALUE ")
    (octal_in 12 c.bits-bits.result) _ _ _
    (ap words_given c.in-Value.is ∙ ap (λ n. codes "VALUE " ++ octal_in 12 n) (sym c.bits-bits.ensures.value))
    (ap (styled_digits_output c.in_radix.result) c.laid_out.ensures
    ∙ octal_output (digits_output c.in_radix.result) 12 c.bits-bits.result c.in_radix.ensures)
    c.in_ok-text-in-Value.ensures.ok c.as_str.ensures.value c.line-in-Value.ensures

pub returns-in_ok-text-in-Stopped : goal.returns-in_ok-text-in-Stopped
returns-in_ok-text-in-Stopped c =
    reply_written (λ bytes. bytes.items) c.line-in-Stopped.result c.args.reply.now (codes "STOPPED ")
    (octal_in 6 c.in-Stopped.status) _ _ _ (ap words_given c.in-Stopped.is)
    (ap (styled_digits_output c.in_radix-in-Stopped.result) c.laid_out-in-Stopped.ensures
    ∙ octal_output (digits_output c.in_radix-in-Stopped.result) 6 c.in-Stopped.status c.in_radix-in-Stopped.ensures)
    c.in_ok-text-in-Stopped.ensures.ok c.as_str-in-Stopped.ensures.value c.line-in-Stopped.ensures
